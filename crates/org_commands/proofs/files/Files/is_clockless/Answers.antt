use Rattle.org_commands.proofs.files.Files.is_clockless.Goals as goal

pub returns : goal.returns
returns g c =
    let inside = c.self.inside in
    rw (← c.self.view_is) (λ truth name at. c.is_clockless.ensures truth inside.set.names inside.texts.before c.self.invariant.1.before name at)
