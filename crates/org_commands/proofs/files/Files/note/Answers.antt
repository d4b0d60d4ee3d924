use Rattle.std.proofs.Common.{◌≡◌}
use Rattle.org_commands.specs.Noted.{IsKnown}
use Rattle.org_commands.proofs.Noted.{noted_more}
use Rattle.org_commands.proofs.files.Files.note.Goals as goal

pub invariant_of-self : goal.invariant_of-self
invariant_of-self g c =
    let inside = c.self.inside in
    let file = c.args.file.now in
    let names : c.names.result.now ≡ inside.set.names = c.names.ensures in
    let now : IsKnown c.args.searches inside.texts.now file = rw (← c.self.view_is) at c.requires.now in
    let before : IsKnown c.args.searches inside.texts.before file = rw (← c.self.view_is) at c.requires.before in
    (c.self.invariant.0, noted_more inside.set.names c.names.result.now inside.notes c.note.new.self inside.texts file c.args.searches names c.note.ensures now before c.self.invariant.1)
