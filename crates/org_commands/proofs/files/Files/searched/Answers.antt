use Rattle.std.proofs.Common.{◌≡◌, ℕ, List, sym, subst}
use Rattle.org_commands.specs.Noted.{AreKnown}
use Rattle.org_commands.proofs.files.Files.searched.Goals as goal

pub returns : goal.returns
returns g c =
    let inside = c.self.inside in
    let names : c.names.result.now ≡ inside.set.names = c.names.ensures in
    rw (← c.self.view_is) (c.searched.ensures inside.texts.now (subst (λ (ns : List (List ℕ)). AreKnown ns inside.notes inside.texts.now) (sym names) c.self.invariant.1.now))
