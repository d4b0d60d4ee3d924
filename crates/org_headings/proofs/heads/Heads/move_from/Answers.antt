use Rattle.std.proofs.Common.{◌∙◌, refl, sym}
use Rattle.org_headings.proofs.KeptLines.{kept_when_moved}
use Rattle.org_headings.proofs.heads.Heads.move_from.Goals as goal

pub invariant_of-self : goal.invariant_of-self
invariant_of-self c =
    kept_when_moved _ _ _ _ _ _ _ _ _ c.self.invariant c.self.inside.headings.ok.0 (sym c.as_mut_slice.ensures.value ∙ c.split_at_mut-later.ensures.value) c.move_by.ensures refl
