use Rattle.org_headings.specs.Headings.{moved, CanMove}
use Rattle.org_headings.proofs.Edits.{moving}
use Rattle.org_headings.proofs.heads.move_by.Goals as goal

pub loop-heading-preserved : goal.loop-heading-preserved
loop-heading-preserved c =
    moving (moved c.args.removed c.args.added) (λ h. CanMove c.args.removed c.args.added h) _ _ _ _ c.loop-heading.invariant c.loop-heading-test.true
