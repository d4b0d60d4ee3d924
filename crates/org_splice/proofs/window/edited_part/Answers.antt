use Rattle.std.proofs.Common.{arith}
use Rattle.std.specs.Prelude.{IsTrue}
use Rattle.std.proofs.lemmas.Grind.{common_steps}
use Rattle.org_splice.proofs.Windows.{edited_same, next_edit}
use Rattle.org_splice.proofs.window.edited_part.Goals as goal

pub loop-edit-init : goal.loop-edit-init
loop-edit-init c = grind (arith, common_steps, edited_same)

pub loop-edit-preserved : goal.loop-edit-preserved
loop-edit-preserved c =
    let done : IsTrue c.in_ok-edit_within-2.field-0 = grind (arith, common_steps) in
    record {
      made = next_edit c.loop-edit.edit-index c.args.rest.now c.edit-item.result _ _ _ c.loop-edit-test.true c.edit-item.is (c.in_ok-edit_within-2.ensures.made done) c.loop-edit.invariant.made;
      changed = c.in_ok-edit_within-2.ensures.changed done;
    }
