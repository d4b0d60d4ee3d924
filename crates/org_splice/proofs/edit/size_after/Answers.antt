use Rattle.std.proofs.Common.{arith}
use Rattle.std.proofs.lemmas.Grind.{common_steps}
use Rattle.org_splice.proofs.edit.size_after.Goals as goal

pub loop-edit-init : goal.loop-edit-init
loop-edit-init c = grind (arith, common_steps)

pub offset_bounds-edits-edit-index : goal.offset_bounds-edits-edit-index
offset_bounds-edits-edit-index c = grind (arith, common_steps)

pub bounds-edits-edit-index : goal.bounds-edits-edit-index
bounds-edits-edit-index c = omega arith

pub len-requires : goal.len-requires
len-requires c = grind (arith, common_steps)

pub checked_add-requires : goal.checked_add-requires
checked_add-requires c = grind (arith, common_steps)

pub returns-in_err-size-clause-size : goal.returns-in_err-size-clause-size
returns-in_err-size-clause-size c = grind (arith, common_steps)

pub returns-in_err-size-clause-some : goal.returns-in_err-size-clause-some
returns-in_err-size-clause-some c = grind (arith, common_steps)

pub loop-edit-smaller : goal.loop-edit-smaller
loop-edit-smaller c = grind (arith, common_steps)

pub loop-edit-preserved : goal.loop-edit-preserved
loop-edit-preserved c = grind (arith, common_steps)

pub returns-clause-size : goal.returns-clause-size
returns-clause-size c = grind (arith, common_steps)

pub returns-clause-some : goal.returns-clause-some
returns-clause-some c = grind (arith, common_steps)
