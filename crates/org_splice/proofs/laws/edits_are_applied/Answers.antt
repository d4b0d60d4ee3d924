use Rattle.org_splice.proofs.Applying.{AreEdits-applied, AreEdits-can, IsEditOf-spliced_each, spliced_each-bytes}
use Rattle.org_splice.proofs.laws.edits_are_applied.Goals as goal

pub returns-clause-can : goal.returns-clause-can
returns-clause-can c = AreEdits-can

pub returns-clause-made : goal.returns-clause-made
returns-clause-made c = AreEdits-applied

pub returns-clause-bytes : goal.returns-clause-bytes
returns-clause-bytes c = spliced_each-bytes

pub returns-clause-edit : goal.returns-clause-edit
returns-clause-edit c = λ es old text can are edit. (IsEditOf-spliced_each es old text can are edit).0
