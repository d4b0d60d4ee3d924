use Rattle.std.proofs.Common.{take}
use Rattle.org_splice.specs.Edits.{AreEdits}
use Rattle.org_text_tests.proofs.texts.assert_applies.Given as goal

-- the edits so far make the text so far
abbrev pub invariant-loop-edit : goal.invariant-loop-edit
invariant-loop-edit g l = AreEdits (take l.edit-index l.edits) l.text l.now.text.bytes
