use Rattle.std.proofs.Common.{ℕ, List}
use Rattle.org_splice.specs.declared.edit.Edit.{Edit}
use Rattle.org_commands.proofs.Noted.{LowersBelow}
use Rattle.org_commands.proofs.notes.Notes.forget.Given as goal

abbrev pub invariant-loop-index : goal.invariant-loop-index
invariant-loop-index l = (size : ℕ) (edits : List Edit) → LowersBelow l.names l.file size edits l.index l.initial.self-inside.notes.items l.self-inside.notes.items
