use Rattle.org_commands.proofs.Noted.{LowersBelow}
use Rattle.org_commands.proofs.notes.Notes.lower.Given as goal

abbrev pub invariant-loop-index : goal.invariant-loop-index
invariant-loop-index l = LowersBelow l.names l.file l.size l.edits.items l.index l.initial.self-inside.notes.items l.self-inside.notes.items
