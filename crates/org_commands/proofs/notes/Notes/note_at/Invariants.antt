use Rattle.std.proofs.Common.{◌≡◌, ℕ, slice_get, Some}
use Rattle.org_commands.specs.declared.searches.Searches.{Searches}
use Rattle.org_commands.proofs.notes.Notes.note_at.Given as goal

-- only files of which nothing is noted were added
abbrev pub invariant-loop-number : goal.invariant-loop-number
invariant-loop-number l = (i : ℕ) (new : Searches) → slice_get l.self-inside.notes.items i ≡ Some (Some new) → slice_get l.initial.self-inside.notes.items i ≡ Some (Some new)
