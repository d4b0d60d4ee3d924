use Rattle.std.proofs.Common.{◌≡◌, ◌≤◌, ℕ, List, length, drop}
use Rattle.org_splice.specs.Edits.{CanApply, applied_each}
use Rattle.org_commands.specs.Noted.{AreSearched, StaysKnown}
use Rattle.org_commands.proofs.searches.Searches.behind_each.Given as goal

-- what is known so far is so of the text, and of the text of which the other edits can be made
abbrev pub invariant-loop-edit : goal.invariant-loop-edit
invariant-loop-edit l = record {
  stays : StaysKnown l.fn.self l.searches;
  follows : (text : List ℕ) → l.fn.size ≤ length text → CanApply l.edits.items text → AreSearched l.fn.self text
      → (now : List ℕ) × (l.size ≤ length now) × CanApply (drop l.edit-index l.rest) now × (applied_each (drop l.edit-index l.rest) now ≡ applied_each l.edits.items text) × AreSearched l.searches now;
}
