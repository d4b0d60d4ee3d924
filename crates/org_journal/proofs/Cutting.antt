-- Where a replay cuts a file.
use Rattle.std.proofs.Common.{◌≡◌, inl, inr, ℕ, ◌≤◌, min, max, List, length, true, false, Option, Some, None, refl, ap, arith}
use Rattle.std.specs.Prelude.{◌&&◌, nat_le, nat_lt}
use Rattle.std.proofs.lemmas.Bool.{and_parts, cases_lt, leb-true, le-ltb, lt-ltb}
use Rattle.org_splice.specs.Patches.{last_end, patched}
use Rattle.org_splice.specs.Texts.{pairs_of}
use Rattle.org_journal.specs.declared.record.Before.{Before}
use Rattle.org_journal.specs.declared.record.Entry.{Entry}
use Rattle.org_journal.specs.Left.{ends_at, first_from, is_between, is_left, is_left_of, stands_at}
use Rattle.org_journal.specs.Recovered.{kept_by, made_by}

-- a file no longer than it was before, or than the final length, gets the final length
pub kept_short : (before : Before) (final size : ℕ) → size ≤ max before.length final → kept_by (Some before) final size ≡ final
kept_short before final size short = elim (cases_lt final before.length) [
  | inl less ↦ let t : nat_lt final before.length ≡ true = lt-ltb final before.length less in rw t refl
  | inr le ↦ let f : nat_lt final before.length ≡ false = le-ltb final before.length le in rw f (omega (arith, le, short))
]

pub left_kept : (entry : Entry) (text : List ℕ) → is_left entry text ≡ true → kept_by entry.before entry.length (length text) ≡ entry.length
left_kept entry text left = go entry.before left
  where
    go : (before : Option Before) → is_left_of before (pairs_of entry.patches) entry.length text ≡ true → kept_by before entry.length (length text) ≡ entry.length
    go None left = refl
    go (Some before) left =
        let between : is_between before.length entry.length (length text) ≡ true =
        (and_parts (is_between before.length entry.length (length text))
        (ends_at (first_from (pairs_of entry.patches)) before.leading text && stands_at (last_end 0 (pairs_of entry.patches)) before.trailing text) left).0 in
        let parts = and_parts (nat_le (min before.length entry.length) (length text)) (nat_le (length text) (max before.length entry.length)) between in
        kept_short before entry.length (length text) (leb-true (length text) (max before.length entry.length) parts.1)

pub left_made : (entry : Entry) (text : List ℕ) → is_left entry text ≡ true → made_by entry text ≡ patched (pairs_of entry.patches) entry.length text
left_made entry text left = ap (λ (n : ℕ). patched (pairs_of entry.patches) n text) (left_kept entry text left)
