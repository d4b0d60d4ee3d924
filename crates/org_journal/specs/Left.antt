-- Whether a file is as a crash may have left it, as far as its entry says what it was before.
use Rattle.std.specs.Prelude.{ℕ, ◌-◌, Bool, true, ◌&&◌, nat_le, min, max, List, [], ◌∷◌, length, take, drop, Option, Some, None}
use Rattle.std.specs.Str.{bytes_eq}
use Rattle.org_splice.specs.Patches.{last_end}
use Rattle.org_splice.specs.Texts.{pairs_of}
use Rattle.org_journal.specs.declared.record.Before.{Before}
use Rattle.org_journal.specs.declared.record.Entry.{Entry}

-- where the first of some patches begins
abbrev pub first_from : List (ℕ × List ℕ) → ℕ
first_from [] = 0
first_from (patch ∷ patches) = patch.0

-- the text has these bytes from this place on
abbrev pub stands_at : ℕ → List ℕ → List ℕ → Bool
stands_at from context text = bytes_eq (take (length context) (drop from text)) context

-- the text has these bytes up to this place
abbrev pub ends_at : ℕ → List ℕ → List ℕ → Bool
ends_at end context text =
    nat_le (length context) end && stands_at (end - length context) context text

-- the length lies between these two
abbrev pub is_between : (one other size : ℕ) → Bool
is_between one other size = nat_le (min one other) size && nat_le size (max one other)

-- A file with this text may be left of one that was so before, while patches are applied to it: its
-- length lies between the old one and the final one, and the contexts stand beside the patches.
abbrev pub is_left_of : Option Before → List (ℕ × List ℕ) → ℕ → List ℕ → Bool
is_left_of None patches final text = true
is_left_of (Some before) patches final text =
    is_between before.length final (length text)
    && (ends_at (first_from patches) before.leading text
    && stands_at (last_end 0 patches) before.trailing text)

abbrev pub is_left : Entry → List ℕ → Bool
is_left entry text = is_left_of entry.before (pairs_of entry.patches) entry.length text
