-- Which titles a heading line may have (Org Syntax, "Headings"): a fingerprint of what stands at
-- each place where the title, or a priority before it, can begin.
use Rattle.std.specs.Prelude.{ℕ, ◌+◌, ◌*◌, ◌%◌, ◌^◌, Bool, true, not, ◌||◌, ◌&&◌, ◌==◌, if◌then◌else◌, List, [], ◌∷◌, length, slice_index}
use Rattle.std.specs.Char.{is_ascii_digit}
use Rattle.org_splice.specs.Blanks.{is_blank, is_trailing, is_solid, behind}
use Rattle.org_headings.specs.declared.beginnings.Beginning.{Beginning}
use Rattle.org_headings.specs.declared.beginnings.Beginnings.{Beginnings}
use Rattle.org_headings.specs.declared.beginnings.Sought.{Sought}

-- after the gap
abbrev pub first_place : List ℕ → List ℕ
first_place rest = behind is_blank rest

-- after the first word there, which may be a keyword
abbrev pub second_place : List ℕ → List ℕ
second_place rest = behind is_blank (behind is_solid (behind is_blank rest))

-- a byte of a word: neither a blank nor a newline
abbrev pub is_of_word : ℕ → Bool
is_of_word b = not (is_blank b || b == 10)

-- a hash with one byte more
abbrev pub with_byte : ℕ → ℕ → ℕ
with_byte hash b = (31 * hash + b) % 2 ^ 15

-- a hash with the bytes of a title that are neither blanks nor carriage returns. A line's title ends
-- before a newline and before tags, which begin with a colon after a blank; `apart` says whether
-- such a byte or nothing stands before these
abbrev pub hash_from : ℕ → Bool → List ℕ → ℕ
hash_from hash apart [] = hash
hash_from hash apart (b ∷ l) =
    if b == 10 || apart && b == 58 then hash
    else hash_from (if is_trailing b then hash else with_byte hash b) (is_trailing b) l

-- the fingerprint of a title that begins here: twice its hash, and one more where it begins with a
-- digit; 1 at a bracket, after which a priority and any title may stand
abbrev pub beginning_of : List ℕ → Beginning
beginning_of l =
    record {
      fingerprint =
          if slice_index l 0 == 91 then 1
          else 2 * hash_from 0 true l + (if is_ascii_digit (slice_index l 0) then 1 else 0);
    }

-- those of a heading line's two places
abbrev pub beginnings_of : List ℕ → Beginnings
beginnings_of rest =
    record { first = beginning_of (first_place rest); second = beginning_of (second_place rest) }

-- whether a title with this fingerprint may stand at a place, or after a priority there
abbrev pub may_begin : Beginning → Beginning → Bool
may_begin title place = place.fingerprint == 1 || place.fingerprint == title.fingerprint

-- what is asked of a heading line for a title: an empty one begins nowhere
abbrev pub sought_of : List ℕ → Sought
sought_of title = record { empty = length title == 0; beginning = beginning_of title }

-- whether a heading line with these beginnings may have the title
abbrev pub may_have : Sought → Beginnings → Bool
may_have title line =
    title.empty
    || (may_begin title.beginning line.first || may_begin title.beginning line.second)

-- whether a title that begins with a digit may, or a bracket stands there
abbrev pub may_begin_date : Beginning → Bool
may_begin_date place = place.fingerprint % 2 == 1
