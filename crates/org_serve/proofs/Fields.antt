-- How a line is cut into its fields, how many it has, and what its first one says: the command that
-- it is, or none.
use Rattle.std.proofs.Common.{◌≡◌, ℕ, zero, suc, ◌+◌, ◌-◌, ◌<◌, ◌≤◌, ◌==◌, false, List, [], ◌∷◌, ◌++◌, length, map, get_or, set, take, drop, codes, true, Option, Some, None, refl, sym, ap, ◌∙◌, arith, append_assoc, eq-eqb}
use Rattle.std.proofs.lemmas.Grind.{common_steps}
use Rattle.std.specs.Borrow.{Bor}
use Rattle.std.specs.List.{slice_split}
use Rattle.std.specs.Str.{bytes_eq}
use Rattle.memchr.specs.Find.{IsFirstByte, is_byte}
use Rattle.std.proofs.lemmas.Bool.{ne_eqb, eqb-true}
use Rattle.std.proofs.lemmas.List.{length-map, length-set, length-append, length-take, take_rest, take_more_set, map_push}
use Rattle.std.proofs.lemmas.List.Elements.{All-from_get_or}
use Rattle.std.proofs.lemmas.List.Splits.{length-slice_split, slice_split_none}
use Rattle.org_commands.specs.declared.command.Command.{Command}
use Rattle.org_commands.specs.declared.command.Command.TheVariants.{Settle}
use Rattle.org_serve.specs.Grammar.{command_of, command_of_fields, clocked_of, archive_of, clock_in_of, todo_of, edit_of, refile_of, capture_of, show_of, clock_out_of}

more_than_seven : (fields : List (List ℕ)) → 7 < length fields → command_of_fields fields ≡ None
more_than_seven [] e = absurd (omega arith)
more_than_seven (a ∷ []) e = absurd (omega arith)
more_than_seven (a ∷ b ∷ []) e = absurd (omega arith)
more_than_seven (a ∷ b ∷ c ∷ []) e = absurd (omega arith)
more_than_seven (a ∷ b ∷ c ∷ d ∷ []) e = absurd (omega arith)
more_than_seven (a ∷ b ∷ c ∷ d ∷ f ∷ []) e = absurd (omega arith)
more_than_seven (a ∷ b ∷ c ∷ d ∷ f ∷ g ∷ []) e = absurd (omega arith)
more_than_seven (a ∷ b ∷ c ∷ d ∷ f ∷ g ∷ h ∷ []) e = absurd (omega arith)
more_than_seven (a ∷ b ∷ c ∷ d ∷ f ∷ g ∷ h ∷ i ∷ more) e = refl

-- Fields that are read where they stand.
abbrev Fields : Type 0
Fields = List (Bor (List ℕ))

-- what they are
abbrev now_of : Fields → List (List ℕ)
now_of fields = map (λ s. s.now) fields

-- what is read where no field is
abbrev nothing : Bor (List ℕ)
nothing = record { ref_ptr = (0, 0); now = [] }

-- the one at a place
abbrev at : Fields → ℕ → List ℕ
at fields i = (get_or fields i nothing).now

-- the fields of a line
abbrev fields_of : List ℕ → List (List ℕ)
fields_of line = slice_split (λ b. b == 9) line

-- the first tab ends the first field
first_field : (line : List ℕ) (e : ℕ) → e < length line → ((k : ℕ) → k < e → get_or line k 0 ≡ 9 → ⊥) → get_or line e 0 ≡ 9 → fields_of line ≡ take e line ∷ fields_of (drop 1 (drop e line))
first_field [] e lt before here = absurd (omega arith)
first_field (b ∷ line) zero lt before here = rw here refl
first_field (b ∷ line) (suc e) lt before here =
    let other : (b == 9) ≡ false = ne_eqb b 9 (before 0 (omega arith)) in
    rw (other, first_field line e (omega arith) (λ k lt. before (suc k) (omega arith)) here) refl

-- the first fields of a line are read into the array, and the rest of it is not
pub record Front (fields : Fields) (n : ℕ) (rest line : List ℕ) : Type 0 where
  pub size : length fields ≡ 7
  pub front : fields_of line ≡ now_of (take n fields) ++ fields_of rest

-- up to the next tab is one more
pub front_more : (fields : Fields) (n e : ℕ) (rest behind line : List ℕ) (field : Bor (List ℕ)) → n < 7 → Front fields n rest line → IsFirstByte (is_byte 9) rest (Some e)
    → field.now ≡ take e rest → behind ≡ drop e rest → Front (set fields n field) (n + 1) (take (length behind - 1) (drop 1 behind)) line
front_more fields n e rest behind line field lt read found is rests =
    let room : n < length fields = omega (arith, read.size) in
    let more : fields_of rest ≡ take e rest ∷ fields_of (drop 1 (drop e rest)) =
    first_field rest e found.0.high (λ k lt same. found.0.before k (omega arith) lt (eq-eqb (get_or rest k 0) 9 same)) (eqb-true (get_or rest e 0) 9 found.1) in
    record {
      size = length-set fields n field ∙ read.size;
      front =
          rw (take_rest behind 1, rests, read.front, more, take_more_set fields n field room, map_push (λ s. s.now) (take n fields) field, is)
          (sym (append_assoc (now_of (take n fields)) (take e rest ∷ []) (fields_of (drop 1 (drop e rest)))));
    }

-- a rest without a tab is the last one
pub front_all : (fields : Fields) (n : ℕ) (rest line : List ℕ) (field : Bor (List ℕ)) → n < 7 → Front fields n rest line → IsFirstByte (is_byte 9) rest None
    → field.now ≡ rest → command_of line ≡ command_of_fields (now_of (take (n + 1) (set fields n field)))
front_all fields n rest line field lt read none is =
    let room : n < length fields = omega (arith, read.size) in
    let last : fields_of rest ≡ rest ∷ [] =
    slice_split_none (λ b. b == 9) rest (All-from_get_or (λ b. (b == 9) ≡ false) rest 0 (λ k lt. ne_eqb (get_or rest k 0) 9 (λ same. none k (omega arith) lt (eq-eqb (get_or rest k 0) 9 same)))) in
    let whole : fields_of line ≡ now_of (take (n + 1) (set fields n field)) =
    rw (read.front, last, take_more_set fields n field room, map_push (λ s. s.now) (take n fields) field, is) refl in
    ap command_of_fields whole

-- where there is a rest after seven fields, the line has too many
pub too_many : (fields : Fields) (n : ℕ) (rest line : List ℕ) → 7 ≤ n → Front fields n rest line → command_of line ≡ None
too_many fields n rest line le read = grind (arith, common_steps, length-slice_split, length-append, length-map, more_than_seven, length-take)

no_fields : (fields : Fields) → length fields < 1 → now_of fields ≡ []
no_fields [] few = refl
no_fields (a ∷ more) few = absurd (omega arith)

one_field : (fields : Fields) → 1 ≤ length fields → length fields < 2 → now_of fields ≡ at fields 0 ∷ []
one_field [] some few = absurd (omega arith)
one_field (a ∷ []) some few = refl
one_field (a ∷ b ∷ more) some few = absurd (omega arith)

two_fields : (fields : Fields) → 2 ≤ length fields → length fields < 3 → now_of fields ≡ at fields 0 ∷ at fields 1 ∷ []
two_fields [] some few = absurd (omega arith)
two_fields (a ∷ []) some few = absurd (omega arith)
two_fields (a ∷ b ∷ []) some few = refl
two_fields (a ∷ b ∷ c ∷ more) some few = absurd (omega arith)

three_fields : (fields : Fields) → 3 ≤ length fields → length fields < 4 → now_of fields ≡ at fields 0 ∷ at fields 1 ∷ at fields 2 ∷ []
three_fields [] some few = absurd (omega arith)
three_fields (a ∷ []) some few = absurd (omega arith)
three_fields (a ∷ b ∷ []) some few = absurd (omega arith)
three_fields (a ∷ b ∷ c ∷ []) some few = refl
three_fields (a ∷ b ∷ c ∷ e ∷ more) some few = absurd (omega arith)

four_fields : (fields : Fields) → 4 ≤ length fields → length fields < 5 → now_of fields ≡ at fields 0 ∷ at fields 1 ∷ at fields 2 ∷ at fields 3 ∷ []
four_fields [] some few = absurd (omega arith)
four_fields (a ∷ []) some few = absurd (omega arith)
four_fields (a ∷ b ∷ []) some few = absurd (omega arith)
four_fields (a ∷ b ∷ c ∷ []) some few = absurd (omega arith)
four_fields (a ∷ b ∷ c ∷ e ∷ []) some few = refl
four_fields (a ∷ b ∷ c ∷ e ∷ f ∷ more) some few = absurd (omega arith)

-- A command at a place in a file: the fields after the word are the file, the place and more.
abbrev Within : List ℕ → List ℕ → List ℕ → Fields → Option Command → Type 0
Within word name place more read = command_of_fields (word ∷ name ∷ place ∷ now_of more) ≡ read

pub is_time : (word name place : List ℕ) (more : Fields) → length more < 1 → bytes_eq word (codes "time") ≡ true → Within word name place more (clocked_of name place)
is_time word name place more few is = rw (no_fields more few, is) refl

pub is_archive : (word name place : List ℕ) (more : Fields) → 1 ≤ length more → length more < 2 → bytes_eq word (codes "archive") ≡ true → Within word name place more (archive_of name place (at more 0))
is_archive word name place more some few is = rw (one_field more some few, is) refl

pub is_clock_in : (word name place : List ℕ) (more : Fields) → 1 ≤ length more → length more < 2 → bytes_eq word (codes "archive") ≡ false → bytes_eq word (codes "clock-in") ≡ true → Within word name place more (clock_in_of name place (at more 0))
is_clock_in word name place more some few other is = rw (one_field more some few, other, is) refl

pub is_todo : (word name place : List ℕ) (more : Fields) → 2 ≤ length more → length more < 3 → bytes_eq word (codes "todo") ≡ true → Within word name place more (todo_of name place (at more 0) (at more 1))
is_todo word name place more some few is = rw (two_fields more some few, is) refl

pub is_edit : (word name place : List ℕ) (more : Fields) → 2 ≤ length more → length more < 3 → bytes_eq word (codes "todo") ≡ false → bytes_eq word (codes "edit") ≡ true → Within word name place more (edit_of name place (at more 0) (at more 1))
is_edit word name place more some few other is = rw (two_fields more some few, other, is) refl

pub is_refile : (word name place : List ℕ) (more : Fields) → 3 ≤ length more → length more < 4 → bytes_eq word (codes "refile") ≡ true → Within word name place more (refile_of name place (at more 0) (at more 1) (at more 2))
is_refile word name place more some few is = rw (three_fields more some few, is) refl

pub is_capture : (word name place : List ℕ) (more : Fields) → 4 ≤ length more → length more < 5 → bytes_eq word (codes "capture") ≡ true → Within word name place more (capture_of name place (at more 0) (at more 1) (at more 2) (at more 3))
is_capture word name place more some few is = rw (four_fields more some few, is) refl

-- where the word is none of a command of so many fields
pub no_time : (word name place : List ℕ) (more : Fields) → length more < 1 → bytes_eq word (codes "time") ≡ false → Within word name place more None
no_time word name place more few other = rw (no_fields more few, other) refl

pub no_clock : (word name place : List ℕ) (more : Fields) → 1 ≤ length more → length more < 2 → bytes_eq word (codes "archive") ≡ false → bytes_eq word (codes "clock-in") ≡ false → Within word name place more None
no_clock word name place more some few other next = rw (one_field more some few, other, next) refl

pub no_todo : (word name place : List ℕ) (more : Fields) → 2 ≤ length more → length more < 3 → bytes_eq word (codes "todo") ≡ false → bytes_eq word (codes "edit") ≡ false → Within word name place more None
no_todo word name place more some few other next = rw (two_fields more some few, other, next) refl

pub no_refile : (word name place : List ℕ) (more : Fields) → 3 ≤ length more → length more < 4 → bytes_eq word (codes "refile") ≡ false → Within word name place more None
no_refile word name place more some few other = rw (three_fields more some few, other) refl

pub no_capture : (word name place : List ℕ) (more : Fields) → 4 ≤ length more → length more < 5 → bytes_eq word (codes "capture") ≡ false → Within word name place more None
no_capture word name place more some few other = rw (four_fields more some few, other) refl

pub no_longer : (word name place : List ℕ) (more : Fields) → 5 ≤ length more → Within word name place more None
no_longer word name place more many = grind (arith, common_steps)

-- the same of fewer fields
pub no_field : (fields : Fields) → length fields < 1 → command_of_fields (now_of fields) ≡ None
no_field fields few = rw (no_fields fields few) refl

pub is_settle : (fields : Fields) → 1 ≤ length fields → length fields < 2 → bytes_eq (at fields 0) (codes "settle") ≡ true → command_of_fields (now_of fields) ≡ Some Settle
is_settle fields some few is = rw (one_field fields some few, is) refl

pub is_show : (fields : Fields) → 2 ≤ length fields → length fields < 3 → bytes_eq (at fields 0) (codes "show") ≡ true → command_of_fields (now_of fields) ≡ show_of (at fields 1)
is_show fields some few is = rw (two_fields fields some few, is) refl

pub is_clock_out : (fields : Fields) → 2 ≤ length fields → length fields < 3 → bytes_eq (at fields 0) (codes "show") ≡ false → bytes_eq (at fields 0) (codes "clock-out") ≡ true → command_of_fields (now_of fields) ≡ clock_out_of (at fields 1)
is_clock_out fields some few other is = rw (two_fields fields some few, other, is) refl

pub no_settle : (fields : Fields) → 1 ≤ length fields → length fields < 2 → bytes_eq (at fields 0) (codes "settle") ≡ false → command_of_fields (now_of fields) ≡ None
no_settle fields some few other = rw (one_field fields some few, other) refl

pub no_show : (fields : Fields) → 2 ≤ length fields → length fields < 3 → bytes_eq (at fields 0) (codes "show") ≡ false → bytes_eq (at fields 0) (codes "clock-out") ≡ false → command_of_fields (now_of fields) ≡ None
no_show fields some few other next = rw (two_fields fields some few, other, next) refl
