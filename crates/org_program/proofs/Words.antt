-- What the words of the command line give, as clap's getters read it.
use Rattle.std.proofs.Common.{◌≡◌, ◌⊎◌, ◌∙◌, inl, inr, ap, sym, subst, refl, ℕ, Bool, true, false, List, [], Option, Some, None, codes}
use Rattle.std.specs.Prelude.{option_map, unwrap_or, Result, Ok, Err, IfErr}
use Rattle.clap.specs.Words.{App, HasKind, HasMatchesOf, IsAmong, all_of, fault_of, first_of, first_value, found_of, is_simple, is_simple_and_free, kind_of, matched_of, raw_values, rows_of}
use Rattle.clap.specs.declared.error.Error.{Error}
use Rattle.clap.specs.declared.error.kind.ErrorKind.TheVariants.{OutOfMemory}
use Rattle.clap.specs.declared.parser.matches.ArgMatches.{ArgMatches}
use Rattle.clap.proofs.OnLiterals.{clap_on_literals}
use Rattle.clap.proofs.WalkLemmas.{first_value-rows, raw_values-rows}
use Rattle.std.specs.Str.Parse.{digits_value}
use Rattle.org_commands.specs.declared.tally.Group.TheVariants.{Of, Whole}
use Rattle.org_store.specs.Group.{IsGroup}
use Rattle.org_program.specs.Words.{AreTaken, IsGroupGiven, IsGroupText, command_line, given, group_of}

is_simple_line : is_simple command_line ≡ true
unfolding clap_on_literals
is_simple_line = refl

is_free_line : is_simple_and_free command_line ≡ true
unfolding clap_on_literals
is_free_line = refl

-- what is read of matches that have these rows
module _ (words : List (List ℕ)) (m : ArgMatches) (rows : rows_of (found_of m) ≡ given words) where
  pub first_given : (id : List ℕ) → first_value (found_of m) id ≡ first_of id (given words)
  first_given id = first_value-rows (found_of m) id ∙ ap (first_of id) rows

  pub all_given : (id : List ℕ) → option_map raw_values (matched_of (found_of m) id) ≡ all_of id (given words)
  all_given id = raw_values-rows (found_of m) id ∙ ap (all_of id) rows

  -- a fault of all words that give these rows, said of these words
  pub of_words : {A : Type 0} (result : Result A Error)
      → IfErr result (λ error. (kind_of error ≡ OutOfMemory) ⊎ ((each : List (List ℕ)) → rows_of (found_of m) ≡ given each → AreTaken each → ⊥))
      → IfErr result (λ error. (kind_of error ≡ OutOfMemory) ⊎ (AreTaken words → ⊥))
  of_words (Ok done) why = tt
  of_words (Err error) why = elim why [
    | inl memory ↦ inl memory
    | inr not ↦ inr (not words rows)
  ]

module _ (words : List (List ℕ)) (app : App) (is : app ≡ command_line) where
  pub rows_are : (m : ArgMatches) → HasMatchesOf app words m → rows_of (found_of m) ≡ given words
  rows_are m has = (subst (λ a. HasMatchesOf a words m) is has is_simple_line).0

  pub none_refused : (is_simple_and_free app ≡ true → fault_of app words ≡ []) → fault_of command_line words ≡ []
  none_refused none = ap (λ a. fault_of a words) (sym is) ∙ none (ap is_simple_and_free is ∙ is_free_line)

  -- clap's error is of no memory, or the words aren't taken
  pub refused : (error : Error) → (is_simple_and_free app ≡ true → HasKind (fault_of app words) error) → (kind_of error ≡ OutOfMemory) ⊎ (AreTaken words → ⊥)
  refused error kinds = elim (kinds (ap is_simple_and_free is ∙ is_free_line)) [
    | inl memory ↦ inl memory
    | inr among ↦ inr (λ taken. subst (IsAmong (kind_of error)) (ap (λ a. fault_of a words) is ∙ taken.0) among)
  ]

-- what is read of what is there, or of what stands in its place
pub read_or : {X Y : Type 0} (read : X → Y) (there : Option X) (other : X) (all : Option Y) → option_map read there ≡ all → read (unwrap_or there other) ≡ unwrap_or all (read other)
read_or read None other all is = ap (λ a. unwrap_or a (read other)) is
read_or read (Some one) other all is = ap (λ a. unwrap_or a (read other)) is

-- How many commands are settled together, by what was read.

pub is_whole_given : (whole : Bool) (text : Option (List ℕ)) → whole ≡ true → text ≡ None → IsGroupGiven whole text × (Whole ≡ group_of whole text)
is_whole_given true None is none = (tt, refl)
is_whole_given true (Some given) is none = absurd (cc)
is_whole_given false text is none = absurd (cc)

pub both_given : (whole : Bool) (text : Option (List ℕ)) (given : List ℕ) → whole ≡ true → text ≡ Some given → IsGroupGiven whole text → ⊥
both_given true None given is some taken = absurd (cc)
both_given true (Some other) given is some taken = taken
both_given false text given is some taken = absurd (cc)

pub is_size_given : (whole : Bool) (text : Option (List ℕ)) (read : List ℕ) (size : ℕ) → whole ≡ false → read ≡ unwrap_or text (codes "1") → IsGroupText read → size ≡ digits_value 10 read
    → IsGroupGiven whole text × (Of size ≡ group_of whole text)
is_size_given true text read size is same good value = absurd (cc)
is_size_given false text read size is same good value = (subst IsGroupText same good, ap Of (value ∙ ap (digits_value 10) same))

pub no_size_given : (whole : Bool) (text : Option (List ℕ)) (read : List ℕ) → whole ≡ false → read ≡ unwrap_or text (codes "1") → (IsGroupText read → ⊥) → IsGroupGiven whole text → ⊥
no_size_given true text read is same bad taken = absurd (cc)
no_size_given false text read is same bad taken = bad (subst IsGroupText (sym same) taken)

-- a group that is given is one
pub group_is_given : (whole : Bool) (text : Option (List ℕ)) → IsGroupGiven whole text → IsGroup (group_of whole text)
group_is_given true text given = tt
group_is_given false text given = given.1
