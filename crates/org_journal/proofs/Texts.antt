-- The test of a text for UTF-8, and the reading of a name.
use Rattle.std.proofs.Common.{◌≡◌, ℕ, List, Option, Some, None, cond, true, false, refl}
use Rattle.std.specs.Prelude.{IsUtf8, ◌&&◌}
use Rattle.std.specs.Str.{is_utf8}
use Rattle.std.proofs.Math.Bool.{and-false}
use Rattle.std.proofs.lemmas.Bool.{false_from_ne_true}
use Rattle.org_disk.specs.Names.{is_file_name}
use Rattle.org_journal.specs.Reading.{number_at, bytes_at, name_at}
use Rattle.std.proofs.lemmas.Str.{IsUtf8-from_is_utf8, is_utf8-from_IsUtf8}

pub utf8_passes : (bytes : List ℕ) → IsUtf8 bytes → is_utf8 bytes ≡ true
utf8_passes bytes is = is_utf8-from_IsUtf8 bytes is

pub other_fails : (bytes : List ℕ) → ¬ (IsUtf8 bytes) → is_utf8 bytes ≡ false
other_fails bytes isnt = false_from_ne_true (is_utf8 bytes) (λ e. isnt (IsUtf8-from_is_utf8 bytes e))

-- a name is read where each of its steps is

abbrev Name : Type 0
Name = Option (List ℕ × List ℕ)

module _ (bytes : List ℕ) where
  pub no_count : number_at 2 bytes ≡ None → name_at bytes ≡ None
  unfolding name_at
  no_count e = rw e refl

  module _ (count : ℕ) (rest : List ℕ) (counted : number_at 2 bytes ≡ Some (count, rest)) where
    pub no_name : bytes_at count rest ≡ None → name_at bytes ≡ None
    unfolding name_at
    no_name e = rw (counted, e) refl

    module _ (name after : List ℕ) (taken : bytes_at count rest ≡ Some (name, after)) where
      pub name_is : IsUtf8 name → is_file_name name ≡ true → name_at bytes ≡ Some (name, after)
      unfolding name_at
      name_is text e = rw (counted, taken, utf8_passes name text, e) refl

      pub name_isnt : is_file_name name ≡ false → name_at bytes ≡ None
      unfolding name_at
      name_isnt e = rw (counted, taken) (either name e)
        where
          either : (name : List ℕ) → is_file_name name ≡ false → cond {A = Name} (is_utf8 name && is_file_name name) (Some (name, after)) None ≡ None
          either name e = rw (e, and-false (is_utf8 name)) refl

      pub no_text : ¬ (IsUtf8 name) → name_at bytes ≡ None
      unfolding name_at
      no_text isnt = rw (counted, taken, other_fails name isnt) refl
