-- The reading of what stands in front of an entry's patches: it ends at the first step that finds nothing.
use Rattle.std.proofs.Common.{◌≡◌, ℕ, ◌≤◌, List, length, Option, Some, true, refl}
use Rattle.std.proofs.lemmas.Bool.{le-leb}
use Rattle.std.specs.Prelude.{◌&&◌, nat_le}
use Rattle.org_journal.specs.declared.record.Before.{Before}
use Rattle.org_journal.specs.declared.record.Version.{Version}
use Rattle.org_journal.specs.declared.record.Version.TheVariants.{One, Three}
use Rattle.org_journal.specs.Record.{greatest_length, most_patches}
use Rattle.org_journal.specs.Reading.{number_at, counted_at, name_at, may_follow, old_entry, old_entry_at, before_in, head_at}

module _ (bytes : List ℕ) where
  module _ (name rest : List ℕ) (named : name_at bytes ≡ Some (name, rest)) where
    module _ (from : ℕ) (after : List ℕ) (placed : number_at 8 rest ≡ Some (from, after)) where
      module _ (final : ℕ) (behind : List ℕ) (sized : number_at 8 after ≡ Some (final, behind)) where
        module _ (text last : List ℕ) (taken : counted_at behind ≡ Some (text, last)) where
          pub old_is : final ≤ greatest_length One → may_follow 0 final true from (length text) ≡ true
              → old_entry_at bytes ≡ Some (old_entry name final from text, last)
          unfolding old_entry_at
          old_is fits follows = rw (named, placed, sized, taken, le-leb _ _ fits, follows) refl

      module _ (version : Version) (before : Option Before) (next : List ℕ) (was : before_in version after ≡ Some (before, next)) where
        module _ (count : ℕ) (behind : List ℕ) (counted : number_at 4 next ≡ Some (count, behind)) where
          pub head_is : from ≤ greatest_length Three → (nat_le 1 count && nat_le count (most_patches Three)) ≡ true
              → head_at version bytes ≡ Some (record { name = name; final = from; before = before; count = count }, behind)
          unfolding head_at
          head_is fits some = rw (named, placed, was, counted, le-leb _ _ fits, some) refl
