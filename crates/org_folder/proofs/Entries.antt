-- Entries that are noted one after another.
use Rattle.std.proofs.Common.{arith, ◌≡◌, refl, ap, ℕ, ◌+◌, ◌<◌, List, [], ◌∷◌, ◌++◌, map, take, length, get_or, true, false}
use Rattle.std.proofs.lemmas.Grind.{common_steps}
use Rattle.std.proofs.lemmas.List.{map-append, take_more}
use Rattle.std.proofs.lemmas.Bool.{or_from, or_parts}
use Rattle.std.specs.List.{list_any}
use Rattle.std.specs.Str.{bytes_eq}
use Rattle.org_disk.specs.Disk.{stable}
use Rattle.org_disk.specs.Names.{folder_of, last_part}
use Rattle.org_folder.specs.Calls.{Event, World, IsRightList, entries_in, files, with_entries}
use Rattle.org_folder.specs.Calls.Event.{Entry, Listed}

with_one : (names : List (List ℕ)) (name : List ℕ) (earlier : List Event) → with_entries (names ++ name ∷ []) earlier ≡ Entry name ∷ with_entries names earlier
with_one [] name earlier = refl
with_one (first ∷ names) name earlier = with_one names name (Entry first ∷ earlier)

module _ {S : Type 0} (f : S → List ℕ) where
  pub entries_more : (i : ℕ) (ss : List S) (s : S) (earlier : List Event) → i < length ss → s ≡ get_or ss i s
      → Entry (f s) ∷ with_entries (map f (take i ss)) earlier ≡ with_entries (map f (take (i + 1) ss)) earlier
  entries_more i ss s earlier within is = grind (arith, common_steps, with_one, map-append, take_more)

unlisted : (name : List ℕ) (names : List (List ℕ)) (earlier : List Event) → list_any (bytes_eq name) names ≡ false → list_any (bytes_eq name) (entries_in earlier) ≡ false
    → list_any (bytes_eq name) (entries_in (with_entries names earlier)) ≡ false
unlisted name [] earlier none before = before
unlisted name (first ∷ names) earlier none before =
    let parts = or_parts (bytes_eq name first) (list_any (bytes_eq name) names) none in
    unlisted name names (Entry first ∷ earlier) parts.1 (or_from (bytes_eq name first) (list_any (bytes_eq name) (entries_in earlier)) parts.0 before)

pub unlisted_absent : (world : World) (folder : List ℕ) (names : List (List ℕ)) (earlier : List Event) (name : List ℕ) → entries_in earlier ≡ [] → folder_of name ≡ folder
    → list_any (bytes_eq (last_part name)) names ≡ false → IsRightList world folder (with_entries names earlier) → files world (Listed folder true ∷ with_entries names earlier) name ≡ stable []
unlisted_absent world folder names earlier name alone within none right =
    right name within (unlisted (last_part name) names earlier none (ap (list_any (bytes_eq (last_part name))) alone))
