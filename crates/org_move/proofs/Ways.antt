-- The path at the end of a way, as far as a slash and from there on; and a path's last slash.
use Rattle.std.proofs.Common.{◌≡◌, ◌≢◌, ◌≤◌, ◌<◌, ◌+◌, ◌-◌, ◌∙◌, ap, ℕ, List, [], ◌∷◌, ◌++◌, Option, None, Some, true, false, nat_eq, if◌then◌else◌, All, length, take, drop, get_or, subst, sym, eq-eqb, arith}
use Rattle.std.specs.Prelude.{codes}
use Rattle.std.specs.Option.{option_and_then}
use Rattle.std.specs.Str.{bytes_eq}
use Rattle.std.proofs.lemmas.Bool.{eqb-true, cond-true, cond-false}
use Rattle.std.proofs.lemmas.List.{take_all}
use Rattle.memchr.specs.Find.{IsLastByte, is_byte}
use Rattle.org_disk.proofs.Folders.{no_slash, slash_last, part_alone, part_after}
use Rattle.org_disk.specs.Names.{folder_of, last_part}
use Rattle.std.proofs.lemmas.List.Splits.{slice_split_none}
use Rattle.org_disk.specs.Names.{is_slash, parts}
use Rattle.org_disk.proofs.Parts.{first_part}
use Rattle.org_move.specs.Location.{after_part, at_end, file_named, with_name}

module _ (folder way : List ℕ) (start at : ℕ) (le : start ≤ at) (none : All (λ b. is_slash b ≡ false) (drop start (take at way))) where
  -- after a part and its slash
  pub way_on : (next : List ℕ) → at < length way → is_slash (get_or way at 0) ≡ true → after_part folder (drop start (take at way)) ≡ Some next → at_end folder (parts (drop start way)) ≡ at_end next (parts (drop (at + 1) way))
  way_on next within slash step =
      ap (at_end folder) (first_part way start at le within none slash)
      ∙ ap (option_and_then (λ f. at_end f (parts (drop (at + 1) way)))) step

  pub way_up : at < length way → is_slash (get_or way at 0) ≡ true → after_part folder (drop start (take at way)) ≡ None → at_end folder (parts (drop start way)) ≡ None
  way_up within slash step =
      ap (at_end folder) (first_part way start at le within none slash)
      ∙ ap (option_and_then (λ f. at_end f (parts (drop (at + 1) way)))) step

  last_alone : length way ≤ at → parts (drop start way) ≡ drop start way ∷ []
  last_alone end = slice_split_none is_slash (drop start way) (subst (λ l. All (λ b. is_slash b ≡ false) (drop start l)) (take_all at way end) none)

  -- after the last one
  pub way_over : (next : List ℕ) → length way ≤ at → after_part folder (drop start way) ≡ Some next → at_end folder (parts (drop start way)) ≡ Some (take (length next - 1) next)
  way_over next end step = ap (at_end folder) (last_alone end) ∙ ap (option_and_then (λ f. at_end f [])) step

  pub way_lost : length way ≤ at → after_part folder (drop start way) ≡ None → at_end folder (parts (drop start way)) ≡ None
  way_lost end step = ap (at_end folder) (last_alone end) ∙ ap (option_and_then (λ f. at_end f [])) step

-- ---- the last slash of a path

slash_at : (path : List ℕ) (k : ℕ) → IsLastByte (is_byte 47) path (Some k) → (k < length path) × (get_or path k 0 ≡ 47) × ((i : ℕ) → k < i → i < length path → get_or path i 0 ≢ 47)
slash_at path k last = (last.0.high, eqb-true (get_or path k 0) 47 last.1, λ i past within e. last.0.after i (omega (arith, past)) within (eq-eqb (get_or path i 0) 47 e))

none_at : (path : List ℕ) → IsLastByte (is_byte 47) path None → (i : ℕ) → i < length path → get_or path i 0 ≢ 47
none_at path none i within e = none i (omega arith) within (eq-eqb (get_or path i 0) 47 e)

pub last_part_after : (path : List ℕ) (k : ℕ) → IsLastByte (is_byte 47) path (Some k) → drop (k + 1) path ≡ last_part path
last_part_after path k last =
    let at = slash_at path k last in
    sym (part_after path k at.0 at.1 at.2)

pub last_part_alone : (path : List ℕ) → IsLastByte (is_byte 47) path None → path ≡ last_part path
last_part_alone path none = sym (part_alone path (none_at path none))

pub folder_after : (path : List ℕ) (k : ℕ) → IsLastByte (is_byte 47) path (Some k) → take (k + 1) path ≡ folder_of path
folder_after path k last =
    let at = slash_at path k last in
    sym (slash_last path k at.0 at.1 at.2)

pub folder_alone : (path : List ℕ) → IsLastByte (is_byte 47) path None → take 0 path ≡ folder_of path
folder_alone path none = sym (no_slash path (none_at path none))

-- ---- one part

pub part_up : (folder part path : List ℕ) (above : ℕ) → bytes_eq part (codes "..") ≡ true → nat_eq (length folder) 0 ≡ false → path ≡ take (length folder - 1) folder → take above path ≡ folder_of path
    → after_part folder part ≡ Some (take above path)
part_up folder part path above dots some popped top =
    cond-true (bytes_eq part (codes "..")) (if nat_eq (length folder) 0 then None else Some (folder_of (take (length folder - 1) folder))) (Some (folder ++ part ++ codes "/")) dots
    ∙ cond-false (nat_eq (length folder) 0) None (Some (folder_of (take (length folder - 1) folder))) some
    ∙ ap (λ l. Some (folder_of l)) (sym popped)
    ∙ ap (λ l. Some l) (sym top)

-- ---- a file's name

pub named_is : (name text folder way : List ℕ) → 0 < length text → folder ≡ folder_of name → way ≡ with_name (last_part name) text → at_end folder (parts way) ≡ file_named name text
named_is name [] folder way some from by = absurd (omega (arith, some))
named_is name (b ∷ bs) folder way some from by = ap (λ l. at_end l (parts way)) from ∙ ap (λ l. at_end (folder_of name) (parts l)) by
