-- The parts of a name, as far as a slash and from there on.
use Rattle.std.proofs.Common.{◌≡◌, ◌≤◌, ◌<◌, ◌+◌, ◌-◌, ◌++◌, ◌&&◌, ℕ, suc, List, [], ◌∷◌, true, false, refl, sym, subst, ap, ◌∙◌, All, length, take, drop, get_or, arith}
use Rattle.std.proofs.lemmas.List.{take-append-drop, drop-append-le, length-take-le, take_more, take_all, drop_all, drop-take}
use Rattle.std.proofs.lemmas.List.Elements.{All-push}
use Rattle.std.proofs.Math.Seq.{drop-cons}
use Rattle.std.proofs.lemmas.List.Splits.{slice_split_at, slice_split_none, length-slice_split}
use Rattle.org_disk.specs.Names.{parts, is_slash, is_way, is_folder_part, is_part, ends_in_org}

-- after a folder the rest decides
pub way_goes_on : (folder : List ℕ) (rest : List (List ℕ)) → 1 ≤ length rest → is_folder_part folder ≡ true → is_way (folder ∷ rest) ≡ is_way rest
way_goes_on folder [] some good = absurd (omega (arith, some))
way_goes_on folder (next ∷ rest) some good = ap (λ b. b && is_way (next ∷ rest)) good

pub way_ends : (folder : List ℕ) (rest : List (List ℕ)) → 1 ≤ length rest → is_folder_part folder ≡ false → is_way (folder ∷ rest) ≡ false
way_ends folder [] some bad = absurd (omega (arith, some))
way_ends folder (next ∷ rest) some bad = ap (λ b. b && is_way (next ∷ rest)) bad

pub some_part : (name : List ℕ) → 1 ≤ length (parts name)
some_part name = omega (arith, length-slice_split is_slash name)

pub one_part : (name : List ℕ) → All (λ b. is_slash b ≡ false) name → is_way (parts name) ≡ (is_part name && ends_in_org name)
one_part name none = ap is_way (slice_split_none is_slash name none)

-- a byte between two parts of a list
pub cut_at : (name : List ℕ) (start at : ℕ) → start ≤ at → at < length name → drop start name ≡ drop start (take at name) ++ get_or name at 0 ∷ drop (at + 1) name
cut_at name start at le within =
    let on : suc at ≡ at + 1 = omega arith in
    let long : start ≤ length (take at name) = omega (arith, le, within, length-take-le at name (omega (arith, within))) in
    ap (drop start) (sym (take-append-drop at name))
    ∙ drop-append-le start (take at name) (drop at name) long
    ∙ ap (λ l. drop start (take at name) ++ l) (drop-cons name at 0 within ∙ ap (λ n. get_or name at 0 ∷ drop n name) on)

-- the first part ends at the first slash
pub first_part : (name : List ℕ) (start at : ℕ) → start ≤ at → at < length name → All (λ b. is_slash b ≡ false) (drop start (take at name)) → is_slash (get_or name at 0) ≡ true
    → parts (drop start name) ≡ drop start (take at name) ∷ parts (drop (at + 1) name)
first_part name start at le within none slash =
    ap parts (cut_at name start at le within)
    ∙ slice_split_at is_slash (drop start (take at name)) (get_or name at 0) (drop (at + 1) name) none slash

-- a byte more
pub no_slash_more : (name : List ℕ) (start at : ℕ) → start ≤ at → at < length name → All (λ b. is_slash b ≡ false) (drop start (take at name)) → is_slash (get_or name at 0) ≡ false
    → All (λ b. is_slash b ≡ false) (drop start (take (at + 1) name))
no_slash_more name start at le within none other =
    let long : start ≤ length (take at name) = omega (arith, le, within, length-take-le at name (omega (arith, within))) in
    let more : drop start (take (at + 1) name) ≡ drop start (take at name) ++ get_or name at 0 ∷ [] =
    ap (drop start) (take_more name at 0 within) ∙ drop-append-le start (take at name) (get_or name at 0 ∷ []) long in
    subst (All (λ b. is_slash b ≡ false)) (sym more) (All-push (λ b. is_slash b ≡ false) (drop start (take at name)) (get_or name at 0) none other)

-- no byte
pub no_slash_at : (name : List ℕ) (at : ℕ) → at ≤ length name → All (λ b. is_slash b ≡ false) (drop at (take at name))
no_slash_at name at le =
    let short : length (take at name) ≤ at = omega (arith, length-take-le at name le) in
    subst (All (λ b. is_slash b ≡ false)) (sym (drop_all at (take at name) short)) (λ k d past. absurd (omega (arith, past)))

-- after a folder and its slash
pub way_after : (name : List ℕ) (start at : ℕ) → start ≤ at → at < length name → All (λ b. is_slash b ≡ false) (drop start (take at name)) → is_slash (get_or name at 0) ≡ true
    → is_folder_part (drop start (take at name)) ≡ true → is_way (parts (drop start name)) ≡ is_way (parts (drop (at + 1) name))
way_after name start at le within none slash good =
    ap is_way (first_part name start at le within none slash)
    ∙ way_goes_on (drop start (take at name)) (parts (drop (at + 1) name)) (some_part (drop (at + 1) name)) good

pub no_way_after : (name : List ℕ) (start at : ℕ) → start ≤ at → at < length name → All (λ b. is_slash b ≡ false) (drop start (take at name)) → is_slash (get_or name at 0) ≡ true
    → is_folder_part (drop start (take at name)) ≡ false → is_way (parts (drop start name)) ≡ false
no_way_after name start at le within none slash bad =
    ap is_way (first_part name start at le within none slash)
    ∙ way_ends (drop start (take at name)) (parts (drop (at + 1) name)) (some_part (drop (at + 1) name)) bad

-- after the last slash
pub last_way : (name : List ℕ) (start at : ℕ) → length name ≤ at → All (λ b. is_slash b ≡ false) (drop start (take at name)) → is_way (parts (drop start name)) ≡ (is_part (drop start name) && ends_in_org (drop start name))
last_way name start at end none = one_part (drop start name) (subst (λ l. All (λ b. is_slash b ≡ false) (drop start l)) (take_all at name end) none)

-- what stands between two places, as code reads it
pub between : (name : List ℕ) (start at : ℕ) → start ≤ at → take (at - start) (drop start name) ≡ drop start (take at name)
between name start at le =
    let on : start + (at - start) ≡ at = omega (arith, le) in
    sym (drop-take start (at - start) name) ∙ ap (λ n. drop start (take n name)) on
