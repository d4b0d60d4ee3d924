-- The folders that lead to a file, and the one that its name leads through, which ends with the last
-- slash.
use Rattle.std.proofs.Common.{◌≡◌, ◌≢◌, ◌≤◌, ◌<◌, ◌+◌, ◌++◌, ℕ, zero, suc, Bool, List, [], ◌∷◌, if◌then◌else◌, true, false, refl, sym, subst, ap, ◌∙◌, ⊎_elim, All, length, take, drop, get_or, length-drop, get_or-drop, arith}
use Rattle.std.proofs.lemmas.Bool.{cases_Bool, cond-true, cond-false, ne_eqb, eq-eqb, or_parts}
use Rattle.std.proofs.lemmas.Grind.{get_or_default_zero}
use Rattle.std.proofs.lemmas.List.{append_assoc, append-nil, length-take-le, take-append-drop, take_all, take_more}
use Rattle.std.proofs.lemmas.List.Elements.{All-append, All-cons, All-nil, Contains-append_right}
use Rattle.std.proofs.lemmas.List.Folds.{list_any_at, list_any_none}
use Rattle.std.specs.List.{Contains, list_any}
use Rattle.org_disk.specs.Names.{folder_of, folders_from, folders_on, is_slash, last_part}

no_folder : (name : List ℕ) → list_any is_slash name ≡ false → folder_of name ≡ []
no_folder [] none = refl
no_folder (b ∷ rest) none = cond-false (list_any is_slash (b ∷ rest)) (b ∷ folder_of rest) [] none

folder_ends : (name : List ℕ) (k : ℕ) → k < length name → is_slash (get_or name k 0) ≡ true → list_any is_slash (drop (suc k) name) ≡ false → folder_of name ≡ take (suc k) name
folder_ends [] k within slash none = absurd (omega (arith, within))
folder_ends (b ∷ rest) zero within slash none =
    cond-true (list_any is_slash (b ∷ rest)) (b ∷ folder_of rest) [] (list_any_at is_slash (b ∷ rest) 0 0 within slash)
    ∙ ap (λ l. b ∷ l) (no_folder rest none)
folder_ends (b ∷ rest) (suc k) within slash none =
    cond-true (list_any is_slash (b ∷ rest)) (b ∷ folder_of rest) [] (list_any_at is_slash (b ∷ rest) (suc k) 0 within slash)
    ∙ ap (λ l. b ∷ l) (folder_ends rest k (omega (arith, within)) slash none)

-- no slash from this place on
none_from : (name : List ℕ) (k : ℕ) → ((i : ℕ) → k ≤ i → i < length name → get_or name i 0 ≢ 47) → list_any is_slash (drop k name) ≡ false
none_from name k none =
    list_any_none is_slash (drop k name) (λ i d within.
    ne_eqb (get_or (drop k name) i d) 47 (λ e.
    none (k + i) (omega arith) (omega (arith, within, length-drop k name))
    (sym (get_or-drop k name i 0) ∙ sym (get_or_default_zero (drop k name) i d within) ∙ e)))

-- the words of `rfind`
pub no_slash : (name : List ℕ) → ((i : ℕ) → i < length name → get_or name i 0 ≢ 47) → folder_of name ≡ []
no_slash name none = no_folder name (none_from name 0 (λ i from. none i))

pub slash_last : (name : List ℕ) (k : ℕ) → k < length name → get_or name k 0 ≡ 47 → ((i : ℕ) → k < i → i < length name → get_or name i 0 ≢ 47) → folder_of name ≡ take (k + 1) name
slash_last name k within slash none =
    let on : suc k ≡ k + 1 = omega arith in
    folder_ends name k within (eq-eqb (get_or name k 0) 47 slash)
    (none_from name (suc k) (λ i from. none i (omega (arith, from))))
    ∙ ap (λ n. take n name) on

pub part_alone : (name : List ℕ) → ((i : ℕ) → i < length name → get_or name i 0 ≢ 47) → last_part name ≡ name
part_alone name none = ap (λ l. drop (length l) name) (no_slash name none)

pub part_after : (name : List ℕ) (k : ℕ) → k < length name → get_or name k 0 ≡ 47 → ((i : ℕ) → k < i → i < length name → get_or name i 0 ≢ 47) → last_part name ≡ drop (k + 1) name
part_after name k within slash none =
    ap (λ l. drop (length l) name) (slash_last name k within slash none)
    ∙ ap (λ n. drop n name) (length-take-le (k + 1) name (omega (arith, within)))

-- a name is its folder and then its last part, in which no slash stands
after_folder : (name : List ℕ) → (rest : List ℕ) × (name ≡ folder_of name ++ rest) × (list_any is_slash rest ≡ false)
after_folder [] = ([], refl, refl)
after_folder (b ∷ rest) = ⊎_elim
    (λ some. let later = after_folder rest in (
      later.0,
      ap (λ l. b ∷ l) later.1 ∙ ap (λ l. l ++ later.0) (sym (cond-true (list_any is_slash (b ∷ rest)) (b ∷ folder_of rest) [] some)),
      later.2,
    ))
    (λ none. (b ∷ rest, ap (λ l. l ++ b ∷ rest) (sym (no_folder (b ∷ rest) none)), none))
    (cases_Bool (list_any is_slash (b ∷ rest)))

one_step : (is : Bool) (way : List ℕ) (longer shorter more : List (List ℕ)) → longer ≡ shorter ++ more → (if is then way ∷ longer else longer) ≡ (if is then way ∷ shorter else shorter) ++ more
one_step true way longer shorter more same = ap (λ l. way ∷ l) same
one_step false way longer shorter more same = same

last_step : (is : Bool) (way : List ℕ) → (if is then way ∷ [] else []) ≡ (if is then (way ++ []) ∷ [] else [])
last_step true way = ap (λ w. w ∷ []) (sym (append-nil way))
last_step false way = refl

-- a byte more
folders_more : (way name : List ℕ) (b : ℕ) → folders_from way (name ++ b ∷ []) ≡ folders_from way name ++ (if is_slash b then (way ++ name) ∷ [] else [])
folders_more way [] b = last_step (is_slash b) way
folders_more way (x ∷ name) b =
    one_step (is_slash x) way (folders_from (way ++ x ∷ []) (name ++ b ∷ [])) (folders_from (way ++ x ∷ []) name) (if is_slash b then (way ++ x ∷ name) ∷ [] else [])
    (folders_more (way ++ x ∷ []) name b
    ∙ ap (λ w. folders_from (way ++ x ∷ []) name ++ (if is_slash b then w ∷ [] else [])) (append_assoc way (x ∷ []) name))

same_step : (is : Bool) (way : List ℕ) (one other : List (List ℕ)) → one ≡ other → (if is then way ∷ one else one) ≡ (if is then way ∷ other else other)
same_step is way one other same = ap (λ l. if is then way ∷ l else l) same

no_folders : (way rest : List ℕ) → list_any is_slash rest ≡ false → folders_from way rest ≡ []
no_folders way [] none = refl
no_folders way (b ∷ rest) none =
    let parts = or_parts (is_slash b) (list_any is_slash rest) none in
    cond-false (is_slash b) (way ∷ folders_from (way ++ b ∷ []) rest) (folders_from (way ++ b ∷ []) rest) parts.0
    ∙ no_folders (way ++ b ∷ []) rest parts.1

folders_end : (way name rest : List ℕ) → list_any is_slash rest ≡ false → folders_from way (name ++ rest) ≡ folders_from way name
folders_end way [] rest none = no_folders way rest none
folders_end way (b ∷ name) rest none =
    same_step (is_slash b) way (folders_from (way ++ b ∷ []) (name ++ rest)) (folders_from (way ++ b ∷ []) name) (folders_end (way ++ b ∷ []) name rest none)

pub same_folders : (name : List ℕ) → folders_on (folder_of name) ≡ folders_on name
same_folders name =
    let whole = after_folder name in
    sym (folders_end [] (folder_of name) whole.0 whole.2) ∙ ap folders_on (sym whole.1)

among_more : (is : Bool) (way other : List ℕ) (rest : List (List ℕ)) → Contains rest other → Contains (if is then way ∷ rest else rest) other
among_more true way other rest among = Contains-append_right (way ∷ []) rest other among
among_more false way other rest among = among

folder_at : (way name : List ℕ) (k : ℕ) → k < length name → is_slash (get_or name k 0) ≡ true → Contains (folders_from way name) (way ++ take k name)
folder_at way [] k within slash = absurd (omega (arith, within))
folder_at way (b ∷ rest) zero within slash =
    subst (λ (l : List (List ℕ)). Contains l (way ++ [])) (sym (cond-true (is_slash b) (way ∷ folders_from (way ++ b ∷ []) rest) (folders_from (way ++ b ∷ []) rest) slash))
    (subst (Contains (way ∷ folders_from (way ++ b ∷ []) rest)) (sym (append-nil way)) (0, omega arith, refl))
folder_at way (b ∷ rest) (suc k) within slash =
    among_more (is_slash b) way (way ++ b ∷ take k rest) (folders_from (way ++ b ∷ []) rest)
    (subst (Contains (folders_from (way ++ b ∷ []) rest)) (append_assoc way (b ∷ []) (take k rest)) (folder_at (way ++ b ∷ []) rest k (omega (arith, within)) slash))

-- each beginning of a path that a slash follows
pub on_way : (path items folder : List ℕ) (at : ℕ) → items ≡ path → at < length items → is_slash (get_or items at 0) ≡ true → folder ≡ take at path → Contains (folders_on path) folder
on_way path items folder at same within slash here =
    subst (Contains (folders_on path)) (sym here)
    (folder_at [] path at (subst (λ (l : List ℕ). at < length l) same within) (subst (λ (l : List ℕ). is_slash (get_or l at 0) ≡ true) same slash))

-- A loop over the bytes of the folder goes through the folders that lead to the file.
module _ (P : List ℕ → Type 0) where
  with_last : (is : Bool) (before : List (List ℕ)) (folder : List ℕ) → All P before → (is ≡ true → P folder) → All P (before ++ (if is then folder ∷ [] else []))
  with_last true before folder are here = All-append P before (folder ∷ []) are (All-cons P folder [] (here refl) (All-nil P))
  with_last false before folder are here = All-append P before [] are (All-nil P)

  pub folders_to_more : (path : List ℕ) (at : ℕ) → at < length path → All P (folders_on (take at path)) → (is_slash (get_or path at 0) ≡ true → P (take at path)) → All P (folders_on (take (at + 1) path))
  folders_to_more path at within are here =
      subst (All P) (sym (ap folders_on (take_more path at 0 within) ∙ folders_more [] (take at path) (get_or path at 0)))
      (with_last (is_slash (get_or path at 0)) (folders_on (take at path)) (take at path) are here)
