-- Bytes cut at their blanks.
use Rattle.std.proofs.Common.{◌≡◌, ℕ, ◌+◌, ◌-◌, ◌<◌, ◌≤◌, Bool, true, false, not, ◌&&◌, IsTrue, if◌then◌else◌, Option, None, Some, List, [], ◌∷◌, ◌++◌, length, get_or, take, drop, refl, sym, ap, ◌∙◌, arith}
use Rattle.std.proofs.lemmas.Grind.{common_steps}
use Rattle.std.specs.List.{slice_split, onto_first, list_all}
use Rattle.std.specs.Option.{option_map}
use Rattle.std.specs.Bool.{then_some}
use Rattle.std.proofs.lemmas.List.{take-append-drop, drop-drop, drop_more, take_rest, length-drop, get_or-drop}
use Rattle.std.proofs.lemmas.List.Splits.{slice_split-cons_yes, slice_split-cons_no}
use Rattle.std.proofs.lemmas.List.Folds.{list_all_more}
use Rattle.org_stamp.specs.Parts.{◌>>=◌, is_blank}
use Rattle.org_stamp.specs.declared.inside.Found.{Found}
use Rattle.org_stamp.specs.Reading.{Gathered, gathered, piece_with, pieces_with}

abbrev pub is_plain : ℕ → Bool
is_plain b = not (is_blank b)

pub not_true : (a b : Bool) → IsTrue (not a && b) → (a ≡ false) × IsTrue b
not_true a b h = grind arith

-- the first blank ends the first run
pub split_here : (xs : List ℕ) (y : ℕ) (ys : List ℕ) → IsTrue (list_all is_plain xs) → is_blank y ≡ true → slice_split is_blank (xs ++ (y ∷ ys)) ≡ xs ∷ slice_split is_blank ys
split_here [] y ys h e = slice_split-cons_yes is_blank y ys e
split_here (x ∷ xs) y ys h e =
    let parts = not_true (is_blank x) (list_all is_plain xs) h in
    slice_split-cons_no is_blank x (xs ++ (y ∷ ys)) parts.0 ∙ ap (onto_first x) (split_here xs y ys parts.1 e)

-- where there is none, all is one run
pub split_none : (xs : List ℕ) → IsTrue (list_all is_plain xs) → slice_split is_blank xs ≡ xs ∷ []
split_none [] h = refl
split_none (x ∷ xs) h =
    let parts = not_true (is_blank x) (list_all is_plain xs) h in
    slice_split-cons_no is_blank x xs parts.0 ∙ ap (onto_first x) (split_none xs parts.1)

pub seam : (tail : List ℕ) (start at : ℕ) → start ≤ at → at < length tail → drop start tail ≡ take (at - start) (drop start tail) ++ (get_or tail at 0 ∷ drop (at + 1) tail)
seam tail start at low high =
    let xs = drop start tail in
    let back : start + (at - start) ≡ at = omega arith in
    sym (take-append-drop (at - start) xs)
    ∙ ap (λ l. take (at - start) xs ++ l) (drop-drop (at - start) start tail ∙ ap (λ k. drop k tail) back ∙ drop_more tail at 0 high)

-- the run in hand ends at a blank
pub cut_here : (tail : List ℕ) (start at : ℕ) → start ≤ at → at < length tail → IsTrue (list_all is_plain (take (at - start) (drop start tail))) → is_blank (get_or tail at 0) ≡ true → slice_split is_blank (drop start tail) ≡ take (at - start) (drop start tail) ∷ slice_split is_blank (drop (at + 1) tail)
cut_here tail start at low high h e =
    ap (slice_split is_blank) (seam tail start at low high) ∙ split_here _ _ _ h e

-- and grows by one byte that is none
pub run_more : (tail : List ℕ) (start at : ℕ) → start ≤ at → at < length tail → IsTrue (list_all is_plain (take (at - start) (drop start tail))) → is_blank (get_or tail at 0) ≡ false → IsTrue (list_all is_plain (take (at + 1 - start) (drop start tail)))
run_more tail start at low high h e =
    let next : at + 1 - start ≡ (at - start) + 1 = omega arith in
    let within : at - start < length (drop start tail) = omega (arith, length-drop start tail) in
    let here : get_or (drop start tail) (at - start) 0 ≡ get_or tail at 0 = get_or-drop start tail (at - start) 0 ∙ ap (λ k. get_or tail k 0) (omega arith) in
    let more = list_all_more is_plain (drop start tail) (at - start) 0 within in
    rw (next, more, here, h, e) refl

-- the last run
pub cut_none : (tail : List ℕ) (start at : ℕ) → at ≡ length tail → IsTrue (list_all is_plain (take (at - start) (drop start tail))) → slice_split is_blank (drop start tail) ≡ drop start tail ∷ []
cut_none tail start at e h = grind (arith, common_steps, take_rest, split_none)

-- one piece more is found
pub pieces_next : (g h : Gathered) (pieces : List (List ℕ)) (run : List ℕ) (rest : List (List ℕ)) → pieces ≡ run ∷ rest → Some h ≡ piece_with g run → pieces_with h rest ≡ pieces_with g pieces
pieces_next g h pieces run rest e found = rw (e, ← found) refl

-- the first piece is no part, or one of its kind was found before
pub pieces_stop : (g : Gathered) (pieces : List (List ℕ)) (run : List ℕ) (rest : List (List ℕ)) → pieces ≡ run ∷ rest → None ≡ piece_with g run → None ≡ pieces_with g pieces
pieces_stop g pieces run rest e none = rw (e, ← none) refl

-- what adding a piece says where it was taken, and where it was not
pub taken : (added : Bool) (h : Gathered) (o : Option Gathered) → added ≡ true → (if added then Some h else None) ≡ o → Some h ≡ o
taken added h o is said = ap (λ b. if b then Some h else None) (sym is) ∙ said

pub not_taken : (added : Bool) (h : Gathered) (o : Option Gathered) → added ≡ false → (if added then Some h else None) ≡ o → None ≡ o
not_taken added h o is said = ap (λ b. if b then Some h else None) (sym is) ∙ said

pub found_if : (added : Bool) (found : Found) → option_map gathered (then_some added found) ≡ (if added then Some (gathered found) else None)
found_if true found = refl
found_if false found = refl

pub bind_some : {A : Type 0} (o : Option A) → (o >>= λ x. Some x) ≡ o
bind_some None = refl
bind_some (Some x) = refl

-- and the last
pub pieces_last : (g : Gathered) (pieces : List (List ℕ)) (run : List ℕ) → pieces ≡ run ∷ [] → piece_with g run ≡ pieces_with g pieces
pieces_last g pieces run e = rw e (sym (bind_some (piece_with g run)))
