-- Words between colons, met one after another: those that aren't empty.
use Rattle.std.proofs.Common.{◌≡◌, ℕ, zero, suc, ◌+◌, ◌<◌, ◌≤◌, Bool, true, false, not, cond, ◌&&◌, ◌||◌, ◌==◌, List, [], ◌∷◌, ◌++◌, length, get_or, filter, map, Bor, Option, None, Some, refl, sym, ap, ◌∙◌, arith, inl, inr}
use Rattle.std.specs.Iterator.{Yields}
use Rattle.std.specs.List.{list_any}
use Rattle.std.proofs.lemmas.Bool.{and_parts, cases_Bool, or_from, or_left, or_right}
use Rattle.std.proofs.lemmas.Iterator.{YieldsList}
use Rattle.std.proofs.lemmas.Iterator.Consumers.{YieldsList-end, YieldsList-turn}
use Rattle.std.proofs.lemmas.List.{map-append}
use Rattle.std.proofs.lemmas.List.Elements.{filter-append}
use Rattle.std.proofs.lemmas.List.Folds.{list_any-append}
use Rattle.org_move.specs.Inherited.{nonempty_only}

abbrev pub is_word : List ℕ → Bool
is_word w = not (length w == 0)

one : (p : List ℕ → Bool) (x : List ℕ) → (is_word x && p x) ≡ false → list_any p (nonempty_only (x ∷ [])) ≡ false
one p x fails =
    elim (cases_Bool (is_word x)) [
      | inl is_so ↦
          let own : p x ≡ false = ap (λ b. b && p x) (sym is_so) ∙ fails in
          ap (λ b. list_any p (cond b (x ∷ []) [])) is_so ∙ or_from (p x) false own refl
      | inr isnt ↦ ap (λ b. list_any p (cond b (x ∷ []) [])) isnt
    ]

-- one more that isn't wanted
pub word_passed : (p : List ℕ → Bool) (seen : List (Bor (List ℕ))) (x : Bor (List ℕ)) → list_any p (nonempty_only (map (λ w. w.now) seen)) ≡ false → (is_word x.now && p x.now) ≡ false
    → list_any p (nonempty_only (map (λ w. w.now) (seen ++ x ∷ []))) ≡ false
word_passed p seen x none fails =
    let texts = map (λ (w : Bor (List ℕ)). w.now) seen in
    ap (λ ts. list_any p (nonempty_only ts)) (map-append (λ (w : Bor (List ℕ)). w.now) seen (x ∷ []))
    ∙ ap (list_any p) (filter-append is_word texts (x.now ∷ []))
    ∙ list_any-append p (nonempty_only texts) (nonempty_only (x.now ∷ []))
    ∙ or_from (list_any p (nonempty_only texts)) (list_any p (nonempty_only (x.now ∷ []))) none (one p x.now fails)

here : (p : List ℕ → Bool) (x : List ℕ) (xs : List (List ℕ)) → (is_word x && p x) ≡ true → list_any p (nonempty_only (x ∷ xs)) ≡ true
here p x xs ok =
    let parts = and_parts (is_word x) (p x) ok in
    ap (λ b. list_any p (cond b (x ∷ nonempty_only xs) (nonempty_only xs))) parts.0 ∙ or_left (p x) (list_any p (nonempty_only xs)) parts.1

later : (p : List ℕ → Bool) (y : List ℕ) (ys : List (List ℕ)) → list_any p (nonempty_only ys) ≡ true → list_any p (nonempty_only (y ∷ ys)) ≡ true
later p y ys found =
    elim (cases_Bool (is_word y)) [
      | inl is_so ↦ ap (λ b. list_any p (cond b (y ∷ nonempty_only ys) (nonempty_only ys))) is_so ∙ or_right (p y) (list_any p (nonempty_only ys)) found
      | inr isnt ↦ ap (λ b. list_any p (cond b (y ∷ nonempty_only ys) (nonempty_only ys))) isnt ∙ found
    ]

there : (p : List ℕ → Bool) (all : List (List ℕ)) (k : ℕ) (x : List ℕ) → k < length all → x ≡ get_or all k x → (is_word x && p x) ≡ true → list_any p (nonempty_only all) ≡ true
there p [] k x lt is ok = absurd (omega arith)
there p (y ∷ ys) zero x lt is ok = here p y ys (ap (λ w. is_word w && p w) (sym is) ∙ ok)
there p (y ∷ ys) (suc k) x lt is ok = later p y ys (there p ys k x (omega arith) is ok)

-- a wanted one among those that are met
pub word_found : {S : Type 0} {steps : S → Option (Bor (List ℕ)) → S → Type 0} {s : S} {all : List (List ℕ)} (road : YieldsList steps (λ x. x.now) s all) (xs : List (Bor (List ℕ))) (t : S) (y : Yields steps s xs t)
    → (r : Option (Bor (List ℕ))) (u : S) (x : Bor (List ℕ)) → r ≡ Some x → steps t r u → (p : List ℕ → Bool) → (is_word x.now && p x.now) ≡ true → list_any p (nonempty_only all) ≡ true
word_found {all} road xs t y r u x is step p ok =
    let turn = YieldsList-turn road xs t y r u x is step in
    there p all (length xs) x.now turn.0 turn.1 ok

-- and none, once all were met
pub words_end : {S : Type 0} {steps : S → Option (Bor (List ℕ)) → S → Type 0} {s : S} {all : List (List ℕ)} (road : YieldsList steps (λ x. x.now) s all) (xs : List (Bor (List ℕ))) (t : S) (y : Yields steps s xs t)
    → (r : Option (Bor (List ℕ))) (u : S) → r ≡ None → steps t r u → (p : List ℕ → Bool) → list_any p (nonempty_only (map (λ w. w.now) xs)) ≡ false → list_any p (nonempty_only all) ≡ false
words_end {all} road xs t y r u is step p none =
    let ended = YieldsList-end road xs t y r u is step in
    ap (λ ts. list_any p (nonempty_only ts)) (sym ended.0) ∙ none

-- of three, where the first two fail
pub last_of_three : (a b c : Bool) → a ≡ false → b ≡ false → (a || b || c) ≡ c
last_of_three a b c first second = ap (λ x. x || b || c) first ∙ ap (λ x. x || c) second
