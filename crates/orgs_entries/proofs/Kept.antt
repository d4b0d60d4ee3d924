-- What is kept of each heading, read at one.
use Rattle.std.proofs.Common.{◌≡◌, ℕ, ◌+◌, ◌<◌, List, [], ◌∷◌, ◌++◌, length, get_or, map, sym, ap, ◌∙◌, arith}
use Rattle.std.specs.List.{range_with_len}
use Rattle.std.proofs.lemmas.List.{get_or_default}
use Rattle.std.proofs.lemmas.List.FromFn.{get_or-map-range_with_len, length-map-range_with_len, map-range_with_len_more}

-- there is one of each
pub kept_within : {X : Type 0} (f : ℕ → X) (n i : ℕ) (xs : List X) → xs ≡ map f (range_with_len 0 n) → i < n → i < length xs
kept_within f n i xs is lt = omega (arith, ap length is, length-map-range_with_len f 0 n)

-- and it is that of the heading
pub kept_at : {X : Type 0} (f : ℕ → X) (n i : ℕ) (xs : List X) (d : X) → xs ≡ map f (range_with_len 0 n) → i < n → get_or xs i d ≡ f i
kept_at f n i xs d is lt = ap (λ ys. get_or ys i d) is ∙ get_or-map-range_with_len f 0 n i i d lt (omega arith)

-- the same as the code reads it
pub kept_read : {X : Type 0} (f : ℕ → X) (n i : ℕ) (xs : List X) (x : X) → xs ≡ map f (range_with_len 0 n) → i < n → x ≡ get_or xs i x → x ≡ f i
kept_read f n i xs x is lt e = e ∙ kept_at f n i xs x is lt

-- one more
pub kept_more : {X : Type 0} (f : ℕ → X) (i : ℕ) (old new : List X) (x : X) → old ≡ map f (range_with_len 0 i) → new ≡ old ++ x ∷ [] → x ≡ f i → new ≡ map f (range_with_len 0 (i + 1))
kept_more f i old new x was made is =
    made ∙ ap (λ xs. xs ++ x ∷ []) was ∙ ap (λ y. map f (range_with_len 0 i) ++ y ∷ []) is ∙ sym (map-range_with_len_more f 0 i i (omega arith))
