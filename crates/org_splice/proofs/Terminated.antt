-- A text with a newline at its end, by its last byte.
use Rattle.std.proofs.Common.{◌≡◌, ℕ, zero, suc, ◌+◌, ◌++◌, eqb, true, false, List, [], ◌∷◌, length, get_or, take, drop, refl, ap, arith, eq-eqb}
use Rattle.std.proofs.lemmas.Grind.{common_steps}
use Rattle.std.proofs.lemmas.Bool.{ne_eqb, cond-true, cond-false}
use Rattle.org_splice.specs.Lines.{terminated, is_terminated}

-- a text that ends in a newline is terminated
pub terminated-newline : (text : List ℕ) (k : ℕ) → k + 1 ≡ length text → get_or text k 0 ≡ 10 → terminated text ≡ text
terminated-newline [] k long newline = refl
terminated-newline (b ∷ []) zero long newline = cond-true (eqb b 10) (b ∷ []) (b ∷ 10 ∷ []) (eq-eqb b 10 newline)
terminated-newline (b ∷ []) (suc k) long newline = absurd (omega arith)
terminated-newline (b ∷ c ∷ bs) zero long newline = absurd (omega arith)
terminated-newline (b ∷ c ∷ bs) (suc k) long newline = ap (λ (t : List ℕ). b ∷ t) (terminated-newline (c ∷ bs) k (omega arith) newline)

-- another that has bytes gets a newline
pub terminated-open : (text : List ℕ) (k : ℕ) → k + 1 ≡ length text → (get_or text k 0 ≡ 10 → ⊥) → terminated text ≡ text ++ 10 ∷ []
terminated-open [] k long other = absurd (omega arith)
terminated-open (b ∷ []) zero long other = cond-false (eqb b 10) (b ∷ []) (b ∷ 10 ∷ []) (ne_eqb b 10 other)
terminated-open (b ∷ []) (suc k) long other = absurd (omega arith)
terminated-open (b ∷ c ∷ bs) zero long other = absurd (omega arith)
terminated-open (b ∷ c ∷ bs) (suc k) long other = ap (λ (t : List ℕ). b ∷ t) (terminated-open (c ∷ bs) k (omega arith) other)

-- bytes put at the end
pub spliced-end : (text bytes : List ℕ) → take (length text) text ++ bytes ++ drop (length text + 0) text ≡ text ++ bytes
spliced-end text bytes = grind (arith, common_steps)

-- the same, as a test answers it
pub is_terminated-newline : (text : List ℕ) (k : ℕ) → k + 1 ≡ length text → get_or text k 0 ≡ 10 → is_terminated text ≡ true
is_terminated-newline [] k long newline = refl
is_terminated-newline (b ∷ []) zero long newline = eq-eqb b 10 newline
is_terminated-newline (b ∷ []) (suc k) long newline = absurd (omega arith)
is_terminated-newline (b ∷ c ∷ bs) zero long newline = absurd (omega arith)
is_terminated-newline (b ∷ c ∷ bs) (suc k) long newline = is_terminated-newline (c ∷ bs) k (omega arith) newline

pub is_terminated-open : (text : List ℕ) (k : ℕ) → k + 1 ≡ length text → (get_or text k 0 ≡ 10 → ⊥) → is_terminated text ≡ false
is_terminated-open [] k long other = absurd (omega arith)
is_terminated-open (b ∷ []) zero long other = ne_eqb b 10 other
is_terminated-open (b ∷ []) (suc k) long other = absurd (omega arith)
is_terminated-open (b ∷ c ∷ bs) zero long other = absurd (omega arith)
is_terminated-open (b ∷ c ∷ bs) (suc k) long other = is_terminated-open (c ∷ bs) k (omega arith) other
