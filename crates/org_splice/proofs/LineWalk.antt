-- A pass over the lines of a text, and what a terminated text ends with.
use Rattle.std.proofs.Common.{◌≡◌, ℕ, zero, suc, ◌+◌, ◌-◌, ◌<◌, ◌≤◌, true, false, eqb, List, [], ◌∷◌, ◌++◌, length, drop, take, get_or, Option, None, Some, refl, sym, ap, subst, ◌∙◌, arith, eq-eqb}
use Rattle.std.proofs.lemmas.Grind.{common_steps}
use Rattle.std.specs.Prelude.{◌≢◌}
use Rattle.std.proofs.lemmas.Bool.{eqb-true}
use Rattle.std.proofs.lemmas.Bool.Decides.{nat_tests}
use Rattle.std.proofs.lemmas.List.{append_cancel_left, drop-drop, get_or_at, length-append, length-drop, length-take-le, take_rest}
use Rattle.memchr.specs.Find.{IsFirstByte, is_byte}
use Rattle.org_splice.specs.Lines.{terminated, IsLine, lines_of}
use Rattle.org_splice.proofs.Lines.{terminated-append, lines_of-append}

-- bytes with no newline among them are a line
pub line_of : (n : ℕ) (l : List ℕ) → ((k : ℕ) → k < n → get_or l k 0 ≢ 10) → IsLine (take n l)
line_of zero l none = tt
line_of (suc n) [] none = tt
line_of (suc n) (b ∷ l) none = (none 0 (omega arith), line_of n l (λ k lt. none (suc k) (omega arith)))

-- the first line, without its newline, and what follows it
pub record Cuts (t : List ℕ) (e : ℕ) : Type 0 where
  pub line : IsLine (take e t)
  pub parts : t ≡ take e t ++ 10 ∷ drop (suc e) t

cut : (t : List ℕ) (e : ℕ) → e < length t → ((k : ℕ) → k < e → get_or t k 0 ≢ 10) → get_or t e 0 ≡ 10 → Cuts t e
cut [] e lt before here = absurd (omega arith)
cut (b ∷ bs) zero lt before here = record { line = tt; parts = ap (λ n. n ∷ bs) here }
cut (b ∷ bs) (suc e) lt before here =
    let more = cut bs e (omega arith) (λ k h. before (suc k) (omega arith)) here in
    record { line = (before 0 (omega arith), more.line); parts = ap (λ (bs : List ℕ). b ∷ bs) more.parts }

pub cut_found : (t : List ℕ) (e : ℕ) → IsFirstByte (is_byte 10) t (Some e) → Cuts t e
cut_found t e h = grind (arith, common_steps, cut, eq-eqb, nat_tests)

pub tail_is : (b c : ℕ) (xs ys : List ℕ) → b ∷ xs ≡ c ∷ ys → xs ≡ ys
tail_is b c xs ys e = cc

-- a text without a newline that is terminated is empty
pub no_line : (t : List ℕ) → ((k : ℕ) → k < length t → get_or t k 0 ≢ 10) → terminated t ≡ t → t ≡ []
no_line [] none e = refl
no_line (b ∷ []) none e =
    let ne : b ≢ 10 = none 0 (omega arith) in
    let no : eqb b 10 ≡ false = grind (arith, nat_tests) in
    let e' = rw no at e in absurd cc
no_line (b ∷ c ∷ bs) none e = grind (arith, common_steps, no_line (c ∷ bs) (λ k lt. none (suc k) (omega arith)) (tail_is b b (terminated (c ∷ bs)) (c ∷ bs) e))

-- the line that begins at `start`, and the rest
pub record Steps (text : List ℕ) (start e : ℕ) : Type 0 where
  pub within : start + e + 1 ≤ length text
  pub rest : terminated (drop (start + e + 1) text) ≡ drop (start + e + 1) text
  pub long : length (take e (drop start text)) ≡ e
  pub lines : lines_of (drop start text) ≡ take e (drop start text) ∷ lines_of (drop (start + e + 1) text)

pub step : (text : List ℕ) (start e : ℕ) → terminated (drop start text) ≡ drop start text → IsFirstByte (is_byte 10) (drop start text) (Some e) → Steps text start e
step text start e whole h = grind (arith, common_steps, cut_found, drop-drop, terminated-append, lines_of-append, length-drop, tail_is, append_cancel_left, length-take-le)

-- the same as the code says it: what `memchr` found in `text[start..]`
pub record Found (text : List ℕ) (start : ℕ) (r : Option ℕ) : Type 0 where
  pub first : IsFirstByte (is_byte 10) (take (length text - start) (drop start text)) r

pub found_in : (text : List ℕ) (start : ℕ) (r q : Option ℕ) → Found text start r → r ≡ q → IsFirstByte (is_byte 10) (drop start text) q
found_in text start r q h e = grind (arith, common_steps)

-- a text is terminated where it is empty or ends in a newline
pub terminated-last : (t : List ℕ) → get_or t (length t - 1) 0 ≡ 10 → terminated t ≡ t
terminated-last [] e = refl
terminated-last (b ∷ []) e = let is : b ≡ 10 = e in let yes : eqb b 10 ≡ true = eq-eqb b 10 is in rw yes refl
terminated-last (b ∷ c ∷ bs) e =
    let k : length (b ∷ c ∷ bs) - 1 ≡ suc (length (c ∷ bs) - 1) = omega arith in
    ap (λ (t : List ℕ). b ∷ t) (terminated-last (c ∷ bs) (ap (λ k. get_or (b ∷ c ∷ bs) k 0) (sym k) ∙ e))

pub last-terminated : (t : List ℕ) → terminated t ≡ t → 0 < length t → get_or t (length t - 1) 0 ≡ 10
last-terminated [] e lt = absurd (omega arith)
last-terminated (b ∷ []) e lt = grind (arith, common_steps)
last-terminated (b ∷ c ∷ bs) e lt =
    let k : length (b ∷ c ∷ bs) - 1 ≡ suc (length (c ∷ bs) - 1) = omega arith in
    ap (λ k. get_or (b ∷ c ∷ bs) k 0) k ∙ last-terminated (c ∷ bs) (tail_is b b (terminated (c ∷ bs)) (c ∷ bs) e) (omega arith)

-- ---- a search for a newline

-- the first newline after a line
pub first_newline : (l more : List ℕ) (e : ℕ) → IsLine l → ((k : ℕ) → k < e → get_or (l ++ 10 ∷ more) k 0 ≢ 10) → get_or (l ++ 10 ∷ more) e 0 ≡ 10 → e ≡ length l
first_newline [] more zero p before here = refl
first_newline [] more (suc e) p before here = absurd (before 0 (omega arith) refl)
first_newline (b ∷ l) more zero p before here = absurd (p.0 here)
first_newline (b ∷ l) more (suc e) p before here = ap suc (first_newline l more e p.1 (λ k lt. before (suc k) (omega arith)) here)

-- the first newline, where there is one
pub line_end : (t : List ℕ) (start : ℕ) (r : Option ℕ) (e : ℕ) → IsFirstByte (is_byte 10) (take (length t - start) (drop start t)) r → r ≡ Some e
    → (l more : List ℕ) → IsLine l → drop start t ≡ l ++ 10 ∷ more → start + e + 1 ≡ start + length l + 1
line_end t start r e h is l more p split = grind (arith, common_steps, take_rest, first_newline, eq-eqb, eqb-true)

pub line_none : (t : List ℕ) (start : ℕ) (r : Option ℕ) → IsFirstByte (is_byte 10) (take (length t - start) (drop start t)) r → r ≡ None
    → (l more : List ℕ) → IsLine l → drop start t ≡ l ++ 10 ∷ more → ⊥
line_none t start r h is l more p split =
    let P : List ℕ → Type 0 = λ t. IsFirstByte (is_byte 10) t None in
    let Q : Option ℕ → Type 0 = λ r. IsFirstByte (is_byte 10) (take (length t - start) (drop start t)) r in
    let g = subst P (take_rest t start ∙ split) (subst Q is h) in
    g (length l) (omega arith) (omega (arith, length-append l (10 ∷ more))) (eq-eqb (get_or (l ++ 10 ∷ more) (length l) 0) 10 (get_or_at l 10 more 0 (length l) refl))
