-- How a stream is cut, piece by piece.
use Rattle.std.proofs.Common.{◌≡◌, ℕ, suc, ◌<◌, false, ◌==◌, List, [], ◌∷◌, ◌++◌, length, get_or, refl, inl, inr, arith, append-nil, subst}
use Rattle.std.proofs.lemmas.Grind.{common_steps}
use Rattle.std.proofs.lemmas.Bool.{ne_eqb}
use Rattle.std.proofs.lemmas.Bool.Decides.{eqb_tells}
use Rattle.std.specs.List.{All}
use Rattle.std.proofs.lemmas.List.Elements.{All-nil, All-cons, All-head, All-tail}
use Rattle.org_serve.specs.Lines.{Cut, cut, onto, joined, HasNoNewline}

-- no newline, so no whole line
pub cut-free : (xs : List ℕ) → ((k : ℕ) → k < length xs → get_or xs k 0 ≡ 10 → ⊥) → cut xs ≡ record { lines = []; rest = xs }
cut-free [] h = refl
cut-free (b ∷ xs) h =
    let first : (b == 10) ≡ false = ne_eqb b 10 (h 0 (omega arith)) in
    let others : (k : ℕ) → k < length xs → get_or xs k 0 ≡ 10 → ⊥ = λ k lt. h (suc k) (omega arith) in
    rw (first, cut-free xs others) refl

-- what begins with a byte and has no whole line: the byte is no newline, and the others have none
free-cons : (b : ℕ) (xs : List ℕ) → (cut (b ∷ xs)).lines ≡ [] → ((b == 10) ≡ false) × ((cut xs).lines ≡ [])
free-cons b xs e = grind (arith, common_steps)

-- what has no whole line is all rest
pub cut-rest : (xs : List ℕ) → (cut xs).lines ≡ [] → cut xs ≡ record { lines = []; rest = xs }
cut-rest [] e = refl
cut-rest (b ∷ xs) e = let parts = free-cons b xs e in rw (parts.0, cut-rest xs parts.1) refl

-- what stands before the first newline goes onto the first line
pub cut-front : (xs ys line : List ℕ) (lines : List (List ℕ)) (rest : List ℕ) → (cut xs).lines ≡ [] → cut ys ≡ record { lines = line ∷ lines; rest = rest }
    → cut (xs ++ ys) ≡ record { lines = (xs ++ line) ∷ lines; rest = rest }
cut-front [] ys line lines rest free e = e
cut-front (b ∷ xs) ys line lines rest free e =
    let parts = free-cons b xs free in rw (parts.0, cut-front xs ys line lines rest parts.1 e) refl

-- a cut, and then more bytes
abbrev pub later : Cut → List ℕ → Cut
later c more = let next = cut (c.rest ++ more) in record { lines = c.lines ++ next.lines; rest = next.rest }

-- It does not matter where a stream is cut into pieces.
pub cut-append : (xs more : List ℕ) → cut (xs ++ more) ≡ later (cut xs) more
cut-append [] more = refl
cut-append (b ∷ xs) more = grind (arith, common_steps, cut-append xs more)

-- what stands after the last newline has none
pub rest-free : (xs : List ℕ) → (cut (cut xs).rest).lines ≡ []
rest-free [] = refl
rest-free (b ∷ xs) = grind (arith, common_steps, rest-free xs)

-- two parts of a line make a longer part
pub cut-both : (xs ys : List ℕ) → (cut xs).lines ≡ [] → (cut ys).lines ≡ [] → cut (xs ++ ys) ≡ record { lines = []; rest = xs ++ ys }
cut-both [] ys free last = cut-rest ys last
cut-both (b ∷ xs) ys free last = let parts = free-cons b xs free in rw (parts.0, cut-both xs ys parts.1 last) refl

-- a part of a line, and then the rest of it and its newline
pub cut-line : (part line more : List ℕ) → (cut part).lines ≡ [] → (cut line).lines ≡ []
    → cut (part ++ (line ++ 10 ∷ more)) ≡ record { lines = (part ++ line) ∷ (cut more).lines; rest = (cut more).rest }
cut-line part line more free last =
    let P : List ℕ → Type 0 = λ t. cut (line ++ 10 ∷ more) ≡ record { lines = t ∷ (cut more).lines; rest = (cut more).rest } in
    cut-front part (line ++ 10 ∷ more) line (cut more).lines (cut more).rest free
    (subst P (append-nil line) (cut-front line (10 ∷ more) [] (cut more).lines (cut more).rest last refl))

-- the lines and the rest, joined, are the bytes
pub joined-cut : (xs : List ℕ) → joined (cut xs).lines (cut xs).rest ≡ xs
joined-cut [] = refl
joined-cut (b ∷ xs) = grind (arith, common_steps, joined-cut xs)

-- no line and no rest holds a newline
abbrev IsFree : Cut → Type 0
IsFree c = All HasNoNewline c.lines × HasNoNewline c.rest

free-onto : (b : ℕ) (lines : List (List ℕ)) (rest : List ℕ) → (b ≡ 10 → ⊥) → All HasNoNewline lines → HasNoNewline rest → IsFree (onto b lines rest)
free-onto b [] rest ne ls r = (All-nil HasNoNewline, All-cons (λ (c : ℕ). c ≡ 10 → ⊥) b rest ne r)
free-onto b (line ∷ lines) rest ne ls r =
    (All-cons HasNoNewline (b ∷ line) lines (All-cons (λ (c : ℕ). c ≡ 10 → ⊥) b line ne (All-head HasNoNewline line lines ls)) (All-tail HasNoNewline line lines ls), r)

pub free-cut : (xs : List ℕ) → IsFree (cut xs)
free-cut [] = (All-nil HasNoNewline, All-nil (λ (c : ℕ). c ≡ 10 → ⊥))
free-cut (b ∷ xs) =
    elim (eqb_tells b 10) [
      | inl h ↦ rw h.0 (All-cons HasNoNewline [] (cut xs).lines (All-nil (λ (c : ℕ). c ≡ 10 → ⊥)) (free-cut xs).0, (free-cut xs).1)
      | inr h ↦ rw h.0 (free-onto b (cut xs).lines (cut xs).rest h.1 (free-cut xs).0 (free-cut xs).1)
    ]
