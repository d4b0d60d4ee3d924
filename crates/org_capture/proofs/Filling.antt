-- The initial text put after a prefix, byte by byte.
use Rattle.std.proofs.Common.{arith, ◌≡◌, ℕ, ◌+◌, ◌<◌, true, false, List, [], ◌∷◌, ◌++◌, length, take, get_or, eqb, refl, sym, ◌∙◌, ap, append_assoc, inl, inr}
use Rattle.std.proofs.lemmas.Grind.{common_steps}
use Rattle.std.specs.List.{list_any}
use Rattle.std.proofs.lemmas.Bool.{cases_Bool}
use Rattle.std.proofs.lemmas.List.{append-nil, take_more}
use Rattle.org_capture.specs.Template.{with_prefix}

pub with_prefix-append : (prefix xs ys : List ℕ) → with_prefix prefix (xs ++ ys) ≡ with_prefix prefix xs ++ with_prefix prefix ys
with_prefix-append prefix [] ys = refl
with_prefix-append prefix (b ∷ xs) ys = grind (arith, common_steps, with_prefix-append prefix xs ys)

-- one byte more
more_is : (prefix bytes : List ℕ) (i b : ℕ) → i < length bytes → get_or bytes i 0 ≡ b → with_prefix prefix (take (i + 1) bytes) ≡ with_prefix prefix (take i bytes) ++ with_prefix prefix (b ∷ [])
more_is prefix bytes i b lt is =
    ap (with_prefix prefix) (take_more bytes i 0 lt ∙ ap (λ b. take i bytes ++ b ∷ []) is) ∙ with_prefix-append prefix (take i bytes) (b ∷ [])

pub pushed_plain : (start prefix bytes old new : List ℕ) (i b : ℕ) → i < length bytes → get_or bytes i 0 ≡ b → eqb b 10 ≡ false → old ≡ start ++ with_prefix prefix (take i bytes) → new ≡ old ++ b ∷ []
    → new ≡ start ++ with_prefix prefix (take (i + 1) bytes)
pushed_plain start prefix bytes old new i b lt is e was put =
    let one : with_prefix prefix (b ∷ []) ≡ b ∷ [] = rw e refl in
    put ∙ ap (λ l. l ++ b ∷ []) was ∙ append_assoc start (with_prefix prefix (take i bytes)) (b ∷ [])
    ∙ ap (λ l. start ++ (with_prefix prefix (take i bytes) ++ l)) (sym one) ∙ ap (λ l. start ++ l) (sym (more_is prefix bytes i b lt is))

pub pushed_newline : (start prefix bytes old new : List ℕ) (i b : ℕ) → i < length bytes → get_or bytes i 0 ≡ b → eqb b 10 ≡ true → old ≡ start ++ with_prefix prefix (take i bytes) → new ≡ (old ++ b ∷ []) ++ prefix
    → new ≡ start ++ with_prefix prefix (take (i + 1) bytes)
pushed_newline start prefix bytes old new i b lt is e was put =
    let one : with_prefix prefix (b ∷ []) ≡ b ∷ prefix = rw e (ap (λ (l : List ℕ). b ∷ l) (append-nil prefix)) in
    put ∙ append_assoc old (b ∷ []) prefix ∙ ap (λ l. l ++ (b ∷ prefix)) was ∙ append_assoc start (with_prefix prefix (take i bytes)) (b ∷ prefix)
    ∙ ap (λ l. start ++ (with_prefix prefix (take i bytes) ++ l)) (sym one) ∙ ap (λ l. start ++ l) (sym (more_is prefix bytes i b lt is))

-- bytes without a newline have no place for a prefix
pub with_prefix-none : (prefix bytes : List ℕ) → list_any (λ b. eqb b 10) bytes ≡ false → with_prefix prefix bytes ≡ bytes
with_prefix-none prefix [] none = refl
with_prefix-none prefix (b ∷ bytes) none =
    elim (cases_Bool (eqb b 10)) [
      | inl e ↦ absurd (let f = rw e at none in cc)
      | inr e ↦ rw e (ap (λ (l : List ℕ). b ∷ l) (with_prefix-none prefix bytes (rw e at none)))
    ]
