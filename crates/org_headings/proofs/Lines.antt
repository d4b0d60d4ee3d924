-- Heading lines: a line is its stars and the rest.
use Rattle.std.proofs.Common.{◌≡◌, ℕ, zero, suc, ◌+◌, ◌<◌, Bool, true, false, cond, ◌&&◌, eqb, ltb, List, [], ◌∷◌, ◌++◌, drop, get_or, add-zero, Some, None, refl, sym, ap, ◌∙◌, arith, inl, inr}
use Rattle.std.proofs.lemmas.Grind.{common_steps}
use Rattle.std.specs.Prelude.{IsTrue, replicate}
use Rattle.std.proofs.lemmas.Bool.{cases_Bool, eqb-true}
use Rattle.std.proofs.lemmas.Bool.Decides.{nat_tests}
use Rattle.std.proofs.lemmas.List.{drop_at, length-replicate, get_or-drop}
use Rattle.org_headings.specs.Text.{stars, begins_with_space, level_of, heading_line}

-- a line is its stars and the rest
pub one-add : (n : ℕ) → 1 + n ≡ suc n
one-add n = omega arith

pub stars-split : (l : List ℕ) → replicate (stars l) 42 ++ drop (stars l) l ≡ l
stars-split [] = refl
stars-split (b ∷ bs) =
    elim (cases_Bool (eqb b 42)) [
      | inl e ↦ let is : b ≡ 42 = eqb-true b 42 e in rw (e, one-add) (ap (λ (bs : List ℕ). 42 ∷ bs) (stars-split bs) ∙ ap (λ n. n ∷ bs) (sym is))
      | inr e ↦ rw e refl
    ]

-- what a line of a level is
pub record IsHeadingOf (l : List ℕ) (n : ℕ) : Type 0 where
  pub level : 0 < n
  pub space : IsTrue (begins_with_space (drop n l))
  pub parts : heading_line n (drop n l) ≡ l

space-drop : (n : ℕ) (l : List ℕ) → begins_with_space (drop n l) ≡ eqb (get_or l n 0) 32
space-drop n l = rw (get_or-drop n l 0 0, add-zero n) refl

level_by : (m n : ℕ) (l : List ℕ) (x y : Bool) → ltb 0 m ≡ x → eqb (get_or l m 0) 32 ≡ y → replicate m 42 ++ drop m l ≡ l → cond (x && y) (Some m) None ≡ Some n → IsHeadingOf l n
level_by m n l true true lt s parts e = grind (arith, common_steps)
level_by m n l true false lt s parts e = absurd cc
level_by m n l false y lt s parts e = absurd cc

pub level_of-some : (l : List ℕ) (n : ℕ) → level_of l ≡ Some n → IsHeadingOf l n
level_of-some l n e = level_by (stars l) n l (ltb 0 (stars l)) (eqb (get_or l (stars l) 0) 32) refl refl (stars-split l) e

stars-space : (r : List ℕ) → IsTrue (begins_with_space r) → stars r ≡ 0
stars-space [] s = refl
stars-space (b ∷ r) s = let is : b ≡ 32 = eqb-true b 32 s in rw is refl

pub stars-heading : (n : ℕ) (r : List ℕ) → IsTrue (begins_with_space r) → stars (heading_line n r) ≡ n
stars-heading zero r s = stars-space r s
stars-heading (suc n) r s = one-add (stars (heading_line n r)) ∙ ap suc (stars-heading n r s)

pub drop-heading : (n : ℕ) (r : List ℕ) → drop n (heading_line n r) ≡ r
drop-heading n r = drop_at (replicate n 42) r n (length-replicate n 42)

pub level_of-heading : (n : ℕ) (r : List ℕ) → 0 < n → IsTrue (begins_with_space r) → level_of (heading_line n r) ≡ Some n
level_of-heading n r lt s = grind (arith, common_steps, heading_line, stars-heading, nat_tests, space-drop, drop-heading)
