-- A text stands in another one exactly where a search finds it.
use Rattle.std.proofs.Common.{◌≡◌, ℕ, zero, suc, ◌+◌, ◌<◌, ◌≤◌, Bool, true, false, ◌||◌, nat_eq, List, [], ◌∷◌, length, take, drop, Option, Some, None, is_some, refl, sym, ap, ◌∙◌, arith, inl, inr}
use Rattle.std.specs.List.{starts_with}
use Rattle.std.proofs.lemmas.Bool.{cases_Bool, eq-eqb, eqb-true, false≢true}
use Rattle.std.proofs.lemmas.List.{length-take}
use Rattle.std.proofs.lemmas.Slice.Eq.{bytes_eq-Decides}
use Rattle.memchr.specs.Find.{FindsNeedle, OccursAt}
use Rattle.memchr.proofs.lemmas.MatchLemmas.{OccursAt-from_part, OccursAt-part}
use Rattle.orgs_folding.specs.Folding.{contains}

-- the part stands here
record Stands (text part : List ℕ) (at : ℕ) : Type 0 where
  within : at + length part ≤ length text
  is : take (length part) (drop at text) ≡ part

or_so : (a b : Bool) → b ≡ true → (a || b) ≡ true
or_so true b e = refl
or_so false b e = e

there : (text part : List ℕ) (at : ℕ) → Stands text part at → contains text part ≡ true
there [] part zero s = eq-eqb (length part) 0 (omega (arith, s.within))
there [] part (suc at) s = absurd (omega (arith, s.within))
there (b ∷ text) part zero s =
    let begins : starts_with nat_eq (b ∷ text) part ≡ true = (bytes_eq-Decides part (take (length part) (b ∷ text))).1 (sym s.is) in
    ap (λ (t : Bool). t || contains text part) begins
there (b ∷ text) part (suc at) s =
    or_so (starts_with nat_eq (b ∷ text) part) (contains text part) (there text part at (record { within = omega (arith, s.within); is = s.is }))

somewhere : (text part : List ℕ) → contains text part ≡ true → (at : ℕ) × Stands text part at
somewhere [] [] e = (0, record { within = omega arith; is = refl })
somewhere [] (x ∷ xs) e = let none : suc (length xs) ≡ 0 = eqb-true (suc (length xs)) 0 e in absurd (omega (arith, none))
somewhere (b ∷ text) part e =
    elim (cases_Bool (starts_with nat_eq (b ∷ text) part)) [
      | inl is_so ↦
          let same : part ≡ take (length part) (b ∷ text) = (bytes_eq-Decides part (take (length part) (b ∷ text))).0 is_so in
          (0, record { within = omega (arith, ap length same, length-take (length part) (b ∷ text)); is = sym same })
      | inr isnt ↦
          let later : contains text part ≡ true = ap (λ (t : Bool). t || contains text part) (sym isnt) ∙ e in
          let found = somewhere text part later in
          (suc found.0, record { within = omega (arith, found.1.within); is = found.1.is })
    ]

-- what a search says
pub is_found : (text part : List ℕ) (r : Option ℕ) → FindsNeedle text part 0 r → is_some r ≡ contains text part
is_found text part None nowhere =
    elim (cases_Bool (contains text part)) [
      | inl is_so ↦
          let found = somewhere text part is_so in
          let occurs : OccursAt text part found.0 = OccursAt-from_part text part found.0 found.1.within found.1.is in
          absurd (nowhere found.0 (omega arith) (omega (arith, found.1.within)) occurs)
      | inr isnt ↦ sym isnt
    ]
is_found text part (Some at) found =
    sym (there text part at (record { within = found.1.fits; is = OccursAt-part text part at found.1 }))
