-- The two places of a heading line, found in a text that begins with what stands after its stars.
use Rattle.std.proofs.Common.{◌≡◌, ℕ, Bool, true, false, eqb, List, [], ◌∷◌, drop, refl, sym, ap, ◌∙◌, arith, inl, inr}
use Rattle.std.proofs.lemmas.Grind.{common_steps}
use Rattle.std.specs.Prelude.{◌≢◌, if◌then◌else◌, ◌||◌, ◌&&◌}
use Rattle.std.specs.List.{prefix_len}
use Rattle.std.proofs.lemmas.Bool.{cases_Bool, eqb-true}
use Rattle.std.proofs.lemmas.Bool.Decides.{nat_tests}
use Rattle.org_splice.specs.Blanks.{is_blank, is_trailing, is_solid, behind}
use Rattle.org_splice.specs.Lines.{IsLine}
use Rattle.org_headings.specs.declared.beginnings.Beginning.{Beginning}
use Rattle.org_headings.specs.Beginnings.{first_place, second_place, beginning_of, beginnings_of, is_of_word, hash_from, with_byte}
use Rattle.org_headings.specs.Text.{line_at}
use Rattle.org_headings.proofs.HeadsFrom.{line_at-more}
use Rattle.org_splice.proofs.AllLines.{AllByRecursion-drop}

behind-yes : (p : ℕ → Bool) (b : ℕ) (l : List ℕ) → p b ≡ true → behind p (b ∷ l) ≡ behind p l
behind-yes p b l passes = grind (arith, common_steps)

behind-no : (p : ℕ → Bool) (b : ℕ) (l : List ℕ) → p b ≡ false → behind p (b ∷ l) ≡ b ∷ l
behind-no p b l stops = rw stops refl

-- bytes that no newline is among are left out of the text as of its line
line_behind : (p : ℕ → Bool) → p 10 ≡ false → (t : List ℕ) → line_at (behind p t) ≡ behind p (line_at t)
line_behind p stops [] = refl
line_behind p stops (b ∷ t) = grind (arith, common_steps, cases_Bool, eqb-true, line_at, behind-no, behind-yes, behind, line_at-more, line_behind p stops t)

line_at-is : (t : List ℕ) → IsLine (line_at t)
line_at-is [] = tt
line_at-is (b ∷ t) = grind (arith, common_steps, cases_Bool, nat_tests, line_at-more, line_at-is t)

-- within a line a word is all that is solid
same_word : (l : List ℕ) → IsLine l → behind is_of_word l ≡ behind is_solid l
same_word [] p = refl
same_word (b ∷ l) p =
    let ne : b ≢ 10 = p.0 in
    let other : eqb b 10 ≡ false = grind (arith, nat_tests) in
    elim (cases_Bool (is_blank b)) [
      | inl e ↦ behind-no is_of_word b l (rw e refl) ∙ sym (behind-no is_solid b l (rw e refl))
      | inr e ↦ behind-yes is_of_word b l (rw (e, other) refl) ∙ same_word l p.1 ∙ sym (behind-yes is_solid b l (rw e refl))
    ]

second_in : (t : List ℕ) → line_at (behind is_blank (behind is_of_word (behind is_blank t))) ≡ second_place (line_at t)
second_in t = grind (arith, common_steps, line_at, line_behind, behind, same_word, AllByRecursion-drop, line_at-is)

-- a title is read to the end of its line alone
hash_in : (hash : ℕ) (apart : Bool) (t : List ℕ) → hash_from hash apart (line_at t) ≡ hash_from hash apart t
hash_in hash apart [] = refl
hash_in hash apart (b ∷ t) =
    elim (cases_Bool (eqb b 10)) [
      | inl e ↦ rw e refl
      | inr e ↦ ap (hash_from hash apart) (line_at-more b t e) ∙ rw e (ap (λ k. if apart && eqb b 58 then hash else k) (hash_in (if is_trailing b then hash else with_byte hash b) (is_trailing b) t))
    ]

beginning_in : (t : List ℕ) → beginning_of (line_at t) ≡ beginning_of t
beginning_in [] = refl
beginning_in (b ∷ t) = grind (arith, common_steps, cases_Bool, eqb-true, line_at-more, hash_in)

-- the same as the code says it
pub beginnings_found : (tail place word behind_word : List ℕ) (n : ℕ) (first second : Beginning) → place ≡ behind is_blank tail → n ≡ prefix_len is_of_word place → word ≡ drop n place
    → behind_word ≡ behind is_blank word → first ≡ beginning_of place → second ≡ beginning_of behind_word
    → record { first = first; second = second } ≡ beginnings_of (line_at tail)
beginnings_found tail place word behind_word n first second pe ne we be fe se =
    let first_is : first ≡ beginning_of (first_place (line_at tail)) =
    fe ∙ sym (beginning_in place) ∙ ap (λ (t : List ℕ). beginning_of (line_at t)) pe ∙ ap beginning_of (line_behind is_blank refl tail) in
    let word_is : word ≡ behind is_of_word (behind is_blank tail) = we ∙ ap (λ (k : ℕ). drop k place) ne ∙ ap (behind is_of_word) pe in
    let second_is : second ≡ beginning_of (second_place (line_at tail)) =
    se ∙ sym (beginning_in behind_word) ∙ ap (λ (t : List ℕ). beginning_of (line_at t)) (be ∙ ap (behind is_blank) word_is) ∙ ap beginning_of (second_in tail) in
    λ i. record { first = first_is i; second = second_is i }
