-- A change of a state has one outcome.
use Rattle.std.proofs.Common.{arith, ◌≡◌, ℕ, Bool, true, false, Option, Some, None, Ok, Err, List, [], ◌∷◌, sym, ap, subst, ◌∙◌}
use Rattle.std.proofs.lemmas.Grind.{common_steps}
use Rattle.std.specs.Prelude.{Result, MatchBool, MatchResult}
use Rattle.org_stamp.specs.Calendar.{Moment}
use Rattle.org_stamp.specs.Stamp.{StampValue}
use Rattle.org_stamp.specs.Repeat.{IsRepeated}
use Rattle.org_fault.specs.declared.refusal.Refusal.{Refusal}
use Rattle.org_stamp.proofs.OneRepeat.{repeated_one}
use Rattle.org_outline.specs.declared.steps.Step.{Step}
use Rattle.org_outline.specs.States.{Keywords}
use Rattle.org_outline.specs.Tree.{Document}
use Rattle.org_meta.specs.Planning.{PlanningEntry, PlanningLine, is_closed, is_repeating, entry_text, entry_with, behind_text, IsRepeatedEntry, AreRepeated}
use Rattle.org_state.specs.Todo.{Own, Turns, TurnsDone, IsTodoAt, IsTodo, is_done, repeating, changed, heading_to_change}
use Rattle.org_meta.specs.Sections.{split}

-- what an entry becomes by its repeated stamp
ByStamp : PlanningEntry → Result StampValue Refusal → Result (List ℕ) Refusal → Type 0
ByStamp e q r = MatchResult q (λ s. r ≡ Ok (entry_with e s)) (λ why. r ≡ Err why)

by_stamp : (e : PlanningEntry) (q : Result StampValue Refusal) (r s : Result (List ℕ) Refusal) → ByStamp e q r → ByStamp e q s → r ≡ s
unfolding ByStamp
by_stamp e (Ok x) r s a b = a ∙ sym b
by_stamp e (Err fault) r s a b = a ∙ sym b

module _ (e : PlanningEntry) (now : Moment) where
  ByTests : Bool → Bool → Result (List ℕ) Refusal → Type 0
  ByTests closed again r =
      MatchBool closed (r ≡ Ok [])
      (MatchBool again ((q : Result StampValue Refusal) × IsRepeated e.stamp now q × ByStamp e q r) (r ≡ Ok (entry_text e)))

  by_tests : (closed again : Bool) (r s : Result (List ℕ) Refusal) → ByTests closed again r → ByTests closed again s → r ≡ s
  unfolding ByTests
  by_tests true again r s a b = a ∙ sym b
  by_tests false false r s a b = a ∙ sym b
  by_tests false true r s a b = grind (arith, common_steps, repeated_one, by_stamp)

  one_entry : (r s : Result (List ℕ) Refusal) → IsRepeatedEntry e now r → IsRepeatedEntry e now s → r ≡ s
  unfolding ByTests ByStamp
  one_entry r s a b = by_tests (is_closed e) (is_repeating e) r s a b

-- what all become, the first of them known
Behind : List PlanningEntry → Moment → Result (List ℕ) Refusal → Result (List ℕ) Refusal → Type 0
Behind es now first r = MatchResult first (λ text. (more : Result (List ℕ) Refusal) × AreRepeated es now more × (r ≡ behind_text text more)) (λ fault. r ≡ Err fault)

mutual_text : (es : List PlanningEntry) (now : Moment) (first r s : Result (List ℕ) Refusal)
    → ((x y : Result (List ℕ) Refusal) → AreRepeated es now x → AreRepeated es now y → x ≡ y) → Behind es now first r → Behind es now first s → r ≡ s
unfolding Behind
mutual_text es now (Ok text) r s same a b = a.2 ∙ ap (behind_text text) (same a.0 b.0 a.1 b.1) ∙ sym b.2
mutual_text es now (Err fault) r s same a b = a ∙ sym b

pub one_text : (es : List PlanningEntry) (now : Moment) (r s : Result (List ℕ) Refusal) → AreRepeated es now r → AreRepeated es now s → r ≡ s
unfolding Behind
one_text [] now r s a b = a ∙ sym b
one_text (e ∷ es) now r s a b =
    let same : b.0 ≡ a.0 = one_entry e now b.0 a.0 b.1 a.1 in
    mutual_text es now a.0 r s (one_text es now) a.2 (subst (λ (first : Result (List ℕ) Refusal). Behind es now first s) same b.2)

module _ (states : Keywords) (state : List ℕ) (now : Moment) where
  one_done : (own : Own) (o : Option PlanningLine) (r s : Result Own Refusal) → TurnsDone states state now own o r → TurnsDone states state now own o s → r ≡ s
  one_done own None r s a b = a ∙ sym b
  one_done own (Some p) r s a b = grind (arith, common_steps, one_text, changed, split)

  one_turn : (was is : Bool) (own : Own) (r s : Result Own Refusal) → Turns was is states state now own r → Turns was is states state now own s → r ≡ s
  one_turn true true own r s a b = a ∙ sym b
  one_turn false false own r s a b = a ∙ sym b
  one_turn true false own r s a b = a ∙ sym b
  one_turn false true own r s a b = one_done own (repeating (split own.section).planning) r s a b

  one_at : (d : Document) (at : Result (Option ℕ) Refusal) (r s : Result (Option Document) Refusal) → IsTodoAt states state now d at r → IsTodoAt states state now d at s → r ≡ s
  one_at d (Err fault) r s a b = a ∙ sym b
  one_at d (Ok None) r s a b = a ∙ sym b
  one_at d (Ok (Some i)) r s a b = grind (arith, common_steps, one_turn, is_done)

pub one_outcome : (states : Keywords) (path : List Step) (state : List ℕ) (now : Moment) (d : Document) (r q : Result (Option Document) Refusal)
    → IsTodo states path state now d r → IsTodo states path state now d q → r ≡ q
one_outcome states path state now d r q a b = one_at states state now d (heading_to_change states path state d) r q a b
