-- The next repetition of a planning line's entries, computed.
use Rattle.std.proofs.Common.{◌≡◌, ℕ, true, false, Bool, Result, Ok, Err, List, [], ◌∷◌, if◌then◌else◌, refl, sym, ap, ◌∙◌}
use Rattle.std.specs.Prelude.{MatchBool, MatchResult}
use Rattle.std.specs.Result.{result_map_both}
use Rattle.org_stamp.specs.Calendar.{Moment}
use Rattle.org_stamp.specs.Stamp.{StampValue}
use Rattle.org_stamp.specs.Repeat.{IsRepeated, repeated}
use Rattle.org_fault.specs.declared.refusal.Refusal.{Refusal}
use Rattle.org_meta.specs.Planning.{PlanningEntry, is_closed, is_repeating, entry_text, entry_with, behind_text, IsRepeatedEntry, AreRepeated, repeated_entry, behind_first, repeated_entries}

module _ (now : Moment) where
  matched : {X : Type 0} (t : Bool) (a b x : X) (B : Type 0) → (B → b ≡ x) → MatchBool t (x ≡ a) B → if t then a else b ≡ x
  matched true a b x B other is = sym is
  matched false a b x B other is = other is

  matched_first : {X : Type 0} (t : Bool) (a b x : X) (A : Type 0) → (A → a ≡ x) → MatchBool t A (x ≡ b) → if t then a else b ≡ x
  matched_first true a b x A one is = one is
  matched_first false a b x A one is = sym is

  reported : (e : PlanningEntry) (r : Result (List ℕ) Refusal) (q : Result StampValue Refusal) → repeated e.stamp now ≡ q
      → MatchResult q (λ s. r ≡ Ok (entry_with e s)) (λ why. r ≡ Err why) → result_map_both (entry_with e) (λ why. why) (repeated e.stamp now) ≡ r
  reported e r (Ok s) same is = ap (result_map_both (entry_with e) (λ (why : Refusal). why)) same ∙ sym is
  reported e r (Err fault) same is = ap (result_map_both (entry_with e) (λ (why : Refusal). why)) same ∙ sym is

  entry_computed : (e : PlanningEntry) (r : Result (List ℕ) Refusal) → IsRepeatedEntry e now r → repeated_entry now e ≡ r
  entry_computed e r is =
      let made = result_map_both (entry_with e) (λ why. why) (repeated e.stamp now) in
      let Reported : Type 0 = (q : Result StampValue Refusal) × IsRepeated e.stamp now q × MatchResult q (λ s. r ≡ Ok (entry_with e s)) (λ why. r ≡ Err why) in
      matched (is_closed e) (Ok []) (if is_repeating e then made else Ok (entry_text e)) r (MatchBool (is_repeating e) Reported (r ≡ Ok (entry_text e)))
      (λ rest. matched_first (is_repeating e) made (Ok (entry_text e)) r Reported (λ (q, repeats, is). reported e r q (sym repeats) is) rest) is

  all_reported : (e : PlanningEntry) (es : List PlanningEntry) (r : Result (List ℕ) Refusal) (first : Result (List ℕ) Refusal) → repeated_entry now e ≡ first
      → ((more : Result (List ℕ) Refusal) → AreRepeated es now more → repeated_entries now es ≡ more)
      → MatchResult first (λ text. (more : Result (List ℕ) Refusal) × AreRepeated es now more × (r ≡ behind_text text more)) (λ fault. r ≡ Err fault) → repeated_entries now (e ∷ es) ≡ r
  all_reported e es r (Ok text) same computed (more, are, is) = ap (λ (f : Result (List ℕ) Refusal). behind_first f (repeated_entries now es)) same ∙ ap (behind_text text) (computed more are) ∙ sym is
  all_reported e es r (Err fault) same computed is = ap (λ (f : Result (List ℕ) Refusal). behind_first f (repeated_entries now es)) same ∙ sym is

  pub entries_computed : (es : List PlanningEntry) (r : Result (List ℕ) Refusal) → AreRepeated es now r → repeated_entries now es ≡ r
  entries_computed [] r is = sym is
  entries_computed (e ∷ es) r (first, one, rest) =
      all_reported e es r first (entry_computed e first one) (λ more are. entries_computed es more are) rest

  -- the text of an entry, by whether it is CLOSED and whether it repeats
  abbrev made : PlanningEntry → Bool → Bool → Result (List ℕ) Refusal
  made e a b = if a then Ok [] else (if b then result_map_both (entry_with e) (λ why. why) (repeated e.stamp now) else Ok (entry_text e))

  -- what is computed is what is defined
  entry_repeats : (e : PlanningEntry) → IsRepeatedEntry e now (repeated_entry now e)
  entry_repeats e = by_tests (is_closed e) (is_repeating e)
    where
      by_stamp : (q : Result StampValue Refusal)
          → MatchResult q (λ s. result_map_both (entry_with e) (λ why. why) q ≡ Ok (entry_with e s)) (λ fault. result_map_both (entry_with e) (λ why. why) q ≡ Err fault)
      by_stamp (Ok s) = refl
      by_stamp (Err fault) = refl

      by_tests : (a b : Bool) → MatchBool a (made e a b ≡ Ok [])
          (MatchBool b
          ((q : Result StampValue Refusal) × IsRepeated e.stamp now q × MatchResult q (λ s. made e a b ≡ Ok (entry_with e s)) (λ why. made e a b ≡ Err why))
          (made e a b ≡ Ok (entry_text e)))
      by_tests true b = refl
      by_tests false true = (repeated e.stamp now, refl, by_stamp (repeated e.stamp now))
      by_tests false false = refl

  first_repeats : (es : List PlanningEntry) (first more : Result (List ℕ) Refusal) → AreRepeated es now more
      → MatchResult first (λ text. (q : Result (List ℕ) Refusal) × AreRepeated es now q × (behind_first first more ≡ behind_text text q)) (λ fault. behind_first first more ≡ Err fault)
  first_repeats es (Ok text) more are = (more, are, refl)
  first_repeats es (Err fault) more are = refl

  pub entries_repeat : (es : List PlanningEntry) → AreRepeated es now (repeated_entries now es)
  entries_repeat [] = refl
  entries_repeat (e ∷ es) = (repeated_entry now e, entry_repeats e, first_repeats es (repeated_entry now e) (repeated_entries now es) (entries_repeat es))
