-- The next repetition, computed.
use Rattle.std.proofs.Common.{rules, ◌≡◌, ℕ, zero, suc, ◌+◌, ◌*◌, ◌<◌, ◌≤◌, Bool, true, false, not, inl, inr, Option, None, Some, ℤ, pos, neg_ℤ, ◌<ℤ◌, ◌≤ℤ◌, refl, sym, ap, ◌∙◌, if◌then◌else◌, arith, mul-le-mul_left}
use Rattle.std.proofs.lemmas.Grind.{common_steps}
use Rattle.std.specs.Prelude.{MatchBool, Result, int_lt}
use Rattle.std.proofs.lemmas.Bool.{cases_lt}
use Rattle.std.proofs.lemmas.Bool.Decides.{nat_tests}
use Rattle.jiff_core.proofs.SignedLemmas.{signed_arith}
use Rattle.org_stamp.specs.declared.kind.Times.{Times}
use Rattle.org_stamp.specs.declared.kind.Unit.{Unit}
use Rattle.org_stamp.specs.declared.kind.Unit.TheVariants.{Hour, Day, Week, Month, Year}
use Rattle.org_stamp.specs.declared.kind.Base.TheVariants.{Minutes}
use Rattle.org_stamp.specs.declared.kind.Mark.{Mark}
use Rattle.org_stamp.specs.declared.kind.Mark.TheVariants.{Cumulate, CatchUp, Restart}
use Rattle.org_stamp.specs.declared.kind.Interval.{Interval}
use Rattle.org_stamp.specs.declared.kind.Repeater.{Repeater}
use Rattle.org_fault.specs.declared.refusal.Refusal.{Refusal}
use Rattle.org_stamp.specs.Calendar.{CivilDay, Moment, IsDay, day_number, minutes_of, days_after, months_after}
use Rattle.org_stamp.specs.Stamp.{StampValue, IsStamp, first_repeater, start_of}
use Rattle.org_stamp.specs.Repeat.{in_base, shifted, moved, in_range, IsLater, IsLaterBy, is_later, is_later_by, first_from, most_times, target_of, RepeatsBy, RepeatsAs, IsNext, repeated_by, repeated_as, repeated}
use Rattle.org_stamp.proofs.Later.{after_number, civil_of, last_number, reach, IsTarget}
use Rattle.org_stamp.proofs.Ahead.{minutes_moved, later_day}

-- the first number of which f is true
first_is : (f : ℕ → Bool) (n k m : ℕ) → k ≤ m → m ≤ k + n → f m ≡ true → ((j : ℕ) → k ≤ j → j < m → f j ≡ false) → first_from f n k ≡ m
unfolding first_from
first_is f zero k m low high will least = omega arith
first_is f (suc n) k m low high will least =
    elim (cases_lt k m) [
      | inl lt ↦
          let no = least k (omega arith) lt in
          rw no (first_is f n (k + 1) m (omega arith) (omega arith) will (λ j from to. least j (omega arith) to))
      | inr le ↦
          let same : k ≡ m = omega arith in
          let yes = ap f same ∙ will in
          rw yes same
    ]

int_tested : (a b : ℤ) → a <ℤ b → int_lt a b ≡ true
int_tested a b lt = grind (arith, signed_arith)

int_failed : (a b : ℤ) → (a <ℤ b → ⊥) → int_lt a b ≡ false
int_failed a b not = grind (arith, signed_arith)

later_test : (t : Option Times) (s : StampValue) (now : Moment) → IsLaterBy t s now → is_later_by t s now ≡ true
later_test None s now later = int_tested (day_number now.day) (day_number s.day) later
later_test (Some t) s now later = int_tested (minutes_of now) (minutes_of (start_of s)) later

not_later_test : (t : Option Times) (s : StampValue) (now : Moment) → (IsLaterBy t s now → ⊥) → is_later_by t s now ≡ false
not_later_test None s now not = int_failed (day_number now.day) (day_number s.day) not
not_later_test (Some t) s now not = int_failed (minutes_of now) (minutes_of (start_of s)) not

-- ---- how many times are tried

times_over : (j v : ℕ) → 1 ≤ v → j ≤ j * v
times_over j v some = omega (arith, mul-le-mul_left j some)

target_is : (t : Option Times) (now : Moment) → IsTarget (target_of t now) now.day
target_is None now = inr refl
target_is (Some t) now = grind (arith, common_steps)

module _ (s : StampValue) (now : Moment) (valid : IsStamp s) (today : IsDay now.day) (minute : now.minute < 1440) where
  -- a day so far ahead is later
  far_day : (d : CivilDay) → target_of s.time now ≤ℤ day_number d → IsLater (record s { day = d }) now
  far_day d past = later_day s.active s.time s.cookies d now valid.behind.time minute past

  numbers : (neg_ℤ (pos 4_371_587) ≤ℤ day_number s.day) × (day_number now.day ≤ℤ pos 2_932_896)
  numbers = ((last_number s.day (civil_of s.day valid.day) valid.day.0.1).0, (last_number now.day (civil_of now.day today) today.0.1).1)

  far_days : (n : ℕ) → most_times < n → IsLater (record s { day = days_after s.day n }) now
  far_days n far =
      let number = after_number s.day n (civil_of s.day valid.day) in
      far_day (days_after s.day n) (elim (target_is s.time now) [
        | inl same ↦ omega (arith, signed_arith, number, same, numbers, far)
        | inr same ↦ omega (arith, signed_arith, number, same, numbers, far)
      ])

  far_months : (n : ℕ) → most_times < n → IsLater (record s { day = months_after s.day n }) now
  far_months n far = search (rules, arith, far_day, reach, target_of, target_is)

  far_minutes : (n : ℕ) → 60 * most_times < n → IsLater (moved s Minutes n) now
  far_minutes n far = omega (arith, signed_arith, minutes_moved s n valid.day, numbers, far, minute)

  far : (u : Unit) (j v : ℕ) → most_times < j → 1 ≤ v → let step = in_base u v in IsLater (moved s step.0 (j * step.1)) now
  far Hour j v past some = far_minutes (j * (60 * v)) (omega (arith, past, times_over j v some))
  far Day j v past some = far_days (j * v) (omega (arith, past, times_over j v some))
  far Week j v past some = far_days (j * (7 * v)) (omega (arith, past, times_over j v some))
  far Month j v past some = far_months (j * v) (omega (arith, past, times_over j v some))
  far Year j v past some = far_months (j * (12 * v)) (omega (arith, past, times_over j v some))

  bounded : (i : Interval) (k : ℕ) → 1 ≤ i.value → ((j : ℕ) → 1 ≤ j → j < k → ¬ (IsLater (shifted s i j) now)) → k ≤ 1 + most_times
  bounded i k some least =
      elim (cases_lt (1 + most_times) k) [
        | inl much ↦ absurd (least (1 + most_times) (omega arith) much (far i.unit (1 + most_times) i.value (omega arith) some))
        | inr few ↦ few
      ]

  by_computed : (m : Mark) (i : Interval) (r : Result StampValue Refusal) → 1 ≤ i.value → RepeatsBy m i s now r → repeated_by m i s now ≡ r
  by_computed Cumulate i r some a = sym a
  by_computed Restart i r some a = sym a
  by_computed CatchUp i r some (k, from, later, least, is) =
      let test : (n : ℕ) → Bool = λ n. is_later (shifted s i n) now in
      let first : first_from test most_times 1 ≡ k =
      first_is test most_times 1 k from (bounded i k some least) (later_test (shifted s i k).time (shifted s i k) now later)
      (λ j low high. not_later_test (shifted s i j).time (shifted s i j) now (least j low high)) in
      ap (λ n. in_range (shifted s i n)) first ∙ sym is

  matched : {X : Type 0} (t : Bool) (a b x : X) (B : Type 0) → (t ≡ false → B → b ≡ x) → MatchBool t (x ≡ a) B → if t then a else b ≡ x
  matched true a b x B other is = sym is
  matched false a b x B other is = other refl is

  as_computed : (o : Option Repeater) (r : Result StampValue Refusal) → RepeatsAs o s now r → repeated_as o s now ≡ r
  as_computed None r is = sym is
  as_computed (Some p) r is = grind (arith, common_steps, matched, by_computed, nat_tests)

pub repeats_computed : (s : StampValue) (now : Moment) (r : Result StampValue Refusal) → IsStamp s → IsDay now.day → now.minute < 1440 → IsNext s now r → repeated s now ≡ r
repeats_computed s now r valid today minute is = as_computed s now valid today minute (first_repeater s.cookies) r is
