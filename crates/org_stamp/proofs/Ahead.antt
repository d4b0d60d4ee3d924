-- When a moved timestamp starts after now.
use Rattle.std.proofs.Common.{◌≡◌, ℕ, ◌<◌, ◌≤◌, inl, inr, nat_lt, Bool, true, false, Option, None, Some, List, ℤ, pos, ◌+ℤ◌, ◌*ℤ◌, ◌<ℤ◌, ◌≤ℤ◌, refl, sym, ap, ◌∙◌, subst, arith}
use Rattle.std.proofs.lemmas.Grind.{common_steps}
use Rattle.std.proofs.lemmas.Bool.{cases_lt}
use Rattle.std.proofs.lemmas.Bool.Decides.{nat_tests}
use Rattle.jiff_core.proofs.SignedLemmas.{signed_arith}
use Rattle.org_stamp.specs.declared.kind.Times.{Times}
use Rattle.org_stamp.specs.declared.kind.Base.{Base}
use Rattle.org_stamp.specs.declared.kind.Base.TheVariants.{Minutes}
use Rattle.org_stamp.specs.Calendar.{CivilDay, Moment, IsDay, day_number, minutes_of}
use Rattle.org_stamp.specs.Stamp.{StampValue, Part, IsTime, start_of}
use Rattle.org_stamp.specs.Repeat.{IsLater, at_total, moved, target_of}
use Rattle.org_stamp.proofs.Later.{after_number, civil_of}

early_target : (t : Times) (now : Moment) → now.minute < t.start → target_of (Some t) now ≡ day_number now.day
early_target t now h = let test : nat_lt now.minute t.start ≡ true = grind (arith, nat_tests) in rw test refl

late_target : (t : Times) (now : Moment) → t.start ≤ now.minute → target_of (Some t) now ≡ day_number now.day +ℤ pos 1
late_target t now h = let test : nat_lt now.minute t.start ≡ false = grind (arith, nat_tests) in rw test refl

-- it starts after now on the target's day and later
pub later_day : (active : Bool) (time : Option Times) (cookies : List Part) (d : CivilDay) (now : Moment) → IsTime time → now.minute < 1440 → target_of time now ≤ℤ day_number d → IsLater (record { active = active; day = d; time = time; cookies = cookies }) now
later_day a None cs d now w m h = omega (arith, signed_arith)
later_day a (Some t) cs d now w m h =
    elim (cases_lt now.minute t.start) [
      | inl lt ↦ let is = early_target t now lt in omega (arith, signed_arith, is, h, w.0)
      | inr le ↦ let is = late_target t now le in omega (arith, signed_arith, is, h, w.0)
    ]

-- and not before
pub not_later_day : (active : Bool) (time : Option Times) (cookies : List Part) (d : CivilDay) (now : Moment) → IsTime time → now.minute < 1440 → day_number d <ℤ target_of time now → IsLater (record { active = active; day = d; time = time; cookies = cookies }) now → ⊥
not_later_day a None cs d now w m h later = omega (arith, signed_arith)
not_later_day a (Some t) cs d now w m h later =
    elim (cases_lt now.minute t.start) [
      | inl lt ↦ let is = early_target t now lt in omega (arith, signed_arith, is, h, w.0, later)
      | inr le ↦ let is = late_target t now le in omega (arith, signed_arith, is, h, w.0, later)
    ]

pub total_minutes : (s : StampValue) (total : ℕ) → IsDay s.day → minutes_of (start_of (at_total s s.day total)) ≡ day_number s.day *ℤ pos 1440 +ℤ pos total
total_minutes s total h = grind (arith, common_steps, after_number, civil_of)

-- minutes count from the start
pub minutes_moved : (s : StampValue) (n : ℕ) → IsDay s.day → minutes_of (start_of (moved s Minutes n)) ≡ minutes_of (start_of s) +ℤ pos n
minutes_moved s n h = grind (arith, common_steps, total_minutes)

pub later_in : (s : StampValue) (base is : Base) (n : ℕ) (now : Moment) → base ≡ is → IsLater (moved s is n) now → IsLater (moved s base n) now
later_in s base is n now e h = subst (λ (x : Base). IsLater (moved s x n) now) (sym e) h

-- by the day on which it stands, that many base units after its own
module _ (s : StampValue) (base is : Base) (go : CivilDay → ℕ → CivilDay) (now : Moment) (day : CivilDay) (t : ℤ) (e : base ≡ is) (goes : (n : ℕ) → record s { day = go s.day n } ≡ moved s is n) (from : s.day ≡ day) (time : IsTime s.time) (minute : now.minute < 1440) (target : t ≡ target_of s.time now) where
  there : (n : ℕ) → record s { day = go day n } ≡ moved s base n
  there n = ap (λ d. record s { day = go d n }) (sym from) ∙ goes n ∙ ap (λ x. moved s x n) (sym e)

  pub later_there : (n : ℕ) → t ≤ℤ day_number (go day n) → IsLater (moved s base n) now
  later_there n h =
      subst (λ (x : StampValue). IsLater x now) (there n) (later_day s.active s.time s.cookies (go day n) now time minute (subst (λ (z : ℤ). z ≤ℤ day_number (go day n)) target h))

  pub not_later_there : (n : ℕ) → day_number (go day n) <ℤ t → IsLater (moved s base n) now → ⊥
  not_later_there n h later =
      not_later_day s.active s.time s.cookies (go day n) now time minute (subst (λ (z : ℤ). day_number (go day n) <ℤ z) target h) (subst (λ (x : StampValue). IsLater x now) (sym (there n)) later)
