-- The first day on which a timestamp starts after now, by whether its time is still to come.
use Rattle.std.proofs.Common.{◌≡◌, ℕ, ◌<◌, ◌≤◌, true, false, Option, Some, pos, ◌+ℤ◌, nat_lt, if◌then◌else◌, ap, ◌∙◌, arith, None}
use Rattle.std.proofs.lemmas.Bool.Decides.{nat_tests}
use Rattle.org_stamp.specs.Calendar.{Moment, day_number}
use Rattle.org_stamp.specs.declared.kind.Times.{Times}
use Rattle.org_stamp.specs.Repeat.{target_of}

lt_is : (a b : ℕ) → a < b → nat_lt a b ≡ true
lt_is a b h = grind (arith, nat_tests)

lt_is_not : (a b : ℕ) → b ≤ a → nat_lt a b ≡ false
lt_is_not a b h = grind (arith, nat_tests)

pub to_come : (time : Option Times) (t : Times) (now : Moment) → time ≡ Some t → now.minute < t.start → target_of time now ≡ day_number now.day
to_come time t now is h =
    ap (λ o. target_of o now) is ∙ ap (λ b. if b then day_number now.day else (day_number now.day +ℤ pos 1)) (lt_is now.minute t.start h)

pub past : (time : Option Times) (t : Times) (now : Moment) → time ≡ Some t → t.start ≤ now.minute → target_of time now ≡ day_number now.day +ℤ pos 1
past time t now is h =
    ap (λ o. target_of o now) is ∙ ap (λ b. if b then day_number now.day else (day_number now.day +ℤ pos 1)) (lt_is_not now.minute t.start h)

pub timeless : (time : Option Times) (now : Moment) → time ≡ None → target_of time now ≡ day_number now.day +ℤ pos 1
timeless time now is = ap (λ o. target_of o now) is
