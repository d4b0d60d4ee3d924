-- The definitions on worked examples.
use Rattle.std.proofs.Common.{◌≡◌, true, false, None, Some, [], ◌∷◌, codes, refl}
use Rattle.org_stamp.specs.declared.kind.Unit.TheVariants.{Week}
use Rattle.org_stamp.specs.declared.kind.Mark.TheVariants.{Restart}
use Rattle.org_stamp.specs.declared.kind.Kind.TheVariants.{Repeat, Delay}
use Rattle.org_stamp.specs.Calendar.{civil_day, months_after, next_day}
use Rattle.org_stamp.specs.Parts.{kind_of, date_of, clock_of}
use Rattle.org_stamp.specs.Stamp.{date_text, clock_text}
use Rattle.org_stamp.specs.Front.{stamp_at}

plain : stamp_at (codes "<2026-07-01 Wed>x") ≡ Some (record { active = true; day = civil_day 2026 7 1; time = None; cookies = [] }, 16)
plain = refl

timed : stamp_at (codes "[2026-07-01 9:05-10:00 mer.]") ≡ Some (record { active = false; day = civil_day 2026 7 1; time = Some (record { start = 545; end = Some 600 }); cookies = [] }, 28)
timed = refl

-- cookies keep their bytes and their order
cookies : stamp_at (codes "<2026-07-01 --3d .+2w/3w>") ≡ Some (record { active = true; day = civil_day 2026 7 1; time = None; cookies = record { run = codes "--3d"; kind = Delay } ∷ record { run = codes ".+2w/3w"; kind = Repeat (record { mark = Restart; interval = record { value = 2; unit = Week } }) } ∷ [] }, 25)
cookies = refl

no_blank : stamp_at (codes "<2026-07-01Wed>") ≡ None
no_blank = refl

trailing_blank : stamp_at (codes "<2026-07-01 >") ≡ None
trailing_blank = refl

other_bracket : stamp_at (codes "<2026-07-01]") ≡ None
other_bracket = refl

two_times : stamp_at (codes "<2026-07-01 10:00 11:00>") ≡ None
two_times = refl

two_repeaters : stamp_at (codes "<2026-07-01 +1d +2d>") ≡ None
two_repeaters = refl

midnight : clock_of (codes "24:00") ≡ None
midnight = refl

five_digits : kind_of (codes "+12345d") ≡ None
five_digits = refl

no_leap_day : date_of (codes "2100-02-29") ≡ None
no_leap_day = refl

no_year : date_of (codes "0000-01-01") ≡ None
no_year = refl

next_month : months_after (civil_day 2026 1 31) 3 ≡ civil_day 2026 4 30
next_month = refl

next_year : next_day (civil_day 2023 12 31) ≡ civil_day 2024 1 1
next_year = refl

leap_day : next_day (civil_day 2024 2 28) ≡ civil_day 2024 2 29
leap_day = refl

printed : date_text (civil_day 2005 11 1) ≡ codes "2005-11-01"
printed = refl

clock_printed : clock_text 545 ≡ codes "09:05"
clock_printed = refl
