-- How a moment is written into sections.
use Rattle.std.specs.Prelude.{ℕ, true, false, List}
use Rattle.org_stamp.specs.Calendar.{Moment}
use Rattle.org_stamp.specs.Stamp.{stamp_of, stamp_text}

-- the moment as an inactive timestamp with its time, as `[2026-07-01 Wed 10:00]`
abbrev pub moment_text : Moment → List ℕ
moment_text now = stamp_text (stamp_of now false true)
