-- The note of a repetition (Org manual, "Repeated tasks", "Tracking TODO state changes").
use Rattle.std.specs.Prelude.{ℕ, ◌-◌, List, ◌∷◌, ◌++◌, codes, length, replicate}
use Rattle.org_stamp.specs.Calendar.{Moment}
use Rattle.org_meta.specs.Moments.{moment_text}
use Rattle.org_meta.specs.Sections.{SectionParts}

-- a state in quotes, in 12 columns at least
abbrev pub quoted : List ℕ → List ℕ
quoted state = 34 ∷ (state ++ (34 ∷ replicate (10 - length state) 32))

-- `- State "DONE"       from "TODO"       [stamp]`
abbrev pub note_line : List ℕ → List ℕ → Moment → List ℕ
note_line new old now =
    codes "- State " ++ (quoted new ++ (codes " from " ++ (quoted old ++ (32 ∷ moment_text now))))

-- a line before the rest
abbrev pub with_note : List ℕ → SectionParts → SectionParts
with_note line parts = record parts { rest = line ∷ parts.rest }
