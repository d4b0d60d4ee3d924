-- Edits of planning lines.
use Rattle.std.specs.Prelude.{◌≡◌, ◌⊎◌, ℕ, true, false, Option, None, Some, Result, Ok, Err, MatchResult, List, [], ◌∷◌, ◌++◌}
use Rattle.org_splice.specs.declared.edit.Edit.{Edit}
use Rattle.org_fault.specs.declared.refusal.Refusal.{Refusal}
use Rattle.org_fault.specs.declared.refusal.Refusal.TheVariants.{OddPlanning}
use Rattle.org_meta.specs.Edits.{RewritesParts}
use Rattle.org_meta.specs.Sections.{SectionParts}
use Rattle.org_stamp.specs.Calendar.{Moment}
use Rattle.org_meta.specs.Planning.{PlanningEntry, PlanningLine, planning_of, has_repeater, IsRepeatedEntry, AreRepeated}

-- the parts aren't refused, and the edit gives their section
abbrev pub RewritesOk : Result SectionParts Refusal → List ℕ → Edit → Type 0
RewritesOk parts section edit = MatchResult parts (RewritesParts edit section) (λ why. ⊥)

-- ---- repetition

-- the text of the entry at its next repetition was put at the end
pub record PutsRepeated (e : PlanningEntry) (now : Moment) (old new : List ℕ) : Type 0 where
  pub text : List ℕ
  pub is : IsRepeatedEntry e now (Ok text)
  pub bytes : new ≡ old ++ text

-- and those of all entries
pub record PutsAllRepeated (es : List PlanningEntry) (now : Moment) (old new : List ℕ)
    : Type 0 where
  pub text : List ℕ
  pub are : AreRepeated es now (Ok text)
  pub bytes : new ≡ old ++ text

-- the planning line with the entries at their next repetition
abbrev pub repeated_line : PlanningLine → List ℕ → List ℕ
repeated_line p text = p.indentation ++ (text ++ p.tail)

-- no stamp of the planning repeats
abbrev pub HasNoRepeater : List (List ℕ) → Type 0
HasNoRepeater [] = Unit {0}
HasNoRepeater (l ∷ ls) =
    (p : PlanningLine) × (planning_of l ≡ Some p) × (has_repeater p.entries ≡ false)

-- The edit gives the section with this planning line repeated.
pub record RewritesRepeatedLine (now : Moment) (parts : SectionParts) (section : List ℕ)
    (edit : Edit) (line : List ℕ) : Type 0 where
  pub planning : PlanningLine
  pub text : List ℕ
  pub well_formed : planning_of line ≡ Some planning
  pub repeats : has_repeater planning.entries ≡ true
  pub are : AreRepeated planning.entries now (Ok text)
  pub gives : RewritesParts edit section
      (record parts { planning = repeated_line planning text ∷ [] })

abbrev pub RewritesRepeatedIn : Moment → SectionParts → List ℕ → Edit → List (List ℕ) → Type 0
RewritesRepeatedIn now parts section edit [] = ⊥
RewritesRepeatedIn now parts section edit (l ∷ ls) = RewritesRepeatedLine now parts section edit l

-- the edit that repeats, or none where there is no repeater
abbrev pub RewritesRepeated : Moment → SectionParts → List ℕ → Option Edit → Type 0
RewritesRepeated now parts section None = HasNoRepeater parts.planning
RewritesRepeated now parts section (Some edit) =
    RewritesRepeatedIn now parts section edit parts.planning

-- the planning line is odd, or this is the first refusal of its repetitions
abbrev pub IsRefusedRepeat : Moment → List (List ℕ) → Refusal → Type 0
IsRefusedRepeat now [] why = ⊥
IsRefusedRepeat now (l ∷ ls) why =
    ((why ≡ OddPlanning) × (planning_of l ≡ None))
    ⊎ ((p : PlanningLine)
    × (planning_of l ≡ Some p)
    × (has_repeater p.entries ≡ true)
    × AreRepeated p.entries now (Err why))
