-- The definitions on worked examples.
use Rattle.std.proofs.Common.{◌≡◌, ℕ, List, [], ◌∷◌, ◌++◌, Some, None, codes, refl}
use Rattle.std.specs.Prelude.{Result, Ok, Err}
use Rattle.org_outline.specs.declared.moves.Place.TheVariants.{Last}
use Rattle.org_outline.specs.declared.steps.Step.{Step}
use Rattle.org_outline.specs.States.{Keywords}
use Rattle.org_outline.specs.Tree.{Empty, Node, Document, tree, print}
use Rattle.org_stamp.specs.Calendar.{Moment, civil_day}
use Rattle.org_fault.specs.declared.refusal.Refusal.{Refusal}
use Rattle.org_fault.specs.declared.refusal.Refusal.TheVariants.{BadTemplate, BadEntry}
use Rattle.org_capture.specs.declared.target.Target.{Target}
use Rattle.org_capture.specs.declared.target.Target.TheVariants.{Top, Head, Path, Date}
use Rattle.org_capture.specs.declared.dates.DateKind.TheVariants.{Year, Month}
use Rattle.org_capture.specs.Template.{expanded}
use Rattle.org_capture.specs.Entry.{entry_text}
use Rattle.org_capture.specs.Dates.{key_of, date_title, dated}
use Rattle.org_capture.specs.Capture.{captured}
use Rattle.org_capture.specs.Made.{dated_one_by_one, missing, missing_dates}

-- 2026-07-01 10:00
abbrev now : Moment
now = record { day = civil_day 2026 7 1; minute = 600 }

-- a line of these characters
abbrev line : List ℕ → List ℕ
line l = l ++ 10 ∷ []

-- ---- templates and entries

percent : expanded (codes "* 50% off %?") now [] ≡ Ok (codes "* 50% off ")
percent = refl

prefixed : expanded (line (codes "* N") ++ codes "> %i") now (line (codes "a") ++ codes "b") ≡ Ok (line (codes "* N") ++ line (codes "> a") ++ codes "> b")
prefixed = refl

not_served : expanded (codes "* %d") now [] ≡ Err BadTemplate
not_served = refl

two_percents : expanded (codes "%%? %") now [] ≡ Ok (codes "% %")
two_percents = refl

closes : entry_text (codes "* A") ≡ Ok (line (codes "* A"))
closes = refl

no_heading : entry_text (codes "N") ≡ Err BadEntry
no_heading = refl

two_headings : entry_text (line (codes "* A") ++ codes "* B") ≡ Err BadEntry
two_headings = refl

-- ---- keys

year : key_of Year (codes "2026") ≡ Some (codes "2026")
year = refl

no_year : key_of Year (codes "2026 AD") ≡ None
no_year = refl

month : key_of Month (codes "2026-07 July") ≡ Some (codes "2026-07")
month = refl

no_month : key_of Month (codes "2026-07-01") ≡ None
no_month = refl

month_title : date_title Month (civil_day 2026 7 1) ≡ codes "2026-07 July"
month_title = refl

-- ---- targets

abbrev states : Keywords
states = record { active = codes "TODO" ∷ []; done = codes "DONE" ∷ [] }

-- `* N`
abbrev entry : Node
entry = record { level = 1; rest = codes " N"; section = []; children = Empty }

-- what a text is with an entry `* N` put last below a target, and nothing where that is refused
abbrev with_entry : List ℕ → Target → List ℕ
with_entry text target =
    printed (captured states target Last now entry (tree text))
  where
    printed : Result Document Refusal → List ℕ
    printed (Ok d) = print d
    printed (Err fault) = []

-- a step without a number, and one with it
abbrev only : List ℕ → Step
only title = record { title = title; number = None }

abbrev nth : ℕ → List ℕ → Step
nth n title = record { title = title; number = Some n }

top : with_entry (line (codes "* A")) Top ≡ line (codes "* A") ++ line (codes "* N")
top = refl

below_path : with_entry (line (codes "* A") ++ line (codes "* B")) (Path (only (codes "A") ∷ [])) ≡ line (codes "* A") ++ line (codes "** N") ++ line (codes "* B")
below_path = refl

head_made : with_entry (line (codes "x")) (Head (only (codes "Tasks"))) ≡ line (codes "x") ++ line (codes "* Tasks") ++ line (codes "** N")
head_made = refl

head_with_keyword : with_entry (line (codes "x")) (Head (only (codes "TODO x"))) ≡ []
head_with_keyword = refl

head_twice : with_entry (line (codes "* T") ++ line (codes "** T")) (Head (only (codes "T"))) ≡ []
head_twice = refl

head_numbered : with_entry (line (codes "* T") ++ line (codes "* U") ++ line (codes "** T")) (Head (nth 2 (codes "T"))) ≡ line (codes "* T") ++ line (codes "* U") ++ line (codes "** T") ++ line (codes "*** N")
head_numbered = refl

numbered_never_made : with_entry (line (codes "x")) (Head (nth 1 (codes "Tasks"))) ≡ []
numbered_never_made = refl

used_again : with_entry (line (codes "* 2026") ++ line (codes "** 2026-07 July") ++ line (codes "*** 2026-07-01 Wednesday")) (Date [])
    ≡ line (codes "* 2026") ++ line (codes "** 2026-07 July") ++ line (codes "*** 2026-07-01 Wednesday") ++ line (codes "**** N")
used_again = refl

-- ---- made headings

-- the month is among the children of a year that is made before a later one
one_by_one : print (dated_one_by_one states Last now.day entry (tree (line (codes "* 2027"))) (Year ∷ Month ∷ []) None)
    ≡ line (codes "* 2026") ++ line (codes "** 2026-07 July") ++ line (codes "*** N") ++ line (codes "* 2027")
one_by_one = refl

as_one_chain : print (dated states Last now.day entry (tree (line (codes "* 2027"))) (Year ∷ Month ∷ []) None)
    ≡ line (codes "* 2026") ++ line (codes "** 2026-07 July") ++ line (codes "*** N") ++ line (codes "* 2027")
as_one_chain = refl

both_missing : missing_dates states now.day (tree (line (codes "* 2027"))) (Year ∷ Month ∷ []) None ≡ codes " 2026" ∷ codes " 2026-07 July" ∷ []
both_missing = refl

year_there : missing_dates states now.day (tree (line (codes "* 2026") ++ line (codes "** 2026-08"))) (Year ∷ Month ∷ []) None ≡ codes " 2026-07 July" ∷ []
year_there = refl

none_missing : missing states (Date []) now (tree (line (codes "* 2026") ++ line (codes "** 2026-07 July") ++ line (codes "*** 2026-07-01"))) ≡ []
none_missing = refl

title_missing : missing states (Head (only (codes "Tasks"))) now (tree (line (codes "x"))) ≡ codes " Tasks" ∷ []
title_missing = refl

title_there : missing states (Head (only (codes "Tasks"))) now (tree (line (codes "*** TODO Tasks :x:"))) ≡ []
title_there = refl
