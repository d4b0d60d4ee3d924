-- The definitions on worked examples.
use Rattle.std.proofs.Common.{◌≡◌, ℕ, List, [], ◌∷◌, ◌++◌, codes, refl}
use Rattle.std.specs.Prelude.{Option, None, Some, Result, Ok, Err}
use Rattle.org_stamp.specs.Calendar.{Moment, civil_day, at_minute}
use Rattle.org_outline.specs.declared.steps.Step.{Step}
use Rattle.org_outline.specs.States.{Keywords}
use Rattle.org_outline.specs.Tree.{Document, tree}
use Rattle.org_fault.specs.declared.refusal.Refusal.{Refusal}
use Rattle.org_fault.specs.declared.refusal.Refusal.TheVariants.{NotFound, NotUnique, UnknownState, OddPlanning, BadRepeat, DateRange}
use Rattle.org_state.specs.Keyword.{with_keyword}
use Rattle.org_state.specs.Todo.{IsTodo}

-- a line of these characters
abbrev line : List ℕ → List ℕ
line l = l ++ 10 ∷ []

states : Keywords
states = record { active = codes "TODO" ∷ codes "NEXT" ∷ []; done = codes "DONE" ∷ codes "GONE" ∷ [] }

now : Moment
now = at_minute (civil_day 2026 7 1) 600

-- a step without a number
abbrev only : List ℕ → Step
only title = record { title = title; number = None }

-- what putting the heading A into a state makes of a text
abbrev Todo : List ℕ → List ℕ → Result (Option Document) Refusal → Type 0
Todo state text r = IsTodo states (only (codes "A") ∷ []) state now (tree text) r

-- ---- the keyword

-- it goes with the blanks after it, and what is left may read as another one
first_goes : with_keyword states [] (codes " TODO TODO A") ≡ codes " TODO A"
unfolding states
first_goes = refl

put_in : with_keyword states (codes "TODO") (codes "  A :x:") ≡ codes "  TODO A :x:"
unfolding states
put_in = refl

exchanged : with_keyword states (codes "NEXT") (codes " TODO  [#A] A") ≡ codes " NEXT  [#A] A"
unfolding states
exchanged = refl

-- a carriage return stays at the line's end
before_return : with_keyword states (codes "TODO") (32 ∷ 13 ∷ []) ≡ codes " TODO " ++ 13 ∷ []
unfolding states
before_return = refl

alone_goes : with_keyword states [] (codes " TODO" ++ 13 ∷ []) ≡ 32 ∷ 13 ∷ []
unfolding states
alone_goes = refl

-- ---- changes

turned_back : Todo (codes "TODO") (line (codes "* DONE A") ++ line (codes "CLOSED: [2026-07-01 Wed 10:00]")) (Ok (Some (tree (line (codes "* TODO A")))))
unfolding states now
turned_back = (_, refl, refl)

-- from one done state to another, and among active ones, the keyword alone
still_done : Todo (codes "GONE") (line (codes "* DONE A") ++ line (codes "CLOSED: soon")) (Ok (Some (tree (line (codes "* GONE A") ++ line (codes "CLOSED: soon")))))
unfolding states now
still_done = (_, refl, refl)

still_active : Todo (codes "NEXT") (line (codes "* A") ++ line (codes "DEADLINE: soon")) (Ok (Some (tree (line (codes "* NEXT A") ++ line (codes "DEADLINE: soon")))))
unfolding states now
still_active = (_, refl, refl)

-- nothing changes, not even where the planning line is odd
same_state : Todo (codes "DONE") (line (codes "* DONE A") ++ line (codes "DEADLINE: soon")) (Ok None)
unfolding states now
same_state = refl

-- ---- faults

odd : Todo (codes "DONE") (line (codes "* TODO A") ++ line (codes "DEADLINE: soon")) (Err OddPlanning)
unfolding states now
odd = (_, refl, refl)

unknown : Todo (codes "LATER") (line (codes "* TODO A")) (Err UnknownState)
unfolding states now
unknown = refl

-- the path is asked first
path_first : Todo (codes "LATER") (line (codes "* TODO B")) (Err NotFound)
unfolding states now
path_first = refl

not_unique : Todo (codes "DONE") (line (codes "* TODO A") ++ line (codes "* A")) (Err NotUnique)
unfolding states now
not_unique = refl

-- hours need a time
bad_repeat : Todo (codes "DONE") (line (codes "* TODO A") ++ line (codes "SCHEDULED: <2026-01-05 Mon +1h>")) (Err BadRepeat)
unfolding states now
bad_repeat = (Err BadRepeat, (Err BadRepeat, (Err BadRepeat, (Err BadRepeat, refl, refl), refl), refl), refl)

past_9999 : Todo (codes "DONE") (line (codes "* TODO A") ++ line (codes "SCHEDULED: <9999-06-01 +1y>")) (Err DateRange)
unfolding states now
past_9999 = (Err DateRange, (Err DateRange, (Err DateRange, (Err DateRange, refl, refl), refl), refl), refl)
