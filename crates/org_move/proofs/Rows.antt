-- The definitions on worked examples.
use Rattle.std.proofs.Common.{◌≡◌, ℕ, List, [], ◌∷◌, ◌++◌, codes, None, refl}
use Rattle.std.specs.Prelude.{Result, Ok, Err}
use Rattle.std.specs.Result.{result_map_both}
use Rattle.org_outline.specs.declared.moves.Place.{Place}
use Rattle.org_outline.specs.declared.moves.Place.TheVariants.{First, Last}
use Rattle.org_outline.specs.declared.steps.Step.{Step}
use Rattle.org_outline.specs.States.{Keywords}
use Rattle.org_outline.specs.Tree.{print, tree}
use Rattle.org_fault.specs.declared.refusal.Refusal.{Refusal}
use Rattle.org_fault.specs.declared.refusal.Refusal.TheVariants.{NotFound, NotUnique, InsideItself}
use Rattle.org_move.specs.Counts.{count_in, count_over}
use Rattle.org_move.specs.Refile.{refile_within, refile_across, Moved}

-- a line of these characters
abbrev line : List ℕ → List ℕ
line l = l ++ 10 ∷ []

states : Keywords
states = record { active = codes "TODO" ∷ []; done = codes "DONE" ∷ [] }

-- a step without a number
abbrev only : List ℕ → Step
only title = record { title = title; number = None }

abbrev within : List Step → List Step → Place → List ℕ → Result (List ℕ) Refusal
within path to place text = result_map_both print (λ why. why) (refile_within states path to place (tree text))

-- ---- within a text

-- skipped levels stay skipped
deep : List ℕ
deep = line (codes "* S") ++ line (codes "** B") ++ line (codes "**** C") ++ line (codes "* T") ++ line (codes "** U") ++ line (codes "*** V")

down : within (only (codes "S") ∷ only (codes "B") ∷ []) (only (codes "T") ∷ only (codes "U") ∷ only (codes "V") ∷ []) Last deep
    ≡ Ok (line (codes "* S") ++ line (codes "* T") ++ line (codes "** U") ++ line (codes "*** V") ++ line (codes "**** B") ++ line (codes "****** C"))
unfolding states deep
down = refl

-- from after to a heading before it, and up
up : within (only (codes "T") ∷ only (codes "U") ∷ only (codes "V") ∷ []) (only (codes "S") ∷ []) First deep
    ≡ Ok (line (codes "* S") ++ line (codes "** V") ++ line (codes "** B") ++ line (codes "**** C") ++ line (codes "* T") ++ line (codes "** U"))
unfolding states deep
up = refl

-- below its own parent once more, after its sibling
children : List ℕ
children = line (codes "* T") ++ line (codes "** E") ++ line (codes "** X")

own_parent : within (only (codes "T") ∷ only (codes "E") ∷ []) (only (codes "T") ∷ []) Last children ≡ Ok (line (codes "* T") ++ line (codes "** X") ++ line (codes "** E"))
unfolding states children
own_parent = refl

-- where no other child has its level, first is last
deeper_sibling : within (only (codes "T") ∷ only (codes "E") ∷ []) (only (codes "T") ∷ []) First (line (codes "* T") ++ line (codes "*** X") ++ line (codes "** E"))
    ≡ Ok (line (codes "* T") ++ line (codes "*** X") ++ line (codes "** E"))
unfolding states
deeper_sibling = refl

-- ---- faults

into_itself : within (only (codes "A") ∷ []) (only (codes "A") ∷ only (codes "B") ∷ []) Last (line (codes "* A") ++ line (codes "** B")) ≡ Err InsideItself
unfolding states
into_itself = refl

onto_itself : within (only (codes "A") ∷ []) (only (codes "A") ∷ []) Last (line (codes "* A") ++ line (codes "** B")) ≡ Err InsideItself
unfolding states
onto_itself = refl

two_alike : List ℕ
two_alike = line (codes "* TODO A :x:") ++ line (codes "* A") ++ line (codes "* T")

not_unique : within (only (codes "A") ∷ []) (only (codes "T") ∷ []) Last two_alike ≡ Err NotUnique
unfolding states two_alike
not_unique = refl

not_found : within (only (codes "Q") ∷ []) (only (codes "T") ∷ []) Last two_alike ≡ Err NotFound
unfolding states two_alike
not_found = refl

-- the source's path is asked first
source_first : within (only (codes "Q") ∷ []) (only (codes "A") ∷ []) Last two_alike ≡ Err NotFound
unfolding states two_alike
source_first = refl

target_second : within (only (codes "T") ∷ []) (only (codes "A") ∷ []) Last two_alike ≡ Err NotUnique
unfolding states two_alike
target_second = refl

-- ---- across two texts

first_of_target : result_map_both (λ (d : Moved). print d.source ++ print d.target) (λ (why : Refusal). why)
    (refile_across states (only (codes "A") ∷ only (codes "B") ∷ []) (tree (line (codes "* A") ++ line (codes "** B") ++ line (codes "b")))
    states (only (codes "T") ∷ []) (tree (line (codes "* T") ++ line (codes "** K"))) First)
    ≡ Ok (line (codes "* A") ++ (line (codes "* T") ++ line (codes "** B") ++ line (codes "b") ++ line (codes "** K")))
unfolding states
first_of_target = refl

-- ---- counts

-- whatever their levels
alike : List ℕ
alike = line (codes "* A") ++ line (codes "*** B") ++ line (codes "b") ++ line (codes "* B") ++ line (codes "* B") ++ line (codes "b")

two_of_three : count_in (codes " B") (codes "b" ∷ []) (tree alike) ≡ 2
unfolding alike
two_of_three = refl

over_files : count_over (codes " B") (codes "b" ∷ []) (alike ∷ line (codes "b") ∷ alike ∷ []) ≡ 4
unfolding alike
over_files = refl
