-- How a path is read step by step.
use Rattle.std.proofs.Common.{◌≡◌, ℕ, ◌==◌, map, ◌+◌, ◌^◌, ◌<◌, List, [], ◌∷◌, ◌++◌, length, get_or, take, drop, Bor, Option, None, Some, refl, sym, ap, ◌∙◌, arith}
use Rattle.std.proofs.lemmas.Grind.{common_steps}
use Rattle.std.specs.Iterator.{Yields}
use Rattle.std.specs.List.{AllByRecursion, slice_split}
use Rattle.std.specs.Option.{option_map, option_and_then}
use Rattle.std.proofs.lemmas.Iterator.{YieldsList}
use Rattle.std.proofs.lemmas.Iterator.Consumers.{YieldsList-so_far, YieldsList-turn}
use Rattle.std.proofs.lemmas.List.Splits.{slice_split_none, slice_split_at}
use Rattle.org_outline.specs.declared.steps.Step.{Step}
use Rattle.org_outline.specs.States.{Keywords}
use Rattle.org_outline.specs.Tree.{Document, node_count}
use Rattle.org_outline.specs.Paths.{IsNumbered}
use Rattle.org_outline.specs.Paths as outline
use Rattle.org_outline.proofs.PathOf.{path-numbered, path-some}
use Rattle.org_serve.specs.Grammar.{IsWritten, step_of, step_field, steps_in, path_of, path_field}
use Rattle.org_serve.proofs.Escapes.{in_front}
use Rattle.org_serve.proofs.Steps.{no_slash-step, step-written}

in_front-nil : {X : Type 0} (read : Option (List X)) → read ≡ in_front [] read
in_front-nil None = refl
in_front-nil (Some more) = refl

in_front-cons : (step : Step) (old read : Option (List Step))
    → option_map (λ steps. step ∷ steps) (option_and_then (λ steps. in_front steps read) old) ≡ option_and_then (λ steps. in_front steps read) (option_map (λ steps. step ∷ steps) old)
in_front-cons step None read = refl
in_front-cons step (Some steps) None = refl
in_front-cons step (Some steps) (Some more) = refl

one_more : (step : Option Step) (whole old read : Option (List Step)) → whole ≡ option_and_then (λ steps. in_front steps read) old
    → option_and_then (λ s. option_map (λ steps. s ∷ steps) whole) step ≡ option_and_then (λ steps. in_front steps read) (option_and_then (λ s. option_map (λ steps. s ∷ steps) old) step)
one_more None whole old read e = refl
one_more (Some step) whole old read e = rw e (in_front-cons step old read)

steps_in-append : (fields more : List (List ℕ)) → steps_in (fields ++ more) ≡ option_and_then (λ steps. in_front steps (steps_in more)) (steps_in fields)
steps_in-append [] more = in_front-nil (steps_in more)
steps_in-append (field ∷ fields) more = one_more (step_of field) (steps_in (fields ++ more)) (steps_in fields) (steps_in more) (steps_in-append fields more)

-- one more field is read
pub steps_in-push : (fields : List (List ℕ)) (steps : List Step) (field : List ℕ) (step : Step) → steps_in fields ≡ Some steps → step_of field ≡ Some step → steps_in (fields ++ field ∷ []) ≡ Some (steps ++ step ∷ [])
steps_in-push fields steps field step reported e = steps_in-append fields (field ∷ []) ∙ rw (reported, e) refl

-- the next field can't be read
steps_in-bad : (fields : List (List ℕ)) (steps : List Step) (field : List ℕ) (more : List (List ℕ)) → steps_in fields ≡ Some steps → step_of field ≡ None → steps_in (fields ++ field ∷ more) ≡ None
steps_in-bad fields steps field more reported e = steps_in-append fields (field ∷ more) ∙ rw (reported, e) refl

cut_at : (fields : List (List ℕ)) (i : ℕ) (field : List ℕ) → (i < length fields) × (field ≡ get_or fields i field) → fields ≡ take i fields ++ field ∷ drop (i + 1) fields
cut_at fields i field at = grind (arith, common_steps)

-- where a field of those that are yielded can't be read, they are no path
pub steps_in-stopped : {S : Type 0} {steps : S → Option (Bor (List ℕ)) → S → Type 0} {s : S} {all : List (List ℕ)} (road : YieldsList steps (λ x. x.now) s all) (xs : List (Bor (List ℕ))) (t : S) (y : Yields steps s xs t) → (r : Option (Bor (List ℕ))) (u : S) (x : Bor (List ℕ)) → r ≡ Some x → steps t r u
    → (path : List Step) → steps_in (map (λ x. x.now) xs) ≡ Some path → step_of x.now ≡ None → steps_in all ≡ None
steps_in-stopped {all} road xs t y r u x is step path reported e =
    ap steps_in (cut_at all (length xs) x.now (YieldsList-turn road xs t y r u x is step) ∙ ap (λ front. front ++ x.now ∷ drop (length xs + 1) all) (sym (YieldsList-so_far road xs t y)))
    ∙ steps_in-bad (map (λ x. x.now) xs) path x.now (drop (length xs + 1) all) reported e

-- each step can be written
abbrev pub AreWritten : List Step → Type 0
AreWritten path = AllByRecursion (λ step. IsWritten step.number) path

-- a path is cut where its steps end
split-path : (step : Step) (path : List Step) → AreWritten (step ∷ path) → slice_split (λ b. b == 47) (path_field (step ∷ path)) ≡ map step_field (step ∷ path)
split-path step [] all = slice_split_none (λ b. b == 47) (step_field step) (no_slash-step step all.0)
split-path step (next ∷ path) all =
    slice_split_at (λ b. b == 47) (step_field step) 47 (path_field (next ∷ path)) (no_slash-step step all.0) refl ∙ ap (λ fields. step_field step ∷ fields) (split-path next path all.1)

steps-written : (path : List Step) → AreWritten path → steps_in (map step_field path) ≡ Some path
steps-written [] all = refl
steps-written (step ∷ path) all = rw (step-written step all.0, steps-written path all.1) refl

-- a path that is written is read back
pub path-written : (step : Step) (path : List Step) → AreWritten (step ∷ path) → path_of (path_field (step ∷ path)) ≡ Some (step ∷ path)
unfolding path_of
path-written step path all = ap steps_in (split-path step path all) ∙ steps-written (step ∷ path) all

-- the path of a heading

numbered_written : (most : ℕ) (path : List Step) → most < 10 ^ 9 → AllByRecursion (IsNumbered most) path → AreWritten path
numbered_written most [] few all = tt
numbered_written most (step ∷ path) few all = grind (arith, common_steps, numbered_written most path few all.1)

read_back : (path : List Step) → 0 < length path → AreWritten path → path_of (path_field path) ≡ Some path
read_back [] some all = absurd (omega (arith, some))
read_back (step ∷ path) some all = path-written step path all

pub heading-written : (states : Keywords) (d : Document) (i : ℕ) → i < node_count d → node_count d < 10 ^ 9 → path_of (path_field (outline.path_of states d i)) ≡ Some (outline.path_of states d i)
heading-written states d i lt few = read_back (outline.path_of states d i) (path-some states d i lt) (numbered_written (node_count d) (outline.path_of states d i) few (path-numbered states d i))
