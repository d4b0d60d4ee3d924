-- A path leads to a node of the document.
use Rattle.std.proofs.Common.{rules, ◌≡◌, ℕ, zero, suc, ◌+◌, ◌<◌, ◌≤◌, List, [], ◌∷◌, length, Option, Some, None, Ok, Err, refl, sym, subst, arith}
use Rattle.std.proofs.lemmas.Grind.{common_steps}
use Rattle.std.specs.Prelude.{Result, IfOk, IfSome, slice_get}
use Rattle.std.specs.List.{AllByRecursion}
use Rattle.std.specs.Option.{ForSome}
use Rattle.std.proofs.lemmas.Bool.{cases_Bool}
use Rattle.std.proofs.lemmas.Result.{IfOk-at_ok}
use Rattle.org_outline.specs.declared.paths.PathFault.{PathFault}
use Rattle.org_outline.specs.declared.steps.Step.{Step}
use Rattle.org_outline.specs.States.{Keywords}
use Rattle.org_outline.specs.Tree.{Forest, Empty, Tree, Document, Placed, node_at, node_count, nodes, total}
use Rattle.org_outline.specs.Paths.{titled_roots, titled_children, titled_nodes, the_only, some_or_fault, the_one, found, child_at, and_below, find_below, find_path, find_headed}
use Rattle.org_outline.proofs.ByNumber.{count-is}
use Rattle.org_outline.proofs.Taking.{size_of-room}

-- the numbers of roots lie before the number after the forest
roots_in : (states : Keywords) (title : List ℕ) (end i : ℕ) (f : Forest) → i + total f ≤ end → AllByRecursion (λ k. k < end) (titled_roots states title i f)
roots_in states title end i Empty le = tt
roots_in states title end i (Tree n r s kids later) le = search (rules, arith, cases_Bool, roots_in states title end (suc i + total kids) later (omega (arith, le)))

children_in : (states : Keywords) (d : Document) (up : Option ℕ) (title : List ℕ) → ForSome up (λ i. i < node_count d)
    → AllByRecursion (λ k. k < node_count d) (titled_children states d up title)
children_in states d None title within = roots_in states title (node_count d) 0 d.forest (omega (arith, count-is d))
children_in states d (Some i) title within =
    roots_in states title (node_count d) (suc i) (node_at d i).node.children (omega (arith, size_of-room d i (within i refl)))

-- what holds of all holds of the one that is meant
abbrev pub Holds : (ℕ → Type 0) → Result (Option ℕ) PathFault → Type 0
Holds P r = IfOk r (λ met. IfSome met P)

only_in : (P : ℕ → Type 0) (is : List ℕ) → AllByRecursion P is → Holds P (the_only is)
only_in P [] all = tt
only_in P (i ∷ []) all = all.0
only_in P (i ∷ j ∷ more) all = tt

nth_in : (P : ℕ → Type 0) (n : ℕ) (is : List ℕ) → AllByRecursion P is → Holds P (some_or_fault (slice_get is n))
nth_in P n [] all = tt
nth_in P zero (i ∷ is) all = all.0
nth_in P (suc n) (i ∷ is) all = nth_in P n is all.1

pub one_in : (P : ℕ → Type 0) (number : Option ℕ) (is : List ℕ) → AllByRecursion P is → Holds P (the_one number is)
one_in P None is all = only_in P is all
one_in P (Some zero) is all = tt
one_in P (Some (suc n)) is all = nth_in P n is all

of_found : (P : ℕ → Type 0) (r : Result (Option ℕ) PathFault) → Holds P r → IfOk (found r) P
of_found P (Ok None) holds = tt
of_found P (Ok (Some i)) holds = holds
of_found P (Err fault) holds = tt

-- a step leads to a node of the document
pub child_in : (states : Keywords) (d : Document) (up : Option ℕ) (step : Step) → ForSome up (λ i. i < node_count d) → IfOk (child_at states d up step) (λ i. i < node_count d)
child_in states d up step within = grind (arith, common_steps, of_found, one_in, children_in)

pub of_step : (states : Keywords) (d : Document) (up : Option ℕ) (step : Step) → ForSome up (λ i. i < node_count d) → (r : Result ℕ PathFault) → r ≡ child_at states d up step → IfOk r (λ i. i < node_count d)
of_step states d up step within r is = subst (λ r. IfOk r (λ i. i < node_count d)) (sym is) (child_in states d up step within)

then_in : (P : ℕ → Type 0) (r : Result ℕ PathFault) (find : Option ℕ → Result ℕ PathFault) → IfOk r P → ((k : ℕ) → P k → IfOk (find (Some k)) P)
    → IfOk (and_below r find) P
then_in P (Ok k) find first next = next k first
then_in P (Err fault) find first next = tt

-- what holds of a value holds of the one that there is
pub some_holds : (P : ℕ → Type 0) (k : ℕ) → P k → ForSome (Some k) P
some_holds P k holds i is = let same : k ≡ i = cc in subst P same holds

below_in : (states : Keywords) (d : Document) (path : List Step) (up : Option ℕ) → ForSome up (λ i. i < node_count d)
    → IfOk (find_below states d path up) (λ i. i < node_count d)
below_in states d [] None within = tt
below_in states d [] (Some i) within = within i refl
below_in states d (step ∷ path) up within =
    let P : ℕ → Type 0 = λ i. i < node_count d in
    then_in P (child_at states d up step) (find_below states d path) (child_in states d up step within) (λ k lt. below_in states d path (Some k) (some_holds P k lt))

pub found_in : (states : Keywords) (d : Document) (path : List Step) (i : ℕ) → find_path states d path ≡ Ok i → i < node_count d
found_in states d path i is =
    let P : ℕ → Type 0 = λ i. i < node_count d in
    IfOk-at_ok P is (below_in states d path None (λ i none. absurd cc))

-- the numbers of nodes lie before the number after them
nodes_in : (states : Keywords) (title : List ℕ) (end i : ℕ) (ps : List Placed) → i + length ps ≤ end → AllByRecursion (λ k. k < end) (titled_nodes states title i ps)
nodes_in states title end i [] le = tt
nodes_in states title end i (p ∷ ps) le = search (rules, arith, cases_Bool, nodes_in states title end (suc i) ps (omega (arith, le)))

pub all_headed_in : (states : Keywords) (d : Document) (step : Step) → Holds (λ i. i < node_count d) (find_headed states d step)
all_headed_in states d step =
    one_in (λ i. i < node_count d) step.number (titled_nodes states step.title 0 (nodes d)) (nodes_in states step.title (node_count d) 0 (nodes d) (omega arith))

at_some : (P : ℕ → Type 0) (r : Result (Option ℕ) PathFault) (i : ℕ) → r ≡ Ok (Some i) → Holds P r → P i
at_some P (Ok None) i is holds = absurd cc
at_some P (Ok (Some k)) i is holds = let same : k ≡ i = cc in subst P same holds
at_some P (Err fault) i is holds = absurd cc

pub headed_in : (states : Keywords) (d : Document) (step : Step) (i : ℕ) → find_headed states d step ≡ Ok (Some i) → i < node_count d
headed_in states d step i is = at_some (λ i. i < node_count d) (find_headed states d step) i is (all_headed_in states d step)
