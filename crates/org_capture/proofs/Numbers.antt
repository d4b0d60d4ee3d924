-- What is found in a document is one of its nodes.
use Rattle.std.proofs.Common.{◌≡◌, ℕ, suc, ◌+◌, ◌<◌, ◌≤◌, Bool, find, List, [], ◌∷◌, Option, Some, None, Ok, Err, refl, subst, arith, inl, inr}
use Rattle.std.proofs.lemmas.Grind.{common_steps}
use Rattle.std.specs.Prelude.{Result}
use Rattle.std.specs.List.{AllByRecursion}
use Rattle.std.specs.Option.{ForSome}
use Rattle.std.specs.declared.cmp.Ordering.{Ordering}
use Rattle.std.proofs.lemmas.Bool.{cases_Bool}
use Rattle.org_outline.specs.declared.paths.PathFault.{PathFault}
use Rattle.org_outline.specs.declared.steps.Step.{Step}
use Rattle.org_outline.specs.States.{Keywords}
use Rattle.org_outline.specs.Tree.{Forest, Empty, Tree, Document, node_at, node_count, total}
use Rattle.org_outline.specs.Numbers.{roots_from, children_of}
use Rattle.org_outline.specs.Paths.{find_path}
use Rattle.org_outline.proofs.ByNumber.{count-is}
use Rattle.org_outline.proofs.Found.{found_in}
use Rattle.org_outline.proofs.Taking.{size_of-room}
use Rattle.org_capture.specs.declared.dates.DateKind.{DateKind}
use Rattle.org_capture.specs.Capture.{date_base, some_node}
use Rattle.org_capture.specs.Dates.{first_dated}

-- ---- children

roots_in : (end i : ℕ) (f : Forest) → i + total f ≤ end → AllByRecursion (λ k. k < end) (roots_from i f)
roots_in end i Empty le = tt
roots_in end i (Tree n r s kids later) le = (omega (arith, le), roots_in end (suc i + total kids) later (omega (arith, le)))

children_in : (d : Document) (up : Option ℕ) → ForSome up (λ i. i < node_count d) → AllByRecursion (λ k. k < node_count d) (children_of d up)
children_in d None within = roots_in (node_count d) 0 d.forest (omega (arith, count-is d))
children_in d (Some i) within = roots_in (node_count d) (suc i) (node_at d i).node.children (omega (arith, size_of-room d i (within i refl)))

found_holds : (P : ℕ → Type 0) (test : ℕ → Bool) (xs : List ℕ) (x : ℕ) → find test xs ≡ Some x → AllByRecursion P xs → P x
found_holds P test [] x is all = absurd cc
found_holds P test (y ∷ ys) x is all =
    elim (cases_Bool (test y)) [
      | inl e ↦
          let here : Some y ≡ Some x = rw e at is in
          let same : y ≡ x = cc in
          subst P same all.0
      | inr e ↦ found_holds P test ys x (rw e at is) all.1
    ]

pub dated_in : (states : Keywords) (d : Document) (up : Option ℕ) (kind : DateKind) (key : List ℕ) (wanted : Ordering) (i : ℕ) → ForSome up (λ i. i < node_count d)
    → first_dated states d up kind key wanted ≡ Some i → i < node_count d
dated_in states d up kind key wanted i within is = found_holds (λ k. k < node_count d) _ (children_of d up) i is (children_in d up within)

-- ---- paths

some_in : (P : ℕ → Type 0) (r : Result ℕ PathFault) (base : Option ℕ) → ((i : ℕ) → r ≡ Ok i → P i) → some_node r ≡ Ok base → ForSome base P
some_in P (Ok k) base each is = grind (arith, common_steps)
some_in P (Err fault) base each is = absurd cc

pub base_in : (states : Keywords) (d : Document) (path : List Step) (base : Option ℕ) → date_base states d path ≡ Ok base → ForSome base (λ i. i < node_count d)
base_in states d [] base is = λ i some. absurd cc
base_in states d (step ∷ path) base is = some_in (λ i. i < node_count d) (find_path states d (step ∷ path)) base (found_in states d (step ∷ path)) is
