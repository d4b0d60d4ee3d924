-- Every heading has a path: the one whose steps count the headings before with the same title.
use Rattle.std.proofs.Common.{◌≡◌, ℕ, zero, suc, ◌+◌, ◌-◌, ◌<◌, ◌≤◌, true, cond, ltb, List, [], ◌∷◌, ◌++◌, length, Option, Some, None, Ok, refl, sym, ap, ◌∙◌, append_assoc, length-append, arith, inl, inr}
use Rattle.std.proofs.lemmas.Grind.{common_steps}
use Rattle.std.specs.Prelude.{slice_get}
use Rattle.std.specs.List.{AllByRecursion, filter}
use Rattle.std.specs.Str.{bytes_eq}
use Rattle.std.proofs.lemmas.Bool.{cases_Bool}
use Rattle.std.proofs.lemmas.Slice.Eq.{bytes_eq-Decides}
use Rattle.std.proofs.lemmas.Bool.Decides.{nat_tests}
use Rattle.org_outline.specs.States.{Keywords}
use Rattle.org_outline.specs.Tree.{Forest, Empty, Tree, Node, Document, total, node_at, node_count}
use Rattle.org_outline.specs.Paths.{IsNumbered, and_below, child_at, find_below, find_path, found, path_from, path_of, step_behind, title_of, titled_roots, titled_children}
use Rattle.org_outline.proofs.ByNumber.{nth, node-is, count-is}
use Rattle.org_outline.proofs.Children.{StandsAt, stands_behind, stands_below}

-- the titles of `before` that are this one
abbrev with_title : List ℕ → List (List ℕ) → List (List ℕ)
with_title title before = filter (λ t. bytes_eq t title) before

-- the children that a title names: as many before the roots of f as `before` has, and those of f
record Behind (states : Keywords) (d : Document) (up : Option ℕ) (before : List (List ℕ)) (k : ℕ) (f : Forest) (title : List ℕ) : Type 0 where
  ks : List ℕ
  all : titled_children states d up title ≡ ks ++ titled_roots states title k f
  many : length ks ≡ length (with_title title before)

at_length : (ks : List ℕ) (k : ℕ) (more : List ℕ) → slice_get (ks ++ k ∷ more) (length ks) ≡ Some k
at_length [] k more = refl
at_length (j ∷ ks) k more = at_length ks k more

same_title : (title : List ℕ) → bytes_eq title title ≡ true
same_title title = (bytes_eq-Decides title title).1 refl

-- the step to the first root of the forest
child_here : (states : Keywords) (d : Document) (up : Option ℕ) (before : List (List ℕ)) (k n : ℕ) (r : List ℕ) (s : List (List ℕ)) (kids later : Forest)
    → Behind states d up before k (Tree n r s kids later) (title_of states r) → child_at states d up (step_behind states before r) ≡ Ok k
child_here states d up before k n r s kids later b = grind (arith, common_steps, same_title, at_length, found)

behind_first : (states : Keywords) (d : Document) (up : Option ℕ) (before : List (List ℕ)) (k n : ℕ) (r : List ℕ) (s : List (List ℕ)) (kids later : Forest) (title : List ℕ)
    → Behind states d up before k (Tree n r s kids later) title → Behind states d up (title_of states r ∷ before) (suc k + total kids) later title
behind_first states d up before k n r s kids later title b =
    let more = titled_roots states title (suc k + total kids) later in
    let had = with_title title before in
    elim (cases_Bool (bytes_eq (title_of states r) title)) [
      | inl e ↦ record {
        ks = b.ks ++ k ∷ [];
        all = b.all ∙ ap (λ c. b.ks ++ cond c (k ∷ more) more) e ∙ sym (append_assoc b.ks (k ∷ []) more);
        many = omega (arith, b.many, length-append b.ks (k ∷ []), ap (λ c. length (cond c (title_of states r ∷ had) had)) e);
      }
      | inr e ↦ record {
        ks = b.ks;
        all = b.all ∙ ap (λ c. b.ks ++ cond c (k ∷ more) more) e;
        many = b.many ∙ sym (ap (λ c. length (cond c (title_of states r ∷ had) had)) e);
      }
    ]

stands_first : (d : Document) (k n : ℕ) (r : List ℕ) (s : List (List ℕ)) (kids later : Forest) → StandsAt d k (Tree n r s kids later) → (node_at d k).node.children ≡ kids
stands_first d k n r s kids later stands = ap (λ (n : Node). n.children) (stands 0 k (omega arith) (omega arith))

-- the look-up comes to the node at i of a forest
comes_to : (states : Keywords) (d : Document) (up : Option ℕ) (before : List (List ℕ)) (i k node : ℕ) (f : Forest) → StandsAt d k f → ((title : List ℕ) → Behind states d up before k f title) → i < total f → node ≡ k + i
    → find_below states d (path_from states before i f) up ≡ Ok node
comes_to states d up before i k node Empty stands behind lt is = absurd (omega (arith, lt))
comes_to states d up before zero k node (Tree n r s kids later) stands behind lt is =
    let here : k ≡ node = omega (arith, is) in
    ap (λ found. and_below found (find_below states d [])) (child_here states d up before k n r s kids later (behind (title_of states r))) ∙ ap Ok here
comes_to states d up before (suc i) k node (Tree n r s kids later) stands behind lt is =
    elim (cases_Bool (ltb i (total kids))) [
      | inl e ↦
          let within : i < total kids = grind (arith, nat_tests) in
          let path = path_from states [] i kids in
          let below = comes_to states d (Some k) [] i (suc k) node kids (stands_below d k n r s kids later stands)
          (λ title. record { ks = []; all = ap (titled_roots states title (suc k)) (stands_first d k n r s kids later stands); many = refl }) within (omega (arith, is)) in
          rw e (ap (λ found. and_below found (find_below states d path)) (child_here states d up before k n r s kids later (behind (title_of states r))) ∙ below)
      | inr e ↦
          let past : total kids ≤ i = grind (arith, nat_tests) in
          rw e (comes_to states d up (title_of states r ∷ before) (i - total kids) (suc k + total kids) node later (stands_behind d k n r s kids later stands)
          (λ title. behind_first states d up before k n r s kids later title (behind title)) (omega (arith, lt, past)) (omega (arith, is, past)))
    ]

pub path-leads : (states : Keywords) (d : Document) (i : ℕ) → i < node_count d → find_path states d (path_of states d i) ≡ Ok i
path-leads states d i lt =
    comes_to states d None [] i 0 i d.forest (λ j q is lt. let same : q ≡ j = omega (arith, is) in node-is d q ∙ ap (λ i. nth i d.forest) same)
    (λ title. record { ks = []; all = refl; many = refl }) (omega (arith, lt, count-is d)) (omega arith)

-- ---- the numbers

few : (title : List ℕ) (before : List (List ℕ)) → length (with_title title before) ≤ length before
few title [] = omega arith
few title (t ∷ before) = grind (arith, common_steps, few title before)

numbered_here : (states : Keywords) (most : ℕ) (before : List (List ℕ)) (r : List ℕ) → suc (length before) ≤ most → IsNumbered most (step_behind states before r)
numbered_here states most before r fits = grind (arith, common_steps, few)

numbered_from : (states : Keywords) (most : ℕ) (before : List (List ℕ)) (i : ℕ) (f : Forest) → length before + total f ≤ most → AllByRecursion (IsNumbered most) (path_from states before i f)
numbered_from states most before i Empty fits = tt
numbered_from states most before zero (Tree n r s kids later) fits = (numbered_here states most before r (omega (arith, fits)), tt)
numbered_from states most before (suc i) (Tree n r s kids later) fits = grind (arith, common_steps, cases_Bool, numbered_here, numbered_from states most [] i kids (omega (arith, fits)), numbered_from states most (title_of states r ∷ before) (i - total kids) later (omega (arith, fits)))

pub path-numbered : (states : Keywords) (d : Document) (i : ℕ) → AllByRecursion (IsNumbered (node_count d)) (path_of states d i)
path-numbered states d i = numbered_from states (node_count d) [] i d.forest (omega (arith, count-is d))

some_from : (states : Keywords) (before : List (List ℕ)) (i : ℕ) (f : Forest) → i < total f → 0 < length (path_from states before i f)
some_from states before i Empty lt = absurd (omega (arith, lt))
some_from states before zero (Tree n r s kids later) lt = omega arith
some_from states before (suc i) (Tree n r s kids later) lt =
    elim (cases_Bool (ltb i (total kids))) [
      | inl e ↦ rw e (omega arith)
      | inr e ↦
          let past : total kids ≤ i = grind (arith, nat_tests) in
          rw e (some_from states (title_of states r ∷ before) (i - total kids) later (omega (arith, lt, past)))
    ]

pub path-some : (states : Keywords) (d : Document) (i : ℕ) → i < node_count d → 0 < length (path_of states d i)
path-some states d i lt = some_from states [] i d.forest (omega (arith, lt, count-is d))
