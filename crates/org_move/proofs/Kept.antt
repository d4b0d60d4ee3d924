-- What a refile keeps: documents are valid, and each node is there as often.
use Rattle.std.proofs.Common.{◌≡◌, ℕ, zero, suc, ◌+◌, ◌<◌, List, [], ◌∷◌, length, get_or, Some, Ok, refl, ap, subst, arith}
use Rattle.std.proofs.lemmas.Grind.{common_steps}
use Rattle.std.specs.Prelude.{◌≢◌, slice_get, slice_set}
use Rattle.std.proofs.lemmas.List.Sums.{sum_by-set}
use Rattle.org_outline.specs.declared.steps.Step.{Step}
use Rattle.org_outline.specs.declared.moves.Place.{Place}
use Rattle.org_outline.specs.States.{Keywords}
use Rattle.org_outline.specs.Tree.{Document, IsValid, node_at, node_count, print, tree}
use Rattle.org_outline.specs.Moves.{insert, take}
use Rattle.org_outline.specs.Numbers.{size_of, number_without, weigh}
use Rattle.org_outline.proofs.Changes.{take_valid}
use Rattle.org_outline.proofs.Found.{some_holds}
use Rattle.org_outline.proofs.Sections.{valid_node}
use Rattle.org_outline.proofs.Trees.{tree-is}
use Rattle.org_outline.proofs.Valid.{IsValid-insert, tree-print}
use Rattle.org_outline.proofs.Weights.{insert-weight, take-weight, Weight}
use Rattle.org_move.specs.Refile.{moved, refile_within, Moved, refile_across}
use Rattle.org_move.specs.Counts.{count_in, count_over}
use Rattle.org_move.proofs.Moving.{Within, Across, within_of, across_of, number_in}

pub within_valid : (states : Keywords) (path to : List Step) (place : Place) (d new : Document)
    → refile_within states path to place d ≡ Ok new → IsValid d → IsValid new
within_valid states path to place d new made valid =
    let w = within_of states path to place d new made in
    subst IsValid w.is (IsValid-insert (Some (number_without w.node (size_of d w.node) w.parent)) place (node_at d w.node).node (take w.node d) (valid_node d w.node valid w.node_in) (take_valid w.node d valid))

pub across_valid : (states there : Keywords) (path to : List Step) (place : Place) (source target : Document) (new : Moved)
    → refile_across states path source there to target place ≡ Ok new → IsValid source → IsValid target → IsValid new.source × IsValid new.target
across_valid states there path to place source target new made valid valid_target =
    let w = across_of states path source there to target place new made in (
      subst IsValid w.source_is (take_valid w.node source valid),
      subst IsValid w.target_is (IsValid-insert (Some w.parent) place (node_at source w.node).node target (valid_node source w.node valid w.node_in) valid_target),
    )

within_weight : (weight : Weight) (place : Place) (d new : Document) → Within place d new → weigh weight new.forest ≡ weigh weight d.forest
within_weight weight place d new w =
    let up : ℕ = number_without w.node (size_of d w.node) w.parent in
    let up_in : up < node_count (take w.node d) = number_in d w.node w.parent w.node_in w.parent_in w.outside in
    let put_in = insert-weight weight (Some up) place (node_at d w.node).node (take w.node d) (some_holds (λ i. i < node_count (take w.node d)) up up_in) in
    let taken = take-weight weight w.node d w.node_in in
    let same : weigh weight (moved w.node w.parent place d).forest ≡ weigh weight new.forest = ap (λ (d : Document). weigh weight d.forest) w.is in
    omega (arith, put_in, taken, same)

across_weight : (weight : Weight) (place : Place) (source target : Document) (new : Moved) → Across place source target new
    → weigh weight new.source.forest + weigh weight new.target.forest ≡ weigh weight source.forest + weigh weight target.forest
across_weight weight place source target new w =
    let put_in = insert-weight weight (Some w.parent) place (node_at source w.node).node target (some_holds (λ i. i < node_count target) w.parent w.parent_in) in
    let taken = take-weight weight w.node source w.node_in in
    let left : weigh weight (take w.node source).forest ≡ weigh weight new.source.forest = ap (λ (d : Document). weigh weight d.forest) w.source_is in
    let there : weigh weight (insert (Some w.parent) place (node_at source w.node).node target).forest ≡ weigh weight new.target.forest = ap (λ (d : Document). weigh weight d.forest) w.target_is in
    omega (arith, put_in, taken, left, there)

pub within_counts : (states : Keywords) (path to : List Step) (place : Place) (d new : Document) → refile_within states path to place d ≡ Ok new
    → (rest : List ℕ) (section : List (List ℕ)) → count_in rest section new ≡ count_in rest section d
within_counts states path to place d new made rest section = within_weight _ place d new (within_of states path to place d new made)

pub across_counts : (states there : Keywords) (path to : List Step) (place : Place) (source target : Document) (new : Moved)
    → refile_across states path source there to target place ≡ Ok new → (rest : List ℕ) (section : List (List ℕ))
    → count_in rest section new.source + count_in rest section new.target ≡ count_in rest section source + count_in rest section target
across_counts states there path to place source target new made rest section =
    across_weight _ place source target new (across_of states path source there to target place new made)

index_of : {X : Type 0} (xs : List X) (i : ℕ) (x : X) → slice_get xs i ≡ Some x → (i < length xs) × (get_or xs i x ≡ x)
index_of [] i x is = absurd cc
index_of (y ∷ ys) zero x is = (omega arith, cc)
index_of (y ∷ ys) (suc i) x is = let more = index_of ys i x is in (omega (arith, more.0), more.1)

-- a file's new text changes a count by what the text itself has more or less
pub counts_add : (rest : List ℕ) (section : List (List ℕ)) (texts : List (List ℕ)) (i : ℕ) (old new : List ℕ) → slice_get texts i ≡ Some old
    → count_over rest section (slice_set texts i new) + count_in rest section (tree old) ≡ count_over rest section texts + count_in rest section (tree new)
counts_add rest section texts i old new is =
    let here = index_of texts i old is in
    let count : List ℕ → ℕ = λ t. count_in rest section (tree t) in
    omega (arith, sum_by-set count texts i new old here.0, ap count here.1)

pub other_stays : {X : Type 0} (xs : List X) (i j : ℕ) (x : X) → i ≢ j → slice_get (slice_set xs i x) j ≡ slice_get xs j
other_stays [] i j x apart = refl
other_stays (y ∷ ys) zero zero x apart = absurd (apart refl)
other_stays (y ∷ ys) zero (suc j) x apart = refl
other_stays (y ∷ ys) (suc i) zero x apart = refl
other_stays (y ∷ ys) (suc i) (suc j) x apart = other_stays ys i j x (λ same. apart (ap suc same))

-- the tree of a valid document's print counts as the document
pub counts_again : (rest : List ℕ) (section : List (List ℕ)) (d : Document) → IsValid d → count_in rest section (tree (print d)) ≡ count_in rest section d
counts_again rest section d valid = ap (count_in rest section) (tree-print d valid)

-- two files' new texts do by what the documents have more or less
pub counts_both : (rest : List ℕ) (section : List (List ℕ)) (texts : List (List ℕ)) (i j : ℕ) (from into : List ℕ) (source target : Document) → i ≢ j → slice_get texts i ≡ Some from → slice_get texts j ≡ Some into → IsValid source × IsValid target
    → count_over rest section (slice_set (slice_set texts i (print source)) j (print target)) + (count_in rest section (tree from) + count_in rest section (tree into)) ≡ count_over rest section texts + (count_in rest section source + count_in rest section target)
counts_both rest section texts i j from into source target apart here here_too valid = grind (arith, common_steps, counts_add, other_stays, counts_again)

pub file_counts : (states : Keywords) (path to : List Step) (place : Place) (texts : List (List ℕ)) (i : ℕ) (text : List ℕ) (new : Document)
    → slice_get texts i ≡ Some text → refile_within states path to place (tree text) ≡ Ok new → (rest : List ℕ) (section : List (List ℕ))
    → count_over rest section (slice_set texts i (print new)) ≡ count_over rest section texts
file_counts states path to place texts i text new here made rest section =
    omega (
      arith,
      counts_add rest section texts i text (print new) here,
      counts_again rest section new (within_valid states path to place (tree text) new made (tree-is text).valid),
      within_counts states path to place (tree text) new made rest section,
    )

pub files_counts : (states there : Keywords) (path to : List Step) (place : Place) (texts : List (List ℕ)) (i j : ℕ) (from into : List ℕ) (new : Moved)
    → i ≢ j → slice_get texts i ≡ Some from → slice_get texts j ≡ Some into → refile_across states path (tree from) there to (tree into) place ≡ Ok new
    → (rest : List ℕ) (section : List (List ℕ))
    → count_over rest section (slice_set (slice_set texts i (print new.source)) j (print new.target)) ≡ count_over rest section texts
files_counts states there path to place texts i j from into new apart here here_too made rest section =
    omega (
      arith,
      counts_both rest section texts i j from into new.source new.target apart here here_too (across_valid states there path to place (tree from) (tree into) new made (tree-is from).valid (tree-is into).valid),
      across_counts states there path to place (tree from) (tree into) new made rest section,
    )
