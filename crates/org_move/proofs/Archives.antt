-- What archiving keeps: documents are valid, and each node is there as often, but for the entry's
-- own section and for the heading that is made.
use Rattle.std.proofs.Common.{◌≡◌, ℕ, zero, suc, ◌+◌, ◌<◌, ◌≤◌, List, [], ◌∷◌, length, Bool, true, false, Option, Some, None, Ok, Err, refl, sym, ap, subst, ◌∙◌, arith, inl, inr}
use Rattle.std.specs.Prelude.{◌≢◌, ◌==◌, Result, if◌then◌else◌, filter, slice_get, slice_set}
use Rattle.std.specs.List.{AllByRecursion}
use Rattle.std.specs.Option.{ForSome}
use Rattle.std.specs.Str.{bytes_eq}
use Rattle.std.proofs.lemmas.Bool.{cases_Bool}
use Rattle.org_splice.specs.Lines.{IsLine}
use Rattle.org_stamp.specs.Calendar.{Moment}
use Rattle.org_outline.specs.declared.steps.Step.{Step}
use Rattle.org_outline.specs.declared.moves.Place.TheVariants.{Last}
use Rattle.org_outline.specs.declared.paths.PathFault.{PathFault}
use Rattle.org_outline.specs.States.{Keywords}
use Rattle.org_outline.specs.Tree.{Document, IsValid, Node, Placed, node_at, node_count, nodes, print, tree}
use Rattle.org_outline.specs.Moves.{IsNode, append_heading, take}
use Rattle.org_outline.specs.Numbers.{parent_without, size_of, weigh, weigh_node}
use Rattle.org_outline.specs.Paths.{find_path, the_only, title_of, titled_nodes}
use Rattle.org_outline.proofs.ByNumber.{count-is}
use Rattle.org_outline.proofs.Changes.{append_heading_valid, take_valid}
use Rattle.org_outline.proofs.Found.{found_in, some_holds}
use Rattle.org_outline.proofs.Trees.{tree-is}
use Rattle.org_outline.proofs.Valid.{IsValid-insert}
use Rattle.org_outline.proofs.Weights.{Weight, insert-weight, made-weight, one_each, take-weight}
use Rattle.org_fault.specs.declared.refusal.Refusal.{Refusal}
use Rattle.org_fault.specs.declared.refusal.Refusal.TheVariants.{AlreadyArchive, InsideItself}
use Rattle.org_move.specs.Archive.{archive_across, archive_within, archived, archived_section, if_apart, put_last, target_heading, with_heading}
use Rattle.org_move.specs.Counts.{count_in, count_over, made_count, one_of}
use Rattle.org_move.specs.Location.{Destination}
use Rattle.org_move.specs.Refile.{Moved, is_inside}
use Rattle.org_move.proofs.Archived.{archived_node}
use Rattle.org_move.proofs.Kept.{counts_add, counts_again, counts_both}
use Rattle.org_move.proofs.Moving.{found_of, number_in}
use Rattle.org_move.proofs.Within.{left_with}

-- ---- the heading of a place is one of the document

place_in : (test : ℕ → Bool) (states : Keywords) (title : List ℕ) (end i : ℕ) (ps : List Placed) → i + length ps ≤ end
    → AllByRecursion (λ k. k < end) (filter test (titled_nodes states title i ps))
place_in test states title end i [] le = tt
place_in test states title end i (p ∷ ps) le =
    let more = place_in test states title end (suc i) ps (omega (arith, le)) in
    elim (cases_Bool (bytes_eq (title_of states p.node.rest) title)) [
      | inl e ↦ elim (cases_Bool (test i)) [ inl f ↦ rw (e, f) (omega (arith, le), more) | inr f ↦ rw (e, f) more ]
      | inr e ↦ rw e more
    ]

one_place : (P : ℕ → Type 0) (is : List ℕ) (up : Option ℕ) → AllByRecursion P is → the_only is ≡ Ok up → ForSome up P
one_place P [] up all is = let same : None ≡ up = cc in subst (λ (up : Option ℕ). ForSome up P) same (λ i none. absurd cc)
one_place P (i ∷ []) up all is = let same : Some i ≡ up = cc in subst (λ (up : Option ℕ). ForSome up P) same (some_holds P i all.0)
one_place P (i ∷ j ∷ more) up all is = absurd cc

target_of : (b : Bool) (P : ℕ → Type 0) (is : List ℕ) (up : Option ℕ) → AllByRecursion P is → ◌≡◌ {A = Result (Option ℕ) PathFault} (if b then Ok None else the_only is) (Ok up) → ForSome up P
target_of true P is up all found = let same : None ≡ up = cc in subst (λ (up : Option ℕ). ForSome up P) same (λ i none. absurd cc)
target_of false P is up all found = one_place P is up all found

target_in : (states : Keywords) (to : Destination) (d : Document) (up : Option ℕ) → target_heading states to d ≡ Ok up → ForSome up (λ p. p < node_count d)
target_in states to d up found =
    let P : ℕ → Type 0 = λ p. p < node_count d in
    target_of (to.level == 0) P _ up (place_in (λ i. (node_at d i).node.level == to.level) states to.title (node_count d) 0 (nodes d) (omega arith)) found

-- ---- what archiving that succeeds has found and made

heading_found : {A : Type 0} (s : Result (Option ℕ) PathFault) (make : Option ℕ → Result A Refusal) (x : A) → with_heading s make ≡ Ok x → (up : Option ℕ) × (s ≡ Ok up) × (make up ≡ Ok x)
heading_found (Ok up) make x is = (up, refl, is)
heading_found (Err fault) make x is = absurd cc

apart_gives : {A : Type 0} (inside below : Bool) (x y : A) → ◌≡◌ {A = Result A Refusal} (if inside then Err InsideItself else (if below then Err AlreadyArchive else Ok x)) (Ok y) → (inside ≡ false) × (x ≡ y)
apart_gives true below x y is = absurd cc
apart_gives false true x y is = absurd cc
apart_gives false false x y is = (refl, cc)

-- the heading stays, and what is defined is made
apart_of : {A : Type 0} (d : Document) (i : ℕ) (up : Option ℕ) (x y : A) → if_apart d i up x ≡ Ok y → ForSome up (λ p. is_inside d i p ≡ false) × (x ≡ y)
apart_of d i None x y is = (λ p none. absurd cc, cc)
apart_of d i (Some p) x y is =
    let both = apart_gives (is_inside d i p) (is_inside d p i) x y is in
    (some_holds (λ p. is_inside d i p ≡ false) p both.0, both.1)

pub record Stays (states : Keywords) (name : List ℕ) (now : Moment) (to : Destination) (d new : Document) (i : ℕ) (up : Option ℕ) : Type 0 where
  pub node_in : i < node_count d
  pub up_in : ForSome up (λ p. p < node_count d)
  pub outside : ForSome up (λ p. is_inside d i p ≡ false)
  pub is : left_with states name now to d i up ≡ new

stays_of : (states : Keywords) (name : List ℕ) (path : List Step) (now : Moment) (to : Destination) (d new : Document) (i : ℕ) (up : Option ℕ)
    → find_path states d path ≡ Ok i → target_heading states to d ≡ Ok up → if_apart d i up (left_with states name now to d i up) ≡ Ok new → Stays states name now to d new i up
stays_of states name path now to d new i up found found_up made =
    let both = apart_of d i up (left_with states name now to d i up) new made in
    record { node_in = found_in states d path i found; up_in = target_in states to d up found_up; outside = both.0; is = both.1 }

-- ---- validity

above_top : (n : ℕ) → (n == 0) ≡ false → 0 < n
above_top zero e = absurd cc
above_top (suc n) e = omega arith

spaced : (title : List ℕ) → IsLine title → IsLine (32 ∷ title)
spaced title line = (λ e. absurd cc, line)

put_last_valid : (to : Destination) (up : Option ℕ) (node : Node) (d : Document) → IsLine to.title → IsNode node → IsValid d → IsValid (put_last to up node d)
put_last_valid to (Some p) node d line good valid = IsValid-insert (Some p) Last node d good valid
put_last_valid to None node d line good valid =
    elim (cases_Bool (to.level == 0)) [
      | inl e ↦ rw e (IsValid-insert None Last node d good valid)
      | inr e ↦ rw e (IsValid-insert (Some (node_count d)) Last node (append_heading to.level (32 ∷ to.title) d) good
          (append_heading_valid to.level (32 ∷ to.title) d (above_top to.level e) refl (spaced to.title line) valid))
    ]

pub within_stays_valid : (states : Keywords) (name : List ℕ) (path : List Step) (now : Moment) (to : Destination) (d new : Document)
    → IsLine name → IsLine to.title → archive_within states name path now to d ≡ Ok new → IsValid d → IsValid new
within_stays_valid states name path now to d new line title made valid =
    let first = found_of (find_path states d path) _ new made in
    let second = heading_found (target_heading states to d) _ new first.2 in
    let s = stays_of states name path now to d new first.0 second.0 first.1 second.1 second.2 in
    subst IsValid s.is (put_last_valid to (parent_without first.0 (size_of d first.0) second.0) (archived states name now d first.0) (take first.0 d) title
    (archived_node states name now d first.0 line valid s.node_in) (take_valid first.0 d valid))

pub across_stays_valid : (states there : Keywords) (name : List ℕ) (path : List Step) (now : Moment) (to : Destination) (source target : Document) (new : Moved)
    → IsLine name → IsLine to.title → archive_across states name path now source there to target ≡ Ok new → IsValid source → IsValid target
    → IsValid new.source × IsValid new.target
across_stays_valid states there name path now to source target new line title made valid valid_target =
    let first = found_of (find_path states source path) _ new made in
    let second = heading_found (target_heading there to target) _ new first.2 in
    let same : record { source = take first.0 source; target = put_last to second.0 (archived states name now source first.0) target } ≡ new = cc in (
      subst IsValid (ap (λ (m : Moved). m.source) same) (take_valid first.0 source valid),
      subst IsValid (ap (λ (m : Moved). m.target) same) (put_last_valid to second.0 (archived states name now source first.0) target title
          (archived_node states name now source first.0 line valid (found_in states source path first.0 first.1)) valid_target),
    )

-- ---- counts

abbrev weight_of : List ℕ → List (List ℕ) → Weight
weight_of rest section = λ r s. one_of rest section r s

one_more : (level : ℕ) (rest : List ℕ) (d : Document) → node_count d < node_count (append_heading level rest d)
one_more level rest d =
    let new : Document = append_heading level rest d in
    omega (arith, count-is d, count-is new, one_each d.forest, one_each new.forest, made-weight (λ r s. 1) level rest d)

put_last_count : (rest : List ℕ) (section : List (List ℕ)) (to : Destination) (up : Option ℕ) (node : Node) (d : Document) → ForSome up (λ p. p < node_count d)
    → count_in rest section (put_last to up node d) ≡ count_in rest section d + weigh_node (weight_of rest section) node + made_count rest section to up
put_last_count rest section to (Some p) node d up_in =
    let w : Weight = weight_of rest section in
    omega (arith, insert-weight w (Some p) Last node d up_in)
put_last_count rest section to None node d up_in =
    let w : Weight = weight_of rest section in
    let new : Document = append_heading to.level (32 ∷ to.title) d in
    elim (cases_Bool (to.level == 0)) [
      | inl e ↦ rw e (omega (arith, insert-weight w None Last node d (λ i none. absurd cc)))
      | inr e ↦ rw e (omega (
        arith,
        insert-weight w (Some (node_count d)) Last node new (some_holds (λ p. p < node_count new) (node_count d) (one_more to.level (32 ∷ to.title) d)),
        made-weight w to.level (32 ∷ to.title) d,
      ))
    ]

-- the heading's number once the subtree is taken out
still_in : (d : Document) (i : ℕ) (up : Option ℕ) → i < node_count d → ForSome up (λ p. p < node_count d) → ForSome up (λ p. is_inside d i p ≡ false)
    → ForSome (parent_without i (size_of d i) up) (λ p. p < node_count (take i d))
still_in d i None i_in up_in outside = λ p none. absurd cc
still_in d i (Some p) i_in up_in outside = some_holds (λ p. p < node_count (take i d)) _ (number_in d i p i_in (up_in p refl) (outside p refl))

same_made : (rest : List ℕ) (section : List (List ℕ)) (to : Destination) (i size : ℕ) (up : Option ℕ) → made_count rest section to (parent_without i size up) ≡ made_count rest section to up
same_made rest section to i size None = refl
same_made rest section to i size (Some p) = refl

-- a node with another section
own_count : (rest : List ℕ) (section : List (List ℕ)) (states : Keywords) (name : List ℕ) (now : Moment) (d : Document) (i : ℕ)
    → weigh_node (weight_of rest section) (archived states name now d i) + one_of rest section (node_at d i).node.rest (node_at d i).node.section
    ≡ weigh_node (weight_of rest section) (node_at d i).node + one_of rest section (node_at d i).node.rest (archived_section states name now d i)
own_count rest section states name now d i =
    let own : Node = (node_at d i).node in
    let new : weigh_node (weight_of rest section) (archived states name now d i)
    ≡ one_of rest section own.rest (archived_section states name now d i) + weigh (weight_of rest section) own.children = refl in
    let old : weigh_node (weight_of rest section) own ≡ one_of rest section own.rest own.section + weigh (weight_of rest section) own.children = refl in
    omega (arith, new, old)

pub within_keeps : (states : Keywords) (name : List ℕ) (path : List Step) (now : Moment) (to : Destination) (d new : Document) (i : ℕ) (up : Option ℕ)
    → find_path states d path ≡ Ok i → target_heading states to d ≡ Ok up → archive_within states name path now to d ≡ Ok new → (rest : List ℕ) (section : List (List ℕ))
    → count_in rest section new + one_of rest section (node_at d i).node.rest (node_at d i).node.section
    ≡ count_in rest section d + one_of rest section (node_at d i).node.rest (archived_section states name now d i) + made_count rest section to up
within_keeps states name path now to d new i up found found_up made rest section =
    let defined : archive_within states name path now to d ≡ if_apart d i up (left_with states name now to d i up) = rw (found, found_up) refl in
    let s = stays_of states name path now to d new i up found found_up (sym defined ∙ made) in
    let there : Option ℕ = parent_without i (size_of d i) up in
    let put_in = put_last_count rest section to there (archived states name now d i) (take i d) (still_in d i up s.node_in s.up_in s.outside) in
    let same : count_in rest section (left_with states name now to d i up) ≡ count_in rest section new = ap (count_in rest section) s.is in
    omega (arith, put_in, same, take-weight (weight_of rest section) i d s.node_in, own_count rest section states name now d i, same_made rest section to i (size_of d i) up)

pub across_keeps : (states there : Keywords) (name : List ℕ) (path : List Step) (now : Moment) (to : Destination) (source target : Document) (new : Moved) (i : ℕ) (up : Option ℕ)
    → find_path states source path ≡ Ok i → target_heading there to target ≡ Ok up → archive_across states name path now source there to target ≡ Ok new → (rest : List ℕ) (section : List (List ℕ))
    → count_in rest section new.source + count_in rest section new.target + one_of rest section (node_at source i).node.rest (node_at source i).node.section
    ≡ count_in rest section source + count_in rest section target + one_of rest section (node_at source i).node.rest (archived_section states name now source i) + made_count rest section to up
across_keeps states there name path now to source target new i up found found_up made rest section =
    let made_is : Moved = record { source = take i source; target = put_last to up (archived states name now source i) target } in
    let defined : archive_across states name path now source there to target ≡ Ok made_is = rw (found, found_up) refl in
    let both : Ok made_is ≡ Ok new = sym defined ∙ made in
    let same : made_is ≡ new = cc in
    let left : count_in rest section (take i source) ≡ count_in rest section new.source = ap (λ (m : Moved). count_in rest section m.source) same in
    let gained : count_in rest section (put_last to up (archived states name now source i) target) ≡ count_in rest section new.target = ap (λ (m : Moved). count_in rest section m.target) same in
    let put_in = put_last_count rest section to up (archived states name now source i) target (target_in there to target up found_up) in
    omega (arith, put_in, left, gained, take-weight (weight_of rest section) i source (found_in states source path i found), own_count rest section states name now source i)

-- ---- over all files

pub file_keeps : (states : Keywords) (name : List ℕ) (path : List Step) (now : Moment) (to : Destination) (texts : List (List ℕ)) (file : ℕ) (text : List ℕ) (new : Document) (i : ℕ) (up : Option ℕ)
    → IsLine name → IsLine to.title → slice_get texts file ≡ Some text → find_path states (tree text) path ≡ Ok i → target_heading states to (tree text) ≡ Ok up
    → archive_within states name path now to (tree text) ≡ Ok new → (rest : List ℕ) (section : List (List ℕ))
    → count_over rest section (slice_set texts file (print new)) + one_of rest section (node_at (tree text) i).node.rest (node_at (tree text) i).node.section
    ≡ count_over rest section texts + one_of rest section (node_at (tree text) i).node.rest (archived_section states name now (tree text) i) + made_count rest section to up
file_keeps states name path now to texts file text new i up line title here found found_up made rest section =
    omega (
      arith,
      counts_add rest section texts file text (print new) here,
      counts_again rest section new (within_stays_valid states name path now to (tree text) new line title made (tree-is text).valid),
      within_keeps states name path now to (tree text) new i up found found_up made rest section,
    )

pub files_keep : (states there : Keywords) (name : List ℕ) (path : List Step) (now : Moment) (to : Destination) (texts : List (List ℕ)) (first second : ℕ) (from into : List ℕ) (new : Moved) (i : ℕ) (up : Option ℕ)
    → IsLine name → IsLine to.title → first ≢ second → slice_get texts first ≡ Some from → slice_get texts second ≡ Some into
    → find_path states (tree from) path ≡ Ok i → target_heading there to (tree into) ≡ Ok up
    → archive_across states name path now (tree from) there to (tree into) ≡ Ok new → (rest : List ℕ) (section : List (List ℕ))
    → count_over rest section (slice_set (slice_set texts first (print new.source)) second (print new.target)) + one_of rest section (node_at (tree from) i).node.rest (node_at (tree from) i).node.section
    ≡ count_over rest section texts + one_of rest section (node_at (tree from) i).node.rest (archived_section states name now (tree from) i) + made_count rest section to up
files_keep states there name path now to texts first second from into new i up line title apart here here_too found found_up made rest section =
    omega (
      arith,
      counts_both rest section texts first second from into new.source new.target apart here here_too (across_stays_valid states there name path now to (tree from) (tree into) new line title made (tree-is from).valid (tree-is into).valid),
      across_keeps states there name path now to (tree from) (tree into) new i up found found_up made rest section,
    )
