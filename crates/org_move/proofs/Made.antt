-- The edits of a refile make the documents that are defined.
use Rattle.std.proofs.Common.{◌≡◌, ℕ, ◌<◌, Bool, true, false, List, [], ◌∷◌, length, Some, Ok, refl, sym, ap, subst, ◌∙◌, arith, length-append}
use Rattle.std.proofs.lemmas.Grind.{common_steps}
use Rattle.std.specs.Prelude.{Result, IsTrue, ◌↔◌, slice_range}
use Rattle.std.proofs.lemmas.List.{length-replicate}
use Rattle.org_splice.specs.Lines.{terminated}
use Rattle.org_splice.specs.Edits.{AreEdits}
use Rattle.org_splice.specs.declared.edit.Edit.{Edit}
use Rattle.org_outline.specs.declared.steps.Step.{Step}
use Rattle.org_outline.specs.declared.moves.Place.{Place}
use Rattle.org_outline.specs.declared.paths.PathFault.{PathFault}
use Rattle.org_outline.specs.States.{Keywords}
use Rattle.org_headings.specs.Text.{heading_line}
use Rattle.org_outline.specs.Tree.{Document, Node, lines, print, print_node, tree, node_at, node_count}
use Rattle.org_outline.specs.Moves.{IsPrinted, InsertsAt, insert, level_below, shift_node, take}
use Rattle.org_outline.specs.Numbers.{LiesIn, size_of, parent_without}
use Rattle.org_outline.specs.Paths.{find_path}
use Rattle.org_outline.proofs.AsEdits.{inserts_edit, takes_edit}
use Rattle.org_outline.proofs.Changes.{take_local}
use Rattle.org_outline.proofs.Sections.{node-valid}
use Rattle.org_outline.proofs.Trees.{tree-is}
use Rattle.org_outline.proofs.TwoEdits.{one_edit, two_edits}
use Rattle.org_outline.proofs.Valid.{node-print}
use Rattle.org_move.specs.Edits.{removal, insertion}
use Rattle.org_move.specs.Refile.{is_inside, moved, refile_within, Moved, refile_across}

-- ---- nodes of a text

pub prints : (t : List ℕ) → terminated t ≡ t → print (tree t) ≡ t
prints t stays_terminated = (tree-is t).prints ∙ stays_terminated

-- the stars of a heading line aren't the whole text
pub level_less : (t u : List ℕ) (i level : ℕ) → u ≡ t → terminated t ≡ t → i < node_count (tree t) → level ≡ (node_at (tree t) i).node.level → level < length u
level_less t u i level same stays_terminated lt is = grind (arith, common_steps, take_local, length-append, lines, heading_line, length-replicate, prints)

-- the bytes of a subtree are the print of its node
pub printed : (t u : List ℕ) (i start end : ℕ) → u ≡ t → i < node_count (tree t) → slice_range t start end ≡ print_node (node_at (tree t) i).node
    → IsPrinted (slice_range u start end)
printed t u i start end same lt is =
    let whole : slice_range u start end ≡ print_node (node_at (tree t) i).node = ap (λ u. slice_range u start end) same ∙ is in
    subst (λ b. IsPrinted b) (sym whole) (node-print (node_at (tree t) i).node (node-valid t i lt)).1

-- and they are shifted as it is
pub shifted_is : (t u out : List ℕ) (i level start end : ℕ) → u ≡ t → i < node_count (tree t) → slice_range t start end ≡ print_node (node_at (tree t) i).node
    → out ≡ print_node (shift_node level (node_at (tree (slice_range u start end)) 0).node) → out ≡ print_node (shift_node level (node_at (tree t) i).node)
shifted_is t u out i level start end same lt is made = grind (arith, common_steps, node-print, node-valid)

-- ---- within a text

pub inside_is : (d : Document) (top i : ℕ) (b : Bool) → (IsTrue b ↔ LiesIn d top i) → is_inside d top i ≡ b
inside_is d top i true lies = grind (arith, common_steps)
inside_is d top i false lies = grind (arith, common_steps)

pub within_made : (states : Keywords) (path to : List Step) (place : Place) (t : List ℕ) (r s : Result ℕ PathFault) (i p at level : ℕ) (b : Bool) (out into : Edit)
    → terminated t ≡ t → r ≡ find_path states (tree t) path → r ≡ Ok i → s ≡ find_path states (tree t) to → s ≡ Ok p → i < node_count (tree t)
    → (IsTrue b ↔ LiesIn (tree t) i p) → b ≡ false
    → ((node : Node) → InsertsAt (print (take i (tree t))) (insert (parent_without i (size_of (tree t) i) (Some p)) place node (take i (tree t))) at (shift_node (level_below (Some p) (tree t)) node))
    → level ≡ level_below (Some p) (tree t) → out ≡ removal i (tree t) → into ≡ insertion at (shift_node level (node_at (tree t) i).node)
    → (new : Document) × (refile_within states path to place (tree t) ≡ Ok new) × AreEdits (out ∷ into ∷ []) t (print new)
within_made states path to place t r s i p at level b out into stays_terminated r_is found s_is found_to lt lies outside goes level_is out_is into_is =
    let d : Document = tree t in
    let node : Node = (node_at d i).node in
    let test : is_inside d i p ≡ false = inside_is d i p b lies ∙ outside in
    let first : find_path states d path ≡ Ok i = sym r_is ∙ found in
    let second : find_path states d to ≡ Ok p = sym s_is ∙ found_to in
    let edits : AreEdits (removal i d ∷ insertion at (shift_node (level_below (Some p) d) node) ∷ []) (print d) (print (moved i p place d)) =
    two_edits i at (shift_node (level_below (Some p) d) node) d (moved i p place d) lt (goes node) in (
      moved i p place d,
      rw (first, second, test) refl,
      rw (out_is, into_is, level_is) (subst (λ t. AreEdits (removal i d ∷ insertion at (shift_node (level_below (Some p) d) node) ∷ []) t (print (moved i p place d))) (prints t stays_terminated) edits),
    )

-- ---- across two texts

pub across_made : (states : Keywords) (path : List Step) (t : List ℕ) (there : Keywords) (to : List Step) (u : List ℕ) (place : Place) (r s : Result ℕ PathFault) (i p at level : ℕ) (out into : Edit)
    → terminated t ≡ t → terminated u ≡ u → r ≡ find_path states (tree t) path → r ≡ Ok i → s ≡ find_path there (tree u) to → s ≡ Ok p → i < node_count (tree t)
    → ((node : Node) → InsertsAt u (insert (Some p) place node (tree u)) at (shift_node (level_below (Some p) (tree u)) node))
    → level ≡ level_below (Some p) (tree u) → out ≡ removal i (tree t) → into ≡ insertion at (shift_node level (node_at (tree t) i).node)
    → (new : Moved) × (refile_across states path (tree t) there to (tree u) place ≡ Ok new) × (AreEdits (out ∷ []) t (print new.source) × AreEdits (into ∷ []) u (print new.target))
across_made states path t there to u place r s i p at level out into stays_terminated shut_target r_is found s_is found_to lt goes level_is out_is into_is =
    let d : Document = tree t in
    let e : Document = tree u in
    let node : Node = shift_node (level_below (Some p) e) (node_at d i).node in
    let new : Moved = record { source = take i d; target = insert (Some p) place (node_at d i).node e } in
    let first : find_path states d path ≡ Ok i = sym r_is ∙ found in
    let second : find_path there e to ≡ Ok p = sym s_is ∙ found_to in
    let taken = takes_edit (print d) (print (take i d)) (node_at d i).at (print_node (node_at d i).node) (take_local i d lt) in
    let left : AreEdits (removal i d ∷ []) (print d) (print new.source) = one_edit (removal i d) d (take i d) taken.0 taken.1 in
    let whole : print e ≡ u = prints u shut_target in
    let put = inserts_edit (print e) (print new.target) at (print_node node) (subst (λ u. InsertsAt u new.target at node) (sym whole) (goes (node_at d i).node)) in
    let gained : AreEdits (insertion at node ∷ []) (print e) (print new.target) = one_edit (insertion at node) e new.target (omega (arith, put.0)) put.1 in (
      new,
      rw (first, second) refl,
      (
        rw out_is (subst (λ t. AreEdits (removal i d ∷ []) t (print new.source)) (prints t stays_terminated) left),
        rw (into_is, level_is) (subst (λ u. AreEdits (insertion at node ∷ []) u (print new.target)) whole gained),
      ),
    )
