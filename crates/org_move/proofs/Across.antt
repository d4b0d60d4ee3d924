-- The edits of an archived subtree make the documents that are defined.
use Rattle.std.proofs.Common.{◌≡◌, ℕ, ◌<◌, List, [], ◌∷◌, Option, Ok, refl, sym, subst, ◌∙◌, arith}
use Rattle.std.specs.Prelude.{Result}
use Rattle.org_splice.specs.Edits.{AreEdits}
use Rattle.org_splice.specs.Lines.{terminated}
use Rattle.org_splice.specs.declared.edit.Edit.{Edit}
use Rattle.org_stamp.specs.Calendar.{Moment}
use Rattle.org_outline.specs.declared.paths.PathFault.{PathFault}
use Rattle.org_outline.specs.States.{Keywords}
use Rattle.org_outline.specs.Tree.{Document, Node, node_at, node_count, print, print_node, tree}
use Rattle.org_outline.specs.Moves.{InsertsAt, take}
use Rattle.org_outline.proofs.AsEdits.{inserts_edit, takes_edit}
use Rattle.org_outline.proofs.Changes.{take_local}
use Rattle.org_outline.proofs.TwoEdits.{one_edit}
use Rattle.org_move.specs.Archive.{archive_across_at, archived, filled, put_last, target_heading}
use Rattle.org_move.specs.Edits.{insertion, removal}
use Rattle.org_move.specs.Location.{Destination}
use Rattle.org_move.specs.Refile.{Moved}
use Rattle.org_move.proofs.Made.{prints}
use Rattle.org_move.proofs.Putting.{level_at}

pub archive_made : (states : Keywords) (name : List ℕ) (now : Moment) (t : List ℕ) (there : Keywords) (to : Destination) (u : List ℕ) (s : Result (Option ℕ) PathFault)
    (i : ℕ) (up : Option ℕ) (at : ℕ) (bytes : List ℕ) (out goes_in : Edit)
    → terminated t ≡ t → terminated u ≡ u → s ≡ target_heading there to (tree u) → s ≡ Ok up → i < node_count (tree t)
    → ((node : Node) → InsertsAt u (put_last to up node (tree u)) at (filled to (level_at up (tree u)) node))
    → out ≡ removal i (tree t) → goes_in ≡ record { at = at; removed = 0; bytes = bytes } → bytes ≡ print_node (filled to (level_at up (tree u)) (archived states name now (tree t) i))
    → (new : Moved) × (archive_across_at states name now (tree t) there to (tree u) i ≡ Ok new)
    × (AreEdits (out ∷ []) t (print new.source) × AreEdits (goes_in ∷ []) u (print new.target))
archive_made states name now t there to u s i up at bytes out goes_in stays_terminated shut_target s_is found_up lt goes out_is goes_in_is bytes_is =
    let d : Document = tree t in
    let e : Document = tree u in
    let root : Node = archived states name now d i in
    let node : Node = filled to (level_at up e) root in
    let new : Moved = record { source = take i d; target = put_last to up root e } in
    let there_is : target_heading there to e ≡ Ok up = sym s_is ∙ found_up in
    let taken = takes_edit (print d) (print (take i d)) (node_at d i).at (print_node (node_at d i).node) (take_local i d lt) in
    let left : AreEdits (removal i d ∷ []) (print d) (print new.source) = one_edit (removal i d) d (take i d) taken.0 taken.1 in
    let whole : print e ≡ u = prints u shut_target in
    let put = inserts_edit (print e) (print new.target) at (print_node node) (subst (λ u. InsertsAt u new.target at node) (sym whole) (goes root)) in
    let gained : AreEdits (insertion at node ∷ []) (print e) (print new.target) = one_edit (insertion at node) e new.target (omega (arith, put.0)) put.1 in (
      new,
      rw there_is refl,
      (
        rw out_is (subst (λ t. AreEdits (removal i d ∷ []) t (print new.source)) (prints t stays_terminated) left),
        rw (goes_in_is, bytes_is) (subst (λ u. AreEdits (insertion at node ∷ []) u (print new.target)) whole gained),
      ),
    )
