-- The edits of a subtree archived in its own text make the document that is defined.
use Rattle.std.proofs.Common.{◌≡◌, ℕ, ◌<◌, List, [], ◌∷◌, Option, Ok, Err, rules, refl, sym, ap, subst, ◌∙◌}
use Rattle.std.specs.Prelude.{Result, IsOk}
use Rattle.org_fault.specs.declared.fault.Fault.{Fault}
use Rattle.org_fault.specs.declared.fault.Fault.TheVariants.{OutOfMemory, Refused}
use Rattle.org_fault.specs.declared.refusal.Refusal.{Refusal}
use Rattle.org_splice.specs.Edits.{AreEdits}
use Rattle.org_splice.specs.Lines.{terminated}
use Rattle.org_splice.specs.declared.edit.Edit.{Edit}
use Rattle.org_stamp.specs.Calendar.{Moment}
use Rattle.org_outline.specs.declared.paths.PathFault.{PathFault}
use Rattle.org_outline.specs.States.{Keywords}
use Rattle.org_outline.specs.Tree.{Document, Node, node_count, print, print_node, tree}
use Rattle.org_outline.specs.Moves.{InsertsAt, take}
use Rattle.org_outline.specs.Numbers.{parent_without, size_of}
use Rattle.org_outline.proofs.TwoEdits.{two_edits}
use Rattle.org_move.specs.Answers.{IsMadeAs}
use Rattle.org_move.specs.Archive.{archive_within_at, archived, filled, if_apart, put_last, target_heading}
use Rattle.org_move.specs.Edits.{insertion, removal}
use Rattle.org_move.specs.Location.{Destination}
use Rattle.org_move.proofs.Apart.{apart_fails, apart_same, apart_too}
use Rattle.org_move.proofs.Made.{prints}
use Rattle.org_move.proofs.Putting.{level_at}

-- the document, where the heading has the number `up` before the subtree is taken out
abbrev pub left_with : Keywords → List ℕ → Moment → Destination → Document → ℕ → Option ℕ → Document
left_with states name now to d i up = put_last to (parent_without i (size_of d i) up) (archived states name now d i) (take i d)

-- what is defined, once the heading of the destination is found
found_up : (states : Keywords) (name : List ℕ) (now : Moment) (to : Destination) (d : Document) (s : Result (Option ℕ) PathFault) (i : ℕ) (up : Option ℕ)
    → s ≡ target_heading states to d → s ≡ Ok up → archive_within_at states name now to d i ≡ if_apart d i up (left_with states name now to d i up)
found_up states name now to d s i up s_is found =
    let there : target_heading states to d ≡ Ok up = sym s_is ∙ found in
    rw there refl

pub not_apart : {C : Type 0} (states : Keywords) (name : List ℕ) (now : Moment) (to : Destination) (d : Document) (Fits : Document → C → Type 0) (s : Result (Option ℕ) PathFault)
    (i : ℕ) (up : Option ℕ) (why : Refusal)
    → s ≡ target_heading states to d → s ≡ Ok up → Err why ≡ if_apart d i up up
    → IsMadeAs {A = C} (archive_within_at states name now to d i) Fits (Err (Refused why))
not_apart states name now to d Fits s i up why s_is found fails =
    apart_fails d i up up (left_with states name now to d i up) (archive_within_at states name now to d i) why
    (found_up states name now to d s i up s_is found) fails

some_ok : (r : Result Document Refusal) (d : Document) → r ≡ Ok d → IsOk r
some_ok (Ok new) d is = search rules
some_ok (Err fault) d is = absurd cc

-- memory is wanted only where a document is defined
pub starved : {C : Type 0} (states : Keywords) (name : List ℕ) (now : Moment) (to : Destination) (d : Document) (Fits : Document → C → Type 0) (s : Result (Option ℕ) PathFault)
    (i : ℕ) (asked up : Option ℕ) (fault : Fault Refusal)
    → s ≡ target_heading states to d → s ≡ Ok asked → Ok up ≡ if_apart d i asked asked → fault ≡ OutOfMemory
    → IsMadeAs {A = C} (archive_within_at states name now to d i) Fits (Err fault)
starved {C} states name now to d Fits s i asked up fault s_is found is memory =
    let defined : archive_within_at states name now to d i ≡ Ok (left_with states name now to d i asked) =
    found_up states name now to d s i asked s_is found ∙ apart_too d i asked asked up (left_with states name now to d i asked) is in
    subst (λ (f : Fault Refusal). IsMadeAs {A = C} (archive_within_at states name now to d i) Fits (Err f)) (sym memory) (some_ok (archive_within_at states name now to d i) (left_with states name now to d i asked) defined)

pub archived_within : (states : Keywords) (name : List ℕ) (now : Moment) (t : List ℕ) (to : Destination) (s : Result (Option ℕ) PathFault)
    (i : ℕ) (asked up : Option ℕ) (at : ℕ) (bytes : List ℕ) (out goes_in : Edit)
    → terminated t ≡ t → s ≡ target_heading states to (tree t) → s ≡ Ok asked → Ok up ≡ if_apart (tree t) i asked asked → i < node_count (tree t)
    → ((node : Node) → InsertsAt (print (take i (tree t))) (put_last to (parent_without i (size_of (tree t) i) up) node (take i (tree t))) at (filled to (level_at up (tree t)) node))
    → out ≡ removal i (tree t) → goes_in ≡ record { at = at; removed = 0; bytes = bytes } → bytes ≡ print_node (filled to (level_at up (tree t)) (archived states name now (tree t) i))
    → (new : Document) × (archive_within_at states name now to (tree t) i ≡ Ok new) × AreEdits (out ∷ goes_in ∷ []) t (print new)
archived_within states name now t to s i asked up at bytes out goes_in stays_terminated s_is found is lt goes out_is goes_in_is bytes_is =
    let d : Document = tree t in
    let root : Node = archived states name now d i in
    let node : Node = filled to (level_at up d) root in
    let new : Document = left_with states name now to d i up in
    let same : asked ≡ up = apart_same d i asked asked up is in
    let defined : archive_within_at states name now to d i ≡ Ok (left_with states name now to d i asked) =
    found_up states name now to d s i asked s_is found ∙ apart_too d i asked asked up (left_with states name now to d i asked) is in
    let edits : AreEdits (removal i d ∷ insertion at node ∷ []) (print d) (print new) = two_edits i at node d new lt (goes root) in (
      new,
      defined ∙ ap (λ up. Ok (left_with states name now to d i up)) same,
      rw (out_is, goes_in_is, bytes_is) (subst (λ t. AreEdits (removal i d ∷ insertion at node ∷ []) t (print new)) (prints t stays_terminated) edits),
    )
