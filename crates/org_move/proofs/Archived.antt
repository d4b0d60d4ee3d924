-- An archived node is one still, and its lines can be moved to another level.
use Rattle.std.proofs.Common.{◌≡◌, ℕ, ◌<◌, List, Ok, Err, sym, ap, subst, ◌∙◌}
use Rattle.std.specs.Prelude.{Result, IfOk}
use Rattle.std.specs.List.{AllByRecursion}
use Rattle.org_disk.specs.Names.{IsDiskName}
use Rattle.org_splice.specs.Lines.{IsLine, lines_of}
use Rattle.org_stamp.specs.Calendar.{Moment}
use Rattle.org_outline.specs.States.{Keywords}
use Rattle.org_outline.specs.Tree.{Document, IsPlain, IsValid, node_at, node_count, print_node, tree}
use Rattle.org_outline.specs.Moves.{IsNode, IsPrinted}
use Rattle.org_outline.proofs.Sections.{valid_node}
use Rattle.org_outline.proofs.Trees.{tree-is}
use Rattle.org_outline.proofs.Valid.{node-print}
use Rattle.org_meta.proofs.Puts.{joined_split}
use Rattle.org_move.specs.Archive.{archive_properties, archived, archived_section}
use Rattle.org_move.proofs.Values.{all_put, each_plain, name_line}

pub archived_node : (states : Keywords) (name : List ℕ) (now : Moment) (d : Document) (i : ℕ) → IsLine name → IsValid d → i < node_count d → IsNode (archived states name now d i)
archived_node states name now d i line valid lt =
    let own = valid_node d i valid lt in
    let ls : List (List ℕ) = (node_at d i).node.section in
    let plain : AllByRecursion IsPlain ls = own.heading.section in
    let section : AllByRecursion IsPlain (archived_section states name now d i) =
    each_plain (archive_properties states name now d i) ls (all_put states name now d i line valid) (subst (AllByRecursion IsPlain) (sym (joined_split ls)) plain) plain in
    record {
      heading = record { level = own.heading.level; space = own.heading.space; rest = own.heading.rest; section = section };
      deep = own.deep;
      children = own.children;
    }

-- as the code has its lines
pub archived_lines : (states : Keywords) (name : List ℕ) (now : Moment) (d : Document) (i : ℕ) (section made : List ℕ)
    → made ≡ print_node (record (node_at d i).node { section = lines_of section }) → lines_of section ≡ archived_section states name now d i
    → made ≡ print_node (archived states name now d i)
archived_lines states name now d i section made made_is is =
    made_is ∙ ap (λ (ls : List (List ℕ)). print_node (record (node_at d i).node { section = ls })) is

pub archived_printed : (states : Keywords) (name : List ℕ) (now : Moment) (t : List ℕ) (i : ℕ) (made : List ℕ) → IsDiskName name → i < node_count (tree t)
    → made ≡ print_node (archived states name now (tree t) i) → IsPrinted made
archived_printed states name now t i made valid lt is =
    subst IsPrinted (sym is) (node-print (archived states name now (tree t) i) (archived_node states name now (tree t) i (name_line name valid) (tree-is t).valid lt)).1

-- the node that they print
pub archived_root : (states : Keywords) (name : List ℕ) (now : Moment) (t : List ℕ) (i : ℕ) (made : List ℕ) → IsDiskName name → i < node_count (tree t)
    → made ≡ print_node (archived states name now (tree t) i) → (node_at (tree made) 0).node ≡ archived states name now (tree t) i
archived_root states name now t i made valid lt is =
    ap (λ b. (node_at (tree b) 0).node) is
    ∙ (node-print (archived states name now (tree t) i) (archived_node states name now (tree t) i (name_line name valid) (tree-is t).valid lt)).0

pub if_ok : {A E : Type 0} (r : Result A E) (P Q : A → Type 0) → IfOk r P → ((x : A) → P x → Q x) → IfOk r Q
if_ok (Ok x) P Q holds more = more x holds
if_ok (Err e) P Q holds more = tt
