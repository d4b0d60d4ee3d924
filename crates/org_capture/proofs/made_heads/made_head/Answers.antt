use Rattle.std.proofs.Common.{◌≡◌, ◌∙◌, ◌++◌, ◌∷◌, [], ℕ, List, length, refl, sym, ap}
use Rattle.org_splice.specs.declared.edit.Edit.{Edit}
use Rattle.org_headings.specs.Text.{heading_line}
use Rattle.org_outline.specs.Tree.{print_node}
use Rattle.org_outline.specs.Moves.{shift_node}
use Rattle.org_capture.specs.Capture.{rest_of}
use Rattle.org_capture.proofs.OneHeading.{entry_printed, entry_node}
use Rattle.org_capture.proofs.Insertions.{makes_head}
use Rattle.org_capture.proofs.made_heads.made_head.Goals as goal

pub shift-requires-clause-node : goal.shift-requires-clause-node
shift-requires-clause-node c = entry_printed c.args.entry.now c.requires.0 c.requires.1

pub returns : goal.returns
returns c = λ node entry.
    let text : List ℕ = c.args.outline.now.text in
    let line : List ℕ = heading_line 1 (rest_of c.args.title.now) ++ 10 ∷ [] in
    let below : List ℕ = print_node (shift_node 2 node) in
    let headed : c.push_heading.new.text.items ≡ line = c.in_ok-push_heading.ensures ∙ ap (λ l. l ++ line) c.new-bytes.ensures.items in
    let filled : c.as_slice.result.now ≡ below = c.as_slice.ensures.value ∙ c.in_ok-below.ensures ∙ ap (λ n. print_node (shift_node 2 n)) (sym (entry_node c.args.entry.now node entry)) in
    let bytes : c.new-bytes-2.result ≡ line ++ below = c.new-bytes-2.ensures ∙ c.in_ok-extend_from_slice.ensures.items
    ∙ ap (λ l. l ++ c.as_slice.result.now) headed ∙ ap (λ l. line ++ l) filled in
    let edit : Edit = record { at = length c.text-at.result.now; removed = 0; bytes = c.new-bytes-2.result } in
    makes_head text c.args.title.now c.args.place node edit c.text-at.ensures.terminated (ap length c.text-at.ensures.value) refl bytes
