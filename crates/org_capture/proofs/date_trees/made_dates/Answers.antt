use Rattle.std.proofs.Common.{◌≡◌, ◌∙◌, ◌+◌, ◌++◌, ℕ, List, length, sym, ap}
use Rattle.org_outline.specs.Tree.{print_node}
use Rattle.org_outline.specs.Moves.{shift_node}
use Rattle.org_capture.specs.Dates.{made_lines}
use Rattle.org_capture.proofs.OneHeading.{entry_printed, entry_node}
use Rattle.org_capture.proofs.DateTrees.{made_prints}
use Rattle.org_capture.proofs.date_trees.made_dates.Goals as goal

pub shift-requires-clause-node : goal.shift-requires-clause-node
shift-requires-clause-node c = entry_printed c.args.entry.now c.requires.entry.0 c.requires.entry.1

pub returns : goal.returns
returns c = λ node entry.
    let lines : List ℕ = made_lines c.args.level c.args.kinds.now c.args.moment.day in
    let below : List ℕ = print_node (shift_node (c.args.level + length c.args.kinds.now) node) in
    let headed : c.push_dates.new.text.items ≡ lines = c.in_ok-push_dates.ensures ∙ ap (λ l. l ++ lines) c.new-bytes.ensures.items in
    let filled : c.as_slice.result.now ≡ below = c.as_slice.ensures.value ∙ c.in_ok-below.ensures
    ∙ ap (λ n. print_node (shift_node (c.args.level + length c.args.kinds.now) n)) (sym (entry_node c.args.entry.now node entry)) in
    c.in_ok-extend_from_slice.ensures.items ∙ ap (λ l. l ++ c.as_slice.result.now) headed ∙ ap (λ l. lines ++ l) filled
    ∙ sym (made_prints c.args.level c.args.kinds.now c.args.moment.day node)
