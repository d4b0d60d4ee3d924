use Rattle.std.proofs.Common.{◌≡◌, List, ℕ, [], sym, ap, ◌∙◌}
use Rattle.org_splice.specs.Lines.{terminated, lines_of, print_lines}
use Rattle.org_splice.proofs.Lines.{terminated-print_lines}
use Rattle.org_meta.specs.Sections.{joined, split}
use Rattle.org_meta.proofs.Puts.{rest_below}
use Rattle.org_state.proofs.Fronts.{front_bytes}
use Rattle.org_state.proofs.own.above_rest.Goals as goal

pub overflow_sub-count : goal.overflow_sub-count
overflow_sub-count c = rest_below c.args.section.bytes.now c.sections.result c.args.section.whole c.sections.ensures

pub returns : goal.returns
returns c = c.split_at.ensures.front ∙ front_bytes c.args.section.bytes.now c.sections.result c.args.section.whole c.sections.ensures

pub invariant_of-result : goal.invariant_of-result
invariant_of-result c =
    let lines : List (List ℕ) = joined (record (split (lines_of c.args.section.bytes.now)) { rest = [] }) in
    let bytes : c.split_at.result.0.now ≡ print_lines lines = c.split_at.ensures.front ∙ front_bytes c.args.section.bytes.now c.sections.result c.args.section.whole c.sections.ensures in
    record { whole = ap terminated bytes ∙ terminated-print_lines lines ∙ sym bytes }
