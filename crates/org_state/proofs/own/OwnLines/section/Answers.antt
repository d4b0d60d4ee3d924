use Rattle.std.proofs.Common.{◌≡◌, ℕ, ◌-◌, List, length, take, drop, sym, ap, ◌∙◌, arith}
use Rattle.org_splice.specs.Lines.{terminated, lines_of, print_lines}
use Rattle.org_splice.proofs.Lines.{terminated-print_lines}
use Rattle.org_outline.specs.Tree.{node_at, tree}
use Rattle.org_state.proofs.Steps.{section_bounds, section_lines}
use Rattle.org_state.proofs.own.OwnLines.section.Goals as goal

pub slice_bounds-bytes-end : goal.slice_bounds-bytes-end
slice_bounds-bytes-end c =
    let b = section_bounds c.args.self.now.outline.now.text c.args.self.now.node c.section-span.result c.text.ensures.terminated c.args.self.now.within c.section-span.ensures in
    omega (arith, b.0, b.1, ap length c.text.ensures.value)

pub returns-clause-lines : goal.returns-clause-lines
returns-clause-lines c =
    let span = c.section-span.result in
    ap (λ (t : List ℕ). lines_of (take (span.end - span.start) (drop span.start t))) c.text.ensures.value
    ∙ ap lines_of c.section-span.ensures.bytes ∙ section_lines c.args.self.now.outline.now.text c.args.self.now.node c.args.self.now.within

pub invariant_of-result : goal.invariant_of-result
invariant_of-result c =
    let span = c.section-span.result in
    let lines : List (List ℕ) = (node_at (tree c.args.self.now.outline.now.text) c.args.self.now.node).node.section in
    let bytes : take (span.end - span.start) (drop span.start c.text.result.now) ≡ print_lines lines =
    ap (λ (t : List ℕ). take (span.end - span.start) (drop span.start t)) c.text.ensures.value ∙ c.section-span.ensures.bytes in
    record { whole = ap terminated bytes ∙ terminated-print_lines lines ∙ sym bytes }
