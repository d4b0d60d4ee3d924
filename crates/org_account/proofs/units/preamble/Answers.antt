use Rattle.std.proofs.Common.{◌≡◌, ◌<◌, ◌≤◌, length, arith, ap, ◌∙◌}
use Rattle.std.proofs.lemmas.Grind.{common_steps}
use Rattle.org_outline.specs.Tree.{tree, node_count, node_at}
use Rattle.org_account.proofs.Pieces.{preamble_whole, preamble_within, preamble_front}
use Rattle.org_account.proofs.units.preamble.Goals as goal

pub returns-then-count-eq0 : goal.returns-then-count-eq0
returns-then-count-eq0 c =
    let none : node_count (tree c.args.outline.now.text) ≡ 0 = omega (arith, c.if-count-eq0.true, c.count.ensures) in
    preamble_whole c.args.outline.now.text _ c.text-text.ensures.value c.text-text.ensures.terminated none

pub slice_bounds-result-end : goal.slice_bounds-result-end
slice_bounds-result-end c =
    let some : 0 < node_count (tree c.args.outline.now.text) = grind (arith, common_steps) in
    let within : c.start.result ≤ length c.text-text.result.now = preamble_within c.args.outline.now.text _ _ c.text-text.ensures.value c.text-text.ensures.terminated some (c.start.ensures ∙ ap (λ k. (node_at (tree c.args.outline.now.text) k).at) c.node.ensures) in
    grind (arith, common_steps)

pub returns : goal.returns
returns c =
    let some : 0 < node_count (tree c.args.outline.now.text) = grind (arith, common_steps) in
    preamble_front c.args.outline.now.text _ _ c.text-text.ensures.value c.text-text.ensures.terminated some (c.start.ensures ∙ ap (λ k. (node_at (tree c.args.outline.now.text) k).at) c.node.ensures)
