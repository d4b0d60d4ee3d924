use Rattle.std.proofs.Common.{◌≡◌, ◌<◌, ◌+◌, ap, ◌∙◌, arith}
use Rattle.org_outline.specs.Tree.{node_at, node_count, tree}
use Rattle.org_outline.specs.Numbers.{size_of}
use Rattle.org_state.proofs.Searches.{minutes_more, minutes_all, minutes_up_to}
use Rattle.org_state.proofs.clocks.clocked_below.Goals as goal

pub loop-index-preserved : goal.loop-index-preserved
loop-index-preserved c =
    let d = tree c.args.own.now.outline.now.text in
    let lt : c.loop-index.index < node_count d = omega (arith, c.loop-index-test.true, c.size.ensures.within, c.number-first.ensures) in
    c.saturating_add-minutes.ensures
    ∙ minutes_more d c.number-first.result c.loop-index.index c.loop-index.minutes c.total.result c.section.result.bytes.now c.loop-index.auto.index lt c.loop-index.invariant
    (c.section.ensures.lines ∙ ap (λ n. (node_at d n).node.section) c.node-node.ensures) c.total.ensures

pub returns : goal.returns
returns c =
    let d = tree c.args.own.now.outline.now.text in
    let last : c.loop-index.index ≡ c.number-first.result + c.size.result = omega (arith, c.loop-index-test.false, c.loop-index.auto.index-end) in
    let size : c.number-first.result + c.size.result ≡ c.args.own.now.node + size_of d c.args.own.now.node = omega (arith, c.number-first.ensures, c.size.ensures.value) in
    minutes_all d c.args.own.now.node c.loop-index.minutes c.args.own.now.within
    (c.loop-index.invariant ∙ ap (minutes_up_to d c.number-first.result) (last ∙ size) ∙ ap (λ n. minutes_up_to d n (c.args.own.now.node + size_of d c.args.own.now.node)) c.number-first.ensures)
