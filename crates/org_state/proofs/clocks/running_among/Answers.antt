use Rattle.std.proofs.Common.{◌≡◌, ◌<◌, ℕ, length, false, sym, ap, subst, arith}
use Rattle.org_outline.specs.Tree.{node_at, node_count, tree}
use Rattle.org_meta.proofs.Closing.{ends_within}
use Rattle.org_state.specs.Clock.{runs_at}
use Rattle.org_state.proofs.Searches.{running_found}
use Rattle.org_state.proofs.clocks.running_among.Goals as goal

pub span_in_section-requires-clause-within : goal.span_in_section-requires-clause-within
span_in_section-requires-clause-within c =
    let h = c.in-Some.ensures.stands in
    omega (arith, ends_within c.section.result.bytes.now c.in-Some.line h.before h.line h.after c.section.result.whole h.is, ap length c.section.ensures.bytes)

pub returns-in-Some : goal.returns-in-Some
returns-in-Some c =
    let i : ℕ = c.node-heading.result in
    let before : (k : ℕ) → k < i → runs_at (node_at (tree c.args.outline.now.text) k) ≡ false = subst (λ (n : ℕ). (k : ℕ) → k < n → runs_at (node_at (tree c.args.outline.now.text) k) ≡ false) (sym c.node-heading.ensures) c.loop-index.invariant in
    let lt : i < node_count (tree c.args.outline.now.text) = omega (arith, c.node-heading.ensures, c.loop-index-test.true, c.requires.within) in
    rw c.span_in_section.ensures
    (running_found (tree c.args.outline.now.text) i c.section.result.bytes.now c.find_open.result c.in-Some.line lt before c.section.ensures.lines c.find_open.ensures.first c.in-Some.is)
