use Rattle.std.proofs.Common.{◌≡◌, ℕ, ◌≤◌, ◌<◌, ◌+◌, List, length, count_by, sym, ap, ◌∙◌, arith}
use Rattle.std.specs.Prelude.{slice_range}
use Rattle.std.proofs.lemmas.Grind.{common_steps}
use Rattle.org_outline.specs.Tree.{node_at, node_count, tree}
use Rattle.orgs_entries.specs.Lines.{is_newline, line_at, line_of}
use Rattle.orgs_entries.proofs.Kept.{kept_more}
use Rattle.orgs_entries.proofs.Places.{at_rises, at_within, line_later}
use Rattle.orgs_entries.proofs.lines.read_lines.Goals as goal

pub newlines-line-requires-clause-within : goal.newlines-line-requires-clause-within
newlines-line-requires-clause-within c =
    let t = c.args.outline.now.text in
    let lt : c.loop-index.index < node_count (tree t) = omega (arith, c.loop-index-test.true, c.count-index-end.ensures) in
    let here : c.start-start.result ≡ (node_at (tree t) c.loop-index.index).at = c.start-start.ensures ∙ ap (λ i. (node_at (tree t) i).at) c.node.ensures in
    omega (arith, here, at_within t c.loop-index.index c.text-text.ensures.terminated lt, ap length c.text-text.ensures.value)

pub loop-index-preserved : goal.loop-index-preserved
loop-index-preserved c =
    let t = c.args.outline.now.text in
    let i = c.loop-index.index in
    let lt : i < node_count (tree t) = omega (arith, c.loop-index-test.true, c.count-index-end.ensures) in
    let here : c.start-start.result ≡ (node_at (tree t) i).at = c.start-start.ensures ∙ ap (λ k. (node_at (tree t) k).at) c.node.ensures in
    let within : c.start-start.result ≤ length t = omega (arith, here, at_within t i c.text-text.ensures.terminated lt) in
    let low : c.loop-index.counted ≤ c.start-start.result = omega (arith, here, c.loop-index.invariant.before i (omega arith) lt) in
    let count : c.newlines-line.result ≡ count_by is_newline (slice_range t c.loop-index.counted c.start-start.result) =
    c.newlines-line.ensures.count ∙ ap (λ (u : List ℕ). count_by is_newline (slice_range u c.loop-index.counted c.start-start.result)) c.text-text.ensures.value in
    let line : c.loop-index.line + c.newlines-line.result ≡ line_at t c.start-start.result = omega (arith, count, c.loop-index.invariant.line, line_later t c.loop-index.counted c.start-start.result low within) in
    record {
      items = kept_more (line_of t) i _ _ _ c.loop-index.invariant.items c.in_ok-push.ensures.items (line ∙ ap (line_at t) here);
      line = line;
      within = within;
      before = λ j le less. omega (arith, here, at_rises t i j (omega (arith, le)) less);
    }
