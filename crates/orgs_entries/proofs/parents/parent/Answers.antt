use Rattle.std.proofs.Common.{◌≡◌, ℕ, ◌<◌, ◌≤◌, List, Option, Some, None, length, get_or, sym, ap, ◌∙◌, arith}
use Rattle.org_outline.specs.Tree.{node_at, node_count, parent_of, tree}
use Rattle.orgs_entries.proofs.Kept.{kept_at, kept_within}
use Rattle.orgs_entries.proofs.Upward.{next_before, next_nearer, some_parent, way_found, way_next, way_nowhere}
use Rattle.orgs_entries.proofs.parents.parent.Goals as goal

pub returns-then-level : goal.returns-then-level
returns-then-level c =
    let t = c.args.outline.now.text in
    let less : c.in-Some.above < c.args.index = some_parent c.loop-up.up c.args.index c.loop-up.invariant.before c.in-Some.above c.in-Some.is in
    let level : c.level-level.result ≡ (node_at (tree t) c.args.index).node.level = c.level-level.ensures.value ∙ ap (λ i. (node_at (tree t) i).node.level) c.node.ensures in
    let other : c.level.result ≡ (node_at (tree t) c.in-Some.above).node.level = c.level.ensures.value ∙ ap (λ i. (node_at (tree t) i).node.level) c.node-in-Some.ensures in
    way_found t c.args.index c.in-Some.above c.level-level.result c.loop-up.up c.requires.within less c.in-Some.is level (omega (arith, other, c.if-level.true)) c.loop-up.invariant.passed

pub bounds-parents-above : goal.bounds-parents-above
bounds-parents-above c =
    let less : c.in-Some.above < c.args.index = some_parent c.loop-up.up c.args.index c.loop-up.invariant.before c.in-Some.above c.in-Some.is in
    kept_within (parent_of (tree c.args.outline.now.text)) c.args.index c.in-Some.above c.args.parents.now c.requires.known less

pub offset_bounds-parents-above : goal.offset_bounds-parents-above
offset_bounds-parents-above c = omega (arith, bounds-parents-above c)

pub loop-up-smaller : goal.loop-up-smaller
loop-up-smaller c =
    let t = c.args.outline.now.text in
    let less : c.in-Some.above < c.args.index = some_parent c.loop-up.up c.args.index c.loop-up.invariant.before c.in-Some.above c.in-Some.is in
    let parent = kept_at (parent_of (tree t)) c.args.index c.in-Some.above c.args.parents.now None c.requires.known less in
    next_nearer t c.in-Some.above c.loop-up.up (get_or c.args.parents.now c.in-Some.above None) c.in-Some.is parent

pub loop-up-preserved : goal.loop-up-preserved
loop-up-preserved c =
    let t = c.args.outline.now.text in
    let less : c.in-Some.above < c.args.index = some_parent c.loop-up.up c.args.index c.loop-up.invariant.before c.in-Some.above c.in-Some.is in
    let parent = kept_at (parent_of (tree t)) c.args.index c.in-Some.above c.args.parents.now None c.requires.known less in
    let other : c.level.result ≡ (node_at (tree t) c.in-Some.above).node.level = c.level.ensures.value ∙ ap (λ i. (node_at (tree t) i).node.level) c.node-in-Some.ensures in
    record {
      before = next_before t c.in-Some.above c.args.index (get_or c.args.parents.now c.in-Some.above None) less parent;
      passed = way_next t c.args.index c.in-Some.above c.level-level.result c.loop-up.up (get_or c.args.parents.now c.in-Some.above None) c.requires.within less c.in-Some.is
          (omega (arith, other, c.if-level.false)) parent c.loop-up.invariant.passed;
    }

pub returns : goal.returns
returns c =
    let t = c.args.outline.now.text in
    let level : c.level-level.result ≡ (node_at (tree t) c.args.index).node.level = c.level-level.ensures.value ∙ ap (λ i. (node_at (tree t) i).node.level) c.node.ensures in
    way_nowhere t c.args.index c.level-level.result c.loop-up.up c.requires.within c.in_default.is level c.loop-up.invariant.passed
