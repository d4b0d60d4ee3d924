use Rattle.std.proofs.Common.{◌<◌, ℕ, All, arith}
use Rattle.std.proofs.lemmas.Grind.{common_steps}
use Rattle.std.proofs.lemmas.List.Elements.{All-push}
use Rattle.org_outline.specs.Tree.{node_count, tree}
use Rattle.orgs_entries.proofs.Upward.{some_parent}
use Rattle.orgs_lists.proofs.Tags.{nearer}
use Rattle.orgs_lists.proofs.paths.chain.Goals as goal

pub loop-next-smaller : goal.loop-next-smaller
loop-next-smaller c = nearer (tree c.args.entries.now.text) c.in-Some.at c.loop-next.next c.parent-next.result c.in-Some.is c.parent-next.ensures.value

pub loop-next-preserved : goal.loop-next-preserved
loop-next-preserved c =
    let n = node_count (tree c.args.entries.now.text) in
    let lt : c.in-Some.at < n = c.loop-next.invariant.there c.in-Some.at c.in-Some.is in
    record {
      there = some_parent c.parent-next.result n c.parent-next.ensures.within;
      all = rw c.in_ok-push.ensures.items (All-push (λ i. i < n) c.loop-next.chain.items c.in-Some.at c.loop-next.invariant.all lt);
    }
