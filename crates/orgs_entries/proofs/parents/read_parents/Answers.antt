use Rattle.std.proofs.Common.{◌≡◌}
use Rattle.org_outline.specs.Tree.{parent_of, tree}
use Rattle.orgs_entries.proofs.Kept.{kept_more}
use Rattle.orgs_entries.proofs.parents.read_parents.Goals as goal

pub loop-index-preserved : goal.loop-index-preserved
loop-index-preserved c = kept_more (parent_of (tree c.args.outline.now.text)) c.loop-index.index _ _ _ c.loop-index.invariant c.in_ok-push.ensures.items c.parent.ensures
