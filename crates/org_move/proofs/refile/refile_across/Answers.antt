use Rattle.org_move.proofs.Made.{across_made}
use Rattle.org_move.proofs.refile.refile_across.Goals as goal

pub returns : goal.returns
returns c =
    across_made _ _ c.args.source.now.text _ _ c.args.target.now.text c.args.place _ _ _ _ _ _ _ _ c.with_subtree.ensures.terminated c.level_below-level.ensures.terminated
    c.find.ensures.value c.in_ok-node.was c.find-2.ensures.value c.in_ok-parent.was c.in_ok-node.ensures.within
    c.place-at.ensures c.level_below-level.ensures.value c.without.ensures c.in_ok-goes_in.ensures.value
