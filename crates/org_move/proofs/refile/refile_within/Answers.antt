use Rattle.org_move.proofs.Made.{within_made}
use Rattle.org_move.proofs.refile.refile_within.Goals as goal

pub returns : goal.returns
returns c =
    within_made _ _ _ c.args.place c.args.outline.now.text _ _ _ _ _ _ _ _ _ c.with_subtree.ensures.terminated
    c.find.ensures.value c.in_ok-node.was c.find-2.ensures.value c.in_ok-parent.was c.in_ok-node.ensures.within
    c.lies_in.ensures c.if-lies_in.false c.place_without-at.ensures c.level_below-level.ensures.value c.without.ensures c.in_ok-goes_in.ensures.value
