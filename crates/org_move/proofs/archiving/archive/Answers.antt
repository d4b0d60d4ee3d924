use Rattle.std.proofs.Common.{ℕ, Option, ap, ◌∙◌}
use Rattle.org_outline.specs.Tree.{Node, print_node, tree}
use Rattle.org_move.specs.Archive.{archived, filled}
use Rattle.org_move.proofs.Across.{archive_made}
use Rattle.org_move.proofs.archiving.archive.Goals as goal

pub returns : goal.returns
returns c =
    let source = c.args.source.now in
    let target = c.args.target.now in
    let to = c.args.to.now in
    let up = c.in_ok-up.up in
    let root : Node = archived source.states c.args.name.now c.args.now (tree source.text) c.args.node in
    let lines = c.in_ok-lines.ensures.lines ∙ ap (λ (above : Option ℕ). print_node (filled to above root)) c.level_above-above.ensures.level in
    archive_made source.states c.args.name.now c.args.now source.text target.states to target.text _ _ _ _ _ _ _ c.in_ok-lines.ensures.terminated c.last_below-at.ensures.terminated
    c.target_heading.ensures.value c.in_ok-up.was c.requires
    (λ node. c.last_below-at.ensures.place to node) c.without.ensures c.insertion-goes_in.ensures lines
