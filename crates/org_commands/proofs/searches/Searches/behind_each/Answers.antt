use Rattle.org_commands.proofs.Noted.{edits_left}
use Rattle.org_commands.proofs.searches.Searches.behind_each.Goals as goal

pub loop-edit-preserved : goal.loop-edit-preserved
loop-edit-preserved c =
    let behind = c.behind-searches-in-loop-edit.ensures in
    record {
      stays = λ text known. behind.unedited text (c.loop-edit.invariant.stays text known);
      follows = λ text long can known.
          edits_left c.parts.result.1.now c.loop-edit.edit-index c.loop-edit.size c.size_behind-size-in-loop-edit.result c.loop-edit.searches c.behind-searches-in-loop-edit.result c.edit-item.result text c.args.edits.now.items
          c.loop-edit-test.true c.edit-item.is c.size_behind-size-in-loop-edit.ensures behind.edited (c.loop-edit.invariant.follows text long can known);
    }
