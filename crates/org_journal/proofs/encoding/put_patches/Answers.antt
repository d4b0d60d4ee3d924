use Rattle.org_journal.specs.Record.{patch_bytes}
use Rattle.org_journal.proofs.Journal.{item_appended}
use Rattle.org_journal.proofs.encoding.put_patches.Goals as goal

pub loop-patch-preserved : goal.loop-patch-preserved
loop-patch-preserved c = item_appended patch_bytes c.args.out.now.items c.loop-patch.out.items c.put_patch.new.out.items c.args.patches.now c.loop-patch.patch-index c.patch-item.result c.loop-patch-test.true c.patch-item.is c.loop-patch.invariant c.in_ok-put_patch.ensures
