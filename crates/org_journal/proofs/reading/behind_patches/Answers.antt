use Rattle.std.specs.Prelude.{◌==◌}
use Rattle.org_journal.specs.Reading.{behind, patches_at}
use Rattle.org_journal.proofs.Loops.{patches_behind_next, patches_behind_stop, patches_behind_end}
use Rattle.org_journal.proofs.reading.behind_patches.Goals as goal

pub returns-in_err-patch : goal.returns-in_err-patch
returns-in_err-patch c = rw c.from_residual.ensures (patches_behind_stop c.loop.place c.args.length (c.args.count == 1) c.args.count c.loop.counter c.loop.rest.now (behind (patches_at 0 c.args.length (c.args.count == 1) c.args.count c.args.bytes.now)) c.loop-test.true c.in_err-patch.ensures.reads c.loop.invariant)

pub loop-preserved : goal.loop-preserved
loop-preserved c = patches_behind_next c.loop.place c.args.length (c.args.count == 1) c.args.count c.loop.counter c.loop.rest.now (record { from = c.in_ok-patch.patch.from; bytes = c.in_ok-patch.patch.bytes.now }) c.in_ok-patch.after.now (behind (patches_at 0 c.args.length (c.args.count == 1) c.args.count c.args.bytes.now)) c.loop-test.true c.in_ok-patch.ensures.reads c.loop.invariant

pub returns : goal.returns
returns c = patches_behind_end c.loop.place c.args.length (c.args.count == 1) c.args.count c.loop.counter c.loop.rest.now (behind (patches_at 0 c.args.length (c.args.count == 1) c.args.count c.args.bytes.now)) c.loop-test.false c.loop.invariant
