use Rattle.std.specs.Prelude.{◌==◌}
use Rattle.org_journal.proofs.Loops.{patches_next, patches_stop, patches_end, front_next, front_stop, front_end}
use Rattle.org_journal.proofs.decoding.patches_of.Goals as goal

pub returns-in_default : goal.returns-in_default
returns-in_default c =
    front_stop c.loop.patches.items _ _ (patches_stop c.loop.place c.args.length (c.args.count == 1) c.args.count c.loop.counter c.loop.rest.now c.loop-test.true c.in_default.ensures.reads) c.loop.invariant

pub loop-preserved : goal.loop-preserved
loop-preserved c =
    rw (c.in_ok-push.ensures.items, c.in_ok-bytes.ensures) (front_next c.loop.patches.items (record { from = c.in-Some.patch.from; bytes = c.in-Some.patch.bytes.now }) _ _ _ (patches_next c.loop.place c.args.length (c.args.count == 1) c.args.count c.loop.counter c.loop.rest.now (record { from = c.in-Some.patch.from; bytes = c.in-Some.patch.bytes.now }) c.in-Some.after.now c.loop-test.true c.in-Some.ensures.reads) c.loop.invariant)

pub returns : goal.returns
returns c =
    front_end c.loop.patches.items _ _ c.loop.rest.now (patches_end c.loop.place c.args.length (c.args.count == 1) c.args.count c.loop.counter c.loop.rest.now c.loop-test.false) c.loop.invariant
