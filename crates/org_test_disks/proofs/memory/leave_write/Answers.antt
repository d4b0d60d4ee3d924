use Rattle.std.proofs.Common.{◌≤◌, length, arith}
use Rattle.org_test_disks.proofs.Outcomes.{write_left}
use Rattle.org_test_disks.proofs.memory.leave_write.Goals as goal

pub returns-in-Fill : goal.returns-in-Fill
returns-in-Fill c =
    let short : length c.deref.result.now ≤ length c.args.bytes.now = omega (arith, c.deref.ensures.len, c.in_ok-filled.ensures.len) in
    write_left c.args.from c.args.bytes.now c.args.left.now.items c.deref.result.now c.overwrite.new.content.items c.overwrite.result short c.overwrite.ensures.ok

pub returns : goal.returns
returns c = write_left c.args.from c.args.bytes.now c.args.left.now.items c.front_of.result.now c.overwrite-2.new.content.items c.overwrite-2.result c.front_of.ensures c.overwrite-2.ensures.ok
