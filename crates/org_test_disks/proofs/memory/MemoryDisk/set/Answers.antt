use Rattle.std.proofs.Common.{◌≡◌, rules}
use Rattle.org_test_disks.proofs.Calls.{set_here, set_others}
use Rattle.org_test_disks.proofs.memory.MemoryDisk.set.Goals as goal

pub returns-clause-ok : goal.returns-clause-ok
returns-clause-ok c =
    let same : c.in_ok-bytes.bytes.items ≡ c.args.bytes.now = search rules in
    set_here c.args.name.now c.in_ok-bytes.bytes c.args.self.now.calls.items c.record.new.self.calls.items c.args.bytes.now same c.record.result c.record.ensures.ok

pub returns-clause-others : goal.returns-clause-others
returns-clause-others c = set_others c.args.name.now c.in_ok-bytes.bytes c.args.self.now.calls.items c.record.new.self.calls.items c.record.result c.record.ensures.ok c.record.ensures.err
