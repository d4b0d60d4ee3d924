use Rattle.std.proofs.Common.{List, ℕ, ap}
use Rattle.org_disk.specs.Disk.{FileState}
use Rattle.org_test_disks.proofs.Calls.{files_read, passes_read}
use Rattle.org_test_disks.proofs.memory.MemoryDisk.look.Goals as goal

pub returns-clause-looks : goal.returns-clause-looks
returns-clause-looks c = record {
  same = files_read c.args.name.now c.args.self.now.calls.items c.call.new.self.calls.items c.call.result c.call.ensures.ok c.call.ensures.err;
  time = passes_read c.args.name.now c.args.self.now.calls.items c.call.new.self.calls.items c.call.result c.call.ensures.ok c.call.ensures.err;
}

pub returns-clause-content : goal.returns-clause-content
returns-clause-content c = ap (λ (files : List ℕ → FileState). (files c.args.name.now).content)
    (files_read c.args.name.now c.args.self.now.calls.items c.call.new.self.calls.items c.call.result c.call.ensures.ok c.call.ensures.err)
