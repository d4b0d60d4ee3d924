use Rattle.std.proofs.Common.{◌≡◌, ◌≤◌, take, count_by}
use Rattle.org_test_disks.specs.Record.{is_call}
use Rattle.org_test_disks.proofs.memory.MemoryDisk.calls.Given as goal

abbrev pub invariant-loop-call : goal.invariant-loop-call
invariant-loop-call l = (l.count ≡ count_by is_call (take l.call-index l.self.calls.items)) × l.count ≤ l.call-index
