use Rattle.std.proofs.Common.{◌≡◌, take}
use Rattle.org_disk.specs.Disk.{IsImage}
use Rattle.org_test_disks.specs.Record.{files_after}
use Rattle.org_test_disks.proofs.memory.left_of.Given as goal

abbrev pub invariant-loop-call : goal.invariant-loop-call
invariant-loop-call l =
    let file = files_after (take l.call-index l.calls) l.name in
    (l.content.items ≡ file.content) × IsImage file l.left.items
