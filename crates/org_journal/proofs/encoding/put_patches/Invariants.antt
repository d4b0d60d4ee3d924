use Rattle.std.proofs.Common.{◌≡◌, ◌++◌, take}
use Rattle.std.specs.List.{flat_map}
use Rattle.org_journal.specs.Record.{patch_bytes}
use Rattle.org_journal.proofs.encoding.put_patches.Given as goal

abbrev pub invariant-loop-patch : goal.invariant-loop-patch
invariant-loop-patch l = l.out.items ≡ l.fn.out.items ++ flat_map patch_bytes (take l.patch-index l.patches)
