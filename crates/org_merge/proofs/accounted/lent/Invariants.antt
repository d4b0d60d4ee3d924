use Rattle.std.specs.Prelude.{◌≡◌, map, take}
use Rattle.org_merge.specs.Merge.{file_of}
use Rattle.org_merge.proofs.accounted.lent.Given as goal

abbrev pub invariant-loop-file : goal.invariant-loop-file
invariant-loop-file l = l.out.items ≡ map file_of (take l.file-index l.files)
