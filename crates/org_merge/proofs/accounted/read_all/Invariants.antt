use Rattle.std.specs.Prelude.{◌≡◌, map, take}
use Rattle.org_merge.specs.Merge.{file_of, read_source}
use Rattle.org_merge.proofs.accounted.read_all.Given as goal

abbrev pub invariant-loop-file : goal.invariant-loop-file
invariant-loop-file l = map file_of l.out.items ≡ map read_source (take l.file-index l.files)
