use Rattle.std.specs.Prelude.{◌≡◌, map, take}
use Rattle.org_merge.specs.Merge.{read_made, read_source}
use Rattle.org_merge.proofs.accounted.sources.Given as goal

abbrev pub invariant-loop-file : goal.invariant-loop-file
invariant-loop-file l = map read_source l.out.items ≡ map read_made (take l.file-index l.files)
