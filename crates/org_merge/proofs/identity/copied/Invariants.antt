use Rattle.std.specs.Prelude.{◌≡◌, map, take}
use Rattle.org_merge.specs.Identity.{file_given, file_made}
use Rattle.org_merge.proofs.identity.copied.Given as goal

abbrev pub invariant-loop-file : goal.invariant-loop-file
invariant-loop-file l = map file_made l.out.items ≡ map file_given (take l.file-index l.files)
