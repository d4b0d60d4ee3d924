use Rattle.std.proofs.Common.{◌≡◌, ◌<◌, length, arith}
use Rattle.orgs_names.proofs.Filed.{file_more}
use Rattle.orgs_names.proofs.naming.fitting.Goals as goal

pub loop-file-preserved : goal.loop-file-preserved
loop-file-preserved c =
    file_more c.args.way c.args.name.now c.loop-file.file c.args.files.now c.index-files-file.result c.loop-file.places.items _ (omega (arith, c.loop-file-test.true)) c.index-files-file.is c.loop-file.invariant c.in_ok-push_fitting.ensures
