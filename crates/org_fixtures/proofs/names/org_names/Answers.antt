use Rattle.std.proofs.lemmas.List.Elements.{All-push}
use Rattle.org_disk.specs.Names.{IsOrgFile}
use Rattle.org_fixtures.proofs.names.org_names.Goals as goal

pub loop-text-preserved : goal.loop-text-preserved
loop-text-preserved c = rw c.in_ok-push.ensures.items (All-push IsOrgFile c.loop-text.names.items c.in_ok-org_file.field-0 c.loop-text.invariant c.in_ok-org_file.ensures.org_file)
