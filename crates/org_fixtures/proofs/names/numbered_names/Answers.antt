use Rattle.std.proofs.lemmas.List.Elements.{All-push}
use Rattle.org_disk.specs.Names.{IsOrgFile}
use Rattle.org_fixtures.proofs.names.numbered_names.Goals as goal

pub loop-i-preserved : goal.loop-i-preserved
loop-i-preserved c = rw c.in_ok-push.ensures.items (All-push IsOrgFile c.loop-i.names.items c.in_ok-org_file.field-0 c.loop-i.invariant c.in_ok-org_file.ensures.org_file)
