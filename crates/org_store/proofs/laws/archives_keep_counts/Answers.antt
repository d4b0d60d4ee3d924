use Rattle.org_store.proofs.ArchivedCounts.{archive_keeps}
use Rattle.org_store.proofs.laws.archives_keep_counts.Goals as goal

pub returns : goal.returns
returns c s it files apart each named accepts = archive_keeps s apart each it named files accepts.1
