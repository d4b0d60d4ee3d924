use Rattle.org_fileset.proofs.Allowed.{entry_cut, entry_image, entry_start, entry_sync, entry_write}
use Rattle.org_fileset.proofs.Always.{entry_always}
use Rattle.org_fileset.proofs.laws.crashed_files_are_left.Goals as goal

pub returns-clause-begin : goal.returns-clause-begin
returns-clause-begin c = entry_start

pub returns-clause-found : goal.returns-clause-found
returns-clause-found c = entry_always

pub returns-clause-write : goal.returns-clause-write
returns-clause-write c = entry_write

pub returns-clause-cut : goal.returns-clause-cut
returns-clause-cut c = entry_cut

pub returns-clause-sync : goal.returns-clause-sync
returns-clause-sync c = entry_sync

pub returns-clause-left : goal.returns-clause-left
returns-clause-left c = entry_image
