use Rattle.org_move.proofs.Kept.{within_counts, across_counts, file_counts, files_counts}
use Rattle.org_move.proofs.laws.refiles_keep_counts.Goals as goal

pub returns-clause-within : goal.returns-clause-within
returns-clause-within c = within_counts

pub returns-clause-across : goal.returns-clause-across
returns-clause-across c = across_counts

pub returns-clause-file : goal.returns-clause-file
returns-clause-file c = file_counts

pub returns-clause-files : goal.returns-clause-files
returns-clause-files c = files_counts
