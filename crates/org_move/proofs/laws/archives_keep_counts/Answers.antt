use Rattle.org_move.proofs.Archives.{within_keeps, across_keeps, file_keeps, files_keep}
use Rattle.org_move.proofs.laws.archives_keep_counts.Goals as goal

pub returns-clause-within : goal.returns-clause-within
returns-clause-within c = within_keeps

pub returns-clause-across : goal.returns-clause-across
returns-clause-across c = across_keeps

pub returns-clause-file : goal.returns-clause-file
returns-clause-file c = file_keeps

pub returns-clause-files : goal.returns-clause-files
returns-clause-files c = files_keep
