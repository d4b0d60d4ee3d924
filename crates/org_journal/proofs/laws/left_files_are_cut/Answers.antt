use Rattle.org_journal.proofs.Cutting.{left_kept, left_made}
use Rattle.org_journal.proofs.laws.left_files_are_cut.Goals as goal

pub returns-clause-kept : goal.returns-clause-kept
returns-clause-kept c = left_kept

pub returns-clause-made : goal.returns-clause-made
returns-clause-made c = left_made
