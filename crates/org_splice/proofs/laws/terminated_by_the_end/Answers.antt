use Rattle.org_splice.proofs.Lines.{terminated-both, terminated-print_lines, terminated-drop}
use Rattle.org_splice.proofs.Places.{end_terminates}
use Rattle.org_splice.proofs.laws.terminated_by_the_end.Goals as goal

pub returns-clause-end : goal.returns-clause-end
returns-clause-end c = end_terminates

pub returns-clause-both : goal.returns-clause-both
returns-clause-both c = terminated-both

pub returns-clause-lines : goal.returns-clause-lines
returns-clause-lines c = terminated-print_lines

pub returns-clause-rest : goal.returns-clause-rest
returns-clause-rest c = terminated-drop
