use Rattle.org_state.proofs.TodosKept.{todo_valid, todo_reads_back}
use Rattle.org_state.proofs.laws.changes_are_valid.Goals as goal

pub returns-clause-changed : goal.returns-clause-changed
returns-clause-changed c = todo_valid

pub returns-clause-text : goal.returns-clause-text
returns-clause-text c = todo_reads_back
