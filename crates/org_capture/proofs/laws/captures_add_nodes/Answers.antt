use Rattle.org_capture.proofs.Kept.{captured_weight, captured_files}
use Rattle.org_capture.proofs.laws.captures_add_nodes.Goals as goal

pub returns-clause-document : goal.returns-clause-document
returns-clause-document c = captured_weight

pub returns-clause-file : goal.returns-clause-file
returns-clause-file c = captured_files
