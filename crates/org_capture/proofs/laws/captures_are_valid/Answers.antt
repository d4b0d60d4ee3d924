use Rattle.org_capture.proofs.Kept.{captured_valid, entry_node, captured_text}
use Rattle.org_capture.proofs.laws.captures_are_valid.Goals as goal

pub returns-clause-captured : goal.returns-clause-captured
returns-clause-captured c = captured_valid

pub returns-clause-entry : goal.returns-clause-entry
returns-clause-entry c = entry_node

pub returns-clause-text : goal.returns-clause-text
returns-clause-text c = captured_text
