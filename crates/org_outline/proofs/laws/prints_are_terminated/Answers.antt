use Rattle.std.proofs.Common.{◌++◌}
use Rattle.org_splice.proofs.Lines.{terminated-print_lines}
use Rattle.org_outline.specs.Tree.{lines}
use Rattle.org_outline.proofs.laws.prints_are_terminated.Goals as goal

pub returns : goal.returns
returns c = λ d. terminated-print_lines (d.preamble ++ lines d.forest)
