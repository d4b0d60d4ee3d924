use Rattle.org_stamp.proofs.Exact.{stamp_complete}
use Rattle.org_stamp.proofs.Print.{print_is}
use Rattle.org_stamp.specs.Stamp.{stamp_text}
use Rattle.org_stamp.proofs.laws.print_reads_back.Goals as goal

pub returns-clause-text : goal.returns-clause-text
returns-clause-text c = print_is

pub returns-clause-read : goal.returns-clause-read
returns-clause-read c = λ s rest h. stamp_complete (stamp_text s) rest s (print_is s h)
