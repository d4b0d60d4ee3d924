use Rattle.org_serve.proofs.Paths.{heading-written, path-written}
use Rattle.org_serve.proofs.laws.written_path_reads_back.Goals as goal

pub returns-clause-steps : goal.returns-clause-steps
returns-clause-steps c = path-written

pub returns-clause-headings : goal.returns-clause-headings
returns-clause-headings c = heading-written
