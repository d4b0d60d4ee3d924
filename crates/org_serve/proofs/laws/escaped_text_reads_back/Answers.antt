use Rattle.org_serve.proofs.Escapes.{unescaped-escaped}
use Rattle.org_serve.proofs.laws.escaped_text_reads_back.Goals as goal

pub returns : goal.returns
returns c = unescaped-escaped
