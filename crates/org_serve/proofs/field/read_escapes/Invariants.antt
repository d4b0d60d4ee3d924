use Rattle.std.proofs.Common.{◌≡◌, false, drop}
use Rattle.org_serve.specs.Grammar.{unescaped_from}
use Rattle.org_serve.proofs.Escapes.{in_front}
use Rattle.org_serve.proofs.field.read_escapes.Given as goal

abbrev pub invariant-loop-b : goal.invariant-loop-b
invariant-loop-b l = in_front l.text.items (unescaped_from l.is_escaped (drop l.b-index l.field)) ≡ unescaped_from false l.field
