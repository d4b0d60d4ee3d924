use Rattle.org_serve.proofs.Fields.{Front}
use Rattle.org_serve.proofs.reading.read_command.Given as goal

abbrev pub invariant-loop-i : goal.invariant-loop-i
invariant-loop-i l = Front l.fields l.i l.rest l.fn.line
