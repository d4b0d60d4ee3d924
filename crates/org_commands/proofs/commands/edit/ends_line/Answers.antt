use Rattle.std.proofs.Common.{◌≡◌, ◌-◌, length, get_or, sym, ◌∙◌, arith}
use Rattle.std.proofs.lemmas.Bool.{eqb-true}
use Rattle.org_splice.proofs.Terminated.{terminated-newline}
use Rattle.org_commands.proofs.commands.edit.ends_line.Goals as goal

pub returns-in-Some-clause-terminated : goal.returns-in-Some-clause-terminated
returns-in-Some-clause-terminated c newline =
    let bytes = c.args.bytes.now in
    let last : get_or bytes (length bytes - 1) 0 ≡ 10 = sym (c.in-Some.ensures.item.3.1 0) ∙ eqb-true c.in-Some.field-0.now 10 newline in
    terminated-newline bytes (length bytes - 1) (omega (arith, c.in-Some.ensures.item.3.0)) last
