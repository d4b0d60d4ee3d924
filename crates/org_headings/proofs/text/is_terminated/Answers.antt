use Rattle.std.proofs.Common.{length, eq-eqb, arith}
use Rattle.std.proofs.lemmas.Bool.{eqb-true}
use Rattle.std.proofs.lemmas.Bool.Decides.{nat_tests}
use Rattle.std.specs.Prelude.{◌<◌}
use Rattle.org_splice.proofs.LineWalk.{terminated-last, last-terminated}
use Rattle.org_headings.proofs.text.is_terminated.Goals as goal

pub returns-else-is_empty : goal.returns-else-is_empty
returns-else-is_empty c =
    let some : 0 < length c.args.text.now = grind (arith, nat_tests) in
    (λ e. terminated-last c.args.text.now (eqb-true _ _ e), λ e. eq-eqb _ _ (last-terminated c.args.text.now e some))
