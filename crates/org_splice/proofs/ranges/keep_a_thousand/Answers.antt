use Rattle.std.proofs.Common.{arith}
use Rattle.std.proofs.lemmas.Grind.{common_steps}
use Rattle.std.proofs.lemmas.Bool.{lt-leb, cond-false}
use Rattle.org_splice.proofs.Apart.{last_two_joined-push}
use Rattle.org_splice.proofs.ranges.keep_a_thousand.Goals as goal

pub returns-in-Some : goal.returns-in-Some
returns-in-Some c = grind (arith, common_steps, last_two_joined-push, cond-false, lt-leb)
