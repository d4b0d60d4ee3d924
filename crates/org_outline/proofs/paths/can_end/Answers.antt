use Rattle.std.proofs.Common.{◌≡◌, ◌<◌, ◌-◌, false, eqb, get_or, length, arith}
use Rattle.std.proofs.lemmas.Bool.Decides.{nat_tests}
use Rattle.org_outline.proofs.LineEnds.{no_end_read}
use Rattle.org_outline.proofs.paths.can_end.Goals as goal

pub returns-else-byte-title : goal.returns-else-byte-title
returns-else-byte-title c = λ states fails.
    let some : 0 < length c.args.rest.now = grind (arith, nat_tests) in
    let some_title : 0 < length c.args.title.now = grind (arith, nat_tests) in
    let other : eqb (get_or c.args.rest.now (length c.args.rest.now - 1) 0) (get_or c.args.title.now (length c.args.title.now - 1) 0) ≡ false = grind (arith, nat_tests) in
    no_end_read states c.args.rest.now c.args.title.now _ some some_title other c.can_follow.ensures fails
