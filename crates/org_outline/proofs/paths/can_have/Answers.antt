use Rattle.std.proofs.Common.{◌<◌, length, arith}
use Rattle.std.proofs.lemmas.Bool.Decides.{nat_tests}
use Rattle.org_outline.proofs.TitlePlaces.{no_title_read}
use Rattle.org_outline.proofs.paths.can_have.Goals as goal

pub returns-else-can_begin : goal.returns-else-can_begin
returns-else-can_begin c = λ states rest more split fails.
    let some : 0 < length c.args.title.now = grind (arith, nat_tests) in
    no_title_read states rest more c.args.title.now c.args.tail.now _ _ _ _ split some c.behind_blanks-first.ensures c.behind_word.ensures c.can_begin.ensures c.if-can_begin.false
    c.can_begin-else-can_begin.ensures fails
