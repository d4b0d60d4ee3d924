use Rattle.org_headings.proofs.FirstLine.{beginnings_found}
use Rattle.org_headings.proofs.beginnings.Beginnings.of_line.Goals as goal

pub returns : goal.returns
returns c =
    beginnings_found c.args.tail.now c.behind_blanks-place.result.now c.split_at.result.1.now c.behind_blanks.result.now _ _ _ c.behind_blanks-place.ensures c.word_len.ensures.count c.split_at.ensures.back c.behind_blanks.ensures c.of.ensures c.of-2.ensures
