use Rattle.std.proofs.Common.{ℕ, Option, take, subst}
use Rattle.memchr.specs.Find.{IsLastByte, is_byte}
use Rattle.org_headings.proofs.Edits.{line_begins, line_behind}
use Rattle.org_headings.proofs.text.line_start.Goals as goal

pub returns-in-Some-clause-begins : goal.returns-in-Some-clause-begins
returns-in-Some-clause-begins c = line_begins _ _ _ _ c.memrchr.ensures c.in-Some.is

pub returns-in-Some-clause-line : goal.returns-in-Some-clause-line
returns-in-Some-clause-line c =
    let P : Option ℕ → Type 0 = λ r. IsLastByte (is_byte 10) (take c.args.at c.args.text.now) r in
    line_behind c.args.text.now c.args.at _ c.requires (subst P c.in-Some.is c.memrchr.ensures).0.after

pub returns-in-None-clause-line : goal.returns-in-None-clause-line
returns-in-None-clause-line c =
    let P : Option ℕ → Type 0 = λ r. IsLastByte (is_byte 10) (take c.args.at c.args.text.now) r in
    line_behind c.args.text.now c.args.at 0 c.requires (subst P c.in-None.is c.memrchr.ensures)
