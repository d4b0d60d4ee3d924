use Rattle.std.proofs.Common.{◌∙◌, sym, rules}
use Rattle.org_capture.proofs.Pieces.{escape_first, sign_first, byte_alone, byte_first}
use Rattle.org_capture.proofs.piece.first_piece.Goals as goal

pub returns-in-Some-clause-value : goal.returns-in-Some-clause-value
returns-in-Some-clause-value c = escape_first c.args.template.now c.in-Some.piece c.in-37.len_at_least (cc) (sym c.escape_of.ensures ∙ c.in-Some.is)

pub returns-in-None-clause-value : goal.returns-in-None-clause-value
returns-in-None-clause-value c =
    rw c.split_at.ensures.back (sign_first c.args.template.now c.in-37.len_at_least (cc) (sym c.escape_of.ensures ∙ c.in-None.is))

pub returns-in-len1-up-clause-value : goal.returns-in-len1-up-clause-value
returns-in-len1-up-clause-value c = search (rules, byte_alone, byte_first)
