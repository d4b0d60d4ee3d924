use Rattle.org_move.proofs.Lines.{comes_none, comes_some, none_marked, passed}
use Rattle.org_move.proofs.locating.marked_line.Goals as goal

pub returns-in_err-find-clause-none : goal.returns-in_err-find-clause-none
returns-in_err-find-clause-none c = rw c.from_residual.ensures (none_marked _ _ _ c.requires c.args.text.whole c.find.ensures c.in_err-find.was)

pub returns-clause-some : goal.returns-clause-some
returns-clause-some c =
    comes_some _ _ _ (passed _ _ _ _ _ c.requires c.args.text.whole c.find.ensures c.in_ok-find.was c.from_line-bytes.ensures) c.first.ensures.some

pub returns-clause-none : goal.returns-clause-none
returns-clause-none c =
    comes_none _ _ _ (passed _ _ _ _ _ c.requires c.args.text.whole c.find.ensures c.in_ok-find.was c.from_line-bytes.ensures) c.first.ensures.none

pub invariant_of-first : goal.invariant_of-first
invariant_of-first c =
    record { whole = (passed _ _ _ _ _ c.requires c.args.text.whole c.find.ensures c.in_ok-find.was c.from_line-bytes.ensures).terminated_left }
