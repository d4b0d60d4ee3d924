use Rattle.org_account.proofs.Merging.{new_taken, new_united}
use Rattle.org_account.proofs.rules.is_written_new.Goals as goal

pub returns-then-is_taken_new : goal.returns-then-is_taken_new
returns-then-is_taken_new c = λ yes. new_taken c.args.told.now c.args.ours.now c.args.theirs.now c.args.merged.now _ _ c.section-mine.ensures c.section-other.ensures (c.is_taken_new.ensures c.if-is_taken_new.true)

pub returns : goal.returns
returns c = λ yes. new_united c.args.told.now c.args.ours.now c.args.theirs.now c.args.merged.now _ _ _ _ c.section-mine.ensures c.section-other.ensures c.line.ensures c.line-2.ensures
    (c.may_unite_new.ensures c.if-not-may_unite_new.false) (c.in_ok-is_union.ensures yes)
