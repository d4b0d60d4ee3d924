use Rattle.org_account.proofs.Merging.{over_taken, over_united}
use Rattle.org_account.proofs.rules.is_written_over.Goals as goal

pub returns-then-is_taken : goal.returns-then-is_taken
returns-then-is_taken c = λ yes. over_taken c.args.told.now c.args.base.now c.args.ours.now c.args.theirs.now c.args.merged.now _ _ _ c.section-was.ensures c.section-mine.ensures c.section-other.ensures (c.is_taken.ensures c.if-is_taken.true)

pub returns : goal.returns
returns c = λ yes. over_united c.args.told.now c.args.base.now c.args.ours.now c.args.theirs.now c.args.merged.now _ _ _ _ _ c.section-was.ensures c.section-mine.ensures c.section-other.ensures c.line.ensures c.line-2.ensures
    (c.may_unite.ensures c.if-not-may_unite.false) (c.in_ok-is_union.ensures yes)
