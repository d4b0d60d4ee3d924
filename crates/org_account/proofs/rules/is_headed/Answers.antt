use Rattle.std.proofs.Common.{inl, inr}
use Rattle.org_account.proofs.Merging.{lined_of, composed_of}
use Rattle.org_account.proofs.rules.is_headed.Goals as goal

pub returns-then-is_lined : goal.returns-then-is_lined
returns-then-is_lined c = λ yes. inl (lined_of c.args.told.now _ c.args.ours.now c.args.theirs.now c.args.merged.now _ _ _ c.line-mine.ensures c.line-other.ensures c.line-line.ensures (c.is_lined.ensures c.if-is_lined.true))

pub returns : goal.returns
returns c = λ yes. inr (composed_of c.args.states.now c.args.told.now _ _ c.args.ours.now c.args.theirs.now c.args.merged.now _ _ _ c.above.ensures c.line-mine.ensures c.line-other.ensures c.line-line.ensures (c.is_composed.ensures yes))
