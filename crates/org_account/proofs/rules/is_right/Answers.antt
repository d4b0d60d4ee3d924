use Rattle.org_account.proofs.Merging.{right_of}
use Rattle.org_account.proofs.rules.is_right.Goals as goal

pub returns-in_ok-is_merged-in-Some-merged : goal.returns-in_ok-is_merged-in-Some-merged
returns-in_ok-is_merged-in-Some-merged c =
    λ holds. right_of c.args.states.now c.args.told.now c.args.base.now _ _ _ _ _ _ c.in-Some.is c.in-Some-theirs-2.is c.in-Some-merged.is (c.in_ok-is_merged-in-Some-merged.ensures holds)
