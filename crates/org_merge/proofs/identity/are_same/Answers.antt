use Rattle.std.proofs.Common.{◌≡◌, ◌<◌, Bool, false, IsTrue, length, subst, arith}
use Rattle.org_merge.proofs.SameFolders.{same_at}
use Rattle.org_merge.proofs.identity.are_same.Goals as goal

pub returns-then-not-is_same_file : goal.returns-then-not-is_same_file
returns-then-not-is_same_file c =
    let in_other : c.loop-place.place < length c.args.other.now = omega (arith, c.loop-place-test.true, c.if-one-other.false) in
    let P : Bool → Type 0 = λ b. IsTrue b in
    (λ (none : IsTrue false). absurd cc, λ same. subst P c.if-not-is_same_file.true (c.is_same_file.ensures.1 (same_at c.args.one.now c.args.other.now _ _ _ c.loop-place-test.true in_other same)))
