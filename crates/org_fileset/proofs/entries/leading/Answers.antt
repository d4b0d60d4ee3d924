use Rattle.std.proofs.Common.{◌≤◌, length, subst, arith}
use Rattle.org_splice.specs.declared.patch.Patch.{Patch}
use Rattle.org_journal.proofs.Ends.{first_is, first_within, some_patch}
use Rattle.org_fileset.proofs.entries.leading.Goals as goal

pub before-requires : goal.before-requires
before-requires c =
    let patches = c.args.patches.now in
    let size = length c.args.text.now in
    let first = c.index-patches-0 in
    let some = some_patch patches size c.requires in
    subst (λ (p : Patch). p.from ≤ size) first.is (omega (arith, first_is patches first.result some first.is, first_within patches size c.requires))
