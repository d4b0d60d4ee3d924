use Rattle.org_disk_tests.proofs.fileset.commits.commit.Goals as goal

pub commit-requires : goal.commit-requires
commit-requires g c =
    let has = c.loop-edit.invariant in
    record { named = has.named; small = has.small; edits = λ whole honest. has.edits }
