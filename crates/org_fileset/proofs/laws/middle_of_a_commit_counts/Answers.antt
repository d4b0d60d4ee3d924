use Rattle.org_fileset.proofs.Middle.{between_commits, commits_apart, middle_of_commit}
use Rattle.org_fileset.proofs.laws.middle_of_a_commit_counts.Goals as goal

pub returns-clause-middle : goal.returns-clause-middle
returns-clause-middle g c = λ old mid new after honest rest between.
    let d = g.D.Disk in
    let met = g.met.D.Disk in
    middle_of_commit d old mid new after (λ image left. met.counts_now mid (d.instant old) image honest between.later left) (λ name. met.content_is_image mid name honest) rest between

pub returns-clause-apart : goal.returns-clause-apart
returns-clause-apart g c = λ old mid new half after honest rest made from_old from_new between.
    let d = g.D.Disk in
    let met = g.met.D.Disk in
    commits_apart d old mid new half after (λ image left. met.counts_now mid (d.instant old) image honest between.later left) (λ name. met.content_is_image mid name honest) rest made from_old from_new between

pub returns-clause-two : goal.returns-clause-two
returns-clause-two g c = λ old mid new half last after honest rest made first second from_old from_new.
    let d = g.D.Disk in
    returns-clause-apart g c old mid new half after honest rest made from_old from_new (between_commits d old mid new first second)
