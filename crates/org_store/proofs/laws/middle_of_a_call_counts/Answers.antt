use Rattle.org_journal.specs.Recovered.{contents}
use Rattle.org_commands.specs.Outcome.{AsksToSettle, outcome}
use Rattle.org_store.proofs.Middle.{left_between, nothing_else_at_rest}
use Rattle.org_store.proofs.laws.middle_of_a_call_counts.Goals as goal

pub returns-clause-run : goal.returns-clause-run
returns-clause-run g c = λ old new mid command answer honest rest between runs.
    let d = g.D.Disk in
    let met = g.met.D.Disk in
    left_between d old.disk mid new.disk old.session (contents (d.files old.disk)) (outcome old.session command) answer new.session.accepted
    (λ image left. met.counts_now mid (d.instant old.disk) image honest between.later left) (λ name. met.content_is_image mid name honest) between (runs.disk.any_moment rest)

pub returns-clause-settle : goal.returns-clause-settle
returns-clause-settle g c = λ old new mid answer honest rest between settles.
    let d = g.D.Disk in
    let met = g.met.D.Disk in
    left_between d old.disk mid new.disk old.session (contents (d.files old.disk)) AsksToSettle answer new.session.accepted
    (λ image left. met.counts_now mid (d.instant old.disk) image honest between.later left) (λ name. met.content_is_image mid name honest) between (settles.disk.any_moment rest)

pub returns-clause-apart : goal.returns-clause-apart
returns-clause-apart g c = λ old new mid command answer honest rest still between from_settled from_put runs.
    let d = g.D.Disk in
    nothing_else_at_rest (d.files mid) old.session (contents (d.files old.disk)) (outcome old.session command) answer new.session.accepted still
    (returns-clause-run g c old new mid command answer honest rest between runs) from_settled from_put
