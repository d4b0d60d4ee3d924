use Rattle.std.proofs.Common.{◌+◌, ◌≤◌, length, arith}
use Rattle.org_headings.proofs.Runs.{run_passed}
use Rattle.org_headings.proofs.beginnings.count_in_runs.Goals as goal

pub loop-count-preserved : goal.loop-count-preserved
loop-count-preserved c =
    let i = c.loop-count.invariant in
    let low = i.0 in
    let room : c.loop-count.count + 32 ≤ length c.args.lines.now = omega (arith, low, c.loop-count-test.true) in
    (room, run_passed c.args.title c.args.lines.now c.loop-count.count 32 _ _ i.1 room (omega arith) c.if-not-any_allows.true c.any_allows.ensures)
