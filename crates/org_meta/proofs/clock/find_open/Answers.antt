use Rattle.std.proofs.Common.{sym, ◌∙◌}
use Rattle.org_meta.proofs.Walk.{rest_shorter}
use Rattle.org_meta.proofs.Walks.{open_none, open_line_passed, open_found, open_there, open_nowhere, left_within, rest_within}
use Rattle.org_meta.proofs.clock.find_open.Goals as goal

pub loop-line-init : goal.loop-line-init
loop-line-init c = open_none _

pub returns-then-is_open : goal.returns-then-is_open
returns-then-is_open c =
    let found = sym c.is_open.ensures ∙ c.if-is_open.true in
    record {
      first = open_found _ _ _ _ c.loop-line.invariant c.in-Some.ensures.some found;
      stands = open_there _ _ _ _ c.loop-line.invariant c.in-Some.ensures.some found;
    }

pub loop-line-preserved : goal.loop-line-preserved
loop-line-preserved c = open_line_passed _ _ _ _ c.loop-line.invariant c.in-Some.ensures.some (sym c.is_open.ensures ∙ c.if-is_open.false)

pub overflow_sub-result : goal.overflow_sub-result
overflow_sub-result c = left_within _ _ c.loop-line.invariant

pub overflow_sub-result-then-is_open : goal.overflow_sub-result-then-is_open
overflow_sub-result-then-is_open c = rest_within _ _ _ _ c.loop-line.invariant c.in-Some.ensures.some

pub loop-line-smaller : goal.loop-line-smaller
loop-line-smaller c = rest_shorter _ _ _ c.in-Some.ensures.some

pub returns-clause-first : goal.returns-clause-first
returns-clause-first c = open_nowhere _ _ c.loop-line.invariant c.in_default.ensures.none
