use Rattle.std.proofs.Common.{◌∙◌, sym}
use Rattle.org_move.proofs.Lines.{comes_then, next_behind, none_before, none_then, shorter}
use Rattle.org_move.proofs.locating.first_archive_line.Goals as goal

pub loop-line-init : goal.loop-line-init
loop-line-init c = none_before _ c.args.text.whole

pub loop-line-preserved : goal.loop-line-preserved
loop-line-preserved c =
    next_behind _ _ _ _ c.loop-line.invariant c.in-Some.ensures.some (sym c.is_archive_line.ensures ∙ c.if-is_archive_line.false)

pub loop-line-smaller : goal.loop-line-smaller
loop-line-smaller c = shorter _ _ _ c.in-Some.ensures.some

pub returns-then-is_archive_line-clause-some : goal.returns-then-is_archive_line-clause-some
returns-then-is_archive_line-clause-some c =
    (comes_then _ _ _ _ c.loop-line.invariant c.in-Some.ensures.some, sym c.is_archive_line.ensures ∙ c.if-is_archive_line.true)

pub returns-clause-none : goal.returns-clause-none
returns-clause-none c = none_then _ _ c.loop-line.invariant c.in_default.ensures.none
