use Rattle.std.proofs.Common.{◌∙◌}
use Rattle.org_meta.proofs.ClockLines.{clock_unmarked, clock_joined, clock_unstamped, clock_read, text_within, head_fits, head_within}
use Rattle.org_meta.proofs.clock.clock_of.Goals as goal

pub returns-in_err-behind_mark-clause-value : goal.returns-in_err-behind_mark-clause-value
returns-in_err-behind_mark-clause-value c = c.from_residual.ensures ∙ clock_unmarked c.args.line.now c.trimmed_end-body.result.now c.behind_blanks.result.now c.trimmed_end-body.ensures c.behind_blanks.ensures c.in_err-behind_mark.ensures.value

pub returns-in_err-text-clause-value : goal.returns-in_err-text-clause-value
returns-in_err-text-clause-value c =
    c.from_residual-in_err-text.ensures
    ∙ clock_joined c.args.line.now c.trimmed_end-body.result.now c.behind_blanks.result.now c.in_ok-behind_mark.field-0.now c.trimmed_end-body.ensures c.behind_blanks.ensures c.in_ok-behind_mark.ensures.value c.in_err-text.ensures.value

pub returns-in_err-start-clause-value : goal.returns-in_err-start-clause-value
returns-in_err-start-clause-value c =
    c.from_residual-in_err-start.ensures
    ∙ clock_unstamped c.args.line.now c.trimmed_end-body.result.now c.behind_blanks.result.now c.in_ok-behind_mark.field-0.now c.in_ok-text.text.now c.trimmed_end-body.ensures c.behind_blanks.ensures c.in_ok-behind_mark.ensures.value c.in_ok-text.ensures.value c.in_err-start.ensures.value

pub returns-clause-value : goal.returns-clause-value
returns-clause-value c =
    clock_read c.args.line.now c.trimmed_end-body.result.now c.behind_blanks.result.now c.in_ok-behind_mark.field-0.now c.in_ok-text.text.now c.split_at.result.1.now c.in_ok-start.start c.in_ok-start.size c.clock_from.result c.trimmed_end-body.ensures c.behind_blanks.ensures c.in_ok-behind_mark.ensures.value
    c.in_ok-text.ensures.value c.in_ok-start.ensures.value c.split_at.ensures.back c.clock_from.ensures.value

pub overflow_sub-head : goal.overflow_sub-head
overflow_sub-head c = text_within c.trimmed_end-body.result.now c.behind_blanks.result.now _ _ c.behind_blanks.ensures c.in_ok-behind_mark.ensures.within c.in_ok-text.ensures.within

pub returns-clause-within : goal.returns-clause-within
returns-clause-within c =
    let inside = text_within c.trimmed_end-body.result.now c.behind_blanks.result.now _ _ c.behind_blanks.ensures c.in_ok-behind_mark.ensures.within c.in_ok-text.ensures.within in
    head_within c.clock_from.result _ _ (head_fits c.args.line.now c.trimmed_end-body.result.now _ _ c.trimmed_end-body.ensures inside c.in_ok-start.ensures.within) c.clock_from.ensures.within
