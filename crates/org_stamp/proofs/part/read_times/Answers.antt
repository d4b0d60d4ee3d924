use Rattle.std.proofs.Common.{◌+◌, None, Some, ap, refl, ◌∙◌}
use Rattle.std.proofs.lemmas.List.{take_rest}
use Rattle.org_stamp.specs.Parts.{clock_of}
use Rattle.org_stamp.proofs.Parts.{one_time, two_times}
use Rattle.org_stamp.proofs.part.read_times.Goals as goal

pub returns-in_err-read_clock-in-None : goal.returns-in_err-read_clock-in-None
returns-in_err-read_clock-in-None c = c.from_residual.ensures ∙ one_time c.args.text.now None c.in-None.ensures c.in_err-read_clock-in-None.ensures

pub returns-in_err-start-in-Some : goal.returns-in_err-start-in-Some
returns-in_err-start-in-Some c = c.from_residual-in_err-start-in-Some.ensures ∙ two_times c.args.text.now c.in-Some.at None _ c.in-Some.ensures c.in_err-start-in-Some.ensures refl

pub returns-in_err-end-in-Some : goal.returns-in_err-end-in-Some
returns-in_err-end-in-Some c =
    c.from_residual-in_err-end-in-Some.ensures ∙ two_times c.args.text.now c.in-Some.at (Some c.in_ok-start-in-Some.start) None c.in-Some.ensures c.in_ok-start-in-Some.ensures (c.in_err-end-in-Some.ensures ∙ ap (λ l. clock_of l) (take_rest c.args.text.now (c.in-Some.at + 1)))

pub returns-in_ok-read_clock-in-None : goal.returns-in_ok-read_clock-in-None
returns-in_ok-read_clock-in-None c = one_time c.args.text.now (Some c.in_ok-read_clock-in-None.field-0) c.in-None.ensures c.in_ok-read_clock-in-None.ensures

pub returns-in_ok-end-in-Some : goal.returns-in_ok-end-in-Some
returns-in_ok-end-in-Some c =
    two_times c.args.text.now c.in-Some.at (Some c.in_ok-start-in-Some.start) (Some c.in_ok-end-in-Some.end) c.in-Some.ensures c.in_ok-start-in-Some.ensures (c.in_ok-end-in-Some.ensures ∙ ap (λ l. clock_of l) (take_rest c.args.text.now (c.in-Some.at + 1)))
