use Rattle.std.proofs.Common.{None, Some, refl, ap, ◌∙◌}
use Rattle.std.proofs.lemmas.List.{take_rest}
use Rattle.org_stamp.specs.Parts.{number_of}
use Rattle.org_stamp.proofs.Parts.{other_length, no_first_hyphen, no_second_hyphen, date_read}
use Rattle.org_stamp.proofs.part.read_date.Goals as goal
use Rattle.org_stamp.proofs.part.read_date.Goals.{then-text-ne10-via-then-text-ne10, then-text-ne10-via-else-text-ne10+then-text-ne45, then-text-ne10-via-else-text-ne10+else-text-ne45+then-text-ne45-2}

pub returns-then-text-ne10 : goal.returns-then-text-ne10
returns-then-text-ne10 c =
    let text = c.args.text.now in
    elim c.then-text-ne10.branch [ then-text-ne10-via-then-text-ne10 w ↦ other_length text w.if-text-ne10.true | then-text-ne10-via-else-text-ne10+then-text-ne45 w ↦ no_first_hyphen text w.if-text-ne45.true | then-text-ne10-via-else-text-ne10+else-text-ne45+then-text-ne45-2 w ↦ no_second_hyphen text w.if-text-ne45-2.true ]

pub returns-in_err-read_number : goal.returns-in_err-read_number
returns-in_err-read_number c =
    c.from_residual.ensures ∙ date_read c.args.text.now None _ _ c.if-text-ne10.false c.if-text-ne45.false c.if-text-ne45-2.false c.in_err-read_number.ensures.value refl refl

pub returns-in_err-read_number-2 : goal.returns-in_err-read_number-2
returns-in_err-read_number-2 c =
    c.from_residual-in_err-read_number-2.ensures ∙ date_read c.args.text.now (Some c.in_ok-read_number.field-0) None _ c.if-text-ne10.false c.if-text-ne45.false c.if-text-ne45-2.false c.in_ok-read_number.ensures.value c.in_err-read_number-2.ensures.value refl

pub returns-in_err-read_number-3 : goal.returns-in_err-read_number-3
returns-in_err-read_number-3 c =
    let text = c.args.text.now in
    c.from_residual-in_err-read_number-3.ensures ∙ date_read text (Some c.in_ok-read_number.field-0) (Some c.in_ok-read_number-2.field-0) None c.if-text-ne10.false c.if-text-ne45.false c.if-text-ne45-2.false c.in_ok-read_number.ensures.value c.in_ok-read_number-2.ensures.value (c.in_err-read_number-3.ensures.value ∙ ap (λ l. number_of l) (take_rest text 8))

pub returns : goal.returns
returns c =
    let text = c.args.text.now in
    c.new.ensures ∙ date_read text (Some c.in_ok-read_number.field-0) (Some c.in_ok-read_number-2.field-0) (Some c.in_ok-read_number-3.field-0) c.if-text-ne10.false c.if-text-ne45.false c.if-text-ne45-2.false c.in_ok-read_number.ensures.value c.in_ok-read_number-2.ensures.value (c.in_ok-read_number-3.ensures.value ∙ ap (λ l. number_of l) (take_rest text 8))
