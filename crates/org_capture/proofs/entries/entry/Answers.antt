use Rattle.std.proofs.Common.{◌≡◌, ◌∙◌, Ok, List, ℕ, sym, ap, subst}
use Rattle.org_splice.specs.Lines.{terminated}
use Rattle.org_splice.proofs.Lines.{terminated_twice}
use Rattle.org_capture.specs.Entry.{IsEntry}
use Rattle.org_capture.proofs.OneHeading.{entry_bad, entry_good}
use Rattle.org_capture.proofs.entries.entry.Goals as goal

pub is_one_heading-requires : goal.is_one_heading-requires
is_one_heading-requires c =
    let stays_terminated : c.as_slice.result.now ≡ terminated c.args.text.items = c.as_slice.ensures.value ∙ c.in_ok-terminate.ensures in
    ap terminated stays_terminated ∙ terminated_twice c.args.text.items ∙ sym stays_terminated

pub returns-then-not-is_one_heading-clause-value : goal.returns-then-not-is_one_heading-clause-value
returns-then-not-is_one_heading-clause-value c =
    entry_bad c.args.text.items c.as_slice.result.now (c.as_slice.ensures.value ∙ c.in_ok-terminate.ensures) (sym c.is_one_heading.ensures ∙ c.if-not-is_one_heading.true)

pub returns-clause-value : goal.returns-clause-value
returns-clause-value c =
    let good = entry_good c.args.text.items c.as_slice.result.now (c.as_slice.ensures.value ∙ c.in_ok-terminate.ensures) (sym c.is_one_heading.ensures ∙ c.if-not-is_one_heading.false) in
    good.0 ∙ ap Ok c.as_slice.ensures.value

pub returns-clause-one : goal.returns-clause-one
returns-clause-one c =
    let good = entry_good c.args.text.items c.as_slice.result.now (c.as_slice.ensures.value ∙ c.in_ok-terminate.ensures) (sym c.is_one_heading.ensures ∙ c.if-not-is_one_heading.false) in
    let Entry : List ℕ → Type 0 = λ t. IsEntry t good.1.0 in
    (good.1.0, subst Entry c.as_slice.ensures.value good.1.1)
