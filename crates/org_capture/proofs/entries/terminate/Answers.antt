use Rattle.std.proofs.Common.{◌≡◌, ◌∙◌, ℕ, List, sym, ap}
use Rattle.std.proofs.lemmas.Bool.{false≢true}
use Rattle.org_splice.specs.Lines.{terminated}
use Rattle.org_capture.proofs.OneHeading.{terminated_ends}
use Rattle.org_capture.proofs.entries.terminate.Goals as goal

pub returns-in_ok-push : goal.returns-in_ok-push
returns-in_ok-push c =
    let old : List ℕ = c.args.text.now.items in
    let read : c.as_slice.result.now ≡ old = c.as_slice.ensures.value in
    c.in_ok-push.ensures.items
    ∙ sym (terminated_ends old (λ stays_terminated. false≢true (sym c.if-not-is_terminated.true ∙ c.is_terminated.ensures.1 (ap terminated read ∙ stays_terminated ∙ sym read))))
