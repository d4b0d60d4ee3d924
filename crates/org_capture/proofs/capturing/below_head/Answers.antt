use Rattle.std.proofs.Common.{◌≡◌, ◌∙◌, ℕ, List, true, None, Ok, sym, ap, subst}
use Rattle.org_outline.specs.States.{Keywords}
use Rattle.org_outline.specs.Tree.{Document, tree}
use Rattle.org_outline.specs.Paths.{find_headed}
use Rattle.org_capture.specs.Capture.{below_made, can_be_title}
use Rattle.org_capture.specs.Answers.{Makes}
use Rattle.org_capture.specs.Entry.{IsEntry}
use Rattle.org_capture.proofs.Insertions.{head_made}
use Rattle.org_capture.proofs.capturing.below_head.Goals as goal

pub returns : goal.returns
returns c = λ node entry.
    let states : Keywords = c.args.outline.now.states in
    let d : Document = tree c.args.outline.now.text in
    let title : List ℕ = c.args.head.now.title in
    let none : find_headed states d c.args.head.now ≡ Ok None = sym c.headed.ensures.value ∙ c.in_ok-node.was ∙ ap Ok c.in_default.is in
    let can : can_be_title states title ≡ true = ap (can_be_title states) (sym c.as_slice-title.ensures) ∙ ap (λ s. can_be_title s c.as_slice-title.result.now) (sym c.states.ensures.value) ∙ sym c.in_ok-can_be_title.ensures ∙ c.if-not-branch.false in (
      below_made c.args.place node title d,
      head_made states title c.args.place node d (find_headed states d c.args.head.now) none can,
      subst (λ (t : List ℕ). Makes c.in_ok-made_head.field-0 c.args.outline.now.text (below_made c.args.place node t d)) c.as_slice-title.ensures
          (c.in_ok-made_head.ensures node (subst (λ (t : List ℕ). IsEntry t node) (sym c.deref.ensures.value) entry)),
    )
