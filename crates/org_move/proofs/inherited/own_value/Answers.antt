use Rattle.std.proofs.Common.{List, ℕ, sym, ap, ◌∙◌}
use Rattle.std.specs.Borrow.{Bor}
use Rattle.std.specs.Option.{option_map}
use Rattle.org_move.proofs.Own.{section_within, section_terminated, own_none, own_some}
use Rattle.org_move.proofs.inherited.own_value.Goals as goal

pub slice_bounds-bytes-end : goal.slice_bounds-bytes-end
slice_bounds-bytes-end c =
    section_within c.args.outline.now.text _ c.args.node _ c.text.ensures.value c.text.ensures.terminated c.requires c.section-span.ensures

pub invariant_of-property : goal.invariant_of-property
invariant_of-property c = record { whole = section_terminated c.args.outline.now.text _ c.args.node _ c.text.ensures.value c.section-span.ensures }

pub returns-in_err-property : goal.returns-in_err-property
returns-in_err-property c =
    let none = own_none c.args.outline.now.text _ c.args.name.now c.args.node _ c.text.ensures.value c.requires c.section-span.ensures
    (sym c.property.ensures ∙ ap (option_map (λ (value : Bor (List ℕ)). value.now)) c.in_err-property.was) in
    rw c.from_residual.ensures (sym none)

pub returns : goal.returns
returns c =
    c.nonempty.ensures
    ∙ sym (own_some c.args.outline.now.text _ c.args.name.now _ c.args.node _ c.text.ensures.value c.requires c.section-span.ensures
    (sym c.property.ensures ∙ ap (option_map (λ (value : Bor (List ℕ)). value.now)) c.in_ok-property.was))
