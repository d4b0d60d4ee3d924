use Rattle.std.proofs.Common.{◌≡◌, ◌∙◌, ◌==◌, ◌-◌, false, ap, length, refl, sym, take}
use Rattle.std.specs.List.{list_any}
use Rattle.std.specs.Option.{is_some}
use Rattle.org_capture.proofs.OneHeading.{one_line}
use Rattle.org_capture.proofs.entries.is_one_heading.Goals as goal

pub returns-in-10 : goal.returns-in-10
returns-in-10 c =
    let text = c.args.text.now in
    let none : list_any (λ b. b == 10) (take (length text - 1) text) ≡ false = sym c.contains.ensures.value ∙ c.if-not-contains.true in
    c.is_some.ensures ∙ ap is_some c.heading_level.ensures ∙ one_line text _ c.requires c.in-10.len_at_least refl none
