use Rattle.std.proofs.Common.{◌≡◌, ◌∙◌, Some, sym, ap}
use Rattle.std.proofs.lemmas.Option.{cond_some}
use Rattle.org_headings.specs.Text.{level_of}
use Rattle.org_outline.proofs.Shifting.{shift_to_own}
use Rattle.org_capture.proofs.inserting.shifted.Goals as goal

pub returns-in-Some : goal.returns-in-Some
returns-in-Some c =
    let root : level_of c.args.bytes.items ≡ Some c.in-Some.root = ap level_of (sym c.deref.ensures.value) ∙ sym c.heading_level.ensures ∙ c.in-Some.is in
    shift_to_own c.args.bytes.items c.in-Some.root c.args.level (sym (cond_some _ _ _ root).1) c.if-root-level.true c.requires.node
