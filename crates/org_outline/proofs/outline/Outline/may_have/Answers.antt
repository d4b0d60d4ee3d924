use Rattle.std.proofs.Common.{ap, sym, ◌∙◌}
use Rattle.org_headings.specs.declared.beginnings.Sought.{Sought}
use Rattle.org_headings.specs.Beginnings.{may_have, sought_of}
use Rattle.org_outline.specs.Tree.{tree, node_at}
use Rattle.org_outline.proofs.TitlePlaces.{cannot_have}
use Rattle.org_outline.proofs.outline.Outline.may_have.Goals as goal

pub returns : goal.returns
returns c = λ fails.
    cannot_have c.args.self.now.states (node_at (tree c.args.self.now.text) c.args.node).node.rest c.args.title.now
    (ap (may_have (sought_of c.args.title.now)) (sym c.beginnings.ensures) ∙ ap (λ (s : Sought). may_have s c.beginnings.result) (sym c.of.ensures) ∙ sym c.allow.ensures ∙ fails)
