use Rattle.std.proofs.Common.{ℕ, List, subst}
use Rattle.org_outline.specs.States.{Keywords}
use Rattle.org_outline.specs.Parts.{parts_of, AreParts}
use Rattle.org_outline.proofs.outline.Outline.parts.Goals as goal

pub returns : goal.returns
returns c =
    let of_states : AreParts c.of.result (parts_of c.args.self.now.states c.rest.result.now) = subst (λ (states : Keywords). AreParts c.of.result (parts_of states c.rest.result.now)) c.states.ensures.value c.of.ensures in
    subst (λ (rest : List ℕ). AreParts c.of.result (parts_of c.args.self.now.states rest)) c.rest.ensures of_states
