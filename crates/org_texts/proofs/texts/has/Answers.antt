use Rattle.std.proofs.Common.{◌≡◌, ◌∙◌, List, ℕ, Some, sym, ap}
use Rattle.std.proofs.lemmas.Slice.Eq.{bytes_eq-Decides}
use Rattle.org_texts.proofs.Looking.{is_there}
use Rattle.org_texts.proofs.texts.has.Goals as goal

pub returns-in-Some : goal.returns-in-Some
returns-in-Some c =
    let same : c.in-Some.last.now ≡ c.args.name.now = (bytes_eq-Decides c.in-Some.last.now c.args.name.now).0 (sym c.eq.ensures ∙ c.if-eq.true) in
    sym (is_there c.args.names.now.keys _ c.args.name.now (sym c.in-Some.ensures.key ∙ ap (λ (name : List ℕ). Some name) same))
