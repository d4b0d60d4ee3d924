use Rattle.std.proofs.Common.{rules, sym, ap, ◌≡◌, false, ◌==◌, ℕ, List, Some, ◌∙◌}
use Rattle.std.specs.List.{list_any}
use Rattle.org_serve.proofs.Escapes.{unescaped-plain}
use Rattle.org_serve.proofs.field.unescape.Goals as goal

pub returns-then-not-contains : goal.returns-then-not-contains
returns-then-not-contains c =
    let copied : c.args.field.now ≡ c.in_ok-to_vec.field-0.items = search rules in
    let none : list_any (λ b. b == 92) c.args.field.now ≡ false = sym c.contains.ensures.value ∙ c.if-not-contains.true in
    unescaped-plain c.args.field.now none ∙ ap (λ (text : List ℕ). Some text) copied
