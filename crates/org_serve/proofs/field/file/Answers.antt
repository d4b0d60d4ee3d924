use Rattle.std.proofs.Common.{◌≡◌, false, ◌==◌, sym, ◌∙◌}
use Rattle.std.specs.List.{list_any}
use Rattle.org_serve.specs.Grammar.{file_of}
use Rattle.org_serve.proofs.Escapes.{unescaped-plain}
use Rattle.org_serve.proofs.field.file.Goals as goal

pub returns-then-not-contains : goal.returns-then-not-contains
unfolding file_of
returns-then-not-contains c =
    let none : list_any (λ b. b == 92) c.args.field.now ≡ false = sym c.contains.ensures.value ∙ c.if-not-contains.true in
    rw (unescaped-plain c.args.field.now none) c.named.ensures
