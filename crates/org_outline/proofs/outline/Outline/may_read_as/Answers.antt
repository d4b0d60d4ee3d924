use Rattle.std.proofs.Common.{ℕ, List, sym, ap, ◌∙◌}
use Rattle.std.specs.Str.{bytes_eq}
use Rattle.org_outline.specs.Paths.{title_of}
use Rattle.org_outline.proofs.outline.Outline.may_read_as.Goals as goal

pub returns-else-can_have : goal.returns-else-can_have
returns-else-can_have c = λ fails.
    c.can_have.ensures c.args.self.now.states _ c.tail.ensures.0 c.tail.ensures.1 c.if-can_have.false

pub returns-then-can_have : goal.returns-then-can_have
returns-then-can_have c = λ fails.
    ap (λ (rest : List ℕ). bytes_eq (title_of c.args.self.now.states rest) c.args.title.now) (sym c.rest.ensures)
    ∙ c.can_end.ensures c.args.self.now.states fails
