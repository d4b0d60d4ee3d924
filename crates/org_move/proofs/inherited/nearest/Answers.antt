use Rattle.std.proofs.Common.{List, ℕ, sym, ap, ◌∙◌}
use Rattle.std.specs.Borrow.{Bor}
use Rattle.std.specs.Option.{option_map}
use Rattle.org_move.proofs.Above.{walk_found, walk_next}
use Rattle.org_move.proofs.inherited.nearest.Goals as goal

pub returns-in-Some-own_value : goal.returns-in-Some-own_value
returns-in-Some-own_value c =
    walk_found _ _ _ _ _ _ c.loop-next.invariant c.in-Some.is
    (sym (ap (option_map (λ (value : Bor (List ℕ)). value.now)) c.in-Some-own_value.is) ∙ c.own_value.ensures)

pub loop-next-preserved : goal.loop-next-preserved
loop-next-preserved c =
    walk_next _ _ _ _ _ _ c.loop-next.invariant c.in-Some.is
    (sym (ap (option_map (λ (value : Bor (List ℕ)). value.now)) c.in_default-own_value.is) ∙ c.own_value.ensures)
    c.parent-next.ensures.value c.parent-next.ensures.within
