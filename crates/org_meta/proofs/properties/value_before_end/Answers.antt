use Rattle.std.proofs.Common.{refl, sym, ◌∙◌}
use Rattle.org_meta.proofs.Drawers.{value_end, value_found, value_nowhere}
use Rattle.org_meta.proofs.Walk.{rest_shorter}
use Rattle.org_meta.proofs.properties.value_before_end.Goals as goal

pub loop-line-init : goal.loop-line-init
loop-line-init c = record { value = refl }

pub loop-line-smaller : goal.loop-line-smaller
loop-line-smaller c = rest_shorter _ _ _ c.in-Some.ensures.some

pub returns-then-is_end : goal.returns-then-is_end
returns-then-is_end c = value_end _ _ _ _ _ c.loop-line.invariant c.in-Some.ensures.some (sym c.is_end.ensures ∙ c.if-is_end.true)

pub returns-in-Some-value_named : goal.returns-in-Some-value_named
returns-in-Some-value_named c = value_found _ _ _ _ _ _ c.loop-line.invariant c.in-Some.ensures.some (sym c.is_end.ensures ∙ c.if-is_end.false) c.in-Some-value_named.ensures

pub returns : goal.returns
returns c = value_nowhere _ _ _ c.loop-line.invariant c.in_default.ensures.none
