use Rattle.std.proofs.Common.{ℕ, ap, arith}
use Rattle.org_state.specs.Clock.{span_from}
use Rattle.org_state.proofs.Steps.{section_long}
use Rattle.org_state.proofs.clocks.span_in_section.Goals as goal

pub overflow_add-result : goal.overflow_add-result
overflow_add-result c = omega (arith, c.requires.ordered, c.requires.within, section_long c.args.own.now.outline.now.text c.args.own.now.node _ c.section-section.ensures)

pub overflow_add-result-2 : goal.overflow_add-result-2
overflow_add-result-2 c = omega (arith, c.requires.within, section_long c.args.own.now.outline.now.text c.args.own.now.node _ c.section-section.ensures)

pub returns : goal.returns
returns c = ap (λ (n : ℕ). span_from n c.args.span) c.section-section.ensures.start
