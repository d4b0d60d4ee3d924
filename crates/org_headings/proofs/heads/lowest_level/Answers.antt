use Rattle.std.proofs.Common.{◌∙◌, ◌<◌, sym, drop, arith}
use Rattle.org_headings.specs.declared.heads.Heading.{Heading}
use Rattle.org_headings.proofs.Levels.{lowest_none}
use Rattle.org_splice.proofs.AllLines.{AllByRecursion-drop}
use Rattle.org_headings.proofs.heads.lowest_level.Goals as goal

pub returns-then-saturating_sub-floor : goal.returns-then-saturating_sub-floor
returns-then-saturating_sub-floor c =
    sym (lowest_none c.args.floor c.loop-heading.lowest (drop c.loop-heading.heading-index c.args.headings.now) (AllByRecursion-drop (λ (h : Heading). c.args.floor < h.level) c.loop-heading.heading-index c.args.headings.now c.requires) (omega (arith, c.saturating_sub.ensures, c.if-saturating_sub-floor.true)))
    ∙ c.loop-heading.invariant
