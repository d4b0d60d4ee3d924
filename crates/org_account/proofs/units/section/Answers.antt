use Rattle.org_account.proofs.Pieces.{section_within}
use Rattle.org_account.proofs.units.section.Goals as goal

pub slice_bounds-result-end : goal.slice_bounds-result-end
slice_bounds-result-end c =
    section_within c.args.outline.now.text _ c.args.node _ c.text-text.ensures.value c.text-text.ensures.terminated c.requires c.section-span.ensures
