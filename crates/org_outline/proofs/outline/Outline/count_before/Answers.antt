use Rattle.org_outline.proofs.Counts.{headings_rise, count_of_nodes}
use Rattle.org_outline.proofs.outline.Outline.count_before.Goals as goal

pub starts_before-requires : goal.starts_before-requires
starts_before-requires c = headings_rise c.args.self.now.text _ c.headings.ensures.terminated c.headings.ensures.value

pub returns-clause-count : goal.returns-clause-count
returns-clause-count c = count_of_nodes c.args.self.now.text _ _ _ c.headings.ensures.value c.starts_before.ensures.count
