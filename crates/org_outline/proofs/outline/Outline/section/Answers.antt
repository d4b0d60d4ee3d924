use Rattle.org_outline.proofs.Sections.{section_at, start_room}
use Rattle.org_outline.proofs.outline.Outline.section.Goals as goal

pub returns : goal.returns
returns c = section_at _ _ _ _ _ _ _ c.text-text.ensures.value c.text-text.ensures.terminated c.requires c.at.ensures.heading c.at.ensures.later c.line_end.ensures.line c.first_start.ensures

pub line_end-requires : goal.line_end-requires
line_end-requires c = start_room _ _ _ _ c.text-text.ensures.value c.text-text.ensures.terminated c.requires c.at.ensures.heading
