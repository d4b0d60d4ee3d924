use Rattle.org_outline.proofs.HeadingLines.{has_parts, keyword_found, only_parts, tags_found}
use Rattle.org_outline.proofs.laws.no_part_is_missed.Goals as goal

pub returns-clause-these : goal.returns-clause-these
returns-clause-these c = has_parts

pub returns-clause-only : goal.returns-clause-only
returns-clause-only c = only_parts

pub returns-clause-keyword : goal.returns-clause-keyword
returns-clause-keyword c = keyword_found

pub returns-clause-tags : goal.returns-clause-tags
returns-clause-tags c = tags_found
