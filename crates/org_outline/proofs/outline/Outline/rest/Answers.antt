use Rattle.org_outline.proofs.Rests.{rest_room, rest_at}
use Rattle.org_outline.proofs.outline.Outline.rest.Goals as goal

pub behind_stars-requires : goal.behind_stars-requires
behind_stars-requires c = rest_room _ _ _ _ _ _ c.text.ensures.value c.text.ensures.terminated c.node.view_is c.headings-headings.ensures.value c.requires

pub returns : goal.returns
returns c = rest_at _ _ _ _ _ _ _ c.text.ensures.value c.text.ensures.terminated c.node.view_is c.headings-headings.ensures.value c.requires c.behind_stars.ensures.rest
