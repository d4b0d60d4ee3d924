use Rattle.std.proofs.Common.{refl}
use Rattle.org_outline.specs.declared.moves.Place.TheVariants.{First, Last}
use Rattle.org_outline.proofs.Placing.{end_found, place_found}
use Rattle.org_outline.proofs.outline.Outline.place.Goals as goal

pub returns-in-None-Last : goal.returns-in-None-Last
returns-in-None-Last c = end_found _ _ _ _ _ c.text-end.ensures.value c.text-end.ensures.terminated c.in-None-Last.is-0 c.in-None-Last.is-1 refl

pub returns-in-First : goal.returns-in-First
returns-in-First c = rw c.in-First.is (place_found _ _ _ First _ _ _ c.text-end.ensures.value c.text-end.ensures.terminated c.later-later.ensures c.requires c.below-first.ensures.first c.next_start.ensures)

pub returns-in-Last : goal.returns-in-Last
returns-in-Last c = rw c.in-Last.is (place_found _ _ _ Last _ _ _ c.text-end.ensures.value c.text-end.ensures.terminated c.later-later.ensures c.requires c.below-first.ensures.first c.next_start-in-Last.ensures)
