use Rattle.org_move.specs.Location.{halves_made, heading_made}
use Rattle.org_move.proofs.Places.{read_is, located}
use Rattle.org_move.proofs.locating.location_searched.Goals as goal

pub returns-clause-place : goal.returns-clause-place
returns-clause-place c =
    let to = located _ _ c.args.name.now c.args.outline.now.text _ c.args.node _ _ _ c.is_archive.ensures c.if-is_archive.false c.value_for.ensures.value
    (read_is halves_made _ _ _ c.halves.ensures c.in-Some.is) c.states.ensures.value
    (read_is heading_made _ _ _ c.heading.ensures.value c.in-Some-heading.is) in
    rw to c.place.ensures
