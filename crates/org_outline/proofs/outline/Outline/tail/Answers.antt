use Rattle.std.proofs.Common.{◌+◌, ◌≤◌, [], length, get_or, arith}
use Rattle.org_headings.specs.Beginnings.{beginnings_of}
use Rattle.org_headings.specs.declared.heads.Heading.{Heading}
use Rattle.org_outline.proofs.Rests.{rest_room, tail_at}
use Rattle.org_outline.proofs.outline.Outline.tail.Goals as goal

pub overflow_add-heading : goal.overflow_add-heading
overflow_add-heading c =
    let none : Heading = record { start = 0; level = 0; beginnings = beginnings_of [] } in
    let room : (get_or c.headings-headings.result.now c.node.inside.index none).start + (get_or c.headings-headings.result.now c.node.inside.index none).level ≤ length c.text.result.now = rest_room _ _ _ _ _ _ c.text.ensures.value c.text.ensures.terminated c.node.view_is c.headings-headings.ensures.value c.requires in
    omega (arith, room, c.text.type_inv.0)

pub split_at-requires : goal.split_at-requires
split_at-requires c = rest_room _ _ _ _ _ _ c.text.ensures.value c.text.ensures.terminated c.node.view_is c.headings-headings.ensures.value c.requires

pub returns : goal.returns
returns c = tail_at _ _ _ _ _ _ _ c.text.ensures.value c.text.ensures.terminated c.node.view_is c.headings-headings.ensures.value c.requires c.split_at.ensures.back
