use Rattle.std.proofs.Common.{List, ℕ, ap, ◌∙◌}
use Rattle.org_meta.specs.Sections.{parts_of, put}
use Rattle.org_move.proofs.Each.{good_value, value_more, none_more, each_all}
use Rattle.org_move.proofs.properties.with_properties.Goals as goal
use Rattle.org_move.proofs.properties.with_properties.Goals.{in-Some+in_ok-new-2, in_default}

pub with_property-requires-clause-name : goal.with_property-requires-clause-name
with_property-requires-clause-name c = (good_value c.args.properties.now c.loop-property.property-index _ _ c.in-Some.is c.requires c.loop-property-test.true).0

pub with_property-requires-clause-line : goal.with_property-requires-clause-line
with_property-requires-clause-line c = (good_value c.args.properties.now c.loop-property.property-index _ _ c.in-Some.is c.requires c.loop-property-test.true).1

pub loop-property-preserved : goal.loop-property-preserved
loop-property-preserved c =
    let so_far = c.loop-property.invariant in
    let ps = c.args.properties.now in
    let i = c.loop-property.property-index in
    elim c.match-property.branch [
      | in-Some+in_ok-new-2 w ↦ rw w.new-is (record {
        parts =
            value_more ps i _ w.in-Some.value _ _ _ so_far.parts c.loop-property-test.true w.in-Some.is
            (w.in_ok-new-2.ensures.parts ∙ ap (λ (l : List ℕ). put _ w.in-Some.value.now (parts_of l)) w.deref.ensures.value);
        stays_terminated = w.in_ok-new-2.ensures.terminated;
      })
      | in_default w ↦ rw w.new-is (record {
        parts = none_more ps i _ _ _ so_far.parts c.loop-property-test.true w.in_default.is;
        stays_terminated = so_far.stays_terminated;
      })
    ]

pub returns-clause-parts : goal.returns-clause-parts
returns-clause-parts c = each_all c.args.properties.now c.loop-property.property-index _ _ c.loop-property.invariant.parts c.loop-property-test.false
