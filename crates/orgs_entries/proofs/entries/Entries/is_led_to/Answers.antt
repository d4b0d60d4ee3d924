use Rattle.std.proofs.Common.{◌≡◌, ◌<◌, ◌+◌, ◌-◌, ℕ, Option, Some, length, sym, ◌∙◌, arith, ap}
use Rattle.std.proofs.lemmas.Grind.{common_steps}
use Rattle.org_outline.specs.Source.{Source}
use Rattle.org_outline.specs.Tree.{node_count, parent_of, tree}
use Rattle.orgs_entries.specs.Twins.{parents_of}
use Rattle.orgs_entries.proofs.Kept.{kept_read, kept_within}
use Rattle.orgs_entries.proofs.Upward.{parent_within, some_parent}
use Rattle.orgs_entries.proofs.Walks.{step_missing, step_passed}
use Rattle.orgs_entries.proofs.entries.Entries.is_led_to.Goals as goal

pub index-requires : goal.index-requires
index-requires c =
    let lt : c.in-Some.index < node_count (tree c.args.self.now.text) = c.loop-left.invariant.there c.in-Some.index c.in-Some.is in
    omega (arith, c.self.inside.parents.ok.0, kept_within (parent_of (tree c.args.self.now.text)) (node_count (tree c.args.self.now.text)) c.in-Some.index c.self.inside.parents.items (c.self.invariant.1 ∙ ap (λ (s : Source). parents_of (tree s.text)) c.self.view_is) lt)

pub returns-in_default : goal.returns-in_default
returns-in_default c =
    let none = step_missing c.args.self.now.states (tree c.args.self.now.text) c.args.path.now c.loop-left.left c.loop-left.at c.loop-left-test.true c.loop-left.invariant.within c.in_default.is in
    sym (c.loop-left.invariant.rest ∙ none)

pub loop-left-preserved : goal.loop-left-preserved
loop-left-preserved c =
    let d = tree c.args.self.now.text in
    let lt : c.in-Some.index < node_count d = c.loop-left.invariant.there c.in-Some.index c.in-Some.is in
    let up : c.index.result.now ≡ parent_of d c.in-Some.index = kept_read (parent_of d) (node_count d) c.in-Some.index c.self.inside.parents.items c.index.result.now (c.self.invariant.1 ∙ ap (λ (s : Source). parents_of (tree s.text)) c.self.view_is) lt c.index.ensures in
    let in_d = parent_within c.args.self.now.text c.in-Some.index c.index.result.now lt up in
    record {
      within = omega (arith, c.loop-left.invariant.within);
      there = some_parent c.index.result.now (node_count d) in_d;
      rest = c.loop-left.invariant.rest
          ∙ step_passed c.args.self.now.states d c.args.path.now c.loop-left.left c.in-Some.index c.index-path-left.result c.loop-left.at c.index.result.now c.loop-left-test.true c.loop-left.invariant.within c.index-path-left.is c.in-Some.is
          (sym c.has_step.ensures ∙ c.if-not-has_step.false) up;
    }
