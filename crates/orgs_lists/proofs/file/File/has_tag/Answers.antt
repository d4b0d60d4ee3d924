use Rattle.std.proofs.Common.{◌≡◌, ◌<◌, ℕ, Bool, true, false, ◌||◌, refl, sym, ap, ◌∙◌, arith}
use Rattle.std.proofs.lemmas.Bool.{or_from, or_right}
use Rattle.org_outline.specs.Tree.{node_count, tree}
use Rattle.orgs_entries.proofs.Upward.{some_parent}
use Rattle.orgs_lists.specs.Filters.{has_own_tag}
use Rattle.orgs_lists.proofs.Tags.{nearer, none_passes, others_pass, own_passes}
use Rattle.orgs_lists.proofs.file.File.has_tag.Goals as goal

pub loop-next-smaller : goal.loop-next-smaller
loop-next-smaller c = nearer (tree c.args.self.now.entries.now.text) c.in-Some.at c.loop-next.next c.parent-next.result c.in-Some.is c.parent-next.ensures.value

pub loop-next-preserved : goal.loop-next-preserved
loop-next-preserved c =
    let source = c.args.self.now.entries.now in
    let d = tree source.text in
    let p : ℕ → Bool = has_own_tag source c.args.tag.now in
    let lt : c.in-Some.at < node_count d = c.loop-next.invariant.there c.in-Some.at c.in-Some.is in
    record {
      there = some_parent c.parent-next.result (node_count d) c.parent-next.ensures.within;
      rest = c.loop-next.invariant.rest ∙ others_pass p d c.in-Some.at c.loop-next.next c.parent-next.result c.in-Some.is (sym c.has_own_tag.ensures ∙ c.if-has_own_tag.false) lt c.parent-next.ensures.value;
    }
