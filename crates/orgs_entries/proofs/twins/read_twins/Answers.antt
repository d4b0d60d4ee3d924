use Rattle.std.proofs.Common.{◌≡◌, ◌<◌, nat_lt, ℕ, sym, ap, ◌∙◌, arith}
use Rattle.std.proofs.lemmas.Grind.{common_steps}
use Rattle.org_outline.specs.Tree.{node_count, tree}
use Rattle.orgs_entries.specs.Families.{family_at}
use Rattle.orgs_entries.specs.Twins.{count_below, has_twins}
use Rattle.orgs_entries.proofs.Kept.{kept_more}
use Rattle.orgs_entries.proofs.twins.read_twins.Goals as goal

pub loop-index-preserved : goal.loop-index-preserved
loop-index-preserved c =
    let d = tree c.args.outline.now.text in
    let states = c.args.outline.now.states in
    let i = c.loop-index.index in
    let twin = ap (nat_lt 1) (c.count.ensures ∙ c.requires.counts c.family-family.result ∙ ap (count_below states d (node_count d)) c.family-family.ensures) in
    kept_more (has_twins states d) i _ _ _ c.loop-index.invariant c.in_ok-push.ensures.items twin
