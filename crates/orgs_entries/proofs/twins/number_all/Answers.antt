use Rattle.std.proofs.Common.{◌≡◌, ◌<◌, ◌+◌, ℕ, sym, ap, ◌∙◌, arith}
use Rattle.std.proofs.lemmas.Grind.{common_steps}
use Rattle.org_outline.specs.Tree.{node_count, tree}
use Rattle.orgs_entries.specs.Families.{family_at}
use Rattle.orgs_entries.specs.Twins.{count_below, number_of}
use Rattle.orgs_entries.proofs.Counting.{count_within, counts_more}
use Rattle.orgs_entries.proofs.Kept.{kept_more}
use Rattle.orgs_entries.proofs.twins.number_all.Goals as goal

pub loop-index-preserved : goal.loop-index-preserved
loop-index-preserved c =
    let d = tree c.args.outline.now.text in
    let states = c.args.outline.now.states in
    let i = c.loop-index.index in
    let number : c.count-number.result + 1 ≡ number_of states d i =
    ap (λ n. n + 1) (c.count-number.ensures ∙ c.loop-index.invariant.counts c.family-family.result ∙ ap (count_below states d i) c.family-family.ensures) in
    record {
      numbers = kept_more (number_of states d) i _ _ _ c.loop-index.invariant.numbers c.in_ok-push.ensures.items number;
      counts = counts_more states d i c.loop-index.families c.insert.new.self c.family-family.result _ c.loop-index.invariant.counts c.family-family.ensures (ap (λ n. n + 1) c.count-number.ensures) c.in_ok-insert.ensures.updates;
    }
