use Rattle.std.proofs.Common.{◌≡◌, ◌∙◌, ℕ, ap, sym, subst}
use Rattle.std.specs.Prelude.{IsSomeAnd}
use Rattle.org_fileset.proofs.Changes.{entries_next, sizes_more}
use Rattle.org_fileset.specs.Lengths.{length_of}
use Rattle.org_fileset.proofs.entries.entries_of.Goals as goal

pub loop-index-preserved : goal.loop-index-preserved
loop-index-preserved g c =
    let entry = c.in_ok-entry_of.field-0 in
    let sizes = length_of c.args.names.now c.args.lengths.now in
    let made = c.in_ok-entry_of.ensures in
    record {
      are = entries_next (g.C.Changes.pairs c.args.changes.now) c.loop-index.entries.items c.push.new.self.items c.loop-index.index (c.pair.result.0.now, c.pair.result.1.now.text) entry
          c.loop-index.invariant.are c.pair.ensures made.entry c.in_ok-push.ensures.items;
      sizes = sizes_more sizes c.loop-index.entries.items c.push.new.self.items entry c.loop-index.invariant.sizes
          (subst (λ (n : ℕ). IsSomeAnd entry.before (λ before. before.length ≡ n)) (c.length_of-size.ensures ∙ ap sizes (sym made.entry.name)) made.size) c.in_ok-push.ensures.items;
    }
