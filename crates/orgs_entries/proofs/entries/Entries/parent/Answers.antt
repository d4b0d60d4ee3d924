use Rattle.std.proofs.Common.{◌∙◌, sym, ap, arith}
use Rattle.org_outline.specs.Source.{Source}
use Rattle.org_outline.specs.Tree.{node_count, parent_of, tree}
use Rattle.orgs_entries.specs.Twins.{parents_of}
use Rattle.orgs_entries.proofs.Kept.{kept_read, kept_within}
use Rattle.orgs_entries.proofs.Upward.{parent_within}
use Rattle.orgs_entries.proofs.entries.Entries.parent.Goals as goal

pub index-requires : goal.index-requires
index-requires c = omega (arith, c.self.inside.parents.ok.0, kept_within (parent_of (tree c.args.self.now.text)) (node_count (tree c.args.self.now.text)) c.args.index c.self.inside.parents.items (c.self.invariant.1 ∙ ap (λ (s : Source). parents_of (tree s.text)) c.self.view_is) c.requires)

pub returns-clause-value : goal.returns-clause-value
returns-clause-value c = kept_read (parent_of (tree c.args.self.now.text)) (node_count (tree c.args.self.now.text)) c.args.index c.self.inside.parents.items _ (c.self.invariant.1 ∙ ap (λ (s : Source). parents_of (tree s.text)) c.self.view_is) c.requires c.index.ensures

pub returns-clause-within : goal.returns-clause-within
returns-clause-within c = parent_within c.args.self.now.text c.args.index _ c.requires (returns-clause-value c)
