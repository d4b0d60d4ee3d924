use Rattle.std.proofs.Common.{ap, ◌∙◌, arith}
use Rattle.org_outline.specs.Source.{Source}
use Rattle.org_outline.specs.Tree.{node_count, tree}
use Rattle.orgs_entries.specs.Twins.{has_twins, twins_of}
use Rattle.orgs_entries.proofs.Kept.{kept_read, kept_within}
use Rattle.orgs_entries.proofs.entries.Entries.has_twins.Goals as goal

pub index-requires : goal.index-requires
index-requires c = omega (arith, c.self.inside.twins.ok.0, kept_within (has_twins c.args.self.now.states (tree c.args.self.now.text)) (node_count (tree c.args.self.now.text)) c.args.index c.self.inside.twins.items (c.self.invariant.3 ∙ ap (λ (s : Source). twins_of s.states (tree s.text)) c.self.view_is) c.requires)

pub returns : goal.returns
returns c = kept_read (has_twins c.args.self.now.states (tree c.args.self.now.text)) (node_count (tree c.args.self.now.text)) c.args.index c.self.inside.twins.items _ (c.self.invariant.3 ∙ ap (λ (s : Source). twins_of s.states (tree s.text)) c.self.view_is) c.requires c.index.ensures
