use Rattle.std.proofs.Common.{ap, ◌∙◌, arith}
use Rattle.org_outline.specs.Source.{Source}
use Rattle.org_outline.specs.Tree.{node_count, tree}
use Rattle.orgs_entries.specs.Twins.{number_of, numbers_of}
use Rattle.orgs_entries.proofs.Kept.{kept_read, kept_within}
use Rattle.orgs_entries.proofs.entries.Entries.number.Goals as goal

pub index-requires : goal.index-requires
index-requires c = omega (arith, c.self.inside.numbers.ok.0, kept_within (number_of c.args.self.now.states (tree c.args.self.now.text)) (node_count (tree c.args.self.now.text)) c.args.index c.self.inside.numbers.items (c.self.invariant.2 ∙ ap (λ (s : Source). numbers_of s.states (tree s.text)) c.self.view_is) c.requires)

pub returns : goal.returns
returns c = kept_read (number_of c.args.self.now.states (tree c.args.self.now.text)) (node_count (tree c.args.self.now.text)) c.args.index c.self.inside.numbers.items _ (c.self.invariant.2 ∙ ap (λ (s : Source). numbers_of s.states (tree s.text)) c.self.view_is) c.requires c.index.ensures
