use Rattle.std.proofs.Common.{ap, ◌∙◌, arith}
use Rattle.org_outline.specs.Source.{Source}
use Rattle.org_outline.specs.Tree.{node_count, tree}
use Rattle.orgs_entries.specs.Lines.{line_of, lines_of_headings}
use Rattle.orgs_entries.proofs.Kept.{kept_read, kept_within}
use Rattle.orgs_entries.proofs.entries.Entries.line.Goals as goal

pub index-requires : goal.index-requires
index-requires c = omega (arith, c.self.inside.lines.ok.0, kept_within (line_of c.args.self.now.text) (node_count (tree c.args.self.now.text)) c.args.index c.self.inside.lines.items (c.self.invariant.0 ∙ ap (λ (s : Source). lines_of_headings s.text) c.self.view_is) c.requires)

pub returns : goal.returns
returns c = kept_read (line_of c.args.self.now.text) (node_count (tree c.args.self.now.text)) c.args.index c.self.inside.lines.items _ (c.self.invariant.0 ∙ ap (λ (s : Source). lines_of_headings s.text) c.self.view_is) c.requires c.index.ensures
