use Rattle.std.proofs.Common.{◌≡◌, ◌<◌, ℕ, List, Option, None, length, ap, ◌∙◌, arith}
use Rattle.std.proofs.lemmas.Grind.{common_steps}
use Rattle.org_outline.specs.Tree.{node_at, node_count, parent_of, tree}
use Rattle.org_outline.specs.Paths.{title_of}
use Rattle.orgs_entries.specs.Twins.{Family, title_at}
use Rattle.orgs_entries.proofs.Kept.{kept_at, kept_within}
use Rattle.orgs_entries.proofs.twins.family.Goals as goal

pub bounds-parents-index : goal.bounds-parents-index
bounds-parents-index c = kept_within (parent_of (tree c.args.outline.now.text)) (node_count (tree c.args.outline.now.text)) c.args.index c.args.parents.now c.requires.known c.requires.within

pub offset_bounds-parents-index : goal.offset_bounds-parents-index
offset_bounds-parents-index c = omega (arith, bounds-parents-index c)

pub returns : goal.returns
returns c =
    let d = tree c.args.outline.now.text in
    let states = c.args.outline.now.states in
    let up = kept_at (parent_of d) (node_count d) c.args.index c.args.parents.now None c.requires.known c.requires.within in
    let title : c.parts.result.title.now ≡ title_at states d c.args.index = c.parts.ensures.title ∙ ap (λ i. title_at states d i) c.node.ensures in
    ap (λ (p : Option ℕ). let f : Family = (p, c.parts.result.title.now) in f) up ∙ ap (λ (t : List ℕ). let f : Family = (parent_of d c.args.index, t) in f) title
