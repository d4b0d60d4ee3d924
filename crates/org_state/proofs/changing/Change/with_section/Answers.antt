use Rattle.std.proofs.Common.{refl}
use Rattle.org_outline.specs.Tree.{tree}
use Rattle.org_state.specs.Todo.{own_at, with_lines}
use Rattle.org_state.proofs.Steps.{two_made}
use Rattle.org_state.proofs.changing.Change.with_section.Goals as goal

pub returns : goal.returns
returns c = λ new gives. (
  with_lines c.args.self.now.own.outline.now.states c.args.self.now.state.now (own_at (tree c.args.self.now.own.outline.now.text) c.args.self.now.own.node) new,
  refl,
  two_made c.args.self.now.own.outline.now.text c.args.self.now.own.node c.args.edit c.in_section.result c.in_ok-keyword.keyword new _ _ c.keyword_edit.ensures.terminated c.args.self.now.own.within c.in_section.ensures gives c.in_ok-keyword.ensures.edits
      c.in_ok-vec.ensures.items,
)
