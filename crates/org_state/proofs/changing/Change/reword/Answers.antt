use Rattle.std.proofs.Common.{refl}
use Rattle.org_state.specs.Todo.{Own, own_at, with_lines}
use Rattle.org_outline.specs.Tree.{tree}
use Rattle.org_state.proofs.Steps.{one_made}
use Rattle.org_state.proofs.changing.Change.reword.Goals as goal

pub returns : goal.returns
returns c =
    let own : Own = own_at (tree c.args.self.now.own.outline.now.text) c.args.self.now.own.node in
    (with_lines c.args.self.now.own.outline.now.states c.args.self.now.state.now own own.section, refl, one_made c.args.self.now.own.outline.now.text c.args.self.now.own.node c.in_ok-keyword.keyword _ _ c.keyword_edit.ensures.terminated c.args.self.now.own.within c.in_ok-keyword.ensures.edits c.in_ok-vec.ensures.items)
