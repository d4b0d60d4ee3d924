use Rattle.std.proofs.lemmas.Result.{err_from_is_err_and}
use Rattle.org_outline.specs.Tree.{tree}
use Rattle.org_meta.specs.Planning.{set_closed}
use Rattle.org_state.specs.Todo.{Own, own_at}
use Rattle.org_state.proofs.Turning.{replanned_within, replanned_refused, replanned_answers}
use Rattle.org_state.proofs.changing.Change.close.Goals as goal

pub with_section-requires : goal.with_section-requires
with_section-requires c = replanned_within _ c.section.result.bytes.now _ c.in_ok-edit.edit c.section.ensures.bytes c.in_ok-edit.ensures.ok

pub returns-in_err-edit : goal.returns-in_err-edit
returns-in_err-edit c =
    let own : Own = own_at (tree c.args.self.now.own.outline.now.text) c.args.self.now.own.node in
    let p = err_from_is_err_and c.from_residual.result c.from_residual.ensures.1 in
    rw (p.1, p.2) (replanned_refused (set_closed c.args.self.now.moment) c.args.self.now.own.outline.now.states c.args.self.now.state.now own c.section.result.bytes.now _ c.section.ensures.lines c.in_err-edit.ensures.err)

pub returns : goal.returns
returns c =
    replanned_answers (set_closed c.args.self.now.moment) c.args.self.now.own.outline.now.states c.args.self.now.state.now c.args.self.now.own.outline.now.text c.args.self.now.own.node c.section.result.bytes.now c.in_ok-edit.edit c.with_section.result
    c.section.ensures.bytes c.section.ensures.lines c.in_ok-edit.ensures.ok c.with_section.ensures
