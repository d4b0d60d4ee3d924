use Rattle.std.proofs.Common.{◌≡◌, ◌∙◌, None, sym, ap}
use Rattle.std.specs.Option.{option_map, option_and_then}
use Rattle.org_serve.specs.Grammar.{file_of, path_of, unescaped, moment_of, todo_of}
use Rattle.org_serve.proofs.Nodes.{refused, behind, both, not_both, part_refused, part_unread}
use Rattle.org_serve.proofs.reading.todo.Goals as goal

pub returns-in_err-moment : goal.returns-in_err-moment
unfolding todo_of
returns-in_err-moment c =
    let none : moment_of c.args.when.now ≡ None = sym c.moment.ensures ∙ refused _ _ _ c.in_err-moment.ensures.value in
    part_refused c.from_residual.result (todo_of c.args.name.now c.args.titles.now c.args.state.now c.args.when.now) c.from_residual.ensures.0 (behind (file_of c.args.name.now) _ (λ _. behind (path_of c.args.titles.now) _ (λ _. behind (unescaped c.args.state.now) _ (λ _. ap (option_map _) none))))

pub returns-in_err-file : goal.returns-in_err-file
unfolding todo_of
returns-in_err-file c =
    part_unread _ (both (file_of c.args.name.now) (path_of c.args.titles.now)) c.from_residual-in_err-file.result (todo_of c.args.name.now c.args.titles.now c.args.state.now c.args.when.now) c.in_err-file.ensures c.from_residual-in_err-file.ensures.1
    (not_both (file_of c.args.name.now) (path_of c.args.titles.now) _)

pub returns-in_err-state : goal.returns-in_err-state
unfolding todo_of
returns-in_err-state c =
    part_unread _ (unescaped c.args.state.now) c.from_residual-in_err-state.result (todo_of c.args.name.now c.args.titles.now c.args.state.now c.args.when.now) c.in_err-state.ensures c.from_residual-in_err-state.ensures.1
    (λ none. behind (file_of c.args.name.now) _ (λ _. behind (path_of c.args.titles.now) _ (λ _. ap (option_and_then _) none)))
