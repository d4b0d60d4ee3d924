use Rattle.std.proofs.Common.{sym, ap}
use Rattle.org_outline.specs.Tree.{tree}
use Rattle.org_state.specs.Todo.{todo as in_state}
use Rattle.org_commands.specs.Outcome.{todo}
use Rattle.org_commands.proofs.MadeReady.{no_text_of, one_is_ready, sees_one, session_in}
use Rattle.org_commands.proofs.Reading.{only_reads_ok, only_reads_own}
use Rattle.org_commands.proofs.Todos.{state_fails, state_fits, state_planned, todo_is}
use Rattle.org_commands.proofs.Faults.{no_value, planned_own}
use Rattle.org_commands.proofs.Handing.{handed_on}
use Rattle.org_commands.specs.Keeping.{fault_of}
use Rattle.org_commands.proofs.Planning.{stays_no_file, stays_no_read}
use Rattle.org_commands.proofs.commands.todo.plan_todo.Goals as goal

pub returns-in_err-check_name : goal.returns-in_err-check_name
returns-in_err-check_name g c =
    let k = c.args.command.now in
    stays_no_file g.D.Disk c.args.states.now _ c.requires.between.unbroken c.from_residual.result c.from_residual.ensures.1 c.in_err-check_name.ensures.0
    (λ tally. ap (todo (session_in g.D.Disk c.args.states.now c.args.files.now tally) k.file k.path k.state k.moment) (no_text_of g.D.Disk c.args.files.now k.file (sym c.in_err-check_name.ensures.1)))

pub returns-in_err-ready : goal.returns-in_err-ready
returns-in_err-ready g c =
    stays_no_read g.D.Disk c.args.states.now _ c.requires.between.unbroken c.ready.new.self c.from_residual-in_err-ready.result c.from_residual-in_err-ready.ensures.1 c.in_err-ready.ensures.files

pub held-held-requires : goal.held-held-requires
held-held-requires g c = one_is_ready c.args.command.now.file c.requires.between c.in_ok-ready.ensures.ready

pub returns-in_err-plan_state : goal.returns-in_err-plan_state
returns-in_err-plan_state g c = record {
  plan = no_value _ c.from_residual-in_err-plan_state.result _ (handed_on c.from_residual-in_err-plan_state.result _ c.from_residual-in_err-plan_state.ensures.1);
  plans = λ tally honest.
      let a = c.args in
      let k = a.command.now in
      let sees = sees_one k.file c.requires.between g.D.Disk a.states.now c.ready.new.self c.in_ok-check_name.ensures c.in_ok-ready.ensures.ready c.ready.ensures.files.disk.names c.in_ok-ready.ensures.files.reads c.held-held.ensures.text in
      state_fails sees tally honest (in_state a.states.now k.path k.state k.moment (tree c.held-held.result.now.text.bytes)) c.plan_state.result c.from_residual-in_err-plan_state.result (todo_is sees tally honest k.path k.state k.moment)
      c.in_err-plan_state.was c.plan_state.ensures c.from_residual-in_err-plan_state.ensures.1;
  disk = only_reads_own c.from_residual-in_err-plan_state.result (fault_of c.in_err-plan_state.field-0.0) (handed_on c.from_residual-in_err-plan_state.result _ c.from_residual-in_err-plan_state.ensures.1) (planned_own c.in_err-plan_state.field-0.0) c.in_ok-ready.ensures.files.disk;
}

pub returns : goal.returns
returns g c = record {
  plan =
      let a = c.args in
      let k = a.command.now in
      let sees = sees_one k.file c.requires.between g.D.Disk a.states.now c.ready.new.self c.in_ok-check_name.ensures c.in_ok-ready.ensures.ready c.ready.ensures.files.disk.names c.in_ok-ready.ensures.files.reads c.held-held.ensures.text in
      state_fits sees (in_state a.states.now k.path k.state k.moment (tree c.held-held.result.now.text.bytes)) c.in_ok-plan_state.field-0 c.in_ok-plan_state.ensures;
  plans = λ tally honest.
      let a = c.args in
      let k = a.command.now in
      let sees = sees_one k.file c.requires.between g.D.Disk a.states.now c.ready.new.self c.in_ok-check_name.ensures c.in_ok-ready.ensures.ready c.ready.ensures.files.disk.names c.in_ok-ready.ensures.files.reads c.held-held.ensures.text in
      state_planned sees tally honest (in_state a.states.now k.path k.state k.moment (tree c.held-held.result.now.text.bytes)) c.in_ok-plan_state.field-0 (todo_is sees tally honest k.path k.state k.moment) c.in_ok-plan_state.ensures;
  disk = only_reads_ok c.in_ok-ready.ensures.files.disk;
}
