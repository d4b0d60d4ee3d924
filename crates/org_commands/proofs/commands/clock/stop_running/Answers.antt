use Rattle.std.proofs.Common.{◌∷◌, []}
use Rattle.org_outline.specs.Tree.{tree}
use Rattle.org_commands.specs.Clocking.{clocked_out}
use Rattle.org_commands.proofs.Clocks.{still_runs}
use Rattle.org_commands.proofs.MadeReady.{one_is_ready, one_ready, sees_one}
use Rattle.org_commands.proofs.Plans.{one_name}
use Rattle.org_commands.proofs.Todos.{document_is, state_fails, state_fits, state_planned}
use Rattle.org_commands.proofs.Faults.{no_value, planned_own}
use Rattle.org_commands.proofs.Reading.{only_reads_ok, only_reads_own}
use Rattle.org_commands.proofs.Handing.{handed_on}
use Rattle.org_commands.specs.Keeping.{fault_of}
use Rattle.org_commands.proofs.Planning.{stays_no_read}
use Rattle.org_commands.proofs.commands.clock.stop_running.Goals as goal

pub returns-in_err-ready : goal.returns-in_err-ready
returns-in_err-ready g c =
    stays_no_read g.D.Disk c.args.states.now _ c.requires.between.unbroken c.ready.new.self c.from_residual.result c.from_residual.ensures.1 c.in_err-ready.ensures.files

pub held-held-requires : goal.held-held-requires
held-held-requires g c = one_is_ready c.args.clock.now.file c.requires.between c.in_ok-ready.ensures.ready

pub plan_stop-requires-clause-runs : goal.plan_stop-requires-clause-runs
plan_stop-requires-clause-runs g c =
    let clock = c.args.clock.now in
    let ready = one_ready clock.file c.requires.between c.in_ok-ready.ensures.ready in
    still_runs c.args.files.now.held c.ready.new.self.held (clock.file ∷ []) clock.file clock.running c.held-held.result.now.text c.requires.runs c.ready.ensures.files.keeps ready (one_name clock.file) c.held-held.ensures.text

pub returns-in_err-plan_stop : goal.returns-in_err-plan_stop
returns-in_err-plan_stop g c = record {
  plan = no_value _ c.from_residual-in_err-plan_stop.result _ (handed_on c.from_residual-in_err-plan_stop.result _ c.from_residual-in_err-plan_stop.ensures.1);
  plans = λ tally honest.
      let a = c.args in
      let clock = a.clock.now in
      let sees = sees_one clock.file c.requires.between g.D.Disk a.states.now c.ready.new.self c.requires.file c.in_ok-ready.ensures.ready c.ready.ensures.files.disk.names c.in_ok-ready.ensures.files.reads c.held-held.ensures.text in
      state_fails sees tally honest (clocked_out a.moment clock.running (tree c.held-held.result.now.text.bytes)) c.plan_stop.result c.from_residual-in_err-plan_stop.result (document_is sees tally honest (clocked_out a.moment clock.running))
      c.in_err-plan_stop.was c.plan_stop.ensures c.from_residual-in_err-plan_stop.ensures.1;
  disk = only_reads_own c.from_residual-in_err-plan_stop.result (fault_of c.in_err-plan_stop.field-0.0) (handed_on c.from_residual-in_err-plan_stop.result _ c.from_residual-in_err-plan_stop.ensures.1) (planned_own c.in_err-plan_stop.field-0.0) c.in_ok-ready.ensures.files.disk;
}

pub returns : goal.returns
returns g c = record {
  plan =
      let a = c.args in
      let clock = a.clock.now in
      let sees = sees_one clock.file c.requires.between g.D.Disk a.states.now c.ready.new.self c.requires.file c.in_ok-ready.ensures.ready c.ready.ensures.files.disk.names c.in_ok-ready.ensures.files.reads c.held-held.ensures.text in
      state_fits sees (clocked_out a.moment clock.running (tree c.held-held.result.now.text.bytes)) c.in_ok-plan_stop.field-0 c.in_ok-plan_stop.ensures;
  plans = λ tally honest.
      let a = c.args in
      let clock = a.clock.now in
      let sees = sees_one clock.file c.requires.between g.D.Disk a.states.now c.ready.new.self c.requires.file c.in_ok-ready.ensures.ready c.ready.ensures.files.disk.names c.in_ok-ready.ensures.files.reads c.held-held.ensures.text in
      state_planned sees tally honest (clocked_out a.moment clock.running (tree c.held-held.result.now.text.bytes)) c.in_ok-plan_stop.field-0 (document_is sees tally honest (clocked_out a.moment clock.running)) c.in_ok-plan_stop.ensures;
  disk = only_reads_ok c.in_ok-ready.ensures.files.disk;
}
