use Rattle.std.proofs.Common.{◌∷◌, [], ℕ, Option, Result, Ok}
use Rattle.org_outline.specs.Tree.{Document, tree}
use Rattle.org_stamp.specs.Calendar.{Moment}
use Rattle.org_fault.specs.declared.refusal.Refusal.{Refusal}
use Rattle.org_state.specs.declared.run.Running.{Running}
use Rattle.org_commands.specs.Clocking.{clocked_in}
use Rattle.org_commands.proofs.Clocks.{still_runs, still_there}
use Rattle.org_commands.proofs.MadeReady.{one_is_ready, one_ready, sees_one}
use Rattle.org_commands.proofs.Plans.{one_name}
use Rattle.org_commands.proofs.Todos.{document_is, state_fails, state_fits, state_planned}
use Rattle.org_commands.proofs.Faults.{no_value, planned_own}
use Rattle.org_commands.proofs.Reading.{only_reads_ok, only_reads_own}
use Rattle.org_commands.proofs.Handing.{handed_on}
use Rattle.org_commands.specs.Keeping.{fault_of}
use Rattle.org_commands.proofs.Planning.{stays_no_read}
use Rattle.org_commands.proofs.commands.clock.start_in_one.Goals as goal

-- what clocking in at heading i makes of a document
abbrev said : Moment → ℕ → Option Running → Document → Result (Option Document) Refusal
said moment i running d = clocked_in moment running d (Ok i)

pub returns-in_err-ready : goal.returns-in_err-ready
returns-in_err-ready g c =
    stays_no_read g.D.Disk c.args.states.now _ c.requires.between.unbroken c.ready.new.self c.from_residual.result c.from_residual.ensures.1 c.in_err-ready.ensures.files

pub held-held-requires : goal.held-held-requires
held-held-requires g c = one_is_ready c.args.command.now.file c.requires.between c.in_ok-ready.ensures.ready

pub plan_in_text-requires-clause-node : goal.plan_in_text-requires-clause-node
plan_in_text-requires-clause-node g c =
    let file = c.args.command.now.file in
    still_there c.args.files.now.held c.ready.new.self.held (file ∷ []) file c.args.node c.held-held.result.now.text c.requires.heading c.ready.ensures.files.keeps (one_ready file c.requires.between c.in_ok-ready.ensures.ready) (one_name file)
    c.held-held.ensures.text

pub plan_in_text-requires-clause-runs : goal.plan_in_text-requires-clause-runs
plan_in_text-requires-clause-runs g c running is =
    let file = c.args.command.now.file in
    still_runs c.args.files.now.held c.ready.new.self.held (file ∷ []) file running c.held-held.result.now.text (c.requires.runs running is) c.ready.ensures.files.keeps (one_ready file c.requires.between c.in_ok-ready.ensures.ready) (one_name file)
    c.held-held.ensures.text

pub returns-in_err-plan_in_text : goal.returns-in_err-plan_in_text
returns-in_err-plan_in_text g c = record {
  plan = no_value _ c.from_residual-in_err-plan_in_text.result _ (handed_on c.from_residual-in_err-plan_in_text.result _ c.from_residual-in_err-plan_in_text.ensures.1);
  plans = λ tally honest.
      let a = c.args in
      let sees = sees_one a.command.now.file c.requires.between g.D.Disk a.states.now c.ready.new.self c.requires.file c.in_ok-ready.ensures.ready c.ready.ensures.files.disk.names c.in_ok-ready.ensures.files.reads c.held-held.ensures.text in
      state_fails sees tally honest (said a.command.now.moment a.node a.running (tree c.held-held.result.now.text.bytes)) c.plan_in_text.result c.from_residual-in_err-plan_in_text.result
      (document_is sees tally honest (said a.command.now.moment a.node a.running)) c.in_err-plan_in_text.was c.plan_in_text.ensures c.from_residual-in_err-plan_in_text.ensures.1;
  disk = only_reads_own c.from_residual-in_err-plan_in_text.result (fault_of c.in_err-plan_in_text.field-0.0) (handed_on c.from_residual-in_err-plan_in_text.result _ c.from_residual-in_err-plan_in_text.ensures.1) (planned_own c.in_err-plan_in_text.field-0.0) c.in_ok-ready.ensures.files.disk;
}

pub returns : goal.returns
returns g c = record {
  plan =
      let a = c.args in
      let sees = sees_one a.command.now.file c.requires.between g.D.Disk a.states.now c.ready.new.self c.requires.file c.in_ok-ready.ensures.ready c.ready.ensures.files.disk.names c.in_ok-ready.ensures.files.reads c.held-held.ensures.text in
      state_fits sees (said a.command.now.moment a.node a.running (tree c.held-held.result.now.text.bytes)) c.in_ok-plan_in_text.field-0 c.in_ok-plan_in_text.ensures;
  plans = λ tally honest.
      let a = c.args in
      let sees = sees_one a.command.now.file c.requires.between g.D.Disk a.states.now c.ready.new.self c.requires.file c.in_ok-ready.ensures.ready c.ready.ensures.files.disk.names c.in_ok-ready.ensures.files.reads c.held-held.ensures.text in
      state_planned sees tally honest (said a.command.now.moment a.node a.running (tree c.held-held.result.now.text.bytes)) c.in_ok-plan_in_text.field-0 (document_is sees tally honest (said a.command.now.moment a.node a.running))
      c.in_ok-plan_in_text.ensures;
  disk = only_reads_ok c.in_ok-ready.ensures.files.disk;
}
