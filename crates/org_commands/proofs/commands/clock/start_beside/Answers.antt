use Rattle.std.proofs.Common.{◌∷◌, []}
use Rattle.org_commands.proofs.Clocks.{still_runs, still_there}
use Rattle.org_commands.proofs.MadeReady.{first_is_ready, second_is_ready, sees_two, two_ready}
use Rattle.org_commands.proofs.Moving.{move_fails, move_fits, move_planned}
use Rattle.org_commands.proofs.Plans.{first_name, second_name}
use Rattle.org_commands.proofs.Faults.{no_value, planned_own}
use Rattle.org_commands.proofs.Reading.{only_reads_ok, only_reads_own}
use Rattle.org_commands.proofs.Handing.{handed_on}
use Rattle.org_commands.specs.Keeping.{fault_of}
use Rattle.org_commands.proofs.Planning.{stays_no_read}
use Rattle.org_commands.proofs.commands.clock.start_beside.Goals as goal

pub returns-in_err-both_ready : goal.returns-in_err-both_ready
returns-in_err-both_ready g c =
    stays_no_read g.D.Disk c.args.states.now _ c.requires.between.unbroken c.both_ready.new.files c.from_residual.result c.from_residual.ensures.1 c.in_err-both_ready.ensures.files

pub held-other-requires : goal.held-other-requires
held-other-requires g c = first_is_ready c.args.clock.now.file c.args.command.now.file c.requires.between c.in_ok-both_ready.ensures.ready

pub held-held-requires : goal.held-held-requires
held-held-requires g c = second_is_ready c.args.clock.now.file c.args.command.now.file c.requires.between c.in_ok-both_ready.ensures.ready

pub plan_move-requires-clause-node : goal.plan_move-requires-clause-node
plan_move-requires-clause-node g c =
    let clock = c.args.clock.now in
    let file = c.args.command.now.file in
    still_there c.args.files.now.held c.both_ready.new.files.held (file ∷ clock.file ∷ []) file c.args.node c.held-held.result.now.text c.requires.heading c.both_ready.ensures.files.keeps
    (two_ready clock.file file c.requires.between c.in_ok-both_ready.ensures.ready) (first_name file (clock.file ∷ [])) c.held-held.ensures.text

pub plan_move-requires-clause-runs : goal.plan_move-requires-clause-runs
plan_move-requires-clause-runs g c =
    let clock = c.args.clock.now in
    let file = c.args.command.now.file in
    still_runs c.args.files.now.held c.both_ready.new.files.held (file ∷ clock.file ∷ []) clock.file clock.running c.held-other.result.now.text c.requires.runs c.both_ready.ensures.files.keeps
    (two_ready clock.file file c.requires.between c.in_ok-both_ready.ensures.ready) (second_name file clock.file) c.held-other.ensures.text

pub returns-in_err-plan : goal.returns-in_err-plan
returns-in_err-plan g c = record {
  plan = no_value _ c.from_residual-in_err-plan.result _ (handed_on c.from_residual-in_err-plan.result _ c.from_residual-in_err-plan.ensures.1);
  plans = λ tally honest.
      let clock = c.args.clock.now in
      let k = c.args.command.now in
      let both = sees_two clock.file k.file c.requires.between g.D.Disk c.args.states.now c.both_ready.new.files c.requires.other c.requires.file c.in_ok-both_ready.ensures.ready c.both_ready.ensures.files.disk.names c.in_ok-both_ready.ensures.files.reads
      c.held-other.ensures.text c.held-held.ensures.text in
      move_fails both c.args.node k.moment clock.running tally honest c.plan_move.result c.from_residual-in_err-plan.result c.in_err-plan.was c.plan_move.ensures c.from_residual-in_err-plan.ensures.1;
  disk = only_reads_own c.from_residual-in_err-plan.result (fault_of c.in_err-plan.field-0.0) (handed_on c.from_residual-in_err-plan.result _ c.from_residual-in_err-plan.ensures.1) (planned_own c.in_err-plan.field-0.0) c.in_ok-both_ready.ensures.files.disk;
}

pub returns : goal.returns
returns g c = record {
  plan =
      let clock = c.args.clock.now in
      let k = c.args.command.now in
      let both = sees_two clock.file k.file c.requires.between g.D.Disk c.args.states.now c.both_ready.new.files c.requires.other c.requires.file c.in_ok-both_ready.ensures.ready c.both_ready.ensures.files.disk.names c.in_ok-both_ready.ensures.files.reads
      c.held-other.ensures.text c.held-held.ensures.text in
      move_fits both c.args.node k.moment clock.running c.in_ok-plan.plan c.requires.apart c.in_ok-plan.ensures;
  plans = λ tally honest.
      let clock = c.args.clock.now in
      let k = c.args.command.now in
      let both = sees_two clock.file k.file c.requires.between g.D.Disk c.args.states.now c.both_ready.new.files c.requires.other c.requires.file c.in_ok-both_ready.ensures.ready c.both_ready.ensures.files.disk.names c.in_ok-both_ready.ensures.files.reads
      c.held-other.ensures.text c.held-held.ensures.text in
      move_planned both c.args.node k.moment clock.running tally honest c.in_ok-plan.plan c.requires.apart c.in_ok-plan.ensures;
  disk = only_reads_ok c.in_ok-both_ready.ensures.files.disk;
}
