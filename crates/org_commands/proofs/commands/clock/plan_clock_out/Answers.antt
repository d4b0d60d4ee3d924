use Rattle.std.proofs.Common.{◌∙◌, [], sym, ap}
use Rattle.std.specs.Option.{option_map, unwrap_or}
use Rattle.org_outline.specs.Tree.{tree}
use Rattle.org_commands.specs.Clocking.{clocked_out}
use Rattle.org_commands.specs.InOrder.{text_at}
use Rattle.org_commands.specs.Outcome.{clock_out, with_state}
use Rattle.org_commands.proofs.ClockingIn.{place_of}
use Rattle.org_commands.proofs.Clocks.{none_left}
use Rattle.org_commands.proofs.MadeReady.{session_in, stays_then}
use Rattle.org_commands.proofs.Reading.{only_reads_fine, only_reads_then}
use Rattle.org_commands.proofs.Planning.{stays_no_read}
use Rattle.org_commands.proofs.commands.clock.plan_clock_out.Goals as goal

pub returns-in_err-clock : goal.returns-in_err-clock
returns-in_err-clock g c =
    stays_no_read g.D.Disk c.args.states.now _ c.requires.between.unbroken c.running_clock.new.files c.from_residual.result c.from_residual.ensures.1 c.in_err-clock.ensures.files

pub returns-in_default : goal.returns-in_default
returns-in_default g c = record {
  plan = tt;
  plans = λ tally honest.
      let s = session_in g.D.Disk c.args.states.now c.args.files.now tally in
      let none = none_left c.in_ok-clock.field-0 c.in_default.not-Some in
      let runs = sym (c.in_ok-clock.ensures.clock tally honest) ∙ ap (option_map place_of) none in
      (c.requires.between.unbroken, ap (clock_out s c.args.moment) runs, c.in_ok-clock.ensures.files.reads c.args.states.now tally honest);
  disk = only_reads_fine (λ no. cc) (λ no. cc) c.in_ok-clock.ensures.files.disk;
}

pub stop_running-requires-clause-runs : goal.stop_running-requires-clause-runs
stop_running-requires-clause-runs g c = (c.in_ok-clock.ensures.found c.in-Some.clock c.in-Some.is).0

pub returns : goal.returns
returns g c = record {
  plan = c.stop_running.ensures.plan;
  plans = λ tally honest.
      let s = session_in g.D.Disk c.args.states.now c.args.files.now tally in
      let clock = c.in-Some.clock in
      let was = c.stop_running.ensures.disk.accounts.was_honest honest in
      let runs = sym (c.in_ok-clock.ensures.clock tally was) ∙ ap (option_map place_of) c.in-Some.is in
      stays_then g.D.Disk c.args.states.now c.args.files.now c.running_clock.new.files c.stop_running.new.files tally (λ t. with_state t clock.file (clocked_out c.args.moment clock.running (tree (unwrap_or (text_at t.names t.files clock.file) [])))) (c.in_ok-clock.ensures.files.reads c.args.states.now tally was) (ap (clock_out s c.args.moment) runs)
      c.stop_running.result (c.stop_running.ensures.plans tally honest);
  disk = only_reads_then c.in_ok-clock.ensures.files.disk c.stop_running.ensures.disk;
}
