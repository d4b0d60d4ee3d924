use Rattle.std.proofs.Common.{◌≡◌, ◌≢◌, ◌∙◌, None, Some, Err, ap, subst, rules, sym}
use Rattle.org_commands.specs.InOrder.{text_at}
use Rattle.org_commands.specs.Keeping.{Reads}
use Rattle.org_commands.specs.Outcome.{clock_in}
use Rattle.org_commands.specs.Session.{Session}
use Rattle.org_commands.proofs.ClockingIn.{in_one, in_other, none_runs, not_found, other_runs, own_runs}
use Rattle.org_commands.proofs.Clocks.{none_left, still_held}
use Rattle.org_commands.proofs.Handing.{handed_on}
use Rattle.org_commands.proofs.MadeReady.{no_text_of, session_in, stays_fault, stays_then, stays_unread}
use Rattle.org_commands.proofs.Reading.{only_reads_fault, only_reads_then}
use Rattle.org_commands.proofs.Faults.{no_value}
use Rattle.org_commands.proofs.Planning.{stays_no_file}
use Rattle.org_commands.proofs.commands.clock.plan_clock_in.Goals as goal

pub returns-in_err-check_name : goal.returns-in_err-check_name
returns-in_err-check_name g c =
    let k = c.args.command.now in
    stays_no_file g.D.Disk c.args.states.now _ c.requires.between.unbroken c.from_residual.result c.from_residual.ensures.1 c.in_err-check_name.ensures.0
    (λ tally. ap (clock_in (session_in g.D.Disk c.args.states.now c.args.files.now tally) k.file k.path k.moment) (no_text_of g.D.Disk c.args.files.now k.file (sym c.in_err-check_name.ensures.1)))

pub returns-in_err-node : goal.returns-in_err-node
returns-in_err-node g c = record {
  plan = no_value _ c.from_residual-in_err-node.result _ (handed_on c.from_residual-in_err-node.result _ c.from_residual-in_err-node.ensures.1);
  plans = λ tally honest.
      let k = c.args.command.now in
      let s = session_in g.D.Disk c.args.states.now c.args.files.now tally in
      let new = c.look_up_in.new.files in
      let fault = c.in_err-node.field-0.0 in
      let steps = not_found g.D.Disk c.args.states.now c.args.files.now k.file k.path k.moment (sym c.in_ok-check_name.ensures) tally (session_in g.D.Disk c.args.states.now new tally) fault c.requires.between.unbroken (c.in_err-node.ensures.finds tally honest) in
      stays_fault s (session_in g.D.Disk c.args.states.now new tally) (clock_in s k.file k.path k.moment (text_at s.names s.files k.file)) new.held fault c.from_residual-in_err-node.result c.from_residual-in_err-node.ensures.1 steps;
  disk =
      let given : c.from_residual-in_err-node.result ≡ Err c.in_err-node.field-0.0 = handed_on c.from_residual-in_err-node.result _ c.from_residual-in_err-node.ensures.1 in
      only_reads_fault given c.in_err-node.ensures.disk;
}

pub returns-in_err-clock : goal.returns-in_err-clock
returns-in_err-clock g c = record {
  plan = no_value _ c.from_residual-in_err-clock.result _ (handed_on c.from_residual-in_err-clock.result _ c.from_residual-in_err-clock.ensures.1);
  plans = λ tally honest.
      let new = session_in g.D.Disk c.args.states.now c.running_clock.new.files tally in
      let same = (c.in_ok-node.ensures.finds tally (c.running_clock.ensures.files.disk.accounts.was_honest honest)).1 in
      stays_unread g.D.Disk c.args.states.now c.args.files.now c.running_clock.new.files tally _ c.from_residual-in_err-clock.result c.from_residual-in_err-clock.ensures.1 c.requires.between.unbroken c.in_err-clock.was
      (subst (λ (s : Session). Reads s c.running_clock.result new) same (c.running_clock.ensures.files.reads c.args.states.now tally honest));
  disk =
      let given : c.from_residual-in_err-clock.result ≡ Err c.in_err-clock.field-0.0 = handed_on c.from_residual-in_err-clock.result _ c.from_residual-in_err-clock.ensures.1 in
      only_reads_then c.in_ok-node.ensures.disk (only_reads_fault given c.in_err-clock.ensures.files.disk);
}

pub returns-in_default : goal.returns-in_default
returns-in_default g c = record {
  plan = c.start_in_one.ensures.plan;
  plans = λ tally honest.
      let k = c.args.command.now in
      let ran = c.start_in_one.ensures.disk.accounts.was_honest honest in
      let looks = c.in_ok-node.ensures.finds tally (c.running_clock.ensures.files.disk.accounts.was_honest ran) in
      let same = looks.1 in
      let none = none_left c.in_ok-clock.field-0 c.in_default.not-Some in
      stays_then g.D.Disk c.args.states.now c.args.files.now c.running_clock.new.files c.start_in_one.new.files tally (in_one k.file k.moment None c.in_ok-node.node) (c.in_ok-clock.ensures.files.reads c.args.states.now tally ran ∙ same)
      (none_runs g.D.Disk c.args.states.now c.args.files.now k.file k.path k.moment (sym c.in_ok-check_name.ensures) tally c.in_ok-node.node looks.0 same (c.in_ok-clock.ensures.clock tally ran) none) c.start_in_one.result (c.start_in_one.ensures.plans tally honest);
  disk = only_reads_then c.in_ok-node.ensures.disk (only_reads_then c.in_ok-clock.ensures.files.disk c.start_in_one.ensures.disk);
}

pub returns-then-eq : goal.returns-then-eq
returns-then-eq g c = record {
  plan = c.start_in_one-then-eq.ensures.plan;
  plans = λ tally honest.
      let k = c.args.command.now in
      let clock = c.in-Some.clock in
      let own : clock.file ≡ k.file = search rules in
      let ran = c.start_in_one-then-eq.ensures.disk.accounts.was_honest honest in
      let looks = c.in_ok-node.ensures.finds tally (c.running_clock.ensures.files.disk.accounts.was_honest ran) in
      let same = looks.1 in
      stays_then g.D.Disk c.args.states.now c.args.files.now c.running_clock.new.files c.start_in_one-then-eq.new.files tally (in_one k.file k.moment (Some clock.running) c.in_ok-node.node) (c.in_ok-clock.ensures.files.reads c.args.states.now tally ran ∙ same)
      (own_runs g.D.Disk c.args.states.now c.args.files.now k.file k.path k.moment (sym c.in_ok-check_name.ensures) tally c.in_ok-node.node looks.0 same (c.in_ok-clock.ensures.clock tally ran) clock c.in-Some.is own) c.start_in_one-then-eq.result (c.start_in_one-then-eq.ensures.plans tally honest);
  disk = only_reads_then c.in_ok-node.ensures.disk (only_reads_then c.in_ok-clock.ensures.files.disk c.start_in_one-then-eq.ensures.disk);
}

pub returns : goal.returns
returns g c = record {
  plan = c.start_beside.ensures.plan;
  plans = λ tally honest.
      let k = c.args.command.now in
      let clock = c.in-Some.clock in
      let ran = c.start_beside.ensures.disk.accounts.was_honest honest in
      let looks = c.in_ok-node.ensures.finds tally (c.running_clock.ensures.files.disk.accounts.was_honest ran) in
      let same = looks.1 in
      let apart : clock.file ≢ k.file = search rules in
      stays_then g.D.Disk c.args.states.now c.args.files.now c.running_clock.new.files c.start_beside.new.files tally (in_other k.file k.moment clock c.in_ok-node.node) (c.in_ok-clock.ensures.files.reads c.args.states.now tally ran ∙ same)
      (other_runs g.D.Disk c.args.states.now c.args.files.now k.file k.path k.moment (sym c.in_ok-check_name.ensures) tally c.in_ok-node.node looks.0 same (c.in_ok-clock.ensures.clock tally ran) clock c.in-Some.is apart) c.start_beside.result (c.start_beside.ensures.plans tally honest);
  disk = only_reads_then c.in_ok-node.ensures.disk (only_reads_then c.in_ok-clock.ensures.files.disk c.start_beside.ensures.disk);
}

pub start_beside-requires-clause-runs : goal.start_beside-requires-clause-runs
start_beside-requires-clause-runs g c = (c.in_ok-clock.ensures.found c.in-Some.clock c.in-Some.is).0

pub start_in_one-requires-clause-heading : goal.start_in_one-requires-clause-heading
start_in_one-requires-clause-heading g c = still_held c.look_up_in.new.files.held c.running_clock.new.files.held c.args.command.now.file c.in_ok-node.node c.in_ok-node.ensures.heading c.in_ok-clock.ensures.files.keeps

pub start_in_one-requires-then-eq-clause-heading : goal.start_in_one-requires-then-eq-clause-heading
start_in_one-requires-then-eq-clause-heading g c = still_held c.look_up_in.new.files.held c.running_clock.new.files.held c.args.command.now.file c.in_ok-node.node c.in_ok-node.ensures.heading c.in_ok-clock.ensures.files.keeps

pub start_beside-requires-clause-heading : goal.start_beside-requires-clause-heading
start_beside-requires-clause-heading g c = still_held c.look_up_in.new.files.held c.running_clock.new.files.held c.args.command.now.file c.in_ok-node.node c.in_ok-node.ensures.heading c.in_ok-clock.ensures.files.keeps
