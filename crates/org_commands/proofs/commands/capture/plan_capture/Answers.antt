use Rattle.std.proofs.Common.{◌≡◌, [], Ok, Err, refl, ap, sym}
use Rattle.std.specs.Option.{unwrap_or}
use Rattle.org_commands.specs.InOrder.{text_at}
use Rattle.org_commands.specs.declared.command.RunFault.TheVariants.{Device, Broken}
use Rattle.org_commands.specs.Keeping.{fault_of}
use Rattle.org_commands.specs.Outcome.{capture, with_entry}
use Rattle.org_commands.proofs.Captures.{entry_is, entry_refused}
use Rattle.org_commands.proofs.MadeReady.{has_text, no_text_of, plans_not_fit, plans_then, session_in}
use Rattle.org_commands.proofs.Reading.{only_reads_none}
use Rattle.org_commands.proofs.Faults.{no_value, other_fault, planned_own}
use Rattle.org_commands.proofs.Handing.{handed_on}
use Rattle.org_commands.proofs.Planning.{plans_no_file}
use Rattle.org_commands.proofs.commands.capture.plan_capture.Goals as goal

pub returns-in_err-check_name : goal.returns-in_err-check_name
returns-in_err-check_name g c =
    let k = c.args.command.now in
    plans_no_file g.D.Disk c.args.states.now _ c.requires.between.unbroken c.from_residual.result c.from_residual.ensures.1 c.in_err-check_name.ensures.0
    (λ tally. ap (capture (session_in g.D.Disk c.args.states.now c.args.files.now tally) k.file k.target k.place k.moment k.template k.initial) (no_text_of g.D.Disk c.args.files.now k.file (sym c.in_err-check_name.ensures.1)))

pub returns-in_err-entry : goal.returns-in_err-entry
returns-in_err-entry g c = record {
  plan = no_value _ c.from_residual-in_err-entry.result _ (handed_on c.from_residual-in_err-entry.result _ c.from_residual-in_err-entry.ensures.1);
  plans = λ tally honest.
      let k = c.args.command.now in
      let files = c.args.files.now in
      let s = session_in g.D.Disk c.args.states.now files tally in
      let reported = capture s k.file k.target k.place k.moment k.template k.initial (text_at s.names s.files k.file) in
      plans_not_fit s s reported files.held (fault_of c.in_err-entry.field-0.0) c.from_residual-in_err-entry.result c.from_residual-in_err-entry.ensures.1 refl
      (entry_refused s k.file k.target k.place k.moment k.template k.initial (text_at s.names s.files k.file) c.new_entry.result c.in_err-entry.field-0.0 (has_text g.D.Disk files k.file (sym c.in_ok-check_name.ensures)) c.requires.between.unbroken c.in_err-entry.was c.new_entry.ensures);
  disk =
      let why = c.in_err-entry.field-0.0 in
      let given : c.from_residual-in_err-entry.result ≡ Err (fault_of why) = handed_on c.from_residual-in_err-entry.result _ c.from_residual-in_err-entry.ensures.1 in
      only_reads_none c.requires.between.unbroken (other_fault c.from_residual-in_err-entry.result (fault_of why) Broken given (planned_own why).0) (other_fault c.from_residual-in_err-entry.result (fault_of why) Device given (planned_own why).1);
}

pub returns : goal.returns
returns g c = record {
  plan = c.plan_entry.ensures.plan;
  plans = λ tally honest.
      let k = c.args.command.now in
      let files = c.args.files.now in
      let s = session_in g.D.Disk c.args.states.now files tally in
      let text = text_at s.names s.files k.file in
      let made = c.in_ok-entry.ensures in
      plans_then g.D.Disk c.args.states.now files files c.plan_entry.new.files tally (λ s. with_entry s k.file k.target k.place k.moment (Ok made.0) (unwrap_or (text_at s.names s.files k.file) [])) refl
      (entry_is s k.file k.target k.place k.moment k.template k.initial text made.0 (has_text g.D.Disk files k.file (sym c.in_ok-check_name.ensures)) made.1) c.plan_entry.result (c.plan_entry.ensures.plans tally honest made.0 made.2);
  disk = c.plan_entry.ensures.disk;
}
