use Rattle.std.proofs.Common.{◌∙◌, sym, ap}
use Rattle.org_commands.specs.Outcome.{edit}
use Rattle.org_commands.proofs.Edited.{edit_fails, edit_fits, edit_planned, has_read, replaces_own}
use Rattle.org_commands.proofs.Faults.{no_value}
use Rattle.org_commands.proofs.Handing.{handed_on}
use Rattle.org_commands.proofs.MadeReady.{no_text_of, session_in}
use Rattle.org_commands.proofs.Planning.{plans_no_file, plans_no_read}
use Rattle.org_commands.proofs.Reading.{only_reads_ok, only_reads_own}
use Rattle.org_commands.proofs.commands.edit.plan_edit.Goals as goal

pub returns-in_err-check_name : goal.returns-in_err-check_name
returns-in_err-check_name g c states =
    let k = c.args.command.now in
    plans_no_file g.D.Disk states _ c.requires.between.unbroken c.from_residual.result c.from_residual.ensures.1 c.in_err-check_name.ensures.0
    (λ tally. ap (edit (session_in g.D.Disk states c.args.files.now tally) k.file k.at k.old k.new) (no_text_of g.D.Disk c.args.files.now k.file (sym c.in_err-check_name.ensures.1)))

pub returns-in_err-load : goal.returns-in_err-load
returns-in_err-load g c states =
    plans_no_read g.D.Disk states _ c.requires.between.unbroken c.load.new.self c.from_residual-in_err-load.result c.from_residual-in_err-load.ensures.1 c.in_err-load.ensures.files

pub returns-in_err-edit : goal.returns-in_err-edit
returns-in_err-edit g c states =
    let k = c.args.command.now in
    let answer = c.from_residual-in_err-edit.result in
    let fault = c.in_err-edit.field-0.0 in
    record {
      plan = no_value _ answer _ (handed_on answer _ c.from_residual-in_err-edit.ensures.1);
      plans = λ tally honest.
          let has = has_read g.D.Disk states c.requires.between c.in_ok-check_name.ensures c.load.ensures.files.disk.names c.load.ensures.unedited c.in_ok-load.ensures.files.reads c.text-text.ensures in
          edit_fails has k.at k.old k.new tally honest c.replacement.result answer c.in_err-edit.was c.replacement.ensures c.from_residual-in_err-edit.ensures.1;
      disk = only_reads_own answer fault (handed_on answer _ c.from_residual-in_err-edit.ensures.1) (replaces_own c.text-text.result.now k.at k.old k.new fault c.in_err-edit.ensures) c.in_ok-load.ensures.files.disk;
    }

pub returns : goal.returns
returns g c states =
    let k = c.args.command.now in
    let has = has_read g.D.Disk states c.requires.between c.in_ok-check_name.ensures c.load.ensures.files.disk.names c.load.ensures.unedited c.in_ok-load.ensures.files.reads c.text-text.ensures in
    let made = c.plan_of_one-plan.ensures in
    let plan = record c.plan_of_one-plan.result { of_lines = c.edits_lines-of_lines.result } in
    let e = c.in_ok-edit.edit in
    record {
      plan = edit_fits has k.at k.old k.new plan e (made.0 ∙ c.given.ensures) made.1 made.2 c.in_ok-edit.ensures c.edits_lines-of_lines.ensures.before c.edits_lines-of_lines.ensures.behind;
      plans = λ tally honest. edit_planned has k.at k.old k.new plan e (made.0 ∙ c.given.ensures) made.1 made.2 c.in_ok-edit.ensures tally honest;
      disk = only_reads_ok c.in_ok-load.ensures.files.disk;
    }
