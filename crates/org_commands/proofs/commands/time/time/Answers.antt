use Rattle.std.proofs.Common.{◌∙◌, Ok, Err, sym, ap, subst}
use Rattle.org_commands.specs.declared.command.Question.TheVariants as asked
use Rattle.org_commands.specs.declared.command.Reply.TheVariants.{Time}
use Rattle.org_commands.specs.Outcome.{outcome_of_question, time}
use Rattle.org_commands.specs.Session.{StoreView, view_over}
use Rattle.org_commands.specs.Step.{Steps}
use Rattle.org_commands.proofs.Handing.{handed_on}
use Rattle.org_commands.proofs.MadeReady.{no_text_of}
use Rattle.org_commands.proofs.Questions.{question_failed, question_refused}
use Rattle.org_commands.proofs.Reading.{only_reads_ok, only_reads_undone}
use Rattle.org_commands.proofs.Sessions.{view_same}
use Rattle.org_commands.proofs.commands.time.time.Goals as goal

pub returns-in_err-check_name : goal.returns-in_err-check_name
returns-in_err-check_name g c =
    let own = c.args.files.now in
    let states = c.args.states.now in
    let none = no_text_of g.D.Disk own c.args.file.now (sym c.in_err-check_name.ensures.1) in
    question_refused g.D.Disk states own (asked.Time c.args.file.now c.args.path.now) c.requires.between c.from_residual.result c.from_residual.ensures.1 c.in_err-check_name.ensures.0
    (λ tally. ap (time (view_over g.D.Disk.files states own tally).session c.args.path.now) none)

pub returns-in_err-minutes : goal.returns-in_err-minutes
returns-in_err-minutes g c =
    let d = g.D.Disk in
    let undone = c.undo.ensures in
    let own = c.args.files.now in
    let states = c.args.states.now in
    let question = asked.Time c.args.file.now c.args.path.now in
    let fault = c.in_err-minutes.field-0.0 in
    let made = c.in_err-minutes.ensures in
    question_failed d states own question c.undo.new.self fault c.from_residual-in_err-minutes.result (handed_on c.from_residual-in_err-minutes.result fault c.from_residual-in_err-minutes.ensures.1)
    (λ tally honest. let old = (view_over d.files states own tally).session in
    subst (λ (s : StoreView g.row.D.Denot). Steps old (outcome_of_question old question) (Err fault) s.session) (sym (view_same d.files states c.clocked_in_file-minutes.new.files c.undo.new.self tally undone.memory undone.before))
    (made.does tally (subst d.honest undone.memory.disk honest)))
    (undone.now ∙ sym undone.before) (only_reads_undone undone.memory undone.before made.disk)

pub returns : goal.returns
returns g c =
    let d = g.D.Disk in
    let undone = c.undo.ensures in
    let own = c.args.files.now in
    let states = c.args.states.now in
    let made = c.in_ok-minutes.ensures in
    record {
      uncounted = tt;
      steps = λ tally honest.
          let old = (view_over d.files states own tally).session in
          subst (λ (s : StoreView g.row.D.Denot). Steps old (outcome_of_question old (asked.Time c.args.file.now c.args.path.now)) (Ok (Time c.in_ok-minutes.field-0)) s.session)
          (sym (view_same d.files states c.clocked_in_file-minutes.new.files c.undo.new.self tally undone.memory undone.before))
          (made.does tally (subst d.honest undone.memory.disk honest));
      unedited = undone.now ∙ sym undone.before;
      disk = only_reads_undone undone.memory undone.before (only_reads_ok made.disk);
    }
