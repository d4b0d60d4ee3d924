use Rattle.std.proofs.Common.{◌≡◌, ◌∙◌, true, Some, Err, List, ℕ, refl, sym, ap, subst, rules}
use Rattle.org_journal.specs.Recovered.{contents}
use Rattle.org_texts.specs.Texts.{TextSet, held_over, text_of}
use Rattle.org_commands.specs.declared.command.Question.TheVariants as asked
use Rattle.org_commands.specs.declared.command.Reply.{Reply}
use Rattle.org_commands.specs.declared.command.RunFault.TheVariants.{OutOfMemory}
use Rattle.org_commands.specs.InOrder.{is_name, text_at}
use Rattle.org_commands.specs.Outcome.{outcome_of_question, show}
use Rattle.org_commands.specs.Session.{Session, view_over}
use Rattle.org_commands.proofs.InOrder.{none_at}
use Rattle.org_commands.proofs.Plans.{text_held}
use Rattle.org_commands.proofs.Handing.{handed_on}
use Rattle.org_commands.proofs.Questions.{question_failed, question_refused}
use Rattle.org_commands.proofs.Reading.{only_reads_ok, only_reads_own}
use Rattle.org_commands.proofs.Sessions.{does_read}
use Rattle.org_commands.proofs.commands.show.show.Goals as goal

pub returns-in_err-check_name : goal.returns-in_err-check_name
returns-in_err-check_name g c states =
    let d = g.D.Disk in
    let own = c.args.files.now in
    let none = none_at (held_over own.held.before (contents (d.files own.disk))) own.names c.args.file.now c.in_err-check_name.ensures.1 in
    question_refused d states own (asked.Show c.args.file.now) c.requires.between c.from_residual.result c.from_residual.ensures.1 c.in_err-check_name.ensures.0 (λ tally. ap show none)

pub returns-in_err-load : goal.returns-in_err-load
returns-in_err-load g c states =
    let d = g.D.Disk in
    let own = c.args.files.now in
    let load = c.in_err-load.ensures in
    let question = asked.Show c.args.file.now in
    let fault = c.in_err-load.field-0.0 in
    question_failed d states own question c.load.new.self fault c.from_residual-in_err-load.result (handed_on c.from_residual-in_err-load.result _ c.from_residual-in_err-load.ensures.1)
    (λ tally honest. let old = (view_over d.files states own tally).session in
    does_read (Unit {0}) old (view_over d.files states c.load.new.self tally).session (outcome_of_question old question) fault c.requires.between.unbroken (load.files.reads states tally honest))
    (load.unedited c.requires.between.unedited) load.files.disk

pub returns-in_err-to_vec-in-Some : goal.returns-in_err-to_vec-in-Some
returns-in_err-to_vec-in-Some g c states =
    let load = c.in_ok-load.ensures in
    question_failed g.D.Disk states c.args.files.now (asked.Show c.args.file.now) {A = Reply} c.load.new.self OutOfMemory c.from_residual-in_err-to_vec-in-Some.result
    (handed_on c.from_residual-in_err-to_vec-in-Some.result _ c.from_residual-in_err-to_vec-in-Some.ensures.1)
    (λ tally honest. (c.requires.between.unbroken, load.files.reads states tally honest)) (load.unedited c.requires.between.unedited)
    (only_reads_own (Err OutOfMemory) OutOfMemory refl (λ no. cc, λ no. cc) load.files.disk)

pub returns : goal.returns
returns g c states =
    let d = g.D.Disk in
    let own = c.args.files.now in
    let load = c.in_ok-load.ensures in
    let new = c.load.new.self in
    let file = c.args.file.now in
    let held = c.in-Some.held.now in
    let there : is_name own.names file ≡ true = c.in_ok-check_name.ensures in
    let named : is_name new.names file ≡ true = ap (λ (ns : List (List ℕ)). is_name ns file) load.files.disk.names ∙ there in
    let now : text_of new.held.now file ≡ Some held.text = search rules in
    let before : text_of new.held.before file ≡ Some held.text = ap (λ (s : TextSet). text_of s file) (sym (load.unedited c.requires.between.unedited)) ∙ now in
    let bytes : c.new.result ≡ held.text.bytes = search rules in
    record {
      uncounted = tt;
      steps = λ tally honest.
          let read = load.files.reads states tally honest in
          let seen : text_at new.names (view_over d.files states new tally).session.files file ≡ Some held.text.bytes = text_held new.names new.held (contents (d.files new.disk)) file held.text named before in
          (c.requires.between.unbroken, ap show (subst (λ (s : Session). text_at s.names s.files file ≡ Some held.text.bytes) read seen ∙ ap (λ (b : List ℕ). Some b) (sym bytes)), read);
      unedited = load.unedited c.requires.between.unedited;
      disk = only_reads_ok load.files.disk;
    }
