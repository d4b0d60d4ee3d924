use Rattle.std.proofs.Common.{◌≡◌, ◌∙◌, ◌<◌, ℕ, List, [], length, slice_get, get_or, true, false, Some, None, sym, ap, subst, rules, arith}
use Rattle.std.proofs.lemmas.Option.{slice_get-get_or}
use Rattle.org_journal.specs.Recovered.{Image, contents}
use Rattle.org_texts.specs.Texts.{held_over}
use Rattle.org_commands.specs.declared.command.RunFault.TheVariants.{Device}
use Rattle.org_commands.specs.declared.commands.running.Clock.{Clock}
use Rattle.org_commands.specs.declared.tally.Group.TheVariants.{Of}
use Rattle.org_commands.specs.declared.tally.Tally.{Tally}
use Rattle.org_commands.specs.Clocks.{RunsHeld, RunsIn}
use Rattle.org_commands.specs.InOrder.{is_name, texts_of}
use Rattle.org_commands.specs.Session.{Session, session_over}
use Rattle.org_commands.proofs.Reading.{reads_files_fault, reads_files_memory, reads_files_ok, reads_files_then}
use Rattle.org_commands.proofs.Running.{named_at, runs_here, runs_later, runs_over}
use Rattle.org_commands.proofs.Faults.{whole_behind}
use Rattle.org_commands.proofs.Handing.{handed_on}
use Rattle.org_commands.proofs.commands.running.running_clock.Goals as goal

pub returns-in_err-file-clause-files : goal.returns-in_err-file-clause-files
returns-in_err-file-clause-files g c = reads_files_memory (handed_on c.from_residual.result _ c.from_residual.ensures.1) c.loop-index.invariant.files

pub returns-in_err-running-clause-files : goal.returns-in_err-running-clause-files
returns-in_err-running-clause-files g c =
    reads_files_then c.loop-index.invariant.files (reads_files_fault (handed_on c.from_residual-in_err-running.result _ c.from_residual-in_err-running.ensures.1) c.in_err-running.ensures.files)

pub returns-in-Some-clause-files : goal.returns-in-Some-clause-files
returns-in-Some-clause-files g c = reads_files_then c.loop-index.invariant.files (reads_files_ok c.in_ok-running.ensures.files)

pub running_in_file-requires-clause-name : goal.running_in_file-requires-clause-name
running_in_file-requires-clause-name g c = named_at c.loop-index.files.names c.loop-index.index c.in_ok-file.file c.in_ok-file.ensures

pub returns-in-Some-clause-clock : goal.returns-in-Some-clause-clock
returns-in-Some-clause-clock g c tally honest =
    let texts : g.row.D.Denot → Image = λ disk. contents (g.D.Disk.files disk) in
    let states = c.args.states.now in
    let sofar = c.loop-index.invariant in
    let looked = c.in_ok-running.ensures in
    let old = c.args.files.now in
    let new = c.running_in_file.new.files in
    let files = held_over old.held.before (texts old.disk) in
    let now = held_over new.held.before (texts new.disk) in
    let was = looked.files.disk.accounts.was_honest honest in
    let read : session_over texts states new tally ≡ session_over texts states old tally = looked.files.reads states tally honest ∙ sofar.files.reads states tally was in
    let same : texts_of now old.names ≡ texts_of files old.names = ap (λ (ns : List (List ℕ)). texts_of now ns) (sym (looked.files.disk.names ∙ sofar.files.disk.names)) ∙ ap (λ (s : Session). s.files) read in
    let within : c.loop-index.index < length old.names = omega (arith, c.loop-index-test.true, c.count-index-end.ensures) in
    let at : slice_get old.names c.loop-index.index ≡ Some c.in_ok-file.file = ap (λ (ns : List (List ℕ)). slice_get ns c.loop-index.index) (sym sofar.files.disk.names) ∙ c.in_ok-file.ensures in
    let runs = subst (RunsIn new.held.before c.in_ok-file.file) c.in-Some.is looked.runs in
    sym (runs_here files now old.names c.loop-index.index c.in_ok-file.file c.in-Some.running within at same (runs_over new.held.before (texts new.disk) c.in_ok-file.file (Some c.in-Some.running) runs))
    ∙ sofar.passed was

pub returns-in-Some-clause-found : goal.returns-in-Some-clause-found
returns-in-Some-clause-found g c = λ clock is.
    let same : ◌≡◌ {A = Clock} (record { file = c.in_ok-file.file; running = c.in-Some.running }) clock = cc in
    let there : is_name c.loop-index.files.names c.in_ok-file.file ≡ true = named_at c.loop-index.files.names c.loop-index.index c.in_ok-file.file c.in_ok-file.ensures in
    let runs : RunsHeld c.running_in_file.new.files.held clock.file clock.running = search rules in (
      runs,
      subst (λ (k : Clock). is_name c.running_in_file.new.files.names k.file ≡ true) same
          (ap (λ (ns : List (List ℕ)). is_name ns c.in_ok-file.file) c.in_ok-running.ensures.files.disk.names ∙ there),
    )

pub loop-index-preserved : goal.loop-index-preserved
loop-index-preserved g c =
    let texts : g.row.D.Denot → Image = λ disk. contents (g.D.Disk.files disk) in
    let states = c.args.states.now in
    let sofar = c.loop-index.invariant in
    let looked = c.in_ok-running.ensures in
    let old = c.args.files.now in
    let new = c.running_in_file.new.files in
    let file = c.in_ok-file.file in
    let back = looked.files.disk.accounts.was_honest in
    let whole : new.broken ≡ false = whole_behind c.running_in_file.result _ Device new.broken c.in_ok-running.was c.running_in_file.ensures.files.disk.breaks in
    record {
      unbroken = whole;
      unedited = looked.unedited;
      files = reads_files_then sofar.files (reads_files_ok looked.files);
      passed = λ h.
          let tally : Tally = record { accepted = 0; acknowledged = 0; group = Of 1; ordered = omega arith } in
          let files = held_over old.held.before (texts old.disk) in
          let now = held_over new.held.before (texts new.disk) in
          let read : session_over texts states new tally ≡ session_over texts states old tally = looked.files.reads states tally h ∙ sofar.files.reads states tally (back h) in
          let same : texts_of now old.names ≡ texts_of files old.names = ap (λ (ns : List (List ℕ)). texts_of now ns) (sym (looked.files.disk.names ∙ sofar.files.disk.names)) ∙ ap (λ (s : Session). s.files) read in
          let within : c.loop-index.index < length old.names = omega (arith, c.loop-index-test.true, c.count-index-end.ensures) in
          let at : slice_get old.names c.loop-index.index ≡ Some file = ap (λ (ns : List (List ℕ)). slice_get ns c.loop-index.index) (sym sofar.files.disk.names) ∙ c.in_ok-file.ensures in
          let runs = subst (RunsIn new.held.before file) c.in_default.is looked.runs in
          sym (runs_later files now old.names c.loop-index.index file within at same (runs_over new.held.before (texts new.disk) file None runs)) ∙ sofar.passed (back h);
    }

pub loop-index-preserved-then-is_clockless : goal.loop-index-preserved-then-is_clockless
loop-index-preserved-then-is_clockless g c =
    let texts : g.row.D.Denot → Image = λ disk. contents (g.D.Disk.files disk) in
    let sofar = c.loop-index.invariant in
    let index = c.loop-index.index in
    let old = c.args.files.now in
    let new = c.loop-index.files in
    let file = get_or old.names index [] in
    let within : index < length old.names = omega (arith, c.loop-index-test.true, c.count-index-end.ensures) in
    let at : slice_get old.names index ≡ Some file = slice_get-get_or old.names index [] within in
    let there : slice_get new.names index ≡ Some file = ap (λ (ns : List (List ℕ)). slice_get ns index) sofar.files.disk.names ∙ at in
    let runs : RunsIn new.held.before file None = c.is_clockless.ensures c.if-is_clockless.true file there in
    record {
      unbroken = sofar.unbroken;
      unedited = sofar.unedited;
      files = sofar.files;
      passed = λ h.
          let tally : Tally = record { accepted = 0; acknowledged = 0; group = Of 1; ordered = omega arith } in
          let files = held_over old.held.before (texts old.disk) in
          let now = held_over new.held.before (texts new.disk) in
          let read : session_over texts c.args.states.now new tally ≡ session_over texts c.args.states.now old tally = sofar.files.reads c.args.states.now tally h in
          let same : texts_of now old.names ≡ texts_of files old.names = ap (λ (ns : List (List ℕ)). texts_of now ns) (sym sofar.files.disk.names) ∙ ap (λ (s : Session). s.files) read in
          sym (runs_later files now old.names index file within at same (runs_over new.held.before (texts new.disk) file None runs)) ∙ sofar.passed h;
    }
