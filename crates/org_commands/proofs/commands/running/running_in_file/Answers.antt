use Rattle.std.proofs.Common.{◌≡◌, ◌∙◌, ◌∷◌, [], List, ℕ, sym, ap, subst}
use Rattle.org_outline.specs.Tree.{tree}
use Rattle.org_splice.specs.Searched.{IsSearched}
use Rattle.org_state.specs.Clock.{has_clock, running_in}
use Rattle.org_commands.specs.Noted.{AreSearched}
use Rattle.org_commands.specs.Clocks.{RunsIn}
use Rattle.org_commands.specs.Files.{AreReady}
use Rattle.org_commands.proofs.Noted.{ends_ready, known_ready}
use Rattle.org_commands.proofs.Held.{none_ready}
use Rattle.org_commands.proofs.Plans.{is_ready, one_name}
use Rattle.org_commands.proofs.Running.{runs_ready}
use Rattle.org_commands.proofs.Handing.{handed_on}
use Rattle.org_commands.proofs.Reading.{reads_files_fault, reads_files_ok, reads_files_undone}
use Rattle.org_commands.proofs.commands.running.running_in_file.Goals as goal

pub returns-in_err-ready-clause-files : goal.returns-in_err-ready-clause-files
returns-in_err-ready-clause-files g c = reads_files_fault (handed_on c.from_residual.result _ c.from_residual.ensures.1) c.in_err-ready.ensures.files

pub held-requires : goal.held-requires
held-requires g c =
    let held = c.ready.new.self.held in
    let file = c.args.file.now in
    let ready : AreReady (file ∷ []) held = c.in_ok-ready.ensures.ready [] (none_ready c.args.files.now.held c.requires.between.unedited) in
    is_ready (file ∷ []) held file ready (one_name file)

pub note-requires-clause-before : goal.note-requires-clause-before
note-requires-clause-before g c =
    let held = c.ready.new.self.held in
    let file = c.args.file.now in
    let seen = c.held.result.now.text in
    let ready : AreReady (file ∷ []) held = c.in_ok-ready.ensures.ready [] (none_ready c.args.files.now.held c.requires.between.unedited) in
    let ended = ends_ready (file ∷ []) held file ready (one_name file) seen c.held.ensures.text in
    let was = subst (AreSearched c.searched-before.result) ended (c.searched-before.ensures seen c.held.ensures.text) in
    let clocks = subst (IsSearched has_clock c.search-found.result.1) c.outline_of.ensures.0 c.search-found.ensures.searched in
    known_ready held c.undo.new.self.held.before file seen (record { clocks = c.search-found.result.1; archive_lines = c.searched-before.result.archive_lines }) ready c.held.ensures.text c.undo.ensures.before (record { clocks = clocks; archive_lines = was.archive_lines })

pub note-requires-clause-now : goal.note-requires-clause-now
note-requires-clause-now g c =
    let held = c.ready.new.self.held in
    let file = c.args.file.now in
    let seen = c.held.result.now.text in
    let ready : AreReady (file ∷ []) held = c.in_ok-ready.ensures.ready [] (none_ready c.args.files.now.held c.requires.between.unedited) in
    let ended = ends_ready (file ∷ []) held file ready (one_name file) seen c.held.ensures.text in
    let was = subst (AreSearched c.searched-before.result) ended (c.searched-before.ensures seen c.held.ensures.text) in
    let clocks = subst (IsSearched has_clock c.search-found.result.1) c.outline_of.ensures.0 c.search-found.ensures.searched in
    known_ready held c.undo.new.self.held.now file seen (record { clocks = c.search-found.result.1; archive_lines = c.searched-before.result.archive_lines }) ready c.held.ensures.text c.undo.ensures.now (record { clocks = clocks; archive_lines = was.archive_lines })

pub returns-clause-runs : goal.returns-clause-runs
returns-clause-runs g c =
    let held = c.ready.new.self.held in
    let file = c.args.file.now in
    let seen = c.held.result.now.text in
    let ready : AreReady (file ∷ []) held = c.in_ok-ready.ensures.ready [] (none_ready c.args.files.now.held c.requires.between.unedited) in
    let found : running_in (tree seen.bytes) ≡ c.search-found.result.0 = ap (λ (b : List ℕ). running_in (tree b)) (sym c.outline_of.ensures.0) ∙ sym c.search-found.ensures.running in
    rw c.note.ensures (subst (RunsIn c.undo.new.self.held.before file) found (runs_ready held c.undo.new.self.held.before file seen ready c.held.ensures.text c.undo.ensures.before))

pub returns-clause-files : goal.returns-clause-files
returns-clause-files g c = rw c.note.ensures (reads_files_ok (reads_files_undone c.undo.ensures.memory c.undo.ensures.before c.in_ok-ready.ensures.files))
