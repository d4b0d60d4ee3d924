-- Clocking in, after the calls that look the heading up and look for the clock that runs.
use Rattle.std.proofs.Common.{◌≡◌, ◌≢◌, ◌∙◌, false, true, ℕ, List, [], Option, None, Some, Result, Ok, Err, refl, sym, ap, subst}
use Rattle.std.specs.Option.{option_map, unwrap_or}
use Rattle.org_disk.specs.declared.disk.Disk.{Ghosts}
use Rattle.org_outline.specs.declared.steps.Step.{Step}
use Rattle.org_outline.specs.declared.paths.PathFault.{PathFault}
use Rattle.org_outline.specs.Paths.{find_path}
use Rattle.org_outline.specs.States.{Keywords}
use Rattle.org_outline.specs.Tree.{Document, tree}
use Rattle.org_stamp.specs.Calendar.{Moment}
use Rattle.org_state.specs.declared.run.Running.{Running}
use Rattle.org_commands.specs.declared.command.RunFault.{RunFault}
use Rattle.org_commands.specs.declared.commands.running.Clock.{Clock}
use Rattle.org_commands.specs.declared.tally.Tally.{Tally}
use Rattle.org_commands.specs.Clocking.{clock_moved, clocked_in}
use Rattle.org_commands.specs.Clocks.{running_over}
use Rattle.org_commands.specs.Files.{OpenFiles}
use Rattle.org_commands.specs.InOrder.{is_name, text_at}
use Rattle.org_commands.specs.Keeping.{LooksUp}
use Rattle.org_commands.specs.Outcome.{Outcome, clock_in, clock_in_beside, with_clock_moved, with_state}
use Rattle.org_commands.specs.Session.{Session}
use Rattle.org_commands.specs.Step.{Steps}
use Rattle.org_commands.proofs.Clocks.{beside_other, beside_same, clock_in_is, look_up_fails, path_fails}
use Rattle.org_commands.proofs.MadeReady.{has_text, session_in}

-- a clock with its file
abbrev pub place_of : Clock → List ℕ × Running
place_of clock = (clock.file, clock.running)

-- the document of a file
abbrev document_at : Session → List ℕ → Document
document_at s file = tree (unwrap_or (text_at s.names s.files file) [])

-- clocking in at heading i of one file, where this clock runs in it or none
abbrev pub in_one : List ℕ → Moment → Option Running → ℕ → Session → Outcome
in_one file moment running i s = with_state s file (clocked_in moment running (document_at s file) (Ok i))

-- .. and where this one runs in another file
abbrev pub in_other : List ℕ → Moment → Clock → ℕ → Session → Outcome
in_other file moment clock i s = with_clock_moved s clock.file file (clock_moved moment clock.running (document_at s clock.file) (document_at s file) (Ok i))

module _ {D : Type 0} (g : Ghosts D) (states : Keywords) (files : OpenFiles D) (file : List ℕ) (path : List Step) (moment : Moment) (there : true ≡ is_name files.names file) (tally : Tally) where
  abbrev s : Session
  s = session_in g states files tally

  abbrev reported : Outcome
  reported = clock_in s file path moment (text_at s.names s.files file)

  abbrev found : Result ℕ PathFault
  found = find_path states (document_at s file) path

  abbrev beside : Option (List ℕ × Running) → Outcome
  beside clock = clock_in_beside s file moment (document_at s file) found clock

  -- the heading isn't there
  pub not_found : (t : Session) (why : RunFault) → files.broken ≡ false → LooksUp s found (Err why) t → Steps s reported (Err why) t
  not_found t why unbroken looks =
      let clock = running_over s.names s.files in
      look_up_fails s t found reported why unbroken (λ none failed. clock_in_is s file path moment (text_at s.names s.files file) clock (has_text g files file there) refl ∙ path_fails s file moment (document_at s file) found clock none failed) looks

  module _ (i : ℕ) (at : found ≡ Ok i) {mid : Session} (read : mid ≡ s) {searched : Option Clock} (runs : option_map place_of searched ≡ running_over mid.names mid.files) where
    -- the clock was looked for in files that were only read
    reported_is : (clock : Option Clock) → searched ≡ clock → reported ≡ beside (option_map place_of clock)
    reported_is clock is =
        clock_in_is s file path moment (text_at s.names s.files file) (option_map place_of clock) (has_text g files file there)
        (subst (λ (t : Session). running_over t.names t.files ≡ option_map place_of clock) read (sym runs ∙ ap (option_map place_of) is))

    pub none_runs : searched ≡ None → reported ≡ in_one file moment None i s
    none_runs none = reported_is None none ∙ ap (λ (f : Result ℕ PathFault). with_state s file (clocked_in moment None (document_at s file) f)) at

    pub own_runs : (clock : Clock) → searched ≡ Some clock → clock.file ≡ file → reported ≡ in_one file moment (Some clock.running) i s
    own_runs clock is own =
        reported_is (Some clock) is ∙ beside_same s file moment (document_at s file) found (place_of clock) own ∙ ap (λ (f : Result ℕ PathFault). with_state s file (clocked_in moment (Some clock.running) (document_at s file) f)) at

    pub other_runs : (clock : Clock) → searched ≡ Some clock → clock.file ≢ file → reported ≡ in_other file moment clock i s
    other_runs clock is apart =
        reported_is (Some clock) is ∙ beside_other s file moment (document_at s file) found (place_of clock) apart
        ∙ ap (λ (f : Result ℕ PathFault). with_clock_moved s clock.file file (clock_moved moment clock.running (document_at s clock.file) (document_at s file) f)) at
