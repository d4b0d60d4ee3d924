-- What is reported of the time clocked at a heading.
use Rattle.std.proofs.Common.{◌≡◌, ◌∷◌, [], false, ℕ, List, Result, Ok, Err, sym, ◌∙◌, ap, subst}
use Rattle.std.specs.Result.{IsErrAnd, result_map_both}
use Rattle.org_disk.specs.declared.disk.Disk.{Ghosts}
use Rattle.org_outline.specs.declared.steps.Step.{Step}
use Rattle.org_splice.specs.Texts.{EditedText}
use Rattle.org_outline.specs.declared.paths.PathFault.{PathFault}
use Rattle.org_outline.specs.Paths.{refusal_of}
use Rattle.org_outline.specs.States.{Keywords}
use Rattle.org_outline.specs.Tree.{Document, tree}
use Rattle.org_outline.proofs.Trees.{tree-terminated}
use Rattle.org_state.specs.Clock.{clocked_at}
use Rattle.org_commands.specs.declared.command.Reply.TheVariants.{Time}
use Rattle.org_commands.specs.declared.command.RunFault.{RunFault}
use Rattle.org_commands.specs.declared.command.RunFault.TheVariants.{Refused}
use Rattle.org_commands.specs.declared.tally.Tally.{Tally}
use Rattle.org_commands.specs.Files.{OpenFiles}
use Rattle.org_commands.specs.InOrder.{text_at}
use Rattle.org_commands.specs.Keeping.{Reads}
use Rattle.org_commands.specs.Outcome.{Outcome, time, with_minutes}
use Rattle.org_commands.specs.Session.{Session}
use Rattle.org_commands.specs.Step.{Steps}
use Rattle.org_commands.proofs.Handing.{handed_on}
use Rattle.org_commands.proofs.MadeReady.{Sees, session_in, text_seen, unread}

-- a fault, handed on as a question's
time_fault : (old new : Session) (reported : Outcome) (fault : RunFault) (answer : Result ℕ RunFault) → IsErrAnd answer (λ y. y ≡ fault) → Steps old reported (Err fault) new → Steps old reported (result_map_both Time (λ f. f) answer) new
time_fault old new reported fault answer handed steps = subst (λ (r : Result ℕ RunFault). Steps old reported (result_map_both Time (λ f. f) r) new) (sym (handed_on answer fault handed)) steps

-- .. of the reading
pub time_unread : {D : Type 0} (g : Ghosts D) (states : Keywords) (old new : OpenFiles D) (tally : Tally) (reported : Outcome) {A : Type 0} {read : Result A RunFault} {fault : RunFault} (answer : Result ℕ RunFault) → IsErrAnd answer (λ y. y ≡ fault)
    → old.broken ≡ false → read ≡ Err fault → Reads (session_in g states old tally) read (session_in g states new tally) → Steps (session_in g states old tally) reported (result_map_both Time (λ f. f) answer) (session_in g states new tally)
time_unread g states old new tally reported {fault = fault} answer handed unbroken is reads =
    time_fault (session_in g states old tally) (session_in g states new tally) reported fault answer handed (unread g states old new tally reported unbroken is reads)

module _ {D : Type 0} {g : Ghosts D} {states : Keywords} {old new : OpenFiles D} {file : List ℕ} {seen : EditedText} (sees : Sees g states old new (file ∷ []) file seen) (path : List Step) (tally : Tally) (honest : g.honest new.disk) where
  abbrev s : Session
  s = session_in g states old tally

  abbrev reported : Outcome
  reported = time s path (text_at s.names s.files file)

  -- what is to be reported of the text, which is seen terminated
  time_is : (said : Result ℕ PathFault) → said ≡ clocked_at states path (tree seen.bytes) → reported ≡ with_minutes said
  time_is said is =
      let text = text_seen sees tally honest in
      ap (time s path) text.1 ∙ ap (λ (d : Document). with_minutes (clocked_at states path d)) (sym (ap tree text.2 ∙ tree-terminated text.0)) ∙ ap with_minutes (sym is)

  -- it is reported
  pub time_reported : (minutes : ℕ) → Ok minutes ≡ clocked_at states path (tree seen.bytes) → Steps s reported (Ok (Time minutes)) (session_in g states new tally)
  time_reported minutes is = (sees.unbroken, time_is (Ok minutes) is, sees.reads tally honest)

  -- .. or refused
  pub time_refused : (why : PathFault) → Err why ≡ clocked_at states path (tree seen.bytes) → (answer : Result ℕ RunFault) → IsErrAnd answer (λ y. y ≡ Refused (refusal_of why)) → Steps s reported (result_map_both Time (λ f. f) answer) (session_in g states new tally)
  time_refused why is answer handed = time_fault s (session_in g states new tally) reported (Refused (refusal_of why)) answer handed (sees.unbroken, time_is (Err why) is, sees.reads tally honest)
