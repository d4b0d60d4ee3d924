-- A settling: what a commit of a store's files does to its session and leaves of its disk.
use Rattle.std.proofs.Common.{◌≡◌, ℕ, List, inl, inr, ⊎_elim, false, true, Result, Ok, Err, refl, sym, ◌∙◌, ap, subst}
use Rattle.std.specs.Prelude.{◌↔◌, IsErrOf, IsTrue}
use Rattle.org_disk.specs.declared.disk.Disk.{Ghosts}
use Rattle.org_disk.specs.CountsFailures.{LeavesOver}
use Rattle.org_disk.specs.Disk.{AreImages, FileState, LeavesOnly}
use Rattle.org_outline.specs.States.{Keywords}
use Rattle.org_journal.specs.Recovered.{Image, IsRecoverable, contents}
use Rattle.org_fileset.specs.declared.fault.SetFault.{SetFault}
use Rattle.org_fileset.specs.declared.fault.SetFault.TheVariants as set
use Rattle.org_fileset.specs.Left as of_set
use Rattle.org_fileset.specs.Replay.{IsAtRest}
use Rattle.org_fileset.specs.Writes.{LeavesAlone, IsOther}
use Rattle.org_fileset.proofs.Writes.{alone_fewer}
use Rattle.org_texts.specs.Texts.{Holding, held_over}
use Rattle.org_commands.specs.declared.command.RunFault.{RunFault}
use Rattle.org_commands.specs.declared.command.RunFault.TheVariants.{OutOfMemory, Device}
use Rattle.org_commands.specs.declared.tally.Tally.{Tally}
use Rattle.org_commands.specs.Files.{CommitsTexts, OpenFiles}
use Rattle.org_commands.specs.InOrder.{HoldsEither, texts_of}
use Rattle.org_commands.specs.Keeping.{fault_of_set}
use Rattle.org_commands.specs.Outcome.{AsksToSettle}
use Rattle.org_commands.specs.Session.{StoreView, view_over, session_over}
use Rattle.org_commands.specs.Step.{IsSettled, Settles}
use Rattle.org_commands.proofs.Committing.{leaves_as}
use Rattle.org_store.specs.Dirty.{NoneDirty}
use Rattle.org_store.specs.Executing.{KeepsHeld, SettlesPending, kept}
use Rattle.org_store.specs.Left.{IsLeft, IsLeftAlone}
use Rattle.org_store.specs.Runs.{LeavesDisk}
use Rattle.org_store.proofs.Leaving.{leaves_unwritten}

-- what a settling answers, where it is no Ok
pub record Fails {D : Type 0} (old new : OpenFiles D) (result : Result (Unit {0}) SetFault) (fault : SetFault) : Type 0 where
  pub is : result ≡ Err fault
  pub unbroken : old.broken ≡ false
  pub memory : IsErrOf result set.OutOfMemory → new ≡ old
  pub works : IsErrOf result set.Broken → ⊥
  pub breaks : IsErrOf result set.Device ↔ IsTrue new.broken
  pub names : new.names ≡ old.names

pub settle_failed : {D : Type 0} (texts : D → Image) (states : Keywords) (old new : OpenFiles D) (tally : Tally) (result : Result (Unit {0}) SetFault) (fault : SetFault) → Fails old new result fault
    → Settles (session_over texts states old tally) (Err (fault_of_set fault)) (session_over texts states new tally)
settle_failed {D} texts states old new tally result set.OutOfMemory fails =
    (fails.unbroken, ap (λ (files : OpenFiles D). session_over texts states files tally) (fails.memory fails.is))
settle_failed texts states old new tally result set.Device fails =
    let fell : new.broken ≡ true = fails.breaks.0 fails.is in
    (fails.unbroken, (texts_of (held_over new.held.before (texts new.disk)) new.names, texts_of (texts new.disk) new.names, rw (fell, fails.names) refl))
settle_failed texts states old new tally result set.Broken fails = absurd (fails.works fails.is)

-- what a settling that failed leaves of the disk
module _ {D : Type 0} (g : Ghosts D) (states : Keywords) (old new : OpenFiles D) (tally : Tally)
    (start : (image : Image) → g.left_since old.disk (g.instant old.disk) image → AreImages (g.files old.disk) image) where
  abbrev before : StoreView D
  before = view_over g.files states old tally

  abbrev now : StoreView D
  now = view_over g.files states new tally

  settle_unwritten : (fault : RunFault) → new ≡ old → LeavesDisk g before now (IsLeft {A = Unit {0}} before.session (contents (g.files old.disk)) AsksToSettle (Err fault) now.session.accepted)
      (IsLeftAlone {A = Unit {0}} before.session before.dirty AsksToSettle (Err fault) now.session.accepted) (IsErrOf {T = Unit {0}} (Err fault) Device)
  settle_unwritten fault same =
      leaves_unwritten g before (IsLeft {A = Unit {0}} before.session (contents (g.files old.disk)) AsksToSettle (Err fault) now.session.accepted)
      (IsLeftAlone {A = Unit {0}} before.session before.dirty AsksToSettle (Err fault) now.session.accepted) (IsErrOf {T = Unit {0}} (Err fault) Device) start refl (λ image holds. inl holds) now (ap (λ (held : OpenFiles D). held.disk) same) refl

  pub settle_leaves : (result : Result (Unit {0}) SetFault) (fault : SetFault) → Fails old new result fault
      → (IsAtRest (g.files old.disk) → LeavesOnly (g.instant old.disk) (g.instant new.disk) (g.left_since old.disk) (g.left_since new.disk) (HoldsEither old.names (contents (g.files old.disk)) before.session.files))
      → (IsAtRest (g.files old.disk) → LeavesOver g old.disk new.disk of_set.IsLeft) → (IsAtRest (g.files old.disk) → IsRecoverable (g.files new.disk)) → LeavesAlone g (IsOther old.held.before.dirty) old.disk new.disk
      → LeavesDisk g before now (IsLeft {A = Unit {0}} before.session (contents (g.files old.disk)) AsksToSettle (Err (fault_of_set fault)) now.session.accepted)
      (IsLeftAlone {A = Unit {0}} before.session before.dirty AsksToSettle (Err (fault_of_set fault)) now.session.accepted) (IsErrOf {T = Unit {0}} (Err (fault_of_set fault)) Device)
  settle_leaves result set.OutOfMemory fails leaves left fit alone = settle_unwritten OutOfMemory (fails.memory fails.is)
  settle_leaves result set.Device fails leaves left fit alone = record {
    any_moment = λ rest. leaves_as (leaves rest) (λ image either. ⊎_elim (λ held. inl held) (λ all. inr (refl, (before.session.files, refl, all))) either);
    left = left;
    others = λ fine. absurd (fine refl);
    rest = λ fine. absurd (fine refl);
    recoverable = fit;
    alone = alone_fewer g (IsLeftAlone {A = Unit {0}} before.session before.dirty AsksToSettle (Err Device) now.session.accepted) (IsOther old.held.before.dirty) old.disk new.disk alone (λ name this. this refl);
  }
  settle_leaves result set.Broken fails leaves left fit alone = absurd (fails.works fails.is)

-- what a settling that is done leaves of the disk
pub leaves_settled : {D : Type 0} (g : Ghosts D) (states : Keywords) (old new : OpenFiles D) (was now : Tally) → new.names ≡ old.names
    → CommitsTexts {A = Unit {0}} {E = SetFault} g old.names old.held.before.dirty (session_over (λ disk. contents (g.files disk)) states old was).files old.disk new.disk (Ok (tt {0}))
    → LeavesDisk g (view_over g.files states old was) (view_over g.files states new now) (IsLeft {A = Unit {0}} (view_over g.files states old was).session (contents (g.files old.disk)) AsksToSettle (Ok (tt {0})) now.accepted)
    (IsLeftAlone {A = Unit {0}} (view_over g.files states old was).session old.held.before.dirty AsksToSettle (Ok (tt {0})) now.accepted) (IsErrOf {T = Unit {0}} {E = RunFault} (Ok (tt {0})) Device)
leaves_settled g states old new was now names made = record {
  any_moment = λ rest. leaves_as (made.any_moment rest) (λ image either. ⊎_elim (λ held. inl held) (λ all. inr (tt, ((session_over (λ disk. contents (g.files disk)) states old was).files, refl, all))) either);
  left = made.left;
  others = λ fine. rw (names, made.texts) made.others;
  rest = λ fine. made.rest;
  recoverable = made.recoverable;
  alone = alone_fewer g (IsLeftAlone {A = Unit {0}} (view_over g.files states old was).session old.held.before.dirty AsksToSettle (Ok (tt {0})) now.accepted) (IsOther old.held.before.dirty) old.disk new.disk made.alone (λ name this. this tt);
}

-- what is held where it failed
pub keeps_failed : {D : Type 0} (old new : OpenFiles D) (result : Result (Unit {0}) SetFault) (fault : SetFault) → Fails old new result fault → new.held ≡ old.held → KeepsHeld old (Err (fault_of_set fault)) new
keeps_failed old new result set.OutOfMemory fails held = record { held = held; memory = λ starved. fails.memory fails.is; faults = inl refl }
keeps_failed old new result set.Device fails held = record { held = held; memory = λ starved. absurd (cc); faults = inr refl }
keeps_failed old new result set.Broken fails held = absurd (fails.works fails.is)

-- ---- a commit between commands, when nothing is edited that isn't kept

pub view_kept : {D : Type 0} (files : D → List ℕ → FileState) (states : Keywords) (opened : OpenFiles D) (tally : Tally) → opened.held.now ≡ opened.held.before → view_over files states (kept opened) tally ≡ view_over files states opened tally
view_kept files states opened tally unedited = rw unedited refl

pub unedited_behind : {D : Type 0} (old new : OpenFiles D) (answer : Result (Unit {0}) RunFault) → KeepsHeld old answer new → old.held.now ≡ old.held.before → new.held.now ≡ new.held.before
unedited_behind old new (Ok done) keeps unedited = keeps.held
unedited_behind old new (Err fault) keeps unedited = subst (λ (held : Holding). held.now ≡ held.before) (sym keeps.held) unedited

pub settles_between : {D : Type 0} (g : Ghosts D) (states : Keywords) (old new : OpenFiles D) (was now : Tally) (answer : Result (Unit {0}) RunFault) → old.held.now ≡ old.held.before → KeepsHeld old answer new
    → SettlesPending g (view_over g.files states (kept old) was) answer (view_over g.files states (kept new) now) → SettlesPending g (view_over g.files states old was) answer (view_over g.files states new now)
settles_between {D} g states old new was now answer unedited keeps settles =
    subst (λ (v : StoreView D). SettlesPending g v answer (view_over g.files states new now)) (view_kept g.files states old was unedited)
    (subst (λ (v : StoreView D). SettlesPending g (view_over g.files states (kept old) was) answer v) (view_kept g.files states new now (unedited_behind old new answer keeps unedited)) settles)

-- after it all commands are acknowledged only where their texts are on the disk
pub settles_sound : {D : Type 0} (g : Ghosts D) (old new : StoreView D) (answer : Result (Unit {0}) RunFault) → (old.session.acknowledged ≡ old.session.accepted → ⊥) → SettlesPending g old answer new → g.honest new.disk
    → IsSettled new.session × NoneDirty new
settles_sound g old new (Ok done) pending settles honest = (subst IsSettled (sym (settles.did honest).step.1) (λ sound all. refl), λ all. (settles.did honest).dirty_files)
settles_sound g old new (Err fault) pending settles honest =
    let still = λ (all : new.session.acknowledged ≡ new.session.accepted). pending (sym settles.counts.acknowledged ∙ all ∙ settles.counts.accepted) in
    (λ sound all. absurd (still all), λ all. absurd (still all))
