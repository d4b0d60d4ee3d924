-- A crash leaves no file of a run that an opening finds changed by its bytes.
use Rattle.std.proofs.Common.{◌≡◌, ◌⊎◌, inl, inr, ⊎_elim, true, false, ℕ, List, [], ◌∷◌, Result, Ok, Err, refl, sym, ◌∙◌, ap, subst, arith}
use Rattle.std.proofs.lemmas.Bool.{cases_Bool, false≢true}
use Rattle.org_disk.specs.declared.disk.Disk.{Ghosts}
use Rattle.org_disk.specs.CountsFailures.{LeavesOver}
use Rattle.org_disk.specs.Disk.{AreImages}
use Rattle.org_disk.proofs.Moments.{leaves_only, passes_none, passes_then}
use Rattle.org_journal.specs.Recovered.{Image}
use Rattle.org_fileset.specs.Left.{EachIsLeft, IsLeft}
use Rattle.org_fileset.specs.Replay.{IsAtRest}
use Rattle.org_fileset.proofs.Commits.{rest_left}
use Rattle.org_commands.specs.declared.command.Command.{Command}
use Rattle.org_commands.specs.Session.{StoreView}
use Rattle.org_commands.specs.Step.{Step}
use Rattle.org_store.specs.History.{Trace}
use Rattle.org_store.proofs.Runs.{answers_broken, falls, settling_ends}
use Rattle.org_serve.specs.declared.end.ServeEnd.{ServeEnd}
use Rattle.org_serve.specs.declared.whole.Setup.{Setup}
use Rattle.org_fault.specs.declared.fault.Fault.{Fault}
use Rattle.org_serve.specs.declared.fault.BadLine.{BadLine}
use Rattle.org_serve.specs.Pipes.{Exchange}
use Rattle.org_serve.specs.Serving.{Answers, AnswersRead, HasSettled, RunsLines}
use Rattle.org_serve.specs.Whole.{LeavesNoneChanged, ServesOver}
use Rattle.org_serve.proofs.Honest.{sound_traced, sound_traces, up_to}

module _ {D : Type 0} (g : Ghosts D) where
  -- one call after another
  pub left_then : (old mid new : D) → LeavesOver g old mid IsLeft → LeavesOver g mid new IsLeft → LeavesOver g old new IsLeft
  left_then old mid new first second = leaves_only (passes_then first.passes second.passes (λ image left. left)) (λ image left. first.each image (first.passes.keeps (g.instant old) image (omega arith) left))

  -- what is left of the disk is all that the next run begins with
  pub each_left : (old now : D) → ((image : Image) → AreImages (g.files now) image → g.left_since now (g.instant old) image) → LeavesOver g old now IsLeft → EachIsLeft (g.files now)
  each_left old now counts leaves image left = leaves.each image (counts image left)

  -- What was answered leaves no changed file, and the disk at rest unless the store is broken.
  record Keeps (old new : Trace D) : Type 0 where
    pub left : LeavesOver g old.store.disk new.store.disk IsLeft
    pub rest : new.store.session.broken ≡ false → IsAtRest (g.files new.store.disk)
    -- a disk that is honest at first is so at the end
    pub honest : g.honest new.store.disk

  module _ (only_now : (disk : D) (image : Image) → g.honest disk → g.left_since disk (g.instant disk) image → AreImages (g.files disk) image) where
    keeps_none : (old : Trace D) → g.honest old.store.disk → IsAtRest (g.files old.store.disk) → Keeps old old
    keeps_none old honest rest = record {
      left = leaves_only (passes_none (g.instant old.store.disk) (g.left_since old.store.disk) IsLeft)
          (λ image left. rest_left (g.files old.store.disk) rest image (only_now old.store.disk image honest left));
      rest = λ sound. rest;
      honest = honest;
    }

    keeps_same : (old new : Trace D) → new ≡ old → g.honest old.store.disk → IsAtRest (g.files old.store.disk) → Keeps old new
    keeps_same old new same honest rest = subst (Keeps old) (sym same) (keeps_none old honest rest)

    keeps_read : (old : Trace D) (read : Result Command (Fault BadLine)) (out : List ℕ) (new : Trace D) → AnswersRead (sound_traces g) old read out new → g.honest old.store.disk → IsAtRest (g.files old.store.disk) → Keeps old new
    keeps_read old (Err fault) out new ran honest rest = keeps_same old new ran.1 honest rest
    keeps_read old (Ok command) out new ran honest rest =
        let made = ran.1.0.0 in
        record {
          left = made.disk.left rest;
          rest = λ sound. made.disk.rest
              (λ failed. false≢true (sym sound ∙ falls old.store.session new.store.session command (subst (λ a. Step old.store.session command a new.store.session) failed made.step)))
              rest;
          honest = ran.1.1;
        }

    -- a store that is broken stays
    stays_read : (old : Trace D) (read : Result Command (Fault BadLine)) (out : List ℕ) (new : Trace D) → AnswersRead (sound_traces g) old read out new → old.store.session.broken ≡ true → new.store ≡ old.store
    stays_read old (Err fault) out new ran fell = ap (λ (p : Trace D). p.store) ran.1
    stays_read old (Ok command) out new ran fell =
        let made = ran.1.0.0 in made.idle.untouched (answers_broken old.store.session new.store.session command ran.0 made.step fell)

    stays_lines : (old new : Trace D) (lines : List (List ℕ)) (out : List ℕ) → Answers (sound_traces g) old lines out new → old.store.session.broken ≡ true → new.store ≡ old.store
    stays_lines old new [] out a fell = ap (λ (p : Trace D). p.store) a.1
    stays_lines old new (line ∷ lines) out a fell =
        let same = stays_read old a.3.0 a.1 a.0 a.3.2 fell in
        stays_lines a.0 new lines a.2 a.5 (ap (λ (k : StoreView D). k.session.broken) same ∙ fell) ∙ same

    stays_end : (mid last : Trace D) → (last ≡ mid) ⊎ HasSettled (sound_traces g) mid last → mid.store.session.broken ≡ true → last.store ≡ mid.store
    stays_end mid last ends fell = ⊎_elim
        (λ same. ap (λ (p : Trace D). p.store) same)
        (λ settled. let made = settled.1.0.0 in made.idle.untouched ((settling_ends mid.store.session last.store.session settled.0 made.step).2 fell))
        ends

    -- what was answered, and a store that is broken after it
    left_broken : (old mid new : Trace D) → Keeps old mid → new.store ≡ mid.store → LeavesOver g old.store.disk new.store.disk IsLeft
    left_broken old mid new keeps same = subst (λ (k : StoreView D). LeavesOver g old.store.disk k.disk IsLeft) (sym same) keeps.left

    keeps_broken : (old mid new : Trace D) → Keeps old mid → mid.store.session.broken ≡ true → new.store ≡ mid.store → Keeps old new
    keeps_broken old mid new keeps fell same = record {
      left = left_broken old mid new keeps same;
      rest = λ sound. absurd (false≢true (sym sound ∙ ap (λ (k : StoreView D). k.session.broken) same ∙ fell));
      honest = subst (λ (k : StoreView D). g.honest k.disk) (sym same) keeps.honest;
    }

    keeps_then : (old mid new : Trace D) → Keeps old mid → Keeps mid new → Keeps old new
    keeps_then old mid new first second = record {
      left = left_then old.store.disk mid.store.disk new.store.disk first.left second.left;
      rest = second.rest;
      honest = second.honest;
    }

    keeps_lines : (old new : Trace D) (lines : List (List ℕ)) (out : List ℕ) → Answers (sound_traces g) old lines out new → g.honest old.store.disk → IsAtRest (g.files old.store.disk) → Keeps old new
    keeps_lines old new [] out a honest rest = keeps_same old new a.1 honest rest
    keeps_lines old new (line ∷ lines) out a honest rest =
        let mid = a.0 in
        let first = keeps_read old a.3.0 a.1 mid a.3.2 honest rest in
        ⊎_elim
        (λ fell. keeps_broken old mid new first fell (stays_lines mid new lines a.2 a.5 fell))
        (λ sound. keeps_then old mid new first (keeps_lines mid new lines a.2 a.5 first.honest (first.rest sound)))
        (cases_Bool mid.store.session.broken)

    -- the settling at the end
    left_end : (mid last : Trace D) → (last ≡ mid) ⊎ HasSettled (sound_traces g) mid last → g.honest mid.store.disk → IsAtRest (g.files mid.store.disk) → LeavesOver g mid.store.disk last.store.disk IsLeft
    left_end mid last ends honest rest = ⊎_elim
        (λ same. (keeps_same mid last same honest rest).left)
        (λ settled. settled.1.0.0.disk.left rest)
        ends

    pub left_run : {first last : Trace D} {end : ServeEnd} {io : Exchange} → RunsLines (sound_traces g) first last end io → g.honest first.store.disk → IsAtRest (g.files first.store.disk)
        → LeavesOver g first.store.disk last.store.disk IsLeft
    left_run {first} {last} run honest rest =
        let lines = keeps_lines first run.mid run.ran run.out run.answered honest rest in
        ⊎_elim
        (λ fell. left_broken first run.mid last lines (stays_end run.mid last run.ends fell))
        (λ sound. left_then first.store.disk run.mid.store.disk last.store.disk lines.left (left_end run.mid last run.ends lines.honest (lines.rest sound)))
        (cases_Bool run.mid.store.session.broken)

-- the whole run, of which the opening left the disk at rest
pub none_changed : {D : Type 0} {g : Ghosts D} → ((disk : D) (image : Image) → g.honest disk → g.left_since disk (g.instant disk) image → AreImages (g.files disk) image)
    → {setup : Setup} {disk now : D} {end : ServeEnd} {io : Exchange} (served : ServesOver g setup disk now end io)
    → (g.honest served.first.store.disk → IsAtRest (g.files served.first.store.disk)) → (g.honest served.first.store.disk → LeavesOver g disk served.first.store.disk IsLeft) → LeavesNoneChanged served
none_changed {g = g} only_now {disk = disk} served rest opening later (inl way) honestly =
    let whole = sound_traced g (up_to served.run later way) honestly in
    left_then g disk served.first.store.disk later.store.disk (opening whole.1) (left_run g only_now whole.0 whole.1 (rest whole.1))
none_changed {g = g} only_now {disk = disk} served rest opening later (inr same) honestly =
    let whole = sound_traced g served.run (subst (λ (p : Trace _). g.honest p.store.disk) same honestly) in
    subst (λ (p : Trace _). LeavesOver g disk p.store.disk IsLeft) (sym same)
    (left_then g disk served.first.store.disk served.last.store.disk (opening whole.1) (left_run g only_now whole.0 whole.1 (rest whole.1)))

-- .. and what is given back
pub none_changed_at_end : {D : Type 0} {g : Ghosts D} {setup : Setup} {disk now : D} {end : ServeEnd} {io : Exchange} (served : ServesOver g setup disk now end io) → LeavesNoneChanged served → g.honest now
    → LeavesOver g disk now IsLeft
none_changed_at_end {g = g} {disk = disk} served none honestly =
    subst (λ d. LeavesOver g disk d IsLeft) (sym served.given_up) (none served.last (inr refl) (subst g.honest served.given_up honestly))
