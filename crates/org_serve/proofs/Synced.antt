-- A run over a disk whose files were synced first.
use Rattle.std.proofs.Common.{◌≡◌, ◌≤◌, inl, inr, ⊎_elim, ℕ, List, None, Result, Ok, Err, IfErr, refl, sym, ◌∙◌, ap, subst, arith}
use Rattle.std.proofs.lemmas.Grind.{common_steps}
use Rattle.org_disk.specs.declared.disk.Disk.{Ghosts}
use Rattle.std.specs.Prelude.{IsErrOf, IsSomeAnd, IsTrue, is_some}
use Rattle.std.proofs.lemmas.Result.{IfOk-weaker}
use Rattle.org_disk.specs.CountsFailures.{CountsFailures, LeavesOver}
use Rattle.org_disk.specs.Disk.{FileState, IsImage, AreImages, LeavesOnly}
use Rattle.org_disk.specs.Names.{journal_name}
use Rattle.org_disk.proofs.Moments.{Image, passes_as}
use Rattle.org_journal.specs.Recovered.{SameFiles, IsRecoverable, recovered, contents}
use Rattle.org_journal.proofs.Accounted.{accounts_after}
use Rattle.org_fileset.specs.Left.{EachIsLeft, IsLeft}
use Rattle.org_fileset.specs.declared.open.OpenFault.{OpenFault}
use Rattle.org_fileset.specs.declared.open.OpenFault.TheVariants as open_fault
use Rattle.org_fileset.specs.Opening.{IsFoundOver, IsRecovered, IsReason, IsRefusedFor}
use Rattle.org_fileset.specs.Recovery.{EachRecovers, IsReopened, RecoversAsBefore, closed_journal, is_closed}
use Rattle.org_fileset.specs.Writes.{LeavesAlone}
use Rattle.org_fileset.proofs.Recovering.{as_before}
use Rattle.org_fileset.proofs.Writes.{alone_then}
use Rattle.org_serve.specs.declared.whole.Setup.{Setup}
use Rattle.org_serve.specs.Pipes.{Exchange}
use Rattle.org_serve.specs.declared.end.ServeEnd.{ServeEnd}
use Rattle.org_store.specs.History.{Trace}
use Rattle.org_store.proofs.Sortings.{few_or_many}
use Rattle.org_serve.specs.Syncing.{AnswersSync, AreSynced, IsNotStored, IsRecoverableOnceSynced, IsAsFound, Syncs, stored}
use Rattle.org_serve.specs.Whole.{LeavesNoneChanged, ServesOver, BreaksByCount, IsForeign, IsIntermediate, IsIntermediateTo, IsDurable, DurableFrom, LeavesDiskOfRun, LeavesSyncedDisk, RunsAs, RunsSynced, SaysFailure, ServesDisk}
use Rattle.org_serve.proofs.Foreign.{leaves_foreign, synced_alone}
use Rattle.org_serve.proofs.Honest.{sound_traced, up_to}
use Rattle.org_serve.proofs.Lefts.{left_then}
use Rattle.org_serve.proofs.Places.{lists_files}
use Rattle.org_serve.proofs.Syncs.{all_images, each_image, ok_apart, some_or_none, still_recoverable, still_recovers, still_stable, as_at_first, as_read, now_recoverable, now_recovers, some_recovers}

pub if_err : {A E : Type 0} {P Q : E → Type 0} (r : Result A E) → ((e : E) → P e → Q e) → IfErr r P → IfErr r Q
if_err (Ok x) more held = tt
if_err (Err e) more held = more e held

pub if_err_always : {A E : Type 0} {P : Type 0} (r : Result A E) → P → IfErr r (λ _. P)
if_err_always (Ok x) held = tt
if_err_always (Err e) held = held

-- what a crash leaves has Q too
pub leaves_as : {m n : ℕ} {s u : ℕ → Image → Type 0} {P Q : Image → Type 0} → LeavesOnly m n s u P → ((image : Image) → P image → Q image) → LeavesOnly m n s u Q
leaves_as leaves weaker = record { each = λ image left. weaker image (leaves.each image left); passes = passes_as leaves.passes weaker }

-- the syncs, and a run after them
pub leaves_behind : {m n k : ℕ} {s u v : ℕ → Image → Type 0} {P Q R : Image → Type 0} → LeavesOnly m n s u P → LeavesOnly n k u v Q
    → ((image : Image) → P image → R image) → ((image : Image) → Q image → R image) → LeavesOnly m k s v R
leaves_behind {m} first second early late = grind (arith, common_steps)

-- why it isn't opened, of files that read as before
pub reason_before : (given : List (List ℕ)) (Honest : Type 0) (before mid now : Image) → (Honest → mid ≡ before) → (fault : OpenFault) → IsReason given Honest mid now fault → IsReason given Honest before now fault
reason_before given Honest before mid now same open_fault.TooManyFiles why = why
reason_before given Honest before mid now same open_fault.BadJournal why =
    (why.0, λ h. (subst (λ (f : Image). recovered f ≡ None) (same h) (why.1 h).0, (why.1 h).1 ∙ same h))
reason_before given Honest before mid now same (open_fault.Changed name) why = (why.0, λ h. subst (λ (f : Image). IsFoundOver name f now) (same h) (why.1 h))
reason_before given Honest before mid now same (open_fault.Outside name) why = (why.0, λ h. subst (λ (f : Image). IsFoundOver name f now) (same h) (why.1 h))
reason_before given Honest before mid now same (open_fault.TooLarge name) why =
    (why.0, λ h. let found = why.1 h in (found.0, found.1, found.2, subst (λ (f : Image). IsRecovered f now) (same h) found.3))
reason_before given Honest before mid now same open_fault.Device why = why
reason_before given Honest before mid now same open_fault.OutOfMemory why = tt

-- a sync that failed
pub unsynced_leaves_disk : {D : Type 0} (g : Ghosts D) (setup : Setup) (disk now : D) {fault : OpenFault}
    → ((name : List ℕ) → IsImage (g.files now name) (g.files now name).content) → ((name bytes : List ℕ) → IsImage (g.files now name) bytes → IsImage (g.files disk name) bytes)
    → ((name : List ℕ) → IsNotStored setup.names.items name → g.files now name ≡ g.files disk name)
    → LeavesOver g disk now (AreImages (g.files disk)) → LeavesSyncedDisk g setup disk now (Err fault)
unsynced_leaves_disk g setup disk now own images others time = record {
  leaves_disk = record {
    unopened = λ fit each. leaves_as time (as_before (g.files disk) each);
    unopened_bad = λ none. (refl, time);
    unopened_closed = λ closed. time;
    recoverable = λ fit each. (still_recoverable (g.files disk) (g.files now) own images fit, still_recovers (g.files disk) (g.files now) own images each);
    left = λ fit each kept. (leaves_as time kept, λ image left. kept image (all_images images image left));
    alone = synced_alone g setup.names.items (contents (g.files disk) journal_name) disk now others time;
  };
  unopened_as_found = λ once. leaves_as time (λ image left. inl left);
  recoverable_once_synced = λ once. inr (refl, λ name none. still_stable (g.files disk) (g.files now) own images name);
  left_once_synced = λ once kept. (leaves_as time kept, λ image left. kept image (all_images images image left));
}

module _ {D : Type 0} (g : Ghosts D)
    (setup : Setup) (disk mid : D) (began : g.honest mid → g.honest disk)
    (own : g.honest mid → (name : List ℕ) → IsImage (g.files mid name) (g.files mid name).content)
    (synced : g.honest mid → AreSynced (stored setup.names.items) (g.files disk) (g.files mid))
    (images : g.honest mid → (name bytes : List ℕ) → IsImage (g.files mid name) bytes → IsImage (g.files disk name) bytes)
    (others : g.honest mid → (name : List ℕ) → IsNotStored setup.names.items name → g.files mid name ≡ g.files disk name)
    (time : g.honest mid → LeavesOver g disk mid (AreImages (g.files disk))) where
  reopened_from : (new : List ℕ → FileState) → g.honest mid → IsReopened (g.files mid) new → IsReopened (g.files disk) new
  reopened_from new h is = record {
    recovered_then = subst (λ (f : Image). IsSomeAnd (recovered f) (SameFiles (contents new))) (synced h).same is.recovered_then;
    journal = is.journal ∙ ap (λ (f : Image). closed_journal (f journal_name)) (synced h).same;
    gate = is.gate;
    rest = λ fit each. is.rest (still_recoverable (g.files disk) (g.files mid) (own h) (images h) fit) (still_recovers (g.files disk) (g.files mid) (own h) (images h) each);
  }

  -- the files that are none of the run's are left alone by the syncs, and by what leaves them alone
  -- then
  alone_behind : (new : D) → g.honest mid → LeavesAlone g (IsForeign setup.names.items (contents (g.files mid) journal_name)) mid new
      → LeavesAlone g (IsForeign setup.names.items (contents (g.files disk) journal_name)) disk new
  alone_behind new h alone =
      let journal = contents (g.files disk) journal_name in
      alone_then g (IsForeign setup.names.items journal) disk mid new (synced_alone g setup.names.items journal disk mid (others h) (time h))
      (subst (λ (f : Image). LeavesAlone g (IsForeign setup.names.items (f journal_name)) mid new) (synced h).same alone)

  module _ {now : D} {end : ServeEnd} {io : Exchange}
      (served : ServesOver g setup mid now end io) where
    pub served_from : ServesOver g setup disk now end io
    served_from = record {
      first = served.first;
      last = served.last;
      began = λ h. began (served.began h);
      reopened = λ h. reopened_from (g.files served.first.store.disk) (served.began h) (served.reopened h);
      begins = served.begins;
      sizes = served.sizes;
      texts = served.texts;
      dirty_files = served.dirty_files;
      alone = λ h. alone_behind served.first.store.disk (served.began h) (served.alone h);
      run = served.run;
      given_up = served.given_up;
      settled = served.settled;
      reported = served.reported;
      so_far = served.so_far;
      serves = served.serves;
    }

    pub breaks_from : g.failures mid ≡ g.failures disk → BreaksByCount served → BreaksByCount served_from
    unfolding served_from
    breaks_from same breaks = grind (arith, common_steps)

    first_honest : (later : Trace D) → IsIntermediate served later → g.honest later.store.disk → g.honest served.first.store.disk
    first_honest later (inl way) h = (sound_traced g (up_to served.run later way) h).1
    first_honest later (inr same) h = (sound_traced g served.run (subst (λ (p : Trace D). g.honest p.store.disk) same h)).1

    to_later : (here later : Trace D) → IsIntermediateTo served here later → IsIntermediate served later
    to_later here later (inl to) = inl to.0
    to_later here later (inr to) = inr to.0

    module _ (lasting : IsRecoverable (g.files mid) → EachRecovers (g.files mid) → IsDurable served) (Before : Image → Type 0)
        (ready : g.honest served.first.store.disk → IsRecoverable (g.files mid) × EachRecovers (g.files mid))
        (early : (image : Image) → AreImages (g.files disk) image → Before image)
        (late : g.honest served.first.store.disk → (image : Image) → RecoversAsBefore (g.files mid) image → Before image) where
      lasts : g.honest served.first.store.disk → IsDurable served
      lasts h = lasting (ready h).0 (ready h).1

      pub lasts_from : DurableFrom served_from Before
      unfolding served_from
      lasts_from = record {
        any_moment = λ later way h.
            let first = first_honest later way h in
            leaves_behind (time (served.began first)) ((lasts first).any_moment later way h) (λ image left. inl (early image left))
            (λ image left. ⊎_elim (λ before. inl (late first image before)) (λ holds. inr holds) left);
        since = λ here later way h sound. (lasts (first_honest later (to_later here later way) h)).since here later way h sound;
        whole_moment = λ whole later way h.
            let first = first_honest later (inl way) h in
            leaves_behind (time (served.began first)) ((lasts first).whole_moment whole later way h) (λ image left. inl (early image left))
            (λ image left. ⊎_elim (λ before. inl (late first image before)) (λ holds. inr holds) left);
        whole_since = λ whole here later way to h sound. (lasts (first_honest later (inl way) h)).whole_since whole here later way to h sound;
        ended = λ h well image left.
            let last : g.honest served.last.store.disk = subst g.honest served.given_up h in
            (lasts (sound_traced g served.run last).1).ended h well image left;
      }

    -- a crash leaves no changed file
    pub left_from : (IsRecoverable (g.files mid) → EachRecovers (g.files mid) → EachIsLeft (g.files mid) → LeavesNoneChanged served)
        → (g.honest served.first.store.disk → IsRecoverable (g.files mid) × EachRecovers (g.files mid)) → EachIsLeft (g.files disk) → LeavesNoneChanged served_from
    unfolding served_from
    left_from leaving ready kept later way h =
        let first = first_honest later way h in
        let m = served.began first in
        left_then g disk mid later.store.disk (leaves_as (time m) kept) (leaving (ready first).0 (ready first).1 (λ image left. kept image (all_images (images m) image left)) later way h)

    -- over a disk that was recoverable
    pub ready_recoverable : IsRecoverable (g.files disk) → EachRecovers (g.files disk) → g.honest served.first.store.disk → IsRecoverable (g.files mid) × EachRecovers (g.files mid)
    ready_recoverable fit each h =
        let m = served.began h in
        (still_recoverable (g.files disk) (g.files mid) (own m) (images m) fit, still_recovers (g.files disk) (g.files mid) (own m) (images m) each)

    pub lasts_recoverable : (IsRecoverable (g.files mid) → EachRecovers (g.files mid) → IsDurable served) → IsRecoverable (g.files disk) → EachRecovers (g.files disk) → IsDurable served_from
    lasts_recoverable lasting fit each =
        lasts_from lasting (RecoversAsBefore (g.files disk)) (ready_recoverable fit each)
        (as_before (g.files disk) each)
        (λ h image before. let m = served.began h in as_at_first (g.files disk) (g.files mid) (own m) (images m) image before)

    -- over one that is recoverable now
    pub ready_found : IsRecoverableOnceSynced setup.names.items (g.files disk) → g.honest served.first.store.disk → IsRecoverable (g.files mid) × EachRecovers (g.files mid)
    ready_found once h =
        let m = served.began h in
        let good = subst (λ (f : Image). IsTrue (is_some (recovered f))) (synced m).same (some_recovers (contents (g.files mid)) (contents (g.files served.first.store.disk)) (served.reopened h).recovered_then) in (
          now_recoverable (g.files disk) (g.files mid) (own m) setup.names.items (synced m) (others m) once,
          now_recovers (g.files disk) (g.files mid) (own m) setup.names.items (synced m) (others m) once good,
        )

    pub lasts_found : (IsRecoverable (g.files mid) → EachRecovers (g.files mid) → IsDurable served) → IsRecoverableOnceSynced setup.names.items (g.files disk) → DurableFrom served_from (IsAsFound (g.files disk))
    lasts_found lasting once =
        lasts_from lasting (IsAsFound (g.files disk)) (ready_found once)
        (λ image left. inl left)
        (λ h image before. let m = served.began h in inr (as_read (g.files disk) (g.files mid) (own m) setup.names.items (synced m) (others m) once image before))

  -- what is setup.names.items back of a run after the syncs
  module _ {now : D} {end : Result ServeEnd OpenFault} (h : g.honest mid) (later : LeavesDiskOfRun g setup mid now end) where
    left_behind : EachIsLeft (g.files disk) → LeavesOver g mid now IsLeft × EachIsLeft (g.files now) → LeavesOver g disk now IsLeft × EachIsLeft (g.files now)
    left_behind kept left = (left_then g disk mid now (leaves_as (time h) kept) left.0, left.1)

    kept_mid : EachIsLeft (g.files disk) → EachIsLeft (g.files mid)
    kept_mid kept image left = kept image (all_images (images h) image left)

    still_leaves_disk : LeavesDiskOfRun g setup disk now end
    still_leaves_disk = record {
      unopened = λ fit each. if_err end (λ fault left. leaves_behind (time h) left (as_before (g.files disk) each) (as_at_first (g.files disk) (g.files mid) (own h) (images h)))
          (later.unopened (still_recoverable (g.files disk) (g.files mid) (own h) (images h) fit) (still_recovers (g.files disk) (g.files mid) (own h) (images h) each));
      unopened_bad = λ none.
          let bad = later.unopened_bad (ap recovered (synced h).same ∙ none) in
          (bad.0, leaves_behind (time h) bad.1 (λ image left. left) (all_images (images h)));
      unopened_closed = λ closed. if_err end (λ fault left. leaves_behind (time h) left (λ image left. left) (all_images (images h)))
          (later.unopened_closed (subst (λ (f : Image). IsTrue (is_closed (f journal_name))) (sym (synced h).same) closed));
      recoverable = λ fit each. later.recoverable (still_recoverable (g.files disk) (g.files mid) (own h) (images h) fit) (still_recovers (g.files disk) (g.files mid) (own h) (images h) each);
      left = λ fit each kept. left_behind kept
          (later.left (still_recoverable (g.files disk) (g.files mid) (own h) (images h) fit) (still_recovers (g.files disk) (g.files mid) (own h) (images h) each) (kept_mid kept));
      alone = alone_behind now h later.alone;
    }

    pub synced_leaves_disk : ((name : List ℕ) → IsImage (g.files now name) (g.files now name).content)
        → ((t : ℕ) (image : Image) → t ≤ g.instant now → AreImages (g.files now) image → g.left_since now t image) → LeavesSyncedDisk g setup disk now end
    synced_leaves_disk own_now counts_now = record {
      leaves_disk = still_leaves_disk;
      unopened_as_found = λ once. elim (some_or_none (contents (g.files disk))) [
        | inl good ↦ if_err end
            (λ fault left. leaves_behind (time h) left (λ image found. inl found) (λ image before. inr (as_read (g.files disk) (g.files mid) (own h) setup.names.items (synced h) (others h) once image before)))
            (later.unopened (now_recoverable (g.files disk) (g.files mid) (own h) setup.names.items (synced h) (others h) once)
            (now_recovers (g.files disk) (g.files mid) (own h) setup.names.items (synced h) (others h) once good))
        | inr none ↦ if_err_always end (leaves_as (still_leaves_disk.unopened_bad none).1 (λ image left. inl left))
      ];
      recoverable_once_synced = λ once. elim (some_or_none (contents (g.files disk))) [
        | inl good ↦ inl (later.recoverable (now_recoverable (g.files disk) (g.files mid) (own h) setup.names.items (synced h) (others h) once)
            (now_recovers (g.files disk) (g.files mid) (own h) setup.names.items (synced h) (others h) once good))
        | inr none ↦
            let bad = later.unopened_bad (ap recovered (synced h).same ∙ none) in
            let kept = each_image own_now (λ image left. bad.1.each image (counts_now (g.instant mid) image bad.1.passes.later left)) in
            inr (bad.0, λ name outside stable. still_stable (g.files mid) (g.files now) own_now kept name (still_stable (g.files disk) (g.files mid) (own h) (images h) name stable))
      ];
      left_once_synced = λ once kept. elim (some_or_none (contents (g.files disk))) [
        | inl good ↦ left_behind kept
            (later.left (now_recoverable (g.files disk) (g.files mid) (own h) setup.names.items (synced h) (others h) once)
            (now_recovers (g.files disk) (g.files mid) (own h) setup.names.items (synced h) (others h) once good) (kept_mid kept))
        | inr none ↦
            let bad = (still_leaves_disk.unopened_bad none).1 in (leaves_as bad kept, λ image left. kept image (bad.each image (counts_now (g.instant disk) image bad.passes.later left)))
      ];
    }

-- what is said of a run over a disk as it is
abbrev pub RunsDisk : {D : Type 0} → Ghosts D → Setup → ℕ → D → D → Result ServeEnd OpenFault → Exchange → Type 0
RunsDisk g setup max_reads disk now end io = RunsAs g setup max_reads disk now end io (λ end. ServesDisk g setup disk now end io) (LeavesDiskOfRun g setup disk now end)

-- the files were synced, and this is said of the run after that
pub runs_synced : {D : Type 0} (g : Ghosts D)
    → ((disk : D) (name : List ℕ) → g.honest disk → IsImage (g.files disk name) (g.files disk name).content)
    → ((disk : D) (t : ℕ) (image : Image) → g.honest disk → t ≤ g.instant disk → AreImages (g.files disk) image → g.left_since disk t image)
    → (setup : Setup) {max_reads : ℕ} (disk mid now : D) (end : Result ServeEnd OpenFault) {io : Exchange} {done : Unit {0}}
    → Syncs {A = Unit {0}} {E = OpenFault} g (stored setup.names.items) disk mid (Ok done) → AnswersSync {A = Unit {0}} setup.names.items disk mid (Ok done)
    → CountsFailures g disk mid (IsErrOf {T = Unit {0}} {E = OpenFault} (Ok done) open_fault.Device)
    → RunsDisk g setup max_reads mid now end io → RunsSynced g setup max_reads disk now end io
runs_synced g own counts_now setup disk mid now end syncs answers counts run =
    let given = setup.names.items in
    let began = counts.was_honest in
    let own_mid = λ (h : g.honest mid) (name : List ℕ). own mid name h in
    let done = λ (h : g.honest mid). (syncs h).done in
    let images = λ (h : g.honest mid). (syncs h).images in
    let others = λ (h : g.honest mid). (syncs h).others in
    let time = λ (h : g.honest mid). (syncs h).any_moment in
    record {
      served = IfOk-weaker end _ _ (λ end had. record {
        serves = record {
          served = served_from g setup disk mid began own_mid done images others time had.served;
          breaks = breaks_from g setup disk mid began own_mid done images others time had.served (counts.equal ok_apart) had.breaks;
          alone = leaves_foreign (served_from g setup disk mid began own_mid done images others time had.served);
          lists = lists_files (served_from g setup disk mid began own_mid done images others time had.served);
          lasts = lasts_recoverable g setup disk mid began own_mid done images others time had.served had.lasts;
          left = λ fit each kept. left_from g setup disk mid began own_mid done images others time had.served had.left (ready_recoverable g setup disk mid began own_mid done images others time had.served fit each) kept;
        };
        lasts_found = lasts_found g setup disk mid began own_mid done images others time had.served had.lasts;
        left_found = λ once kept. left_from g setup disk mid began own_mid done images others time had.served had.left (ready_found g setup disk mid began own_mid done images others time had.served once) kept;
      }) run.served;
      leaves_disk = λ honest. synced_leaves_disk g setup disk mid began own_mid done images others time
          (run.accounts.was_honest honest) (run.leaves_disk honest) (λ name. own now name honest) (λ t image within left. counts_now now t image honest within left);
      refused = if_err end (λ fault (had : IsRefusedFor g given mid now fault). record {
        reason = reason_before given (g.honest now) (contents (g.files disk)) (contents (g.files mid)) (contents (g.files now))
            (λ h. (done (run.accounts.was_honest h)).same) fault had.reason;
        unused = λ is. absurd (few_or_many given answers.few (subst (IsReason given (g.honest now) (contents (g.files mid)) (contents (g.files now))) is had.reason));
      }) run.refused;
      unserved = run.unserved;
      causes = run.causes;
      accounts = accounts_after counts (subst (λ (n : ℕ). CountsFailures g mid now (SaysFailure end n (g.failures now))) (counts.equal ok_apart) run.accounts);
    }
