-- A whole run over a disk: an opening, and what is served then.
use Rattle.std.proofs.Common.{◌≡◌, ◌⊎◌, inl, inr, ⊎_elim, ℕ, ◌≤◌, Bool, true, false, ◌||◌, if◌then◌else◌, nat_lt, is_some, List, [], ◌∷◌, Option, Some, None, Result, Ok, Err, refl, sym, ap, ◌∙◌, subst, arith}
use Rattle.org_disk.specs.declared.disk.Disk.{Ghosts}
use Rattle.std.specs.Prelude.{IsSomeAnd, IsTrue, IsFalse, slice_get}
use Rattle.org_disk.specs.CountsFailures.{LeavesOver}
use Rattle.org_disk.specs.Disk.{AreImages, HasRisen, LeavesOnly}
use Rattle.org_disk.specs.Names.{journal_name}
use Rattle.org_disk.proofs.Moments.{Image, passes_as, passes_then, leaves_only}
use Rattle.org_journal.specs.Recovered.{SameFiles, RecoversTo, IsRecoverable, recovered, contents}
use Rattle.org_fileset.specs.Left.{EachIsLeft, IsLeft}
use Rattle.org_fileset.specs.Names.{with_archives, AreFew, AreSorted, first_large}
use Rattle.org_fileset.specs.Recovery.{EachRecovers, IsReopened, RecoversAsBefore}
use Rattle.org_fileset.specs.Replay.{IsAtRest}
use Rattle.org_fileset.specs.Writes.{LeavesAlone, IsUnconcerned}
use Rattle.org_fileset.proofs.Writes.{alone_fewer}
use Rattle.org_commands.specs.declared.command.RunFault.{RunFault}
use Rattle.org_commands.specs.declared.command.RunFault.TheVariants as run
use Rattle.org_commands.specs.declared.command.RunFault.TheVariants.{Refused, OutOfMemory, Broken}
use Rattle.org_commands.specs.InOrder.{texts_of, with_texts}
use Rattle.org_store.specs.Calls.{model}
use Rattle.org_store.specs.Opening.{opened}
use Rattle.org_store.specs.Runs.{IsOnDisk}
use Rattle.org_commands.specs.Session.{Session, StoreView, Holds}
use Rattle.org_commands.specs.Step.{Settles}
use Rattle.org_store.proofs.Keeping.{others_same}
use Rattle.org_serve.specs.declared.whole.Setup.{Setup}
use Rattle.org_commands.specs.declared.tally.Group.{Group}
use Rattle.org_commands.specs.declared.tally.Group.TheVariants.{Of, Whole}
use Rattle.org_serve.specs.Lines.{cut}
use Rattle.org_serve.specs.Pipes.{Exchange, output_of}
use Rattle.org_serve.specs.declared.end.ServeEnd.{ServeEnd}
use Rattle.org_serve.specs.declared.end.ServeEnd.TheVariants.{End, Unsettled, Device, Read, Write}
use Rattle.org_store.specs.History.{Trace, Lists}
use Rattle.org_serve.specs.History.{Reaches}
use Rattle.org_serve.specs.Serving.{EndsBy, FinishesGroups, MayHaveSettled, RunsLines, RunsAndWrites, Serves, ServesAll, ServesInput, WritesSome, end_of, stores_while_honest, traces_while_honest, whole_end}
use Rattle.org_serve.specs.Whole.{Begins, ServesOver, ServesDisk, HoldsServed, HoldsWhole, IsForeign, IsIntermediate, IsIntermediateTo, IsDurable}
use Rattle.org_serve.proofs.Foreign.{leaves_foreign}
use Rattle.org_serve.proofs.Lefts.{none_changed}
use Rattle.org_serve.proofs.Places.{lists_begun, lists_files}
use Rattle.org_serve.proofs.Settled.{group_lines, whole_since}
use Rattle.org_serve.proofs.History.{at_first, lift_run, lift_wrote, session_of_traced, since, whole_prefix}
use Rattle.org_serve.proofs.Honest.{sound_last, sound_lines, sound_reaches, sound_traced, sound_traces, up_to}

-- one run after another, of which each leaves something else
leaves_then : {m n k : ℕ} {s u v : ℕ → Image → Type 0} {P Q : Image → Type 0} → LeavesOnly m n s u P → LeavesOnly n k u v Q → LeavesOnly m k s v (λ image. P image ⊎ Q image)
leaves_then {m} first second =
    leaves_only (passes_then (passes_as first.passes (λ image p. inl p)) second.passes (λ image q. inr q))
    (λ image left. inl (first.each image (first.passes.keeps m image (omega arith) left)))

begins : (setup : Setup) (files : Image) (store begun : Session) → begun ≡ record store { group = setup.group }
    → store ≡ opened setup.states store.names (texts_of files store.names) → AreFew setup.names.items → AreSorted (with_archives setup.names.items) store.names → Begins setup files begun
begins setup files store begun is opens few sorted =
    subst (λ (s : Session). Begins setup files s) (sym is) (record { few = few; names = sorted; session = ap (λ (s : Session). record s { group = setup.group }) opens })

-- a store that was opened, and in which the group was set
module _ {D : Type 0} (g : Ghosts D) (setup : Setup) (disk : D) (store begun : StoreView D)
    (is : begun ≡ record store { session = record store.session { group = setup.group } })
    (opens : store.session ≡ opened setup.states store.session.names (texts_of (contents (g.files store.disk)) store.session.names)) where
  same_disk : begun.disk ≡ store.disk
  same_disk = ap (λ (k : StoreView D). k.disk) is

  -- what is known of its disk
  pub of_disk : (P : D → Type 0) → P store.disk → P begun.disk
  of_disk P known = subst P (sym same_disk) known

  pub is_sound : begun.session.broken ≡ false
  is_sound = ap (λ (k : StoreView D). k.session.broken) is ∙ ap (λ (s : Session). s.broken) opens

  -- the session that it begins with
  unedited_so : AreFew setup.names.items → AreSorted (with_archives setup.names.items) store.session.names → Begins setup (contents (g.files begun.disk)) begun.session
  unedited_so few sorted = of_disk (λ d. Begins setup (contents (g.files d)) begun.session)
      (begins setup (contents (g.files store.disk)) store.session begun.session (ap (λ (k : StoreView D). k.session) is) opens few sorted)

  pub serves : AreFew setup.names.items → AreSorted (with_archives setup.names.items) store.session.names
      → (g.honest store.disk → first_large (contents (g.files store.disk)) store.session.names ≡ None)
      → (g.honest begun.disk → g.honest disk) → (g.honest begun.disk → IsReopened (g.files disk) (g.files begun.disk))
      → store.dirty ≡ [] → (g.honest begun.disk → LeavesAlone g (IsUnconcerned (contents (g.files disk) journal_name)) disk begun.disk)
      → {end : ServeEnd} {io : Exchange} (after : StoreView D) (now : D) → now ≡ after.disk
      → (ran : RunsAndWrites (stores_while_honest g) begun after end io)
      → (g.honest now → Serves begun.session end after.session io)
      → ServesOver g setup disk now end io
  serves few sorted sized began reopened dirty_files alone {io = io} after now given_up run reported =
      let first : Trace D = record { store = begun; texts = begun.session.files ∷ [] } in
      let past = lift_wrote g first run in
      let group_is : begun.session.group ≡ setup.group = ap (λ (k : StoreView D). k.session.group) is in record {
        first = first;
        last = record { store = after; texts = (lift_run g first run.0).0 };
        began = began;
        reopened = reopened;
        begins = unedited_so few sorted;
        sizes = subst (λ (k : StoreView D). g.honest k.disk → first_large (contents (g.files k.disk)) k.session.names ≡ None) (sym is) sized;
        texts = refl;
        dirty_files = ap (λ (k : StoreView D). k.dirty) is ∙ dirty_files;
        alone = λ h. alone_fewer g (IsForeign setup.names.items (contents (g.files disk) journal_name)) (IsUnconcerned (contents (g.files disk) journal_name)) disk begun.disk (alone h) (λ name foreign. foreign.unconcerned);
        run = past.0;
        given_up = given_up;
        settled = subst (λ (group : Group). MayHaveSettled group (traces_while_honest g) past.0.mid (record { store = after; texts = (lift_run g first run.0).0 })) group_is past.2;
        reported = λ write. subst (λ (group : Group). WritesSome group past.0.input past.0.others past.0.out after.session.acknowledged (output_of io)) group_is (past.1 write);
        so_far = λ here way honestly.
            session_of_traced g first way.answered way.written here
            (sound_lines g first way.answered way.written here way.before honestly).0;
        serves = reported;
      }

on_disk_first : (setup : Setup) (files : Image) (begin : Session) → Begins setup files begin → IsOnDisk begin files
on_disk_first setup files begin begins =
    subst (λ texts. SameFiles files (with_texts begin.names texts files)) (sym (ap (λ (s : Session). s.settled) begins.session)) (others_same begin.names files)

-- an image that recovers to files
recovers_to : (image texts : Image) → RecoversTo texts image → is_some (recovered image) ≡ true
recovers_to image texts holds = some (recovered image) holds
  where
    some : (found : Option Image) → IsSomeAnd found (λ found. SameFiles found texts) → is_some found ≡ true
    some None held = absurd held
    some (Some found) held = refl

-- of a disk that a crash leaves so, each image recovers to files
pub each_recovers : {D : Type 0} (g : Ghosts D) (disk now : D) (P : Image → Type 0)
    → ((image : Image) → AreImages (g.files now) image → g.left_since now (g.instant disk) image)
    → LeavesOnly (g.instant disk) (g.instant now) (g.left_since disk) (g.left_since now) P → ((image : Image) → P image → (texts : Image) × RecoversTo texts image) → EachRecovers (g.files now)
each_recovers g disk now P counts leaves each image left = let holds = each image (leaves.each image (counts image left)) in recovers_to image holds.0 holds.1

-- a store that ended well has settled all
ended : (broken pending : Bool) (s : Session) (out : List ℕ) (new : Session) → EndsBy model broken pending s End out new → broken ≡ s.broken → (pending ≡ false → s.accepted ≤ s.acknowledged)
    → (new.broken ≡ false) × (new.accepted ≤ new.acknowledged)
ended true pending s out new ends is none = absurd (apart ends.0)
  where
    apart : End ≡ Device → ⊥
    apart same = cc
ended false true s out new ends is none = settles ends.0 ends.1 ends.2
  where
    settles : (answer : Result (Unit {0}) RunFault) → Settles s answer new → End ≡ end_of answer → (new.broken ≡ false) × (new.accepted ≤ new.acknowledged)
    settles (Ok done) step same = subst (λ (t : Session). (t.broken ≡ false) × (t.accepted ≤ t.acknowledged)) (sym step.1) (step.0, omega arith)
    settles (Err (Refused why)) step same = absurd step
    settles (Err OutOfMemory) step same = absurd (cc)
    settles (Err run.Device) step same = absurd (cc)
    settles (Err Broken) step same = absurd (cc)
ended false false s out new ends is none = subst (λ (t : Session). (t.broken ≡ false) × (t.accepted ≤ t.acknowledged)) (sym ends.2) (sym is, none refl)

-- .. and so has one that did an input whole
end_unrefused : (broken : Bool) → End ≡ (if broken then Device else Unsettled) → ⊥
end_unrefused true is = cc
end_unrefused false is = cc

ended_whole : (rest : List ℕ) (s : Session) → End ≡ whole_end rest s → (s.broken ≡ false) × (s.accepted ≤ s.acknowledged)
ended_whole [] s is = go s.broken (nat_lt s.acknowledged s.accepted) refl refl is
  where
    go : (broken pending : Bool) → s.broken ≡ broken → nat_lt s.acknowledged s.accepted ≡ pending → End ≡ (if pending || broken then (if broken then Device else Unsettled) else End)
        → (s.broken ≡ false) × (s.accepted ≤ s.acknowledged)
    go broken true fell some same = absurd (end_unrefused broken same)
    go true false fell some same = absurd (end_unrefused true same)
    go false false fell none same = (fell, grind (arith, none))
ended_whole (b ∷ rest) s is = absurd (end_unrefused s.broken is)

module _ {D : Type 0} {g : Ghosts D}
    (only_now : (disk : D) (image : Image) → g.honest disk → g.left_since disk (g.instant disk) image → AreImages (g.files disk) image)
    (counts_now : (disk : D) (t : ℕ) (image : Image) → g.honest disk → t ≤ g.instant disk → AreImages (g.files disk) image → g.left_since disk t image)
    {setup : Setup} {disk now : D} {end : ServeEnd} {io : Exchange}
    (served : ServesOver g setup disk now end io) where
  session_is : served.first.store.session ≡ record (opened setup.states served.first.store.session.names (texts_of (contents (g.files served.first.store.disk)) served.first.store.session.names)) { group = setup.group }
  session_is = served.begins.session

  lists : Lists served.first.store.session served.first.texts
  lists = lists_begun served

  on_disk : IsOnDisk served.first.store.session (contents (g.files served.first.store.disk))
  on_disk = on_disk_first setup (contents (g.files served.first.store.disk)) served.first.store.session served.begins

  -- What a crash leaves of a run up to one store, over a disk that is honest there, where the
  -- opening left it at rest.
  module _ (later : Trace D) {crashes : ServeEnd} (run : RunsLines (sound_traces g) served.first later crashes io) (began : g.honest served.first.store.disk) (honestly : g.honest later.store.disk)
      (rest : IsAtRest (g.files served.first.store.disk)) where
    since_in : (here : Trace D) → Reaches (sound_traces g) served.first run.ran run.out run.mid here ⊎ (here ≡ later) → here.store.session.broken ≡ false
        → LeavesOnly (g.instant here.store.disk) (g.instant later.store.disk) (g.left_since here.store.disk) (g.left_since later.store.disk) (HoldsServed served here later)
    since_in here way sound = since g only_now run began honestly rest on_disk lists here way sound

    moment_in : LeavesOnly (g.instant disk) (g.instant served.first.store.disk) (g.left_since disk) (g.left_since served.first.store.disk) (RecoversAsBefore (g.files disk))
        → LeavesOnly (g.instant disk) (g.instant later.store.disk) (g.left_since disk) (g.left_since later.store.disk) (λ image. RecoversAsBefore (g.files disk) image ⊎ HoldsServed served served.first later image)
    moment_in opening =
        let first = served.first in
        let sound : first.store.session.broken ≡ false = ap (λ (s : Session). s.broken) session_is in
        let leaves = since_in first (inl (at_first first run.mid run.ran run.out run.answered)) sound in
        leaves_then opening leaves

    whole_in : later.store.session.broken ≡ false → later.store.session.accepted ≤ later.store.session.acknowledged → (image : Image) → AreImages (g.files later.store.disk) image
        → Holds served.first.store.session (contents (g.files served.first.store.disk)) later.store.session.files image
    whole_in sound all image images =
        whole_prefix g only_now run began honestly rest on_disk lists image sound all
        ((since_in later (inr refl) sound).each image (counts_now later.store.disk (g.instant later.store.disk) image honestly (omega arith) images))

  apart_read : End ≡ Read → ⊥
  apart_read same = cc

  apart_write : End ≡ Write → ⊥
  apart_write same = cc

  not_less : (a b : ℕ) → nat_lt a b ≡ false → b ≤ a
  not_less a b not = grind (arith, not)

  all_settled : g.honest now → end ≡ End → (served.last.store.session.broken ≡ false) × (served.last.store.session.accepted ≤ served.last.store.session.acknowledged)
  all_settled honest_now well =
      let whole = (served.serves honest_now).all (λ (read : end ≡ Read). apart_read (sym well ∙ read)) (λ (write : end ≡ Write). apart_write (sym well ∙ write)) in
      all_of served.first.store.session.group whole
    where
      end_of_all : (group : Group) → ServesAll group model served.first.store.session end served.last.store.session io
          → (served.last.store.session.broken ≡ false) × (served.last.store.session.accepted ≤ served.last.store.session.acknowledged)
      end_of_all (Of size) all =
          let says = all.4 in
          let finish : FinishesGroups model says.0 End says.3 served.last.store.session = subst (λ e. FinishesGroups model says.0 e says.3 served.last.store.session) well says.6 in
          ended says.0.broken (nat_lt says.0.acknowledged says.0.accepted) says.0 says.3 served.last.store.session finish refl (not_less says.0.acknowledged says.0.accepted)
      end_of_all Whole all =
          let says = all.4 in
          let whole = ended_whole (cut all.0).rest says.0 (sym well ∙ says.6.0) in
          subst (λ (t : Session). (t.broken ≡ false) × (t.accepted ≤ t.acknowledged)) (sym says.6.2) whole

      all_of : (group : Group) → ServesInput group model served.first.store.session end served.last.store.session io
          → (served.last.store.session.broken ≡ false) × (served.last.store.session.accepted ≤ served.last.store.session.acknowledged)
      all_of (Of size) all = end_of_all (Of size) all
      all_of Whole (inl all) = end_of_all Whole all
      all_of Whole (inr stop) = absurd (end_unrefused served.last.store.session.broken (sym well ∙ stop.9))

  -- What a crash leaves of the whole run.
  module _ (rest : g.honest served.first.store.disk → IsAtRest (g.files served.first.store.disk))
      (opening : g.honest served.first.store.disk → LeavesOnly (g.instant disk) (g.instant served.first.store.disk) (g.left_since disk) (g.left_since served.first.store.disk) (RecoversAsBefore (g.files disk))) where
    moment_at_last : g.honest served.last.store.disk
        → LeavesOnly (g.instant disk) (g.instant served.last.store.disk) (g.left_since disk) (g.left_since served.last.store.disk) (λ image. RecoversAsBefore (g.files disk) image ⊎ HoldsServed served served.first served.last image)
    moment_at_last honestly =
        let whole = sound_traced g served.run honestly in
        moment_in served.last whole.0 whole.1 honestly (rest whole.1) (opening whole.1)

    moment_at : (later : Trace D) → IsIntermediate served later → g.honest later.store.disk
        → LeavesOnly (g.instant disk) (g.instant later.store.disk) (g.left_since disk) (g.left_since later.store.disk) (λ image. RecoversAsBefore (g.files disk) image ⊎ HoldsServed served served.first later image)
    moment_at later (inl way) honestly =
        let whole = sound_traced g (up_to served.run later way) honestly in
        moment_in later whole.0 whole.1 honestly (rest whole.1) (opening whole.1)
    moment_at later (inr same) honestly =
        subst (λ (p : Trace D). LeavesOnly (g.instant disk) (g.instant p.store.disk) (g.left_since disk) (g.left_since p.store.disk) (λ image. RecoversAsBefore (g.files disk) image ⊎ HoldsServed served served.first p image)) (sym same)
        (moment_at_last (subst (λ (p : Trace D). g.honest p.store.disk) same honestly))

    since_at_last : (here : Trace D) → IsIntermediate served here → g.honest served.last.store.disk → here.store.session.broken ≡ false
        → LeavesOnly (g.instant here.store.disk) (g.instant served.last.store.disk) (g.left_since here.store.disk) (g.left_since served.last.store.disk) (HoldsServed served here served.last)
    since_at_last here way honestly sound =
        let whole = sound_traced g served.run honestly in
        since_in served.last whole.0 whole.1 honestly (rest whole.1) here
        (⊎_elim
        (λ reaches. inl (sound_reaches g served.first served.run.ran served.run.out served.run.mid here reaches
        (sound_last g served.run.mid served.last served.run.ends honestly)))
        (λ same. inr same)
        way)
        sound

    since_at : (here later : Trace D) → IsIntermediateTo served here later → g.honest later.store.disk → here.store.session.broken ≡ false
        → LeavesOnly (g.instant here.store.disk) (g.instant later.store.disk) (g.left_since here.store.disk) (g.left_since later.store.disk) (HoldsServed served here later)
    since_at here later (inl to) honestly sound =
        let whole = sound_traced g (up_to served.run later to.0) honestly in
        since_in later whole.0 whole.1 honestly (rest whole.1) here
        (inl (sound_reaches g served.first to.0.answered to.0.written later here to.1 honestly)) sound
    since_at here later (inr to) honestly sound =
        subst (λ (p : Trace D). LeavesOnly (g.instant here.store.disk) (g.instant p.store.disk) (g.left_since here.store.disk) (g.left_since p.store.disk) (HoldsServed served here p)) (sym to.0)
        (since_at_last here to.1 (subst (λ (p : Trace D). g.honest p.store.disk) to.0 honestly) sound)

    -- Where commands are to be done whole.

    group_is : served.first.store.session.group ≡ setup.group
    group_is = ap (λ (s : Session). s.group) session_is

    whole_at : setup.group ≡ Whole → (here later : Trace D)
        → (way : Reaches (traces_while_honest g) served.first served.run.ran served.run.out served.run.mid later) → (to : Reaches (traces_while_honest g) served.first way.answered way.written later here)
        → g.honest later.store.disk → here.store.session.broken ≡ false
        → LeavesOnly (g.instant here.store.disk) (g.instant later.store.disk) (g.left_since here.store.disk) (g.left_since later.store.disk) (HoldsWhole served here to.others to.more later)
    whole_at whole here later way to honestly sound =
        let began = (sound_lines g served.first way.answered way.written later way.before honestly).1 in
        let honest_here = (sound_lines g here to.others to.more later to.behind honestly).1 in
        let from = (sound_lines g served.first to.answered to.written here to.before honest_here).0 in
        whole_since g only_now served.first here later to.others to.more honestly (rest began) on_disk lists to.behind to.answered to.written from sound
        (group_lines g served.first here to.answered to.written from ∙ group_is ∙ whole)

    whole_moment_at : setup.group ≡ Whole → (later : Trace D) → (way : Reaches (traces_while_honest g) served.first served.run.ran served.run.out served.run.mid later) → g.honest later.store.disk
        → LeavesOnly (g.instant disk) (g.instant later.store.disk) (g.left_since disk) (g.left_since later.store.disk)
        (λ image. RecoversAsBefore (g.files disk) image ⊎ HoldsWhole served served.first way.answered way.written later image)
    whole_moment_at whole later way honestly =
        let began = (sound_lines g served.first way.answered way.written later way.before honestly).1 in
        leaves_then (opening began)
        (whole_since g only_now served.first served.first later way.answered way.written honestly (rest began) on_disk lists way.before [] [] (refl, refl)
        (ap (λ (s : Session). s.broken) session_is) (group_is ∙ whole))

    pub lasts : IsDurable served
    lasts = record {
      any_moment = moment_at;
      since = since_at;
      whole_moment = whole_moment_at;
      whole_since = whole_at;
      ended = λ honest_now well image images.
          let honestly : g.honest served.last.store.disk = subst g.honest served.given_up honest_now in
          let whole = sound_traced g served.run honestly in
          let done = all_settled honest_now well in
          whole_in served.last whole.0 whole.1 honestly (rest whole.1) done.0 done.1 image (subst (λ d. AreImages (g.files d) image) served.given_up images);
    }

  -- what a crash leaves of it at the end
  at_end : g.honest now → IsDurable served → LeavesOnly (g.instant disk) (g.instant now) (g.left_since disk) (g.left_since now) (λ image. RecoversAsBefore (g.files disk) image ⊎ HoldsServed served served.first served.last image)
  at_end honest_now lasts =
      subst (λ d. LeavesOnly (g.instant disk) (g.instant d) (g.left_since disk) (g.left_since d) (λ image. RecoversAsBefore (g.files disk) image ⊎ HoldsServed served served.first served.last image)) (sym served.given_up)
      (lasts.any_moment served.last (inr refl) (subst g.honest served.given_up honest_now))

  -- each image of the disk that is left recovers to files
  pub left_recovers : g.honest now → IsDurable served → EachRecovers (g.files now)
  left_recovers honest_now lasts =
      let leaves = at_end honest_now lasts in
      each_recovers g disk now (λ image. RecoversAsBefore (g.files disk) image ⊎ HoldsServed served served.first served.last image)
      (λ image left. counts_now now (g.instant disk) image honest_now leaves.passes.later left) leaves (λ image left. elim left [
        | inl before ↦ (before.texts, before.recovers_now)
        | inr holds ↦ some image (slice_get served.last.texts holds.count) holds.holds
      ])
    where
      some : (image : Image) (found : Option (List (List ℕ))) → IsSomeAnd found (λ texts. Holds served.first.store.session (contents (g.files served.first.store.disk)) texts image) → (texts : Image) × RecoversTo texts image
      some image None held = absurd held
      some image (Some texts) held = (with_texts served.first.store.session.names texts (contents (g.files served.first.store.disk)), held)

-- a store that was opened, and in which the group was set: what it serves, and what a crash leaves
module _ {D : Type 0} (g : Ghosts D)
    (only_now : (disk : D) (image : Image) → g.honest disk → g.left_since disk (g.instant disk) image → AreImages (g.files disk) image)
    (counts_now : (disk : D) (t : ℕ) (image : Image) → g.honest disk → t ≤ g.instant disk → AreImages (g.files disk) image → g.left_since disk t image)
    (setup : Setup) (disk : D) (store begun : StoreView D)
    (is : begun ≡ record store { session = record store.session { group = setup.group } })
    (opens : store.session ≡ opened setup.states store.session.names (texts_of (contents (g.files store.disk)) store.session.names)) where
  pub serves_lasting : AreFew setup.names.items → AreSorted (with_archives setup.names.items) store.session.names → (g.honest store.disk → first_large (contents (g.files store.disk)) store.session.names ≡ None)
      → (g.honest begun.disk → g.honest disk) → (g.honest begun.disk → IsReopened (g.files disk) (g.files begun.disk))
      → store.dirty ≡ [] → (g.honest begun.disk → LeavesAlone g (IsUnconcerned (contents (g.files disk) journal_name)) disk begun.disk)
      → {end : ServeEnd} {io : Exchange} (after : StoreView D) (now : D) → now ≡ after.disk
      → (ran : RunsAndWrites (stores_while_honest g) begun after end io)
      → (g.honest now → Serves begun.session end after.session io)
      → (IsRecoverable (g.files disk) → EachRecovers (g.files disk) → g.honest begun.disk → LeavesOnly (g.instant disk) (g.instant begun.disk) (g.left_since disk) (g.left_since begun.disk) (RecoversAsBefore (g.files disk)))
      → (IsRecoverable (g.files disk) → EachRecovers (g.files disk) → EachIsLeft (g.files disk) → g.honest begun.disk → LeavesOver g disk begun.disk IsLeft)
      → (IsTrue after.session.broken → HasRisen (g.failures disk) (g.failures now)) × (IsFalse after.session.broken → g.failures now ≡ g.failures disk)
      → ServesDisk g setup disk now end io
  unfolding serves
  serves_lasting few sorted sized began reopened dirty_files alone after now given_up run reported opening opening_left counts =
      let served = serves g setup disk store begun is opens few sorted sized began reopened dirty_files alone after now given_up run reported in
      record {
        served = served;
        breaks = record { broken = counts.0; sound = counts.1 };
        alone = leaves_foreign served;
        lists = lists_files served;
        lasts = λ fit each. lasts only_now counts_now served (λ honestly. (reopened honestly).rest fit each) (λ honestly. opening fit each honestly);
        left = λ fit each kept. none_changed only_now served (λ honestly. (reopened honestly).rest fit each) (λ honestly. opening_left fit each kept honestly);
      }
