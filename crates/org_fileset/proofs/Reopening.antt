-- An opening's steps: a look at the journal, and what finishes what was found there.
use Rattle.std.proofs.Common.{◌≡◌, ◌≢◌, inl, inr, ℕ, ◌<◌, ◌≤◌, List, [], ◌∷◌, length, drop, true, false, Result, Ok, Err, IfOk, OnOk, None, refl, sym, ◌∙◌, ap, subst, arith}
use Rattle.org_disk.specs.declared.disk.Disk.{Ghosts}
use Rattle.std.specs.Prelude.{IsSomeAnd}
use Rattle.std.proofs.lemmas.Result.{on_ok_weaker}
use Rattle.org_disk.specs.Disk.{FileState, IsImage, IsStable, AreImages, AreLeftBy, Changes, sync}
use Rattle.org_disk.specs.CountsFailures.{LooksOver, PassesOver}
use Rattle.org_disk.specs.Names.{journal_name}
use Rattle.org_splice.specs.Overwritten.{overwritten}
use Rattle.org_disk.specs.declared.disk.DiskFault.{DiskFault}
use Rattle.org_disk.proofs.Images.{stable_is}
use Rattle.org_disk.proofs.Moments.{leaves_only, passes_as, passes_then}
use Rattle.org_disk.proofs.Names.{name_cases}
use Rattle.org_journal.specs.declared.record.Entry.{Entry}
use Rattle.org_journal.specs.declared.fault.FindFault.{FindFault}
use Rattle.org_journal.specs.declared.fault.FindFault.TheVariants.{BadJournal}
use Rattle.org_journal.specs.declared.finding.Found.{Found}
use Rattle.org_journal.specs.declared.finding.Found.TheVariants.{Open, Closed}
use Rattle.org_journal.specs.Finding.{EndsAt, Finds, IsWhole}
use Rattle.org_journal.specs.Gate.{front_size, is_open, HasClosedGate, HasSameRecord, LeavesClosed, LeavesRecord, Puts}
use Rattle.org_journal.specs.Reading.{journal_at}
use Rattle.org_journal.specs.Recovered.{Image, SameFiles, IsRecoverable, recovered, all_fit, contents, replayed}
use Rattle.org_fileset.specs.Left.{EachIsLeft, IsLeft, IsLeftBy}
use Rattle.std.specs.List.{AllByRecursion}
use Rattle.std.specs.Str.{bytes_eq}
use Rattle.org_fileset.specs.Looking.{IsLookedAt, IsFoundIn}
use Rattle.org_fileset.specs.Opening.{IsFit}
use Rattle.org_fileset.specs.Recovery.{EachRecovers, RecoversAsBefore, IsReopened, ReopensOver, is_closed, closed_journal}
use Rattle.org_fileset.specs.Replay.{AreApplicableTo, EachTakes, IsOpenOver, IsAtRest, IsReplayable, ReplaysOver, TakesTo}
use Rattle.org_fileset.specs.Writes.{LeavesAlone, IsUnconcerned, IsUnwritten}
use Rattle.org_fileset.proofs.Recovers.{all_fit-takes, recovers_open, replayed-takes, takes-replayed}
use Rattle.org_fileset.proofs.Lefts.{arming_left, each_named, found_left, keep_takes, takes_same}
use Rattle.org_fileset.proofs.OpenGate.{closed_after, on_ok_both}
use Rattle.org_fileset.proofs.Writes.{alone_fewer, alone_journal, alone_looks, alone_then}
use Rattle.org_fileset.proofs.Recovering.{as_before, here_is, journal_is, one_image, with_bytes, formed_applicable, sync_left, sync_after, sync_recoverable, open_before, closed_before, recoverable_replayable, closed_stable, closed_rest, shut_gate, closed_open, closed_short, closed_shut, not_short, not_open, recovered_closed, found_good}

-- an open gate over no record
no_record : (image : Image) → is_open (image journal_name) ≡ true → journal_at (drop 1 (image journal_name)) ≡ None → recovered image ≡ None
no_record image opened none = rw (opened, none) refl

-- What is found after a sync that succeeded: it stands in a journal that is on the disk, and each content is as it was.
module _ (journal : List ℕ) (old mid new : List ℕ → FileState) (name_is : journal ≡ journal_name) (synced : Changes sync journal old mid (Ok tt)) (looked : new ≡ mid) where
  changes : Changes sync journal_name old mid (Ok tt)
  changes = subst (λ (n : List ℕ). Changes sync n old mid (Ok tt)) name_is synced

  content : (name : List ℕ) → contents mid name ≡ contents old name
  content name = elim (name_cases name journal_name) [
    | inl here ↦ ap (λ (n : List ℕ). contents mid n) here.0 ∙ ap (λ (f : FileState). f.content) changes.ok ∙ ap (λ (n : List ℕ). contents old n) (sym here.0)
    | inr apart ↦ ap (λ (f : FileState). f.content) (changes.others name apart.0)
  ]

  contents_are : contents mid ≡ contents old
  contents_are = λ i name. content name i

  pub found_in : (found : Found) → Finds (contents mid) (Ok found) → IsFoundIn old new found
  found_in found finds =
      subst (λ (f : List ℕ → FileState). IsFoundIn old f found) (sym looked) (record { stable = subst IsStable (sym changes.ok) (stable_is (old journal_name).content); same = contents_are; holds = finds })

  pub bad_in : Finds (contents mid) (Err BadJournal) → (recovered (contents old) ≡ None) × (contents new ≡ contents old)
  bad_in finds = (ap recovered (sym contents_are) ∙ no_record (contents mid) finds.0 finds.1, ap (λ (f : List ℕ → FileState). contents f) looked ∙ contents_are)

-- a file that is on the disk has its content for an image
pub stable_own_image : {file : FileState} → IsStable file → IsImage file file.content
stable_own_image stable = record { no_shorter = omega (arith, stable.least); no_longer = omega (arith, stable.greatest); fixed = λ i fixed. refl }

-- said of each answer of a search
pub found_by : {Honest : Type 0} (r : Result Found FindFault) (image : Image) {P : Found → Type 0} → (Honest → Finds image r) → (Honest → (found : Found) → Finds image (Ok found) → P found)
    → IfOk r (λ found. Honest → P found)
found_by (Ok found) image finds reported = λ honest. reported honest found (finds honest)
found_by (Err fault) image finds reported = tt

-- what was found is these entries
pub open_as : {found : Found} {record_entries entries : List Entry} {end : ℕ} → found ≡ Open record_entries end → entries ≡ record_entries → found ≡ Open entries end
open_as {end = end} is same = is ∙ ap (λ (l : List Entry). let x : Found = Open l end in x) (sym same)

-- a record that was found stands after an open gate ..
pub open_over : (files : List ℕ → FileState) (found : Found) (entries : List Entry) (end : ℕ) → IsStable (files journal_name) → found ≡ Open entries end → Finds (contents files) (Ok found)
    → IsOpenOver entries files × EndsAt (contents files journal_name) end
open_over files found entries end stable is finds =
    let over_record = subst (λ (x : Found). Finds (contents files) (Ok x)) is finds in
    (record { stable = stable; opened = over_record.0; found = over_record.1 }, over_record.2)

-- .. and can be applied to its files, which it fits
pub open_applicable : (files : List ℕ → FileState) (found : Found) (entries : List Entry) (end : ℕ) → found ≡ Open entries end → IsWhole found → IsFit found (contents files)
    → AreApplicableTo entries files
open_applicable files found entries end is whole fit = record { applicable = formed_applicable entries (subst IsWhole is whole).0; fits = subst (λ (x : Found). IsFit x (contents files)) is fit }

module _ {D : Type 0} (g : Ghosts D) where
  -- a sync of the journal, whatever it answers
  pub looked_sync : (journal : List ℕ) (old new : D) (r : Result (Unit {0}) DiskFault) → journal ≡ journal_name → IsImage (g.files old journal_name) (g.files old journal_name).content
      → ((name : List ℕ) → IsImage (g.files new name) (g.files new name).content) → Changes sync journal (g.files old) (g.files new) r → PassesOver g old new (AreLeftBy sync journal (g.files old))
      → IsLookedAt g old new
  looked_sync journal old new r name_is own owns synced time =
      let changes = subst (λ (n : List ℕ). Changes sync n (g.files old) (g.files new) r) name_is synced in
      record {
        images = λ image left name. sync_after journal_name (g.files old) (g.files new) r own changes name (image name) (left name);
        time = passes_as time (λ image left. sync_left journal_name (g.files old) image own (subst (λ (n : List ℕ). AreLeftBy sync n (g.files old) image) name_is left));
        recoverable = sync_recoverable (g.files old) (g.files new) r own owns changes;
        alone = alone_journal g journal (IsUnconcerned (contents (g.files old) journal_name)) (AreLeftBy sync journal (g.files old)) old new name_is (λ name is. is.apart)
            synced.others time (λ image left. left.others);
      }

  -- a look that syncs nothing
  pub looked_of : (old new : D) → LooksOver g old new → IsLookedAt g old new
  looked_of old new looks = record {
    images = λ image left. subst (λ (f : List ℕ → FileState). AreImages f image) looks.same left;
    time = looks.time;
    recoverable = λ fit. subst IsRecoverable (sym looks.same) fit;
    alone = alone_looks g (IsUnconcerned (contents (g.files old) journal_name)) old new looks;
  }

  -- a look after it
  pub looked_on : (old mid new : D) → IsLookedAt g old mid → LooksOver g mid new → IsLookedAt g old new
  looked_on old mid new look looks = record {
    images = λ image left. look.images image (subst (λ (f : List ℕ → FileState). AreImages f image) looks.same left);
    time = passes_then look.time looks.time look.images;
    recoverable = λ fit. subst IsRecoverable (sym looks.same) (look.recoverable fit);
    alone = alone_then g (IsUnconcerned (contents (g.files old) journal_name)) old mid new look.alone
        (alone_looks g (IsUnconcerned (contents (g.files old) journal_name)) mid new looks);
  }

  -- what is said of one answer is said of another one, where that is no Ok
  pub reopens_as : {A B E F : Type 0} (old new : D) (r : Result A E) (reported : Result B F) → ReopensOver g old new r → OnOk reported (IsReopened (g.files old) (g.files new))
      → ReopensOver g old new reported
  reopens_as old new r reported made done = record { done = done; any_moment = made.any_moment; recoverable = made.recoverable; left = made.left; bad = made.bad; idle = made.idle; alone = made.alone }

module _ {D : Type 0} (g : Ghosts D) (old : D)
    (starts : (image : Image) → g.left_since old (g.instant old) image → AreImages (g.files old) image) where
  before : EachRecovers (g.files old) → (image : Image) → g.left_since old (g.instant old) image → RecoversAsBefore (g.files old) image
  before each image left = as_before (g.files old) each image (starts image left)

  -- a look that fails is an opening that fails
  pub refused_reopens : {A E : Type 0} (new : D) (r : Result A E) → IsLookedAt g old new → OnOk r (IsReopened (g.files old) (g.files new)) → ReopensOver g old new r
  refused_reopens new r look done = record {
    done = done;
    any_moment = λ fit each. leaves_only (passes_as look.time (as_before (g.files old) each)) (before each);
    recoverable = λ fit each. look.recoverable fit;
    left = λ fit each kept. leaves_only (passes_as look.time kept) (λ image left. kept image (starts image left));
    bad = λ none. leaves_only look.time starts;
    idle = λ closed. leaves_only look.time starts;
    alone = look.alone;
  }

  -- what is made of the files that were looked at is made of them as they were
  pub looked_then : {A E : Type 0} (mid new : D) (r : Result A E) → IsLookedAt g old mid → contents (g.files mid) ≡ contents (g.files old) → ReopensOver g mid new r
      → ReopensOver g old new r
  looked_then mid new r look same made = record {
    done = on_ok_weaker r (λ done. record {
      recovered_then = subst (λ (f : Image). IsSomeAnd (recovered f) (SameFiles (contents (g.files new)))) same done.recovered_then;
      journal = done.journal ∙ ap (λ (f : Image). closed_journal (f journal_name)) same;
      gate = done.gate;
      rest = λ fit each. done.rest (look.recoverable fit) (still each);
    }) made.done;
    any_moment = λ fit each. leaves_only (passes_then (passes_as look.time (as_before (g.files old) each)) (made.any_moment (look.recoverable fit) (still each)).passes (λ image stand. record {
      start = stand.start;
      left = look.images stand.start stand.left;
      texts = stand.texts;
      recovered_then = stand.recovered_then;
      recovers_now = stand.recovers_now;
    })) (before each);
    recoverable = λ fit each. made.recoverable (look.recoverable fit) (still each);
    left = λ fit each kept. leaves_only (passes_then (passes_as look.time kept) (made.left (look.recoverable fit) (still each) (λ image left. kept image (look.images image left))).passes (λ image left. left))
        (λ image left. kept image (starts image left));
    bad = λ none. leaves_only (passes_then look.time (made.bad (ap recovered same ∙ none)).passes look.images) starts;
    idle = λ closed. leaves_only (passes_then look.time (made.idle (ap (λ (f : Image). is_closed (f journal_name)) same ∙ closed)).passes look.images) starts;
    alone = alone_then g (IsUnconcerned (contents (g.files old) journal_name)) old mid new look.alone
        (subst (λ (f : Image). LeavesAlone g (IsUnconcerned (f journal_name)) mid new) same made.alone);
  }
    where
      still : EachRecovers (g.files old) → EachRecovers (g.files mid)
      still each image left = each image (look.images image left)

  module _ (own : (name : List ℕ) → IsImage (g.files old name) (g.files old name).content) where
    -- the record of an open journal, which is marked and then applied
    module _ (entries : List Entry) (end : ℕ) (over : IsOpenOver entries (g.files old)) (to : AreApplicableTo entries (g.files old)) (ends : EndsAt (contents (g.files old) journal_name) end)
        (journal : List ℕ) (name_is : journal ≡ journal_name) (mid : D) (time : PassesOver g old mid (LeavesRecord journal (g.files old))) where
      abbrev pub now : List ℕ → FileState
      now = g.files old

      fits : all_fit entries (contents now) ≡ true
      fits = to.fits

      opened : is_open (contents now journal_name) ≡ true
      opened = over.opened

      good : recovered (contents now) ≡ None → ⊥
      good none = found_good (contents now) (Open entries end) (opened, over.found, ends) fits none

      can : IsRecoverable now → IsReplayable entries now
      can fit = recoverable_replayable now own entries to.applicable over fits fit

      -- what is left while it is marked
      marking : (fit : IsRecoverable now) (image : Image) → LeavesRecord journal now image → RecoversAsBefore now image
      marking fit image left =
          let here = subst (λ (n : List ℕ). LeavesRecord n now image) name_is left in
          open_before now entries own to.applicable over fits (can fit) image
          (recovers_open entries (can fit).texts image to.applicable (here.here.opened ∙ opened) (here.here.found ∙ over.found)
          (λ name not. (can fit).takes.each name not (image name) (here.others name not)))

      -- each file is as the record allows
      each_file : EachIsLeft now → (name : List ℕ) → name ≢ journal_name → (text : List ℕ) → IsImage (now name) text → AllByRecursion (λ entry. bytes_eq entry.name name ≡ true → IsLeftBy entry text) entries
      each_file kept name not text image =
          let whole = with_bytes now name text in
          let journal = journal_is now own name text not in
          let each = kept whole (one_image now own name text image) (ap is_open journal ∙ opened) entries (ap (λ (l : List ℕ). journal_at (drop 1 l)) journal ∙ over.found) in
          subst (λ (t : List ℕ). AllByRecursion (λ entry. bytes_eq entry.name name ≡ true → IsLeftBy entry t) entries) (here_is now own name text) (each_named entries whole name each)

      true_takes : (fit : IsRecoverable now) → EachIsLeft now → EachTakes true entries (can fit).texts now
      true_takes fit kept = record {
        each = λ name not text image. keep_takes entries name text ((can fit).texts name) ((can fit).takes.each name not text image) (each_file kept name not text image);
      }

      -- what is left while it is marked
      marking_left : (fit : IsRecoverable now) → EachIsLeft now → (image : Image) → LeavesRecord journal now image → IsLeft image
      marking_left fit kept image left =
          let here = subst (λ (n : List ℕ). LeavesRecord n now image) name_is left in
          found_left entries image (can fit).texts to.applicable (here.here.found ∙ over.found) (λ name not. (true_takes fit kept).each name not (image name) (here.others name not))

      -- the mark alone, whatever came of it
      module _ {r : Result (Unit {0}) DiskFault} (put : Puts journal (overwritten end (0 ∷ []) (now journal).content) now (g.files mid) r)
          (images : (bytes : List ℕ) → IsImage (g.files mid journal) bytes → HasSameRecord (now journal).content bytes) where
        puts : Puts journal_name (overwritten end (0 ∷ []) (now journal_name).content) now (g.files mid) r
        puts = subst (λ (n : List ℕ). Puts n (overwritten end (0 ∷ []) (now n).content) now (g.files mid) r) name_is put

        same_record : (bytes : List ℕ) → IsImage (g.files mid journal_name) bytes → HasSameRecord (now journal_name).content bytes
        same_record = subst (λ (n : List ℕ). (bytes : List ℕ) → IsImage (g.files mid n) bytes → HasSameRecord (now n).content bytes) name_is images

        abbrev still_can : IsReplayable entries now → IsReplayable entries (g.files mid)
        still_can was = record {
          others = λ name not none. subst IsStable (sym (puts.others name not)) (was.others name not none);
          texts = was.texts;
          takes = record { each = λ name not text image. was.takes.each name not text (subst (λ (f : FileState). IsImage f text) (puts.others name not) image) };
        }

        still_recoverable : IsRecoverable now → IsRecoverable (g.files mid)
        still_recoverable fit = inr (record {
          entries = entries;
          opened = λ bytes image. (same_record bytes image).opened ∙ opened;
          found = λ bytes image. (same_record bytes image).found ∙ over.found;
          others = (still_can (can fit)).others;
          texts = (can fit).texts;
          same = λ image left. recovers_open entries (can fit).texts image to.applicable ((same_record (image journal_name) (left journal_name)).opened ∙ opened)
              ((same_record (image journal_name) (left journal_name)).found ∙ over.found) (λ name not. (still_can (can fit)).takes.each name not (image name) (left name));
        })

        alone_marked : LeavesAlone g (IsUnconcerned (contents now journal_name)) old mid
        alone_marked = alone_journal g journal (IsUnconcerned (contents now journal_name)) (LeavesRecord journal now) old mid name_is (λ name is. is.apart) put.others time (λ image left. left.others)

        -- it failed
        pub mark_reopens : {A E : Type 0} (result : Result A E) → OnOk result (IsReopened now (g.files mid)) → ReopensOver g old mid result
        mark_reopens result failed = record {
          done = failed;
          any_moment = λ fit each. leaves_only (passes_as time (marking fit)) (before each);
          recoverable = λ fit each. still_recoverable fit;
          left = λ fit each kept. leaves_only (passes_as time (marking_left fit kept)) (λ image left. kept image (starts image left));
          bad = λ none. absurd (good none);
          idle = not_open (contents now journal_name) opened;
          alone = alone_marked;
        }

        -- the gate is open over the same record still
        pub marked_over : OnOk r (IsOpenOver entries (g.files mid))
        marked_over = on_ok_both r puts.stable puts.stable (λ stable again. record {
          stable = stable;
          opened = (same_record (contents (g.files mid) journal_name) (stable_own_image stable)).opened ∙ opened;
          found = (same_record (contents (g.files mid) journal_name) (stable_own_image stable)).found ∙ over.found;
        })

        pub marked_applicable : AreApplicableTo entries (g.files mid)
        marked_applicable = record {
          applicable = to.applicable;
          fits = all_fit-takes entries (contents (g.files mid)) (replayed entries (contents now)) to.applicable (λ name not.
              subst (λ (t : List ℕ). TakesTo false entries name t (replayed entries (contents now) name)) (ap (λ (f : FileState). f.content) (sym (puts.others name not)))
              (takes-replayed entries (contents now) name (replayed entries (contents now) name) fits refl));
        }

        -- and then applied
        pub redone_reopens : (new : D) (q : Result (Unit {0}) DiskFault) → (contents (g.files mid) journal_name ≡ overwritten end (0 ∷ []) (contents now journal_name))
            → ReplaysOver g entries mid new q → ReopensOver g old new q
        redone_reopens new q is replays = record {
          done = on_ok_weaker q (λ done. record {
            recovered_then = (let made : IsSomeAnd (recovered (contents now)) (SameFiles (contents (g.files new))) = rw (opened, over.found, fits) (λ name not. done.made name not ∙ same_made name not) in made);
            journal = done.journal ∙ ap (λ (l : List ℕ). 0 ∷ drop 1 l) (is ∙ ap (λ (n : ℕ). overwritten n (0 ∷ []) (contents now journal_name)) ends.end_is) ∙ sym (closed_open (contents now journal_name) opened);
            gate = done.gate;
            rest = λ fit each. done.rest (still_can (can fit));
          }) replays.done;
          any_moment = λ fit each. leaves_only (passes_then (passes_as time (marking fit)) (replays.any_moment (still_can (can fit)))
              (open_before now entries own to.applicable over fits (can fit))) (before each);
          recoverable = λ fit each. replays.recoverable (still_can (can fit));
          left = λ fit each kept. leaves_only (passes_then (passes_as time (marking_left fit kept))
              (replays.left (can fit).texts (takes_same entries (can fit).texts now (g.files mid) puts.others (true_takes fit kept))) (λ image left. left)) (λ image left. kept image (starts image left));
          bad = λ none. absurd (good none);
          idle = not_open (contents now journal_name) opened;
          alone = alone_then g (IsUnconcerned (contents now journal_name)) old mid new alone_marked
              (alone_fewer g (IsUnconcerned (contents now journal_name)) (IsUnwritten entries) mid new replays.alone
              (λ name is. record { apart = is.apart; unnamed = is.unnamed opened entries over.found }));
        }
          where
            same_made : (name : List ℕ) → name ≢ journal_name → replayed entries (contents (g.files mid)) name ≡ replayed entries (contents now) name
            same_made name not = replayed-takes entries (contents (g.files mid)) name (replayed entries (contents now) name)
                (subst (λ (t : List ℕ). TakesTo false entries name t (replayed entries (contents now) name)) (ap (λ (f : FileState). f.content) (sym (puts.others name not)))
                (takes-replayed entries (contents now) name (replayed entries (contents now) name) fits refl))

    -- a closed gate stays, where the journal is whole
    pub gate_stays : {A E : Type 0} (new : D) (r : Result A E) → IsStable (g.files old journal_name) → is_open (contents (g.files old) journal_name) ≡ false → LooksOver g old new
        → OnOk r (front_size ≤ length (g.files old journal_name).content) → ReopensOver g old new r
    gate_stays new r stable shut looks whole =
        let now = g.files old in
        let read : contents (g.files new) ≡ contents now = ap (λ (f : List ℕ → FileState). contents f) looks.same in
        record {
          done = on_ok_weaker r (λ long.
              let gate = shut_gate (now journal_name) stable shut long in
              record {
                recovered_then = recovered_closed (contents now) (contents (g.files new)) shut (λ name not. ap (λ (f : Image). f name) read);
                journal = ap (λ (f : Image). f journal_name) read ∙ sym (closed_shut (contents now journal_name) shut long);
                gate = subst (λ (f : List ℕ → FileState). HasClosedGate (f journal_name)) (sym looks.same) gate;
                rest = λ fit each. subst IsAtRest (sym looks.same) (closed_rest now gate stable (closed_stable now (own journal_name) shut fit));
              }) whole;
          any_moment = λ fit each. leaves_only (passes_as looks.time (as_before now each)) (before each);
          recoverable = λ fit each. subst IsRecoverable (sym looks.same) fit;
          left = λ fit each kept. leaves_only (passes_as looks.time kept) (λ image left. kept image (starts image left));
          bad = λ none. leaves_only looks.time starts;
          idle = λ closed. leaves_only looks.time starts;
          alone = alone_looks g (IsUnconcerned (contents now journal_name)) old new looks;
        }

    -- a journal that is shorter than a header gets its gate, closed
    pub gate_given : (journal : List ℕ) (mid new : D) (r : Result (Unit {0}) DiskFault) → journal ≡ journal_name → is_open (contents (g.files old) journal_name) ≡ false
        → length (g.files old journal_name).content < front_size → LooksOver g old mid → PassesOver g mid new (LeavesClosed journal (g.files mid))
        → Puts journal (0 ∷ drop 1 (g.files mid journal).content) (g.files mid) (g.files new) r → ReopensOver g old new r
    gate_given journal mid new r name_is shut short looks time put =
        let now = g.files old in
        let last = g.files new in
        let puts = subst (λ (n : List ℕ). Puts n (0 ∷ drop 1 (g.files mid n).content) (g.files mid) last r) name_is put in
        let same : (name : List ℕ) → g.files mid name ≡ now name = λ name. ap (λ (f : List ℕ → FileState). f name) looks.same in
        let others = λ (fit : IsRecoverable now) (name : List ℕ) (not : name ≢ journal_name). subst IsStable (sym (puts.others name not ∙ same name)) (closed_stable now (own journal_name) shut fit name not) in
        record {
          done = on_ok_both r puts.stable puts.is (λ stable is.
              let gate = closed_after (last journal_name) (drop 1 (g.files mid journal_name).content) stable is in
              record {
                recovered_then = recovered_closed (contents now) (contents last) shut (λ name not. ap (λ (f : FileState). f.content) (puts.others name not ∙ same name));
                journal = is ∙ ap (λ (f : FileState). 0 ∷ drop 1 f.content) (same journal_name) ∙ sym (closed_short (contents now journal_name) short);
                gate = gate;
                rest = λ fit each. closed_rest last gate stable (others fit);
              });
          any_moment = λ fit each. leaves_only (passes_then (passes_as looks.time (as_before now each)) time (λ image left. closed_before now own shut (closed_stable now (own journal_name) shut fit) image
              (subst (λ (f : List ℕ → FileState). LeavesClosed journal_name f image) looks.same (subst (λ (n : List ℕ). LeavesClosed n (g.files mid) image) name_is left)))) (before each);
          recoverable = λ fit each. inl (others fit);
          left = λ fit each kept. leaves_only (passes_then (passes_as looks.time kept) time (arming_left (g.files mid) journal name_is)) (λ image left. kept image (starts image left));
          bad = λ none. absurd (found_good (contents now) Closed shut tt none);
          idle = not_short (contents now journal_name) short;
          alone = alone_then g (IsUnconcerned (contents now journal_name)) old mid new (alone_looks g (IsUnconcerned (contents now journal_name)) old mid looks)
              (alone_journal g journal (IsUnconcerned (contents now journal_name)) (LeavesClosed journal (g.files mid)) mid new name_is (λ name is. is.apart) put.others time (λ image left. left.others));
        }
