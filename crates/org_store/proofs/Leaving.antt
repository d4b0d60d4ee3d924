-- What the calls of a store leave of its disk.
use Rattle.std.proofs.Common.{◌≡◌, inl, ℕ, List, sym, ap, subst}
use Rattle.org_disk.specs.declared.disk.Disk.{Ghosts}
use Rattle.org_disk.specs.Disk.{FileState, AreImages, Passes}
use Rattle.org_disk.proofs.Moments.{passes_none, passes_as, passes_then, leaves_only}
use Rattle.org_journal.specs.Recovered.{Image, SameFiles, IsRecoverable, contents}
use Rattle.org_fileset.specs.Replay.{IsAtRest}
use Rattle.org_fileset.proofs.Commits.{rest_left}
use Rattle.org_fileset.proofs.Writes.{alone_fewer, alone_looks, alone_then}
use Rattle.org_commands.specs.InOrder.{texts_of, with_texts}
use Rattle.org_commands.specs.Session.{StoreView, Holds}
use Rattle.org_store.specs.Runs.{LeavesDisk}
use Rattle.org_store.proofs.Keeping.{left_at_rest, others_unwritten}

module _ {D : Type 0} (g : Ghosts D) where
  -- The settled texts are those of the disk's files, and a crash at the start leaves an image of
  -- these. What is left then recovers to what is settled, and that is allowed.
  module _ (old : StoreView D) (Left : Image → Type 0) (Alone : List ℕ → Type 0) (Failed : Type 0) (start : (image : Image) → g.left_since old.disk (g.instant old.disk) image → AreImages (g.files old.disk) image)
      (own : old.session.settled ≡ texts_of (contents (g.files old.disk)) old.session.names) (clockless : (image : Image) → Holds old.session (contents (g.files old.disk)) old.session.settled image → Left image) where
    still : IsAtRest (g.files old.disk) → (image : Image) → AreImages (g.files old.disk) image → Left image
    still rest image are = clockless image (left_at_rest old.session (g.files old.disk) own rest image are)

    -- a call that left the disk's files as they were
    pub leaves_same : (new : StoreView D) → Passes (g.instant old.disk) (g.instant new.disk) (g.left_since old.disk) (g.left_since new.disk) (AreImages (g.files old.disk)) → g.files new.disk ≡ g.files old.disk
        → new.session.settled ≡ texts_of (contents (g.files new.disk)) new.session.names → LeavesDisk g old new Left Alone Failed
    leaves_same new passes same now = record {
      any_moment = λ rest. leaves_only (passes_as passes (still rest)) (λ image since. still rest image (start image since));
      left = λ rest. leaves_only (passes_as passes (rest_left (g.files old.disk) rest)) (λ image since. rest_left (g.files old.disk) rest image (start image since));
      others = λ fine. others_unwritten new.session.names new.session.settled (g.files old.disk) (g.files new.disk) now same;
      rest = λ fine rest. subst IsAtRest (sym same) rest;
      recoverable = λ rest. subst IsRecoverable (sym same) (inl (λ name not. rest.stable name));
      alone = alone_looks g Alone old.disk new.disk (record { same = same; time = passes });
    }

    -- a call that made no call of the disk
    pub leaves_unwritten : (new : StoreView D) → new.disk ≡ old.disk → new.session.settled ≡ texts_of (contents (g.files new.disk)) new.session.names → LeavesDisk g old new Left Alone Failed
    leaves_unwritten new same now = leaves_same new
        (subst (λ (disk : D). Passes (g.instant old.disk) (g.instant disk) (g.left_since old.disk) (g.left_since disk) (AreImages (g.files old.disk))) (sym same)
        (passes_none (g.instant old.disk) (g.left_since old.disk) (AreImages (g.files old.disk))))
        (ap g.files same) now

    -- such a call, and one after it
    pub leaves_after : (mid new : StoreView D) (Later : Image → Type 0) (Under : List ℕ → Type 0) (Fell : Type 0) → Passes (g.instant old.disk) (g.instant mid.disk) (g.left_since old.disk) (g.left_since mid.disk) (AreImages (g.files old.disk))
        → g.files mid.disk ≡ g.files old.disk → LeavesDisk g mid new Later Under Fell → ((image : Image) → Later image → Left image) → ((name : List ℕ) → Alone name → Under name) → (Fell → Failed)
        → LeavesDisk g old new Left Alone Failed
    leaves_after mid new Later Under Fell passes same later weaker fewer failed = record {
      any_moment = λ rest. leaves_only
          (passes_then (passes_as passes (still rest)) (later.any_moment (subst IsAtRest (sym same) rest)).passes weaker) (λ image since. still rest image (start image since));
      left = λ rest. leaves_only
          (passes_then (passes_as passes (rest_left (g.files old.disk) rest)) (later.left (subst IsAtRest (sym same) rest)).passes (λ image left. left)) (λ image since. rest_left (g.files old.disk) rest image (start image since));
      others = λ fine. subst (λ (f : List ℕ → FileState). SameFiles (contents (g.files new.disk)) (with_texts new.session.names new.session.settled (contents f))) same (later.others (λ fell. fine (failed fell)));
      rest = λ fine rest. later.rest (λ fell. fine (failed fell)) (subst IsAtRest (sym same) rest);
      recoverable = λ rest. later.recoverable (subst IsAtRest (sym same) rest);
      alone = alone_then g Alone old.disk mid.disk new.disk (alone_looks g Alone old.disk mid.disk (record { same = same; time = passes }))
          (alone_fewer g Alone Under mid.disk new.disk later.alone fewer);
    }
