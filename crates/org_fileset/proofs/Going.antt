-- Calls on the files of a record's entries, one entry after the other.
use Rattle.std.proofs.Common.{◌≡◌, ◌≢◌, ℕ, List, Some}
use Rattle.std.specs.Prelude.{IsFalse, slice_get}
use Rattle.org_disk.specs.declared.disk.Disk.{Ghosts}
use Rattle.org_disk.specs.CountsFailures.{CountsFailures}
use Rattle.org_disk.proofs.Accounting.{accounts_none, accounts_then}
use Rattle.org_journal.specs.declared.record.Entry.{Entry}
use Rattle.org_journal.specs.Record.{is_named}
use Rattle.org_fileset.specs.Replay.{AreApplicable, AppliesOver, TakesOver}
use Rattle.org_fileset.specs.Writes.{LeavesAlone}
use Rattle.org_fileset.proofs.Replaying.{entry_takes, replays_none, replays_entry}
use Rattle.org_fileset.proofs.Writes.{alone_none, alone_entry}

-- What such calls do, where the disk is honest after them ..
pub record CallsOn {D : Type 0} (g : Ghosts D) (entries : List Entry) (old new : D) : Type 0 where
  pub replays : g.honest new → TakesOver g entries old new
  pub alone : g.honest new → LeavesAlone g (λ name. IsFalse (is_named name entries)) old new

-- .. and none of them failed
pub record GoesOn {D : Type 0} (g : Ghosts D) (entries : List Entry) (old new : D) : Type 0 where
  pub accounts : CountsFailures g old new ⊥
  pub calls : CallsOn g entries old new

-- no call
pub goes_none : {D : Type 0} (g : Ghosts D) (entries : List Entry) (disk : D) → GoesOn g entries disk disk
goes_none g entries disk = record {
  accounts = accounts_none g disk;
  calls = record {
    replays = λ honest stable keep texts takes. replays_none (g.instant disk) (g.left_since disk) (g.files disk) takes;
    alone = λ honest. alone_none g (λ name. IsFalse (is_named name entries)) disk;
  };
}

module _ {D : Type 0} (g : Ghosts D) (entries : List Entry) (i : ℕ) {entry : Entry} {old mid : D} (is : slice_get entries i ≡ Some entry)
    (can : g.honest old → AreApplicable entries) (sofar : GoesOn g entries old mid) where
  -- calls on the file of one more
  pub calls_on : (new : D) → (g.honest new → g.honest mid) → (g.honest new → AppliesOver g entry mid new) → (g.honest new → LeavesAlone g (λ other. other ≢ entry.name) mid new)
      → CallsOn g entries old new
  calls_on new back applies alone = record {
    replays = λ honest stable keep texts takes.
        let applicable = can (sofar.accounts.was_honest (back honest)) in
        let now = sofar.calls.replays (back honest) stable keep texts takes in
        replays_entry i entry applicable is stable now (applies honest keep (texts entry.name) (entry_takes entries texts (g.files mid) i entry applicable is now.takes));
    alone = λ honest. alone_entry g entries i entry old mid new is (sofar.calls.alone (back honest)) (alone honest);
  }

  -- .. none of which failed
  pub goes_on : (new : D) → CountsFailures g mid new ⊥ → (g.honest new → AppliesOver g entry mid new) → (g.honest new → LeavesAlone g (λ other. other ≢ entry.name) mid new) → GoesOn g entries old new
  goes_on new fine applies alone = record { accounts = accounts_then sofar.accounts fine; calls = calls_on new fine.was_honest applies alone }
