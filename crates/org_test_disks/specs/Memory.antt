-- A disk in memory, as callers see it.
use Rattle.std.specs.Prelude.{◌≡◌, ℕ, ◌-◌, ◌==◌, List, length, Bool, true, false, ◌||◌, if◌then◌else◌, IsTrue, IsFalse, Result, IsErr, OnOk, OnErr, count_by}
use Rattle.org_disk.specs.Calls.{LooksInCall}
use Rattle.org_disk.specs.Disk.{FileState, IsCounted, IsImage}
use Rattle.org_disk.specs.declared.disk.DiskFault.{DiskFault}
use Rattle.org_test_disks.specs.Record.{files_after, is_call, LeftSince}
use Rattle.org_test_disks.specs.declared.memory.MemoryDisk.{MemoryDisk}
use Rattle.org_test_disks.specs.declared.memory.Outcome.{Outcome}
use Rattle.org_test_disks.specs.declared.memory.Outcome.TheVariants.{All}
use Rattle.org_test_disks.specs.declared.memory.Crash.{Crash}
use Rattle.org_test_disks.specs.declared.memory.Crash.TheVariants.{Never, In, Came}

-- the files of a disk in memory
abbrev pub memory_files : MemoryDisk → List ℕ → FileState
memory_files disk = files_after disk.calls.items

-- its clock: how many calls it was given, `set` among them
abbrev pub memory_instant : MemoryDisk → ℕ
memory_instant disk = length disk.calls.items

-- what a crash might have left of it since a moment
abbrev pub memory_left_since : MemoryDisk → ℕ → (List ℕ → List ℕ) → Type 0
memory_left_since disk = LeftSince disk.calls.items

-- a call without effect: each file is as it was, and a crash within the call leaves an image from
-- before it
abbrev pub HasNoEffect : MemoryDisk → MemoryDisk → Type 0
HasNoEffect old new = LooksInCall memory_files memory_instant memory_left_since old new

-- how many calls of `Disk` are in the record
abbrev pub call_count : MemoryDisk → ℕ
call_count disk = count_by is_call disk.calls.items

-- no crash came, or one that leaves all that was written
abbrev pub crash_leaves_all : Crash → Bool
crash_leaves_all Never = true
crash_leaves_all (In k outcome) = true
crash_leaves_all (Came All) = true
crash_leaves_all (Came outcome) = false

abbrev pub leaves_all : MemoryDisk → Bool
leaves_all disk = crash_leaves_all disk.crash

-- what an image of a disk holds of a file
pub record IsLeft (disk : MemoryDisk) (name bytes : List ℕ) : Type 0 where
  pub image : IsImage (memory_files disk name) bytes
  pub whole : IsTrue (leaves_all disk) → bytes ≡ (memory_files disk name).content

-- the next call fails
abbrev pub crashes_now : Crash → Bool
crashes_now Never = false
crashes_now (In k outcome) = k == 1
crashes_now (Came outcome) = true

abbrev pub is_due : MemoryDisk → Bool
is_due disk = disk.fail_in == 1 || crashes_now disk.crash

-- the disk crashes within the next call
abbrev pub crashes_within : Crash → Bool
crashes_within Never = false
crashes_within (In k outcome) = k == 1
crashes_within (Came outcome) = false

abbrev pub crash_after_call : Crash → Crash
crash_after_call Never = Never
crash_after_call (In k outcome) = if k == 1 then Came outcome else In (k - 1) outcome
crash_after_call (Came outcome) = Came outcome

-- the crash that is to come once one was asked for within the call k
abbrev pub crash_asked : Crash → ℕ → Outcome → Crash
crash_asked (Came past) k outcome = Came past
crash_asked crash k outcome = if k == 0 then Never else In k outcome

-- a call counts both numbers down
pub record CountsDown (old new : MemoryDisk) : Type 0 where
  pub fail_in : new.fail_in ≡ old.fail_in - 1
  pub crash : new.crash ≡ crash_after_call old.crash

-- the calls that are to fail stay the same
pub record KeepsPlan (old new : MemoryDisk) : Type 0 where
  pub fail_in : new.fail_in ≡ old.fail_in
  pub crash : new.crash ≡ old.crash

-- A call begins and ends: what is due to fail does, both numbers are counted down, and a call that
-- failed is counted.
pub record TakesTurn {A : Type 0} (old new : MemoryDisk) (result : Result A DiskFault)
    : Type 0 where
  pub due : IsTrue (is_due old) → IsErr result
  -- a call that fails and wasn't to is none of the record
  pub unasked : IsFalse (is_due old) → OnErr result (new.calls.items ≡ old.calls.items)
  pub counts : CountsDown old new
  pub kept : OnOk result (new.failures ≡ old.failures)
  pub counted : OnErr result (IsCounted old.failures new.failures)
