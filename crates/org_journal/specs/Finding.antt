-- What was found of a journal on a disk.
use Rattle.std.specs.Prelude.{◌≡◌, ℕ, ◌+◌, ◌^◌, ◌<◌, ◌≤◌, IsTrue, IsFalse, List, length, drop, Option, Some, None, Result, Ok, Err}
use Rattle.std.specs.List.{AllByRecursion}
use Rattle.byteorder.specs.Endian.{big_number}
use Rattle.org_disk.specs.Names.{journal_name}
use Rattle.org_journal.specs.declared.record.Entry.{Entry}
use Rattle.org_journal.specs.declared.fault.FindFault.{FindFault}
use Rattle.org_journal.specs.declared.fault.FindFault.TheVariants.{BadJournal, Device, OutOfMemory}
use Rattle.org_journal.specs.declared.finding.Found.{Found}
use Rattle.org_journal.specs.declared.finding.Found.TheVariants.{Closed, Open}
use Rattle.org_journal.specs.Gate.{front_size, is_open}
use Rattle.org_journal.specs.Reading.{journal_at}
use Rattle.org_splice.specs.Patches.{AreWellFormed}
use Rattle.org_splice.specs.Texts.{pairs_of}
use Rattle.org_journal.specs.Record.{IsRecord}
use Rattle.org_journal.specs.Recovered.{Image}

-- the size of the record that a journal's header gives
abbrev pub record_size : List ℕ → ℕ
record_size journal = big_number 8 (drop 8 journal)

-- the whole record lies within the journal
abbrev pub HoldsRecord : List ℕ → Type 0
HoldsRecord journal = front_size + record_size journal ≤ length journal

-- a record of this size, which the header gives, lies whole within the journal
pub record HoldsRecordOfSize (journal : List ℕ) (size : ℕ) : Type 0 where
  pub size_is : size ≡ record_size journal
  pub within : HoldsRecord journal

-- the journal's record ends before this place
pub record EndsAt (journal : List ℕ) (end : ℕ) : Type 0 where
  pub end_is : end ≡ front_size + record_size journal
  pub within : end ≤ length journal

-- what was found of a disk with these contents
abbrev pub Finds : Image → Result Found FindFault → Type 0
Finds image (Ok Closed) = IsFalse (is_open (image journal_name))
Finds image (Ok (Open entries end)) =
    IsTrue (is_open (image journal_name))
    × (journal_at (drop 1 (image journal_name)) ≡ Some entries)
    × EndsAt (image journal_name) end
Finds image (Err BadJournal) =
    IsTrue (is_open (image journal_name)) × (journal_at (drop 1 (image journal_name)) ≡ None)
Finds image (Err Device) = Unit {0}
-- memory is wanted only once the record's size was compared with the journal's
Finds image (Err OutOfMemory) =
    IsTrue (is_open (image journal_name)) × HoldsRecord (image journal_name)

-- What was found is a record, in whichever version it stood; and after it another byte can be
-- written.
abbrev pub IsWhole : Found → Type 0
IsWhole Closed = Unit {0}
IsWhole (Open entries end) = IsRecord entries × (end + 1 < 2 ^ 64)

-- what the header alone says: None of a closed gate, and the record's size of an open one
abbrev pub FindsSize : List ℕ → Result (Option ℕ) FindFault → Type 0
FindsSize journal (Ok None) = IsFalse (is_open journal)
FindsSize journal (Ok (Some size)) =
    IsTrue (is_open journal) × (size ≡ record_size journal) × HoldsRecord journal
FindsSize journal (Err BadJournal) =
    IsTrue (is_open journal) × (length journal < front_size + record_size journal)
FindsSize journal (Err Device) = Unit {0}
FindsSize journal (Err OutOfMemory) = ⊥

-- what the bytes after an open gate say, where the whole record lies within them
abbrev pub FindsRecord : List ℕ → Result Found FindFault → Type 0
FindsRecord journal (Ok (Open entries end)) =
    (journal_at (drop 1 journal) ≡ Some entries) × EndsAt journal end
FindsRecord journal (Ok Closed) = ⊥
FindsRecord journal (Err BadJournal) = journal_at (drop 1 journal) ≡ None
FindsRecord journal (Err Device) = Unit {0}
FindsRecord journal (Err OutOfMemory) = Unit {0}

-- the patches of each entry are well-formed
abbrev pub HaveWellFormedPatches : List Entry → Type 0
HaveWellFormedPatches entries =
    AllByRecursion (λ entry. AreWellFormed (pairs_of entry.patches) entry.length) entries
