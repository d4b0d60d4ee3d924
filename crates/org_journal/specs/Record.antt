-- What a record is, and its bytes in the three versions of the journal's format. All numbers are
-- big-endian.
use Rattle.std.specs.Prelude.{◌≡◌, ℕ, ◌≤◌, ◌<◌, ◌^◌, Bool, Option, Some, None, IsSomeAnd, true, not, ◌&&◌, IsTrue, IsUtf8, List, [], ◌∷◌, ◌++◌, length, codes}
use Rattle.std.specs.List.{flat_map, list_any, AllByRecursion}
use Rattle.std.specs.Str.{bytes_eq}
use Rattle.byteorder.specs.Endian.{big_bytes}
use Rattle.org_disk.specs.Names.{is_file_name}
use Rattle.org_splice.specs.Patches.{AreWellFormed}
use Rattle.org_splice.specs.Texts.{pairs_of}
use Rattle.org_journal.specs.declared.record.Before.{Before}
use Rattle.org_journal.specs.declared.record.Entry.{Entry}
use Rattle.org_splice.specs.declared.patch.Patch.{Patch}
use Rattle.org_journal.specs.declared.record.Version.{Version}
use Rattle.org_journal.specs.declared.record.Version.TheVariants.{One, Two, Three}

-- The bytes of a record

abbrev pub name_bytes : List ℕ → List ℕ
name_bytes name = big_bytes 2 (length name) ++ name

abbrev pub counted_bytes : List ℕ → List ℕ
counted_bytes bytes = big_bytes 8 (length bytes) ++ bytes

abbrev pub patch_bytes : Patch → List ℕ
patch_bytes patch = big_bytes 8 patch.from ++ counted_bytes patch.bytes

-- version 1 writes the file's final length into the patch, of which an entry has one
abbrev pub old_patch_bytes : ℕ → Patch → List ℕ
old_patch_bytes final patch =
    big_bytes 8 patch.from ++ (big_bytes 8 final ++ counted_bytes patch.bytes)

abbrev pub context_bytes : List ℕ → List ℕ
context_bytes bytes = big_bytes 1 (length bytes) ++ bytes

-- version 3 alone says what the file was before
abbrev pub before_bytes : Option Before → List ℕ
before_bytes None = []
before_bytes (Some before) = big_bytes 8 before.length
    ++ (context_bytes before.leading ++ context_bytes before.trailing)

-- an entry of version 2 or 3
abbrev pub new_entry_bytes : Entry → List ℕ
new_entry_bytes entry =
    name_bytes entry.name
    ++ (big_bytes 8 entry.length
    ++ (before_bytes entry.before
    ++ (big_bytes 4 (length entry.patches) ++ flat_map patch_bytes entry.patches)))

abbrev pub entry_bytes : Version → Entry → List ℕ
entry_bytes One entry =
    name_bytes entry.name ++ flat_map (old_patch_bytes entry.length) entry.patches
entry_bytes Two entry = new_entry_bytes entry
entry_bytes Three entry = new_entry_bytes entry

abbrev pub record_bytes : Version → List Entry → List ℕ
record_bytes version entries =
    big_bytes 4 (length entries) ++ flat_map (entry_bytes version) entries

abbrev pub version_number : Version → ℕ
version_number One = 1
version_number Two = 2
version_number Three = 3

-- the journal's bytes after the gate, up to the record of this size
abbrev pub header_bytes : Version → ℕ → List ℕ
header_bytes version size = codes "ORGJ" ++ version_number version ∷ 0 ∷ 0 ∷ big_bytes 8 size

-- the journal's bytes after the gate
abbrev pub journal_bytes : Version → List Entry → List ℕ
journal_bytes version entries =
    header_bytes version (length (record_bytes version entries)) ++ record_bytes version entries

-- What has such bytes

abbrev pub most_patches : Version → ℕ
most_patches One = 1
most_patches Two = 1_000
most_patches Three = 1_000

abbrev pub greatest_length : Version → ℕ
greatest_length One = 16_777_216
greatest_length Two = 67_108_864
greatest_length Three = 67_108_864

abbrev pub most_entries : ℕ
most_entries = 512

-- the most bytes of a context
abbrev pub most_context : ℕ
most_context = 32

pub record IsBefore (before : Before) : Type 0 where
  pub sized : before.length < 2 ^ 64
  pub leading : length before.leading ≤ most_context
  pub trailing : length before.trailing ≤ most_context

-- an entry of version 3 says what its file was before, and one of another version doesn't
abbrev pub HasBefore : Version → Option Before → Type 0
HasBefore One before = before ≡ None
HasBefore Two before = before ≡ None
HasBefore Three before = IsSomeAnd before IsBefore

pub record IsEntry (version : Version) (entry : Entry) : Type 0 where
  pub text : IsUtf8 entry.name
  pub name : IsTrue (is_file_name entry.name)
  pub few : length entry.patches ≤ most_patches version
  pub patches : AreWellFormed (pairs_of entry.patches) entry.length
  pub small : entry.length ≤ greatest_length version
  pub before : HasBefore version entry.before

-- an entry has this name
abbrev pub is_named : List ℕ → List Entry → Bool
is_named name entries = list_any (λ entry. bytes_eq entry.name name) entries

-- no two entries have one name
abbrev pub names_differ : List Entry → Bool
names_differ [] = true
names_differ (entry ∷ entries) = not (is_named entry.name entries) && names_differ entries

pub record IsWellFormed (version : Version) (entries : List Entry) : Type 0 where
  pub some : 1 ≤ length entries
  pub few : length entries ≤ most_entries
  pub each : AllByRecursion (IsEntry version) entries
  pub apart : IsTrue (names_differ entries)

-- the entries of a record, in one of the versions
abbrev pub IsRecord : List Entry → Type 0
IsRecord entries = (version : Version) × IsWellFormed version entries

-- The bytes begin with those of a well-formed record, in one of the versions.
pub record BeginsWith (bytes : List ℕ) (entries : List Entry) : Type 0 where
  pub version : Version
  pub rest : List ℕ
  pub whole : bytes ≡ journal_bytes version entries ++ rest
  pub well_formed : IsWellFormed version entries
