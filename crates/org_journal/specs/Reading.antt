-- Reading a record from left to right. A reader gives a value and the bytes after it, or nothing.
use Rattle.std.specs.Prelude.{◌≡◌, ℕ, zero, suc, ◌+◌, Bool, ◌&&◌, ◌||◌, true, List, [], ◌∷◌, length, take, drop, slice_index, Option, Some, None, nat_eq, nat_lt, nat_le, ◌==◌, if◌then◌else◌, codes}
use Rattle.std.specs.List.{starts_with}
use Rattle.std.specs.Str.{is_utf8}
use Rattle.byteorder.specs.Endian.{big_number}
use Rattle.org_disk.specs.Names.{is_file_name}
use Rattle.org_journal.specs.declared.record.Before.{Before}
use Rattle.org_journal.specs.declared.record.Entry.{Entry}
use Rattle.org_splice.specs.declared.patch.Patch.{Patch}
use Rattle.org_journal.specs.declared.record.Version.{Version}
use Rattle.org_journal.specs.declared.record.Version.TheVariants.{One, Two, Three}
use Rattle.org_journal.specs.Record.{greatest_length, most_context, most_entries, most_patches, names_differ}

infixl 10 ◌>>=◌
abbrev pub ◌>>=◌ : {A B : Type 0} → Option A → (A → Option B) → Option B
(Some x) >>= f = f x
None >>= f = None

-- What a function found, as view sees it, is what a reader gives.
abbrev pub Reads : {X Y : Type 0} → (X → Y) → Option X → Option Y → Type 0
Reads view (Some found) read = read ≡ Some (view found)
Reads view None read = read ≡ None

-- the bytes after what a reader found
abbrev pub behind : {A : Type 0} → Option (A × List ℕ) → Option (List ℕ)
behind (Some found) = Some found.1
behind None = None

-- a big-endian number of n bytes
abbrev pub number_at : ℕ → List ℕ → Option (ℕ × List ℕ)
number_at n bytes =
    if nat_lt (length bytes) n then None else Some (big_number n bytes, drop n bytes)

abbrev pub bytes_at : ℕ → List ℕ → Option (List ℕ × List ℕ)
bytes_at n bytes = if nat_lt (length bytes) n then None else Some (take n bytes, drop n bytes)

-- bytes after their count
unfoldable pub counted_at : List ℕ → Option (List ℕ × List ℕ)
counted_at bytes = do
  count ← number_at 8 bytes
  bytes_at count.0 count.1

unfoldable pub name_at : List ℕ → Option (List ℕ × List ℕ)
name_at bytes = do
  count ← number_at 2 bytes
  name ← bytes_at count.0 count.1
  if is_utf8 name.0 && is_file_name name.0 then Some name else None

-- A patch may follow one that ends at this place, in a file of this final length. Only a patch that
-- stands alone may be empty.
abbrev pub may_follow : (place final : ℕ) (alone : Bool) (from count : ℕ) → Bool
may_follow place final alone from count =
    nat_le place from && (nat_le (from + count) final && (alone || nat_le 1 count))

unfoldable pub patch_at : (place final : ℕ) (alone : Bool) → List ℕ → Option (Patch × List ℕ)
patch_at place final alone bytes = do
  from ← number_at 8 bytes
  text ← counted_at from.1
  if may_follow place final alone from.0 (length text.0)
      then Some (record { from = from.0; bytes = text.0 }, text.1)
      else None

unfoldable pub patches_at : (place final : ℕ) (alone : Bool) (count : ℕ) → List ℕ
    → Option (List Patch × List ℕ)
patches_at place final alone zero bytes = Some ([], bytes)
patches_at place final alone (suc n) bytes = do
  first ← patch_at place final alone bytes
  others ← patches_at (first.0.from + length first.0.bytes) final alone n first.1
  Some (first.0 ∷ others.0, others.1)

-- an entry of version 1 has one patch
abbrev pub old_entry : List ℕ → (final from : ℕ) → List ℕ → Entry
old_entry name final from bytes = record {
  name = name;
  length = final;
  before = None;
  patches = record { from = from; bytes = bytes } ∷ [];
}

unfoldable pub old_entry_at : List ℕ → Option (Entry × List ℕ)
old_entry_at bytes = do
  name ← name_at bytes
  from ← number_at 8 name.1
  final ← number_at 8 from.1
  text ← counted_at final.1
  if nat_le final.0 (greatest_length One) && may_follow 0 final.0 true from.0 (length text.0)
      then Some (old_entry name.0 final.0 from.0 text.0, text.1)
      else None

-- bytes after their number, which has one byte
unfoldable pub context_at : List ℕ → Option (List ℕ × List ℕ)
context_at bytes = do
  count ← number_at 1 bytes
  if nat_le count.0 most_context then bytes_at count.0 count.1 else None

-- what a file was that had this length, and these bytes before the first patch and after the last
abbrev pub before_of : ℕ → List ℕ → List ℕ → Before
before_of size leading trailing =
    record { length = size; leading = leading; trailing = trailing }

unfoldable pub before_at : List ℕ → Option (Before × List ℕ)
before_at bytes = do
  size ← number_at 8 bytes
  leading ← context_at size.1
  trailing ← context_at leading.1
  Some (before_of size.0 leading.0 trailing.0, trailing.1)

-- what an entry of this version says of its file as it was before
unfoldable pub before_in : Version → List ℕ → Option (Option Before × List ℕ)
before_in One bytes = Some (None, bytes)
before_in Two bytes = Some (None, bytes)
before_in Three bytes = do
  before ← before_at bytes
  Some (Some before.0, before.1)

-- what stands before the patches of an entry of version 2 or 3
pub record Head : Type 0 where
  pub name : List ℕ
  pub final : ℕ
  pub before : Option Before
  pub count : ℕ

-- a file's final length, and the number of its patches
abbrev pub is_possible : (final count : ℕ) → Bool
is_possible final count =
    nat_le final (greatest_length Three)
    && (nat_le 1 count && nat_le count (most_patches Three))

unfoldable pub head_at : Version → List ℕ → Option (Head × List ℕ)
head_at version bytes = do
  name ← name_at bytes
  final ← number_at 8 name.1
  before ← before_in version final.1
  count ← number_at 4 before.1
  if is_possible final.0 count.0
      then Some (
        record
            { name = name.0; final = final.0; before = before.0; count = count.0 },
        count.1,
      )
      else None

-- an entry of version 2 or 3
unfoldable pub new_entry_at : Version → List ℕ → Option (Entry × List ℕ)
new_entry_at version bytes = do
  head ← head_at version bytes
  patches ← patches_at 0 head.0.final (head.0.count == 1) head.0.count head.1
  Some (
    record {
      name = head.0.name;
      length = head.0.final;
      before = head.0.before;
      patches = patches.0;
    },
    patches.1,
  )

unfoldable pub entry_at : Version → List ℕ → Option (Entry × List ℕ)
entry_at One bytes = old_entry_at bytes
entry_at Two bytes = new_entry_at Two bytes
entry_at Three bytes = new_entry_at Three bytes

-- the name of an entry, and the bytes after the entry
abbrev pub name_behind : Option (Entry × List ℕ) → Option (List ℕ × List ℕ)
name_behind (Some found) = Some (found.0.name, found.1)
name_behind None = None

unfoldable pub entries_at : Version → ℕ → List ℕ → Option (List Entry × List ℕ)
entries_at version zero bytes = Some ([], bytes)
entries_at version (suc n) bytes = do
  first ← entry_at version bytes
  others ← entries_at version n first.1
  Some (first.0 ∷ others.0, others.1)

-- the number of entries
unfoldable pub count_at : List ℕ → Option (ℕ × List ℕ)
count_at bytes = do
  count ← number_at 4 bytes
  if nat_le 1 count.0 && nat_le count.0 most_entries then Some count else None

-- all of the bytes
unfoldable pub record_at : Version → List ℕ → Option (List Entry)
record_at version bytes = do
  count ← count_at bytes
  entries ← entries_at version count.0 count.1
  if length entries.1 == 0 && names_differ entries.0 then Some entries.0 else None

abbrev pub version_at : ℕ → Option Version
version_at n = if n == 1 then Some One else if n == 2 then Some Two
    else if n == 3 then Some Three else None

-- the version, and the bytes of the record
unfoldable pub header_at : List ℕ → Option (Version × List ℕ)
header_at bytes =
    if nat_le 15 (length bytes)
    && (starts_with nat_eq bytes (codes "ORGJ")
    && (slice_index bytes 5 == 0 && slice_index bytes 6 == 0))
    then (do
      version ← version_at (slice_index bytes 4)
      text ← counted_at (drop 7 bytes)
      Some (version, text.0))
    else None

-- the record whose bytes a journal has after its gate
unfoldable pub journal_at : List ℕ → Option (List Entry)
journal_at bytes = do
  found ← header_at bytes
  record_at found.0 found.1
