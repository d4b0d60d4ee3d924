-- The worked journals as literals.
use Rattle.std.specs.Prelude.{◌≡◌, ℕ, List, [], ◌∷◌, ◌++◌, codes, take, Option, Some, None, refl, if◌then◌else◌}
use Rattle.std.specs.Str.{is_utf8, chars, bytes_eq}
use lib.Utf8.{encode}
use Rattle.org_disk.specs.Names.{journal_name}
use Rattle.org_journal.specs.declared.record.Entry.{Entry}
use Rattle.org_journal.specs.declared.record.Version.TheVariants.{One, Two, Three}
use Rattle.org_journal.specs.Record.{journal_bytes}
use Rattle.org_journal.specs.Reading.{counted_at, name_at, patch_at, patches_at, old_entry_at, context_at, before_at, before_in, head_at, new_entry_at, entry_at, entries_at, count_at, record_at, header_at, journal_at}
use Rattle.org_journal.specs.Recovered.{Image, recovered}

inbox : List ℕ
inbox = codes "inbox.org"

call_ann : List ℕ
call_ann = 0x2a ∷ 0x20 ∷ 0x54 ∷ 0x4f ∷ 0x44 ∷ 0x4f ∷ 0x20 ∷ 0x43 ∷ 0x61 ∷ 0x6c ∷ 0x6c ∷ 0x20 ∷ 0x41 ∷ 0x6e ∷ 0x6e ∷ 0x0a ∷ []

-- the entry of a capture into an empty inbox.org
entry : Entry
entry = record { name = inbox; length = 16; before = None; patches = record { from = 0; bytes = call_ann } ∷ [] }

-- what follows the gate, in version 1
old_journal : List ℕ
old_journal =
    0x4f ∷ 0x52 ∷ 0x47 ∷ 0x4a ∷ 0x01 ∷ 0 ∷ 0 ∷ 0 ∷ 0 ∷ 0 ∷ 0 ∷ 0 ∷ 0 ∷ 0 ∷ 0x37 ∷
    0 ∷ 0 ∷ 0 ∷ 1 ∷ 0 ∷ 9 ∷ 0x69 ∷ 0x6e ∷ 0x62 ∷ 0x6f ∷ 0x78 ∷ 0x2e ∷ 0x6f ∷ 0x72 ∷ 0x67 ∷
    0 ∷ 0 ∷ 0 ∷ 0 ∷ 0 ∷ 0 ∷ 0 ∷ 0 ∷ 0 ∷ 0 ∷ 0 ∷ 0 ∷ 0 ∷ 0 ∷ 0 ∷ 0x10 ∷ 0 ∷ 0 ∷ 0 ∷ 0 ∷ 0 ∷ 0 ∷ 0 ∷ 0x10 ∷
    0x2a ∷ 0x20 ∷ 0x54 ∷ 0x4f ∷ 0x44 ∷ 0x4f ∷ 0x20 ∷ 0x43 ∷ 0x61 ∷ 0x6c ∷ 0x6c ∷ 0x20 ∷ 0x41 ∷ 0x6e ∷ 0x6e ∷ 0x0a ∷ []

old_bytes : journal_bytes One (entry ∷ []) ≡ old_journal
unfolding inbox call_ann entry old_journal
old_bytes = refl

old_read : journal_at (old_journal ++ 7 ∷ []) ≡ Some (entry ∷ [])
unfolding inbox call_ann entry old_journal is_utf8 chars encode counted_at name_at old_entry_at entry_at entries_at count_at record_at header_at journal_at
old_read = refl

-- a disk's image with this journal, and this text as inbox.org
image_of : List ℕ → List ℕ → Image
image_of journal text name = if bytes_eq name journal_name then journal else if bytes_eq name (codes "inbox.org") then text else []

-- what the image recovers to, of inbox.org
recovered_reported : List ℕ → List ℕ → Option (List ℕ)
recovered_reported journal text = elim (recovered (image_of journal text)) [ Some files ↦ Some (files (codes "inbox.org")) | None ↦ None ]

old_open : recovered_reported (1 ∷ old_journal) [] ≡ Some call_ann
unfolding inbox call_ann entry old_journal image_of recovered_reported is_utf8 chars encode counted_at name_at old_entry_at entry_at entries_at count_at record_at header_at journal_at
old_open = refl

old_closed : recovered_reported (0 ∷ old_journal) (42 ∷ []) ≡ Some (42 ∷ [])
unfolding inbox call_ann entry old_journal image_of recovered_reported is_utf8 chars encode counted_at name_at old_entry_at entry_at entries_at count_at record_at header_at journal_at
old_closed = refl

-- an open journal without its last byte is bad
short_open : recovered_reported (1 ∷ take 69 old_journal) [] ≡ None
unfolding inbox call_ann entry old_journal image_of recovered_reported is_utf8 chars encode counted_at name_at patch_at patches_at before_in head_at new_entry_at old_entry_at entry_at entries_at count_at record_at header_at journal_at
short_open = refl

-- an entry of version 1 that lays the bytes from 1 on, of a file of 17 bytes
late_entry : Entry
late_entry = record { name = inbox; length = 17; before = None; patches = record { from = 1; bytes = call_ann } ∷ [] }

-- it doesn't fit a file that is absent
late_absent : recovered_reported (1 ∷ journal_bytes One (late_entry ∷ [])) [] ≡ None
unfolding late_entry inbox call_ann entry old_journal image_of recovered_reported is_utf8 chars encode counted_at name_at patch_at patches_at before_in head_at new_entry_at old_entry_at entry_at entries_at count_at record_at header_at journal_at
late_absent = refl

late_one_byte : recovered_reported (1 ∷ journal_bytes One (late_entry ∷ [])) (97 ∷ []) ≡ Some (97 ∷ call_ann)
unfolding late_entry inbox call_ann entry old_journal image_of recovered_reported is_utf8 chars encode counted_at name_at patch_at patches_at before_in head_at new_entry_at old_entry_at entry_at entries_at count_at record_at header_at journal_at
late_one_byte = refl

-- two entries of one name
doubled : journal_at (journal_bytes One (entry ∷ entry ∷ [])) ≡ None
unfolding inbox call_ann entry old_journal image_of recovered_reported is_utf8 chars encode counted_at name_at patch_at patches_at before_in head_at new_entry_at old_entry_at entry_at entries_at count_at record_at header_at journal_at
doubled = refl

-- what follows the gate, in version 2
new_journal : List ℕ
new_journal =
    0x4f ∷ 0x52 ∷ 0x47 ∷ 0x4a ∷ 0x02 ∷ 0 ∷ 0 ∷ 0 ∷ 0 ∷ 0 ∷ 0 ∷ 0 ∷ 0 ∷ 0 ∷ 0x3b ∷
    0 ∷ 0 ∷ 0 ∷ 1 ∷ 0 ∷ 9 ∷ 0x69 ∷ 0x6e ∷ 0x62 ∷ 0x6f ∷ 0x78 ∷ 0x2e ∷ 0x6f ∷ 0x72 ∷ 0x67 ∷
    0 ∷ 0 ∷ 0 ∷ 0 ∷ 0 ∷ 0 ∷ 0 ∷ 0x10 ∷ 0 ∷ 0 ∷ 0 ∷ 1 ∷ 0 ∷ 0 ∷ 0 ∷ 0 ∷ 0 ∷ 0 ∷ 0 ∷ 0 ∷ 0 ∷ 0 ∷ 0 ∷ 0 ∷ 0 ∷ 0 ∷ 0 ∷ 0x10 ∷
    0x2a ∷ 0x20 ∷ 0x54 ∷ 0x4f ∷ 0x44 ∷ 0x4f ∷ 0x20 ∷ 0x43 ∷ 0x61 ∷ 0x6c ∷ 0x6c ∷ 0x20 ∷ 0x41 ∷ 0x6e ∷ 0x6e ∷ 0x0a ∷ []

new_bytes : journal_bytes Two (entry ∷ []) ≡ new_journal
unfolding new_journal inbox call_ann entry old_journal image_of recovered_reported is_utf8 chars encode counted_at name_at patch_at patches_at before_in head_at new_entry_at old_entry_at entry_at entries_at count_at record_at header_at journal_at
new_bytes = refl

new_open : recovered_reported (1 ∷ new_journal) [] ≡ Some call_ann
unfolding new_journal inbox call_ann entry old_journal image_of recovered_reported is_utf8 chars encode counted_at name_at patch_at patches_at before_in head_at new_entry_at old_entry_at entry_at entries_at count_at record_at header_at journal_at
new_open = refl

-- an entry of two patches, applied to a file of eight bytes
two_patches : List ℕ → Entry
two_patches last = record { name = inbox; length = 8; before = None; patches = record { from = 2; bytes = 67 ∷ [] } ∷ record { from = 6; bytes = last } ∷ [] }

two_open : recovered_reported (1 ∷ journal_bytes Two (two_patches (68 ∷ []) ∷ [])) (codes "* A.* B.") ≡ Some (codes "* C.* D.")
unfolding two_patches inbox call_ann entry old_journal image_of recovered_reported is_utf8 chars encode counted_at name_at patch_at patches_at before_in head_at new_entry_at old_entry_at entry_at entries_at count_at record_at header_at journal_at
two_open = refl

-- of two patches none may be empty
two_empty : journal_at (journal_bytes Two (two_patches [] ∷ [])) ≡ None
unfolding two_patches inbox call_ann entry old_journal image_of recovered_reported is_utf8 chars encode counted_at name_at patch_at patches_at before_in head_at new_entry_at old_entry_at entry_at entries_at count_at record_at header_at journal_at
two_empty = refl

-- the same in version 3: the file had no bytes, and so there is no context
began : Entry
began = record (entry) { before = Some (record { length = 0; leading = []; trailing = [] }) }

newest_journal : List ℕ
newest_journal =
    0x4f ∷ 0x52 ∷ 0x47 ∷ 0x4a ∷ 0x03 ∷ 0 ∷ 0 ∷ 0 ∷ 0 ∷ 0 ∷ 0 ∷ 0 ∷ 0 ∷ 0 ∷ 0x45 ∷
    0 ∷ 0 ∷ 0 ∷ 1 ∷ 0 ∷ 9 ∷ 0x69 ∷ 0x6e ∷ 0x62 ∷ 0x6f ∷ 0x78 ∷ 0x2e ∷ 0x6f ∷ 0x72 ∷ 0x67 ∷
    0 ∷ 0 ∷ 0 ∷ 0 ∷ 0 ∷ 0 ∷ 0 ∷ 0x10 ∷ 0 ∷ 0 ∷ 0 ∷ 0 ∷ 0 ∷ 0 ∷ 0 ∷ 0 ∷ 0 ∷ 0 ∷
    0 ∷ 0 ∷ 0 ∷ 1 ∷ 0 ∷ 0 ∷ 0 ∷ 0 ∷ 0 ∷ 0 ∷ 0 ∷ 0 ∷ 0 ∷ 0 ∷ 0 ∷ 0 ∷ 0 ∷ 0 ∷ 0 ∷ 0x10 ∷
    0x2a ∷ 0x20 ∷ 0x54 ∷ 0x4f ∷ 0x44 ∷ 0x4f ∷ 0x20 ∷ 0x43 ∷ 0x61 ∷ 0x6c ∷ 0x6c ∷ 0x20 ∷ 0x41 ∷ 0x6e ∷ 0x6e ∷ 0x0a ∷ []

newest_bytes : journal_bytes Three (began ∷ []) ≡ newest_journal
unfolding newest_journal began inbox call_ann entry
newest_bytes = refl

newest_open : recovered_reported (1 ∷ newest_journal) [] ≡ Some call_ann
unfolding newest_journal inbox call_ann entry image_of recovered_reported is_utf8 chars encode counted_at name_at patch_at patches_at context_at before_at before_in head_at new_entry_at old_entry_at entry_at entries_at count_at record_at header_at journal_at
newest_open = refl

-- in `* A⏎* B⏎` the B becomes a D: 6 bytes stand before the patch, and 1 after it
one_letter : Entry
one_letter = record {
  name = codes "a.org";
  length = 8;
  before = Some (record { length = 8; leading = codes "* A\n* "; trailing = codes "\n" });
  patches = record { from = 6; bytes = 68 ∷ [] } ∷ [];
}

letter_journal : List ℕ
letter_journal =
    0x4f ∷ 0x52 ∷ 0x47 ∷ 0x4a ∷ 0x03 ∷ 0 ∷ 0 ∷ 0 ∷ 0 ∷ 0 ∷ 0 ∷ 0 ∷ 0 ∷ 0 ∷ 0x39 ∷
    0 ∷ 0 ∷ 0 ∷ 1 ∷ 0 ∷ 5 ∷ 0x61 ∷ 0x2e ∷ 0x6f ∷ 0x72 ∷ 0x67 ∷
    0 ∷ 0 ∷ 0 ∷ 0 ∷ 0 ∷ 0 ∷ 0 ∷ 8 ∷ 0 ∷ 0 ∷ 0 ∷ 0 ∷ 0 ∷ 0 ∷ 0 ∷ 8 ∷
    6 ∷ 0x2a ∷ 0x20 ∷ 0x41 ∷ 0x0a ∷ 0x2a ∷ 0x20 ∷ 1 ∷ 0x0a ∷
    0 ∷ 0 ∷ 0 ∷ 1 ∷ 0 ∷ 0 ∷ 0 ∷ 0 ∷ 0 ∷ 0 ∷ 0 ∷ 6 ∷ 0 ∷ 0 ∷ 0 ∷ 0 ∷ 0 ∷ 0 ∷ 0 ∷ 1 ∷ 0x44 ∷ []

letter_bytes : journal_bytes Three (one_letter ∷ []) ≡ letter_journal
unfolding letter_journal one_letter
letter_bytes = refl
