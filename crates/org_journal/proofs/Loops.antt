-- Reading one item after the other, as a loop does.
use Rattle.std.proofs.Common.{◌≡◌, ℕ, Bool, ◌-◌, ◌+◌, ◌≤◌, ◌<◌, List, [], ◌∷◌, ◌++◌, length, Option, Some, None, refl, sym, ap, ◌∙◌, append_assoc, arith}
use Rattle.std.proofs.lemmas.Grind.{common_steps}
use Rattle.std.proofs.lemmas.List.{append-nil}
use Rattle.std.proofs.lemmas.Option.{none-some}
use Rattle.org_journal.specs.declared.record.Entry.{Entry}
use Rattle.org_splice.specs.declared.patch.Patch.{Patch}
use Rattle.org_journal.specs.declared.record.Version.{Version}
use Rattle.org_fault.specs.declared.fault.Fault.{Fault}
use Rattle.org_fault.specs.declared.fault.Fault.TheVariants.{Refused, OutOfMemory}
use Rattle.org_journal.specs.declared.fault.Malformed.{Malformed}
use Rattle.org_journal.specs.Decoding.{Fails}
use Rattle.org_journal.specs.Reading.{behind, name_behind, patch_at, patches_at, entry_at, entries_at}

-- what was read before, and what is still read
abbrev pub with_front : {A : Type 0} → List A → Option (List A × List ℕ) → Option (List A × List ℕ)
with_front front (Some found) = Some (front ++ found.0, found.1)
with_front front None = None

-- one item, and what is read after it
abbrev pub with_first : {A : Type 0} → A → Option (List A × List ℕ) → Option (List A × List ℕ)
with_first first (Some found) = Some (first ∷ found.0, found.1)
with_first first None = None

pub regroup : {A : Type 0} (front : List A) (first : A) (read : Option (List A × List ℕ)) → with_front front (with_first first read) ≡ with_front (front ++ first ∷ []) read
regroup {A} front first (Some found) = ap (λ (items : List A). Some (items, found.1)) (sym (append_assoc front (first ∷ []) found.0))
regroup front first None = refl

pub behind_first : {A : Type 0} (first : A) (read : Option (List A × List ℕ)) → behind (with_first first read) ≡ behind read
behind_first first (Some found) = refl
behind_first first None = refl

-- ---- the patches of an entry

pub patches_next : (place final : ℕ) (alone : Bool) (count i : ℕ) (bytes : List ℕ) (first : Patch) (after : List ℕ) → i < count → patch_at place final alone bytes ≡ Some (first, after)
    → patches_at place final alone (count - i) bytes ≡ with_first first (patches_at (first.from + length first.bytes) final alone (count - (i + 1)) after)
unfolding patches_at
patches_next place final alone count i bytes first after lt found = grind (arith, common_steps)

pub patches_stop : (place final : ℕ) (alone : Bool) (count i : ℕ) (bytes : List ℕ) → i < count → patch_at place final alone bytes ≡ None → patches_at place final alone (count - i) bytes ≡ None
unfolding patches_at
patches_stop place final alone count i bytes lt found = grind (arith, common_steps)

pub patches_end : (place final : ℕ) (alone : Bool) (count i : ℕ) (bytes : List ℕ) → count ≤ i → patches_at place final alone (count - i) bytes ≡ Some ([], bytes)
unfolding patches_at
patches_end place final alone count i bytes le = grind (arith, common_steps)

-- ---- the entries of a record

pub entries_next : (version : Version) (count i : ℕ) (bytes : List ℕ) (first : Entry) (after : List ℕ) → i < count → entry_at version bytes ≡ Some (first, after)
    → entries_at version (count - i) bytes ≡ with_first first (entries_at version (count - (i + 1)) after)
unfolding entries_at
entries_next version count i bytes first after lt found = grind (arith, common_steps)

pub entries_stop : (version : Version) (count i : ℕ) (bytes : List ℕ) → i < count → entry_at version bytes ≡ None → entries_at version (count - i) bytes ≡ None
unfolding entries_at
entries_stop version count i bytes lt found = grind (arith, common_steps)

pub entries_end : (version : Version) (count i : ℕ) (bytes : List ℕ) → count ≤ i → entries_at version (count - i) bytes ≡ Some ([], bytes)
unfolding entries_at
entries_end version count i bytes le = grind (arith, common_steps)

-- ---- the bytes after

pub patches_behind_next : (place final : ℕ) (alone : Bool) (count i : ℕ) (bytes : List ℕ) (first : Patch) (after : List ℕ) (total : Option (List ℕ)) → i < count → patch_at place final alone bytes ≡ Some (first, after)
    → behind (patches_at place final alone (count - i) bytes) ≡ total → behind (patches_at (first.from + length first.bytes) final alone (count - (i + 1)) after) ≡ total
patches_behind_next place final alone count i bytes first after total lt found so_far =
    sym (ap behind (patches_next place final alone count i bytes first after lt found) ∙ behind_first first (patches_at (first.from + length first.bytes) final alone (count - (i + 1)) after)) ∙ so_far

pub patches_behind_stop : (place final : ℕ) (alone : Bool) (count i : ℕ) (bytes : List ℕ) (total : Option (List ℕ)) → i < count → patch_at place final alone bytes ≡ None
    → behind (patches_at place final alone (count - i) bytes) ≡ total → total ≡ None
patches_behind_stop place final alone count i bytes total lt found so_far = sym so_far ∙ ap behind (patches_stop place final alone count i bytes lt found)

pub patches_behind_end : (place final : ℕ) (alone : Bool) (count i : ℕ) (bytes : List ℕ) (total : Option (List ℕ)) → count ≤ i
    → behind (patches_at place final alone (count - i) bytes) ≡ total → total ≡ Some bytes
patches_behind_end place final alone count i bytes total le so_far = sym so_far ∙ ap behind (patches_end place final alone count i bytes le)

-- what was read of an entry shows whether it was read
pub entry_of_name : (read : Option (Entry × List ℕ)) (name after : List ℕ) → name_behind read ≡ Some (name, after) → (entry : Entry) × (read ≡ Some (entry, after)) × (entry.name ≡ name)
entry_of_name (Some found) name after e = grind (arith, common_steps)
entry_of_name None name after e = absurd (none-some (name, after) e)

pub no_entry : (read : Option (Entry × List ℕ)) → name_behind read ≡ None → read ≡ None
no_entry (Some found) e = absurd (none-some (found.0.name, found.1) (sym e))
no_entry None e = refl

pub entries_behind_next : (version : Version) (count i : ℕ) (bytes name after : List ℕ) (total : Option (List ℕ)) → i < count → name_behind (entry_at version bytes) ≡ Some (name, after)
    → behind (entries_at version (count - i) bytes) ≡ total → behind (entries_at version (count - (i + 1)) after) ≡ total
entries_behind_next version count i bytes name after total lt found so_far =
    let first = entry_of_name (entry_at version bytes) name after found in
    sym (ap behind (entries_next version count i bytes first.0 after lt first.1) ∙ behind_first first.0 (entries_at version (count - (i + 1)) after)) ∙ so_far

pub entries_behind_stop : (version : Version) (count i : ℕ) (bytes : List ℕ) (total : Option (List ℕ)) → i < count → name_behind (entry_at version bytes) ≡ None
    → behind (entries_at version (count - i) bytes) ≡ total → total ≡ None
entries_behind_stop version count i bytes total lt found so_far =
    sym so_far ∙ ap behind (entries_stop version count i bytes lt (no_entry (entry_at version bytes) found))

pub entries_behind_end : (version : Version) (count i : ℕ) (bytes : List ℕ) (total : Option (List ℕ)) → count ≤ i
    → behind (entries_at version (count - i) bytes) ≡ total → total ≡ Some bytes
entries_behind_end version count i bytes total le so_far = sym so_far ∙ ap behind (entries_end version count i bytes le)

-- ---- what was read, in front

pub front_end : {A : Type 0} (front : List A) (read total : Option (List A × List ℕ)) (bytes : List ℕ) → read ≡ Some ([], bytes) → with_front front read ≡ total → total ≡ Some (front, bytes)
front_end {A} front read total bytes ends so_far = sym so_far ∙ ap (with_front front) ends ∙ ap (λ (items : List A). Some (items, bytes)) (append-nil front)

pub front_stop : {A : Type 0} (front : List A) (read total : Option (List A × List ℕ)) → read ≡ None → with_front front read ≡ total → total ≡ None
front_stop front read total stops so_far = sym so_far ∙ ap (with_front front) stops

pub front_next : {A : Type 0} (front : List A) (first : A) (read others total : Option (List A × List ℕ)) → read ≡ with_first first others → with_front front read ≡ total → with_front (front ++ first ∷ []) others ≡ total
front_next front first read others total next so_far = sym (ap (with_front front) next ∙ regroup front first others) ∙ so_far

-- a fault that came while a part was read
pub fault_of_part : {Y W : Type 0} (e : Fault Malformed) (part : Option Y) (total : Option W) → (part ≡ None → total ≡ None) → Fails e part → Fails e total
fault_of_part (Refused _) part total stops given = stops given
fault_of_part OutOfMemory part total stops given = tt
