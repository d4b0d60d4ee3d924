-- Looking for a name among entries that are read one after the other, and comparing all of them.
use Rattle.std.proofs.Common.{◌≡◌, ℕ, Bool, true, false, ◌-◌, ◌+◌, ◌≤◌, ◌<◌, List, Option, Some, None, refl, sym, ap, ◌∙◌, subst, arith}
use Rattle.std.specs.Prelude.{IfSome}
use Rattle.std.specs.Str.{bytes_eq}
use Rattle.org_journal.specs.declared.record.Entry.{Entry}
use Rattle.org_journal.specs.declared.record.Version.{Version}
use Rattle.org_journal.specs.Record.{is_named, names_differ}
use Rattle.org_journal.specs.Reading.{name_behind, entry_at, entries_at}
use Rattle.org_journal.proofs.Loops.{with_first, entries_next, entries_stop, entries_end, entry_of_name, no_entry}

-- whether one of the entries read has the name
abbrev pub named_in : List ℕ → Option (List Entry × List ℕ) → Option Bool
named_in name (Some found) = Some (is_named name found.0)
named_in name None = None

-- whether the names of the entries read differ
abbrev pub differ_in : Option (List Entry × List ℕ) → Option Bool
differ_in (Some found) = Some (names_differ found.0)
differ_in None = None

-- where something was read, it is this
abbrev pub Agrees : Option Bool → Bool → Type 0
Agrees (Some b) answer = answer ≡ b
Agrees None answer = Unit {0}

pub named_agrees : (name : List ℕ) (read : Option (List Entry × List ℕ)) (answer : Bool) → Agrees (named_in name read) answer → IfSome read (λ found. answer ≡ is_named name found.0)
named_agrees name (Some found) answer says = says
named_agrees name None answer says = tt

pub differ_agrees : (read : Option (List Entry × List ℕ)) (answer : Bool) → Agrees (differ_in read) answer → IfSome read (λ found. answer ≡ names_differ found.0)
differ_agrees (Some found) answer says = says
differ_agrees None answer says = tt

-- ---- one name

named_first : (name : List ℕ) (first : Entry) (read : Option (List Entry × List ℕ)) → bytes_eq first.name name ≡ false → named_in name (with_first first read) ≡ named_in name read
named_first name first (Some found) other = rw other refl
named_first name first None other = refl

named_here : (name : List ℕ) (first : Entry) (read : Option (List Entry × List ℕ)) → bytes_eq first.name name ≡ true → Agrees (named_in name (with_first first read)) true
named_here name first (Some found) same = rw same refl
named_here name first None same = tt

pub named_next : (version : Version) (count i : ℕ) (bytes name other after : List ℕ) (total : Option Bool) → i < count → name_behind (entry_at version bytes) ≡ Some (other, after) → bytes_eq other name ≡ false
    → named_in name (entries_at version (count - i) bytes) ≡ total → named_in name (entries_at version (count - (i + 1)) after) ≡ total
named_next version count i bytes name other after total lt found differs so_far =
    let first = entry_of_name (entry_at version bytes) other after found in
    sym (ap (named_in name) (entries_next version count i bytes first.0 after lt first.1) ∙ named_first name first.0 (entries_at version (count - (i + 1)) after) (ap (λ (n : List ℕ). bytes_eq n name) first.2 ∙ differs)) ∙ so_far

pub named_found : (version : Version) (count i : ℕ) (bytes name other after : List ℕ) (total : Option Bool) → i < count → name_behind (entry_at version bytes) ≡ Some (other, after) → bytes_eq other name ≡ true
    → named_in name (entries_at version (count - i) bytes) ≡ total → Agrees total true
named_found version count i bytes name other after total lt found same so_far =
    let first = entry_of_name (entry_at version bytes) other after found in
    let here = named_here name first.0 (entries_at version (count - (i + 1)) after) (ap (λ (n : List ℕ). bytes_eq n name) first.2 ∙ same) in
    subst (λ (t : Option Bool). Agrees t true) (sym (ap (named_in name) (entries_next version count i bytes first.0 after lt first.1)) ∙ so_far) here

pub named_stop : (version : Version) (count i : ℕ) (bytes name : List ℕ) (total : Option Bool) → i < count → name_behind (entry_at version bytes) ≡ None
    → named_in name (entries_at version (count - i) bytes) ≡ total → Agrees total false
named_stop version count i bytes name total lt found so_far =
    subst (λ (t : Option Bool). Agrees t false) (sym (ap (named_in name) (entries_stop version count i bytes lt (no_entry (entry_at version bytes) found))) ∙ so_far) tt

pub named_end : (version : Version) (count i : ℕ) (bytes name : List ℕ) (total : Option Bool) → count ≤ i
    → named_in name (entries_at version (count - i) bytes) ≡ total → Agrees total false
named_end version count i bytes name total le so_far =
    subst (λ (t : Option Bool). Agrees t false) (sym (ap (named_in name) (entries_end version count i bytes le)) ∙ so_far) refl

-- ---- all names

differ_first : (first : Entry) (read : Option (List Entry × List ℕ)) → IfSome read (λ found. false ≡ is_named first.name found.0) → differ_in (with_first first read) ≡ differ_in read
differ_first first (Some found) other = rw (← other) refl
differ_first first None other = refl

differ_here : (first : Entry) (read : Option (List Entry × List ℕ)) → IfSome read (λ found. true ≡ is_named first.name found.0) → Agrees (differ_in (with_first first read)) false
differ_here first (Some found) same = rw (← same) refl
differ_here first None same = tt

pub differ_next : (version : Version) (count i : ℕ) (bytes name after : List ℕ) (total : Option Bool) → i < count → name_behind (entry_at version bytes) ≡ Some (name, after)
    → IfSome (entries_at version (count - i - 1) after) (λ found. false ≡ is_named name found.0)
    → differ_in (entries_at version (count - i) bytes) ≡ total → differ_in (entries_at version (count - (i + 1)) after) ≡ total
differ_next version count i bytes name after total lt found other so_far =
    let first = entry_of_name (entry_at version bytes) name after found in
    let left : count - i - 1 ≡ count - (i + 1) = omega arith in
    let here : IfSome (entries_at version (count - (i + 1)) after) (λ found. false ≡ is_named first.0.name found.0) = rw (first.2, ← left) other in
    sym (ap differ_in (entries_next version count i bytes first.0 after lt first.1) ∙ differ_first first.0 (entries_at version (count - (i + 1)) after) here) ∙ so_far

pub differ_found : (version : Version) (count i : ℕ) (bytes name after : List ℕ) (total : Option Bool) → i < count → name_behind (entry_at version bytes) ≡ Some (name, after)
    → IfSome (entries_at version (count - i - 1) after) (λ found. true ≡ is_named name found.0)
    → differ_in (entries_at version (count - i) bytes) ≡ total → Agrees total false
differ_found version count i bytes name after total lt found same so_far =
    let first = entry_of_name (entry_at version bytes) name after found in
    let left : count - i - 1 ≡ count - (i + 1) = omega arith in
    let there : IfSome (entries_at version (count - (i + 1)) after) (λ found. true ≡ is_named first.0.name found.0) = rw (first.2, ← left) same in
    subst (λ (t : Option Bool). Agrees t false) (sym (ap differ_in (entries_next version count i bytes first.0 after lt first.1)) ∙ so_far) (differ_here first.0 (entries_at version (count - (i + 1)) after) there)

pub differ_stop : (version : Version) (count i : ℕ) (bytes : List ℕ) (total : Option Bool) → i < count → name_behind (entry_at version bytes) ≡ None
    → differ_in (entries_at version (count - i) bytes) ≡ total → Agrees total false
differ_stop version count i bytes total lt found so_far =
    subst (λ (t : Option Bool). Agrees t false) (sym (ap differ_in (entries_stop version count i bytes lt (no_entry (entry_at version bytes) found))) ∙ so_far) tt

pub differ_end : (version : Version) (count i : ℕ) (bytes : List ℕ) (total : Option Bool) → count ≤ i
    → differ_in (entries_at version (count - i) bytes) ≡ total → Agrees total true
differ_end version count i bytes total le so_far =
    subst (λ (t : Option Bool). Agrees t true) (sym (ap differ_in (entries_end version count i bytes le)) ∙ so_far) refl
