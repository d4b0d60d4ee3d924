-- What a record makes of the file of one name.
use Rattle.std.proofs.Common.{arith, ◌≡◌, ◌≢◌, ℕ, zero, suc, List, [], ◌∷◌, Bool, true, false, not, Some, refl, subst}
use Rattle.std.proofs.lemmas.Grind.{common_steps}
use Rattle.std.specs.Prelude.{slice_get, ◌||◌}
use Rattle.std.specs.List.{AllByRecursion}
use Rattle.std.specs.Str.{bytes_eq}
use Rattle.std.proofs.lemmas.Bool.{and_parts, not-true, true≢false, false≢true, MatchBool-at_true, MatchBool-at_false}
use Rattle.org_disk.specs.Names.{journal_name}
use Rattle.org_disk.proofs.Names.{name_cases, same_name}
use Rattle.org_journal.specs.declared.record.Entry.{Entry}
use Rattle.org_journal.specs.Record.{is_named, names_differ}
use Rattle.org_fileset.specs.Replay.{IsMadeBy, TakesTo, IsApplicable}

or_false : (a b : Bool) → (a || b) ≡ false → (a ≡ false) × (b ≡ false)
or_false true b is = absurd (true≢false is)
or_false false b is = (refl, is)

-- a file that the record doesn't name stays as it is
pub TakesTo-other : (entries : List Entry) (name text to : List ℕ) → is_named name entries ≡ false → TakesTo false entries name text to → text ≡ to
TakesTo-other [] name text to none takes = takes
TakesTo-other (entry ∷ entries) name text to none takes =
    let parts = or_false (bytes_eq entry.name name) (is_named name entries) none in
    TakesTo-other entries name text to parts.1 (MatchBool-at_false (IsMadeBy false entry text to) (TakesTo false entries name text to) parts.0 takes)

-- a name that no entry has isn't this entry's
pub named_apart : (entries : List Entry) (i : ℕ) (entry : Entry) (name : List ℕ) → is_named name entries ≡ false → slice_get entries i ≡ Some entry → name ≢ entry.name
named_apart [] i entry name none is same = absurd (cc)
named_apart (first ∷ entries) zero entry name none is same = grind (arith, common_steps, or_false, same_name, true≢false)
named_apart (first ∷ entries) (suc i) entry name none is same =
    named_apart entries i entry name (or_false (bytes_eq first.name name) (is_named name entries) none).1 is same

-- an entry after the first has another name
later_name : (first : Entry) (entries : List Entry) (i : ℕ) (entry : Entry) → names_differ (first ∷ entries) ≡ true → slice_get entries i ≡ Some entry → bytes_eq first.name entry.name ≡ false
later_name first entries i entry differ is = grind (arith, common_steps, and_parts, named_apart, not-true, name_cases)

-- of the file that an entry names, the record makes what the entry makes
pub TakesTo-entry : {keep : Bool} (entries : List Entry) (i : ℕ) (entry : Entry) (text to : List ℕ) → names_differ entries ≡ true → slice_get entries i ≡ Some entry
    → TakesTo keep entries entry.name text to → IsMadeBy keep entry text to
TakesTo-entry {keep} [] i entry text to differ is takes = absurd (cc)
TakesTo-entry {keep} (first ∷ entries) zero entry text to differ is takes = grind (arith, common_steps, same_name, MatchBool-at_true)
TakesTo-entry {keep} (first ∷ entries) (suc i) entry text to differ is takes =
    let other = later_name first entries i entry differ is in
    TakesTo-entry entries i entry text to (and_parts (not (is_named first.name entries)) (names_differ entries) differ).1 is
    (MatchBool-at_false (IsMadeBy keep first text to) (TakesTo keep entries entry.name text to) other takes)

pub entry-TakesTo : {keep : Bool} (entries : List Entry) (i : ℕ) (entry : Entry) (text to : List ℕ) → names_differ entries ≡ true → slice_get entries i ≡ Some entry
    → IsMadeBy keep entry text to → TakesTo keep entries entry.name text to
entry-TakesTo {keep} [] i entry text to differ is applies = absurd (cc)
entry-TakesTo {keep} (first ∷ entries) zero entry text to differ is applies = grind (arith, common_steps, same_name)
entry-TakesTo {keep} (first ∷ entries) (suc i) entry text to differ is applies = grind (arith, common_steps, later_name, and_parts, entry-TakesTo entries i entry text to (and_parts (not (is_named first.name entries)) (names_differ entries) differ).1 is applies)

-- no entry names the journal
pub journal_unnamed : (entries : List Entry) → AllByRecursion IsApplicable entries → is_named journal_name entries ≡ false
journal_unnamed [] each = refl
journal_unnamed (entry ∷ entries) each = grind (arith, common_steps, name_cases, false≢true, journal_unnamed entries each.1)

pub applicable_at : (entries : List Entry) (i : ℕ) (entry : Entry) → AllByRecursion IsApplicable entries → slice_get entries i ≡ Some entry → IsApplicable entry
applicable_at [] i entry each is = absurd (cc)
applicable_at (first ∷ entries) zero entry each is = let one : first ≡ entry = cc in subst IsApplicable one each.0
applicable_at (first ∷ entries) (suc i) entry each is = applicable_at entries i entry each.1 is
