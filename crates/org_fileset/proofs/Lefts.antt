-- What a crash leaves of a commit is as its entries allow.
use Rattle.std.proofs.Common.{◌≡◌, ◌≢◌, inl, inr, ℕ, ◌+◌, ◌≤◌, zero, suc, List, [], ◌∷◌, length, drop, Bool, true, false, Option, Some, None, refl, sym, ◌∙◌, ap, subst}
use Rattle.std.specs.Prelude.{slice_get, IfSome, IsSomeAnd, IsTrue}
use Rattle.std.specs.List.{AllByRecursion}
use Rattle.std.specs.Str.{bytes_eq}
use Rattle.std.proofs.lemmas.Bool.{cases_Bool, false≢true, MatchBool-at_true, MatchBool-at_false}
use Rattle.org_disk.specs.Disk.{FileState, IsImage}
use Rattle.org_disk.specs.Names.{journal_name}
use Rattle.org_disk.proofs.Names.{name_cases}
use Rattle.org_splice.specs.Patches.{last_end}
use Rattle.org_splice.specs.Texts.{pairs_of}
use Rattle.org_journal.specs.declared.record.Before.{Before}
use Rattle.org_journal.specs.declared.record.Entry.{Entry}
use Rattle.org_journal.specs.Gate.{is_open, LeavesBody, LeavesClosed}
use Rattle.org_journal.specs.Reading.{journal_at}
use Rattle.org_journal.specs.Recovered.{Image}
use Rattle.org_fileset.specs.Left.{HasRoom, IsLeft, IsLeftBy, StaysLeft, StaysLeftBy}
use Rattle.org_fileset.specs.Replay.{AreApplicable, EachTakes, IsMadeBy, LeavesTaking, TakesTo}
use Rattle.org_fileset.proofs.Allowed.{entry_image}
use Rattle.org_fileset.proofs.Replaying.{not_journal}
use Rattle.org_fileset.proofs.Takes.{TakesTo-entry}

all_at : {P : Entry → Type 0} (entries : List Entry) → ((i : ℕ) (entry : Entry) → slice_get entries i ≡ Some entry → P entry) → AllByRecursion P entries
all_at [] each = tt
all_at (entry ∷ entries) each = (each 0 entry refl, all_at entries (λ i other is. each (suc i) other is))

-- each file is as its entry allows
each_left : (entries : List Entry) (image texts : Image) → AreApplicable entries → ((name : List ℕ) → name ≢ journal_name → TakesTo true entries name (image name) (texts name))
    → AllByRecursion (λ entry. IsLeftBy entry (image entry.name)) entries
each_left entries image texts applicable takes = all_at entries (λ i entry is.
    (TakesTo-entry entries i entry (image entry.name) (texts entry.name) applicable.apart is (takes entry.name (not_journal entries i entry applicable is))).left refl)

-- an image whose journal has this record, if its gate is open
pub found_left : (entries : List Entry) (image texts : Image) → AreApplicable entries → journal_at (drop 1 (image journal_name)) ≡ Some entries
    → ((name : List ℕ) → name ≢ journal_name → TakesTo true entries name (image name) (texts name)) → IsLeft image
found_left entries image texts applicable found takes opened others at =
    let one : Some entries ≡ Some others = sym found ∙ at in
    let same : entries ≡ others = cc in
    subst (λ (l : List Entry). AllByRecursion (λ entry. IsLeftBy entry (image entry.name)) l) same (each_left entries image texts applicable takes)

-- while the record is applied
pub taking_left : (entries : List Entry) (texts : Image) (journal : List ℕ) → AreApplicable entries → journal_at (drop 1 journal) ≡ Some entries
    → (image : Image) → LeavesTaking true journal entries texts image → IsLeft image
taking_left entries texts journal applicable found image left =
    found_left entries image texts applicable (ap (λ (l : List ℕ). journal_at (drop 1 l)) left.same_journal ∙ found) left.each

-- while the gate is written
pub body_left_by : (entries : List Entry) (texts : Image) (files : List ℕ → FileState) (journal : List ℕ) → journal ≡ journal_name → AreApplicable entries → journal_at (drop 1 (files journal_name).content) ≡ Some entries
    → EachTakes true entries texts files → (image : Image) → LeavesBody journal files image → IsLeft image
body_left_by entries texts files journal name_is applicable found takes image left =
    let here = subst (λ (n : List ℕ). LeavesBody n files image) name_is left in
    found_left entries image texts applicable (ap journal_at here.body ∙ found) (λ name not. takes.each name not (image name) (here.others name not))

-- with a closed gate there is nothing to ask
pub closed_left : (image : Image) → is_open (image journal_name) ≡ false → IsLeft image
closed_left image closed opened others at = absurd (false≢true (sym closed ∙ opened))

pub arming_left : (files : List ℕ → FileState) (journal : List ℕ) → journal ≡ journal_name → (image : Image) → LeavesClosed journal files image → IsLeft image
arming_left files journal name_is image left = closed_left image (subst (λ (n : List ℕ). LeavesClosed n files image) name_is left).closed

-- the same files but for the journal
pub takes_same : (entries : List Entry) (texts : Image) (old new : List ℕ → FileState) → ((name : List ℕ) → name ≢ journal_name → new name ≡ old name) → EachTakes true entries texts old → EachTakes true entries texts new
takes_same entries texts old new same takes = record {
  each = λ name not text image. takes.each name not text (subst (λ (f : FileState). IsImage f text) (same name not) image);
}

-- ---- what a commit begins with

-- of one name, what holds of each entry's file
pub each_named : (entries : List Entry) (files : Image) (name : List ℕ) → AllByRecursion (λ entry. IsLeftBy entry (files entry.name)) entries
    → AllByRecursion (λ entry. bytes_eq entry.name name ≡ true → IsLeftBy entry (files name)) entries
each_named [] files name each = tt
each_named (entry ∷ entries) files name each =
    ((λ same. subst (λ (n : List ℕ). IsLeftBy entry (files n)) (name_is entry.name name same) each.0), each_named entries files name each.1)
  where
    name_is : (one other : List ℕ) → bytes_eq one other ≡ true → one ≡ other
    name_is one other same = elim (name_cases one other) [
      | inl is ↦ is.0
      | inr apart ↦ absurd (false≢true (sym apart.1 ∙ same))
    ]

-- what a record makes of a text that is as its entry allows
pub keep_takes : (entries : List Entry) (name text to : List ℕ) → TakesTo false entries name text to → AllByRecursion (λ entry. bytes_eq entry.name name ≡ true → IsLeftBy entry text) entries → TakesTo true entries name text to
keep_takes [] name text to takes left = takes
keep_takes (entry ∷ entries) name text to takes left = elim (cases_Bool (bytes_eq entry.name name)) [
  | inl same ↦
      let made = MatchBool-at_true (IsMadeBy false entry text to) (TakesTo false entries name text to) same takes in
      rw same (record { fit = made.fit; makes = made.makes; left = λ kept. left.0 same })
  | inr other ↦ rw other (keep_takes entries name text to (MatchBool-at_false (IsMadeBy false entry text to) (TakesTo false entries name text to) other takes) left.1)
]

-- a file that stays so
pub stays_by : (entry : Entry) (file : FileState) → StaysLeftBy entry file → (text : List ℕ) → IsImage file text → IsLeftBy entry text
stays_by entry file stays text image = record { room = go entry.before stays; left = entry_image entry file text stays image }
  where
    go : (before : Option Before) → IsSomeAnd before (λ was. StaysLeft was (pairs_of entry.patches) entry.length file) → IfSome before (λ was. last_end 0 (pairs_of entry.patches) + length was.trailing ≤ entry.length)
    go None has = absurd has
    go (Some before) has = has.ends
