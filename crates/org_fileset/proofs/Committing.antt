-- What a set's commit needs of its changes, from what is asked of them.
use Rattle.std.proofs.Common.{◌≡◌, ◌≢◌, inl, inr, ◌≤◌, ◌<◌, ◌-◌, ◌^◌, ℕ, zero, suc, Bool, List, [], ◌∷◌, length, take, drop, map, true, false, Option, Some, None, refl, sym, ◌∙◌, subst, arith}
use Rattle.org_disk.specs.declared.disk.Disk.{Ghosts}
use Rattle.std.specs.List.{All, AllByRecursion, Contains, IsDistinct}
use Rattle.std.specs.Map.{keys_of}
use Rattle.std.specs.Set.{is_member}
use Rattle.std.specs.Str.{bytes_eq}
use Rattle.std.specs.Prelude.{◌==◌, if◌then◌else◌, slice_range, IsSomeAnd, Result, OnOk, IsErrAnd}
use Rattle.std.proofs.lemmas.Cmp.{nat_list_eq_equiv}
use Rattle.std.proofs.lemmas.List.{length-map, length-take}
use Rattle.std.proofs.lemmas.List.Elements.{All-from_recursion, recursion_from_All}
use Rattle.std.proofs.lemmas.Map.Entries.{length-keys_of}
use Rattle.std.proofs.lemmas.Map.Made.{length-le_from_is_member, is_member-Decides}
use Rattle.std.proofs.lemmas.Result.{err_from_is_err_and, on_ok_weaker}
use Rattle.std.proofs.lemmas.Slice.Eq.{bytes_eq-Decides}
use Rattle.org_disk.specs.Disk.{AreImages, FileState, IsStable, LeavesOnly}
use Rattle.org_disk.specs.CountsFailures.{LeavesOver}
use Rattle.org_disk.proofs.Images.{only_image}
use Rattle.org_disk.proofs.Names.{name_cases}
use Rattle.std.proofs.lemmas.Bool.{false≢true}
use Rattle.org_disk.proofs.Accounting.{accounts_none}
use Rattle.org_disk.proofs.Moments.{passes_none, passes_as, leaves_only}
use Rattle.org_disk.specs.Names.{journal_name}
use Rattle.org_disk.specs.declared.disk.DiskFault.{DiskFault}
use Rattle.org_splice.specs.Texts.{EditedText, IsEditOf, pairs_of}
use Rattle.org_journal.specs.declared.record.Before.{Before}
use Rattle.org_journal.specs.declared.record.Entry.{Entry}
use Rattle.org_splice.specs.declared.patch.Patch.{Patch}
use Rattle.org_journal.specs.declared.record.Version.TheVariants.{Two, Three}
use Rattle.org_journal.specs.Record.{IsBefore, IsEntry, IsWellFormed, greatest_length, most_context, most_entries}
use Rattle.org_journal.specs.Recovered.{Image, contents, replayed}
use Rattle.org_journal.specs.Reading.{journal_at}
use Rattle.org_splice.specs.Patches.{last_end}
use Rattle.org_journal.specs.Left.{first_from}
use Rattle.org_fileset.specs.Entries.{AreEntriesOf, HasRecordOf, SaySizes, before_of, changed}
use Rattle.org_fileset.specs.Left.{IsLeft, IsLeftBy}
use Rattle.org_fileset.specs.Replay.{AreApplicableTo, IsAtRest, IsBeforeOrAfter, IsCommitted, CommitsEntriesOver, CommitsOver, TakesTo}
use Rattle.org_fileset.specs.Set.{CommitsSet, Opened}
use Rattle.org_fileset.specs.Writes.{IsOther, IsUnwritten}
use Rattle.org_fileset.specs.declared.fault.SetFault.{SetFault}
use Rattle.org_fileset.specs.declared.fault.SetFault.TheVariants.{OutOfMemory}
use Rattle.org_fileset.proofs.Accounted.{accounts_other}
use Rattle.org_fileset.proofs.Sets.{keeps_whole, memory_apart, passed_never}
use Rattle.org_fileset.proofs.Allowed.{entry_start}
use Rattle.org_fileset.proofs.Commits.{at_rest_recovers, rest_left}
use Rattle.org_fileset.proofs.Lefts.{each_named, keep_takes, stays_by}
use Rattle.org_fileset.proofs.Reopening.{stable_own_image}
use Rattle.org_fileset.proofs.Writes.{alone_none, alone_fewer, others_unwritten}
use Rattle.org_fileset.proofs.Recovers.{recovers_as, takes-replayed}
use Rattle.org_fileset.proofs.Recorded.{IsCommittable, file_named, changes_applicable, changes_made}

abbrev Change : Type 0
Change = List ℕ × EditedText

-- what holds of each name of the set holds of this one
of_name : (P : List ℕ → Type 0) (names : List (List ℕ)) (name : List ℕ) → AllByRecursion P names → Contains names name → P name
of_name P names name each at = subst P at.2 (All-from_recursion P names each at.0 name at.1)

names_apart : (names : List (List ℕ)) (changes : List Change) → AllByRecursion (λ name. name ≢ journal_name) names → AllByRecursion (λ (change : Change). Contains names change.0) changes
    → AllByRecursion (λ (change : Change). change.0 ≢ journal_name) changes
names_apart names [] each named = tt
names_apart names (change ∷ changes) each named = (of_name (λ name. name ≢ journal_name) names change.0 each named.0, names_apart names changes each named.1)

-- no change is of the journal
pub changes_named : (names : List (List ℕ)) (changes : List Change) → AllByRecursion (λ name. name ≢ journal_name) names → All (λ (change : Change). Contains names change.0) changes
    → AllByRecursion (λ (change : Change). change.0 ≢ journal_name) changes
changes_named names changes each named = names_apart names changes each (recursion_from_All (λ (change : Change). Contains names change.0) changes named)

all_committable : (names : List (List ℕ)) (changes : List Change) → AllByRecursion (λ name. name ≢ journal_name) names → AllByRecursion (λ (change : Change). Contains names change.0) changes
    → AllByRecursion (λ (change : Change). length change.1.bytes ≤ greatest_length Two) changes → AllByRecursion IsCommittable changes
all_committable names [] each named small = tt
all_committable names (change ∷ changes) each named small =
    ((of_name (λ name. name ≢ journal_name) names change.0 each named.0, small.0), all_committable names changes each named.1 small.1)

pub committable : (names : List (List ℕ)) (changes : List Change) → AllByRecursion (λ name. name ≢ journal_name) names → All (λ (change : Change). Contains names change.0) changes
    → All (λ (change : Change). length change.1.bytes ≤ greatest_length Two) changes → AllByRecursion IsCommittable changes
committable names changes each named small =
    all_committable names changes each (recursion_from_All (λ (change : Change). Contains names change.0) changes named)
    (recursion_from_All (λ (change : Change). length change.1.bytes ≤ greatest_length Two) changes small)

pub all_edits : (files : Image) (changes : List Change) → All (λ (change : Change). IsEditOf (files change.0) change.1) changes → AllByRecursion (λ (change : Change). IsEditOf (files change.0) change.1) changes
all_edits files changes edits = recursion_from_All (λ (change : Change). IsEditOf (files change.0) change.1) changes edits

-- no more changes than names
key_named : (names : List (List ℕ)) (changes : List Change) → AllByRecursion (λ (change : Change). Contains names change.0) changes → (q : List ℕ) → is_member bytes_eq (keys_of changes) q ≡ true
    → is_member bytes_eq names q ≡ true
key_named names changes named q member = (is_member-Decides bytes_eq-Decides names q).1 (found changes named ((is_member-Decides bytes_eq-Decides (keys_of changes) q).0 member))
  where
    found : (changes : List Change) → AllByRecursion (λ (change : Change). Contains names change.0) changes → Contains (keys_of changes) q → Contains names q
    found [] named at = absurd (omega (arith, at.1))
    found (change ∷ changes) named (zero, within, is) = subst (λ (n : List ℕ). Contains names n) is named.0
    found (change ∷ changes) named (suc k, within, is) = found changes named.1 (k, omega arith, is)

few_changes : (names : List (List ℕ)) (changes : List Change) → IsDistinct bytes_eq (keys_of changes) → length names ≤ most_entries → AllByRecursion (λ (change : Change). Contains names change.0) changes → length changes ≤ most_entries
few_changes names changes distinct few named =
    let fewer = length-le_from_is_member nat_list_eq_equiv (keys_of changes) names distinct (key_named names changes named) in
    omega (arith, fewer, few, length-keys_of changes)

same_length : (changes : List Change) (entries : List Entry) → AreEntriesOf changes entries → length entries ≡ length changes
same_length [] [] are = refl
same_length (change ∷ changes) (entry ∷ entries) are = let rest = same_length changes entries are.1 in omega (arith, rest)
same_length [] (entry ∷ entries) are = absurd are
same_length (change ∷ changes) [] are = absurd are

few_taken : (n : ℕ) (text : List ℕ) → length (take n text) ≤ n
few_taken n text = omega (arith, length-take n text)

leading_few : (from : ℕ) (text : List ℕ) → length (slice_range text (from - most_context) from) ≤ most_context
leading_few from text = omega (arith, few_taken (from - (from - most_context)) (drop (from - most_context) text))

trailing_few : (b : Bool) (text : List ℕ) → length (if b then take most_context text else []) ≤ most_context
trailing_few true text = few_taken most_context text
trailing_few false text = omega arith

-- what a commit writes down of a file as it was
before_formed : (patches : List (ℕ × List ℕ)) (text : List ℕ) (before : Before) → (before.length < 2 ^ 64) × (before ≡ before_of before.length patches text) → IsBefore before
before_formed patches text before is = record {
  sized = is.0;
  leading = subst (λ (b : Before). length b.leading ≤ most_context) (sym is.1) (leading_few (first_from patches) text);
  trailing = subst (λ (b : Before). length b.trailing ≤ most_context) (sym is.1) (trailing_few (before.length == length text) (drop (last_end 0 patches) text));
}

some_formed : (patches : List (ℕ × List ℕ)) (text : List ℕ) (before : Option Before) → IsSomeAnd before (λ b. (b.length < 2 ^ 64) × (b ≡ before_of b.length patches text)) → IsSomeAnd before IsBefore
some_formed patches text None is = absurd is
some_formed patches text (Some before) is = before_formed patches text before is

each_entry : (changes : List Change) (entries : List Entry) → AreEntriesOf changes entries → AllByRecursion IsCommittable changes → AllByRecursion (IsEntry Three) entries
each_entry [] [] are can = tt
each_entry (change ∷ changes) (entry ∷ entries) are can =
    let pair : Patch → ℕ × List ℕ = λ p. (p.from, p.bytes) in
    let long : length (map pair entry.patches) ≡ length entry.patches = length-map entry.patches pair in (
      record {
        text = are.0.text;
        name = file_named change entry are.0 can.0.0;
        few = omega (arith, long, are.0.patches.few);
        patches = are.0.patches;
        small = omega (arith, are.0.length_is, can.0.1);
        before = some_formed (pairs_of entry.patches) change.1.bytes entry.before are.0.before;
      },
      each_entry changes entries are.1 can.1,
    )
each_entry [] (entry ∷ entries) are can = absurd are
each_entry (change ∷ changes) [] are can = absurd are

pub changes_formed : (names : List (List ℕ)) (changes : List Change) (entries : List Entry) → AreEntriesOf changes entries → IsDistinct bytes_eq (keys_of changes) → (changes ≡ [] → ⊥)
    → AllByRecursion (λ name. name ≢ journal_name) names → length names ≤ most_entries → All (λ (change : Change). Contains names change.0) changes
    → All (λ (change : Change). length change.1.bytes ≤ greatest_length Two) changes → IsWellFormed Three entries
changes_formed names changes entries are distinct some each few named small =
    let can = committable names changes each named small in
    let long = same_length changes entries are in
    record {
      some = omega (arith, long, nonempty changes some);
      few = omega (arith, long, few_changes names changes distinct few (recursion_from_All (λ (change : Change). Contains names change.0) changes named));
      each = each_entry changes entries are can;
      apart = (changes_applicable changes entries are distinct can).apart;
    }
  where
    nonempty : (changes : List Change) → (changes ≡ [] → ⊥) → 1 ≤ length changes
    nonempty [] some = absurd (some refl)
    nonempty (change ∷ changes) some = omega arith

-- the record's files are the changed ones
pub with_or_without : (changes : List Change) (entries : List Entry) (files : Image) → AreEntriesOf changes entries → SaySizes (λ n. length (files n)) entries
    → AllByRecursion (λ (change : Change). IsEditOf (files change.0) change.1) changes → (image : Image) → IsBeforeOrAfter files (replayed entries files) image → IsBeforeOrAfter files (changed changes files) image
with_or_without changes entries files are says edits image (inl before) = inl before
with_or_without changes entries files are says edits image (inr after) = inr (recovers_as (replayed entries files) (changed changes files) image (λ name not. changes_made changes entries files name are says edits) after)

-- the calls of the commit
pub changes_left : (changes : List Change) (entries : List Entry) (files : Image) (m n : ℕ) (past since : ℕ → Image → Type 0) → AreEntriesOf changes entries → SaySizes (λ n. length (files n)) entries
    → AllByRecursion (λ (change : Change). IsEditOf (files change.0) change.1) changes → LeavesOnly m n past since (IsBeforeOrAfter files (replayed entries files)) → LeavesOnly m n past since (IsBeforeOrAfter files (changed changes files))
changes_left changes entries files m n past since are says edits left = record {
  each = λ image at. with_or_without changes entries files are says edits image (left.each image at);
  passes = passes_as left.passes (with_or_without changes entries files are says edits);
}

-- no call of the disk, and no change
pub commits_none : {D A E : Type 0} (g : Ghosts D) (after : Image) (Alone : List ℕ → Type 0) (disk : D) (r : Result A E)
    → ((image : Image) → g.left_since disk (g.instant disk) image → AreImages (g.files disk) image) → OnOk r (IsCommitted after (g.files disk) (g.files disk)) → CommitsOver g after Alone disk disk r
commits_none g after Alone disk r now done = record {
  done = done;
  any_moment = λ rest. leaves_only (passes_none (g.instant disk) (g.left_since disk) (IsBeforeOrAfter (contents (g.files disk)) after)) (λ image left. inl (at_rest_recovers (g.files disk) rest image (now image left)));
  recoverable = λ rest. inl (λ name not. rest.stable name);
  alone = alone_none g Alone disk;
}

-- the commit of the record is one of the changes
pub commits_changes : {D A E B F : Type 0} (g : Ghosts D) (changes : List Change) (entries : List Entry) (old new : D)
    (r : Result A E) (s : Result B F) → (changes ≡ [] → ⊥) → AreEntriesOf changes entries → SaySizes (λ n. length (contents (g.files old) n)) entries → AllByRecursion (λ (change : Change). IsEditOf (contents (g.files old) change.0) change.1) changes
    → CommitsOver g (replayed entries (contents (g.files old))) (IsUnwritten entries) old new r → OnOk s (IsCommitted (replayed entries (contents (g.files old))) (g.files old) (g.files new))
    → CommitsOver g (changed changes (contents (g.files old))) (IsOther (keys_of changes)) old new s
commits_changes g changes entries old new r s some are says edits commits done = record {
  done = on_ok_weaker s (λ made. record {
    made = λ name not. made.made name not ∙ changes_made changes entries (contents (g.files old)) name are says edits;
    rest = made.rest;
  }) done;
  any_moment = λ rest. changes_left changes entries (contents (g.files old)) (g.instant old) (g.instant new) (g.left_since old) (g.left_since new) are says edits (commits.any_moment rest);
  recoverable = commits.recoverable;
  alone = alone_fewer g (IsOther (keys_of changes)) (IsUnwritten entries) old new commits.alone (λ name other. others_unwritten changes entries name are some other);
}

-- .. as it was written
pub commits_record : {D : Type 0} (g : Ghosts D) (changes : List Change) (entries record_entries : List Entry) (old new : D) (r : Result (Unit {0}) DiskFault) (s : Result (Unit {0}) SetFault) → (changes ≡ [] → ⊥) → AreEntriesOf changes entries
    → SaySizes (λ n. length (contents (g.files old) n)) entries → record_entries ≡ entries → All (λ (change : Change). IsEditOf (contents (g.files old) change.0) change.1) changes → CommitsEntriesOver g record_entries old new r
    → (CommitsOver g (replayed entries (contents (g.files old))) (IsUnwritten entries) old new r → OnOk s (IsCommitted (replayed entries (contents (g.files old))) (g.files old) (g.files new)))
    → CommitsOver g (changed changes (contents (g.files old))) (IsOther (keys_of changes)) old new s
commits_record g changes entries record_entries old new r s some are says same edits commits done =
    let files = contents (g.files old) in
    let made : CommitsOver g (replayed entries files) (IsUnwritten entries) old new r =
    subst (λ (l : List Entry). CommitsOver {A = Unit {0}} {E = DiskFault} g (replayed l files) (IsUnwritten l) old new r) same commits.commits in
    commits_changes g changes entries old new r s some are says (all_edits files changes edits) made (done made)

-- what a commit leaves in the journal
pub has_record : (changes : List Change) (entries : List Entry) (journal : List ℕ) → AreEntriesOf changes entries → journal_at (drop 1 journal) ≡ Some entries → HasRecordOf changes journal
has_record [] entries journal are found = tt
has_record (change ∷ changes) entries journal are found = (entries, are, found)

-- no call
pub none_left : {D : Type 0} (g : Ghosts D) (disk : D) → ((image : Image) → g.left_since disk (g.instant disk) image → AreImages (g.files disk) image) → IsAtRest (g.files disk) → LeavesOver g disk disk IsLeft
none_left g disk now rest = leaves_only (passes_none (g.instant disk) (g.left_since disk) IsLeft) (λ image left. rest_left (g.files disk) rest image (now image left))

-- a fault of memory that a `?` passed on, before any call of the disk
pub commits_refused : {D : Type 0} (g : Ghosts D) (set : Opened D) (changes : List Change) (r : Result (Unit {0}) SetFault) → set.broken ≡ false
    → ((image : Image) → g.honest set.disk → g.left_since set.disk (g.instant set.disk) image → AreImages (g.files set.disk) image) → IsErrAnd r (λ e. e ≡ OutOfMemory) → CommitsSet g set changes r set
commits_refused g set changes r whole only_now is =
    let p = err_from_is_err_and r is in
    record {
      commits = λ honest. commits_none g (changed changes (contents (g.files set.disk))) (IsOther (keys_of changes)) set.disk r (λ image left. only_now image honest left) (passed_never _ _ r is);
      record_stands = λ honest. passed_never _ _ r is;
      left = λ honest. none_left g set.disk (λ image left. only_now image honest left);
      memory = λ e. refl;
      set = keeps_whole set set refl whole whole r (λ e. cc (e, p.1, p.2)) (λ e. cc (e, p.1, p.2));
      accounts = accounts_other is memory_apart (accounts_none g set.disk);
    }

-- what a commit begins with: each entry allows its file
pub begins_left : (changes : List Change) (entries : List Entry) (files : List ℕ → FileState) → AreEntriesOf changes entries → SaySizes (λ n. length (contents files n)) entries
    → AllByRecursion (λ (change : Change). IsEditOf (contents files change.0) change.1) changes → ((name : List ℕ) → IsStable (files name))
    → AllByRecursion (λ entry. IsLeftBy entry (contents files entry.name)) entries
begins_left [] [] files are says edits stable = tt
begins_left (change ∷ changes) (entry ∷ entries) files are says edits stable =
    let edit = subst (λ (n : List ℕ). IsEditOf (contents files n) change.1) (sym are.0.name) edits.0 in
    let stays = entry_start change entry (files entry.name) are.0 (stable entry.name) edit says.0 in
    (stays_by entry (files entry.name) stays (contents files entry.name) (stable_own_image (stable entry.name)), begins_left changes entries files are.1 says.1 edits.1 stable)
begins_left [] (entry ∷ entries) files are says edits stable = absurd are
begins_left (change ∷ changes) [] files are says edits stable = absurd are

-- so a crash leaves nothing else of it
pub commits_left : {D : Type 0} (g : Ghosts D) (changes : List Change) (entries record_entries : List Entry) (old new : D) (r : Result (Unit {0}) DiskFault) → AreEntriesOf changes entries
    → SaySizes (λ n. length (contents (g.files old) n)) entries → record_entries ≡ entries → All (λ (change : Change). IsEditOf (contents (g.files old) change.0) change.1) changes
    → AreApplicableTo entries (g.files old) → ((image : Image) → g.left_since old (g.instant old) image → AreImages (g.files old) image)
    → CommitsEntriesOver g record_entries old new r → IsAtRest (g.files old) → LeavesOver g old new IsLeft
commits_left g changes entries record_entries old new r are says same edits can now commits rest =
    let files = g.files old in
    let made = subst (λ (l : List Entry). CommitsEntriesOver g l old new r) same commits in
    let each = begins_left changes entries files are says (all_edits (contents files) changes edits) rest.stable in
    leaves_only (made.left rest (record {
      each = λ name not text image.
          subst (λ (t : List ℕ). TakesTo true entries name t (replayed entries (contents files) name)) (sym (only_image (rest.stable name) text image))
          (keep_takes entries name (contents files name) (replayed entries (contents files) name)
          (takes-replayed entries (contents files) name (replayed entries (contents files) name) can.fits refl) (each_named entries (contents files) name each));
    })) (λ image left. rest_left files rest image (now image left))
