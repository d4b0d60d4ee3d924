-- How a run of calls goes on that applies a record to its files.
use Rattle.std.proofs.Common.{◌≡◌, ◌≢◌, inl, inr, ℕ, zero, suc, ◌+◌, ◌<◌, ◌≤◌, List, [], ◌∷◌, length, Bool, true, false, not, Result, Some, refl, sym, ◌∙◌, ap, subst, arith}
use Rattle.std.proofs.lemmas.Grind.{common_steps}
use Rattle.std.specs.Prelude.{slice_get, ◌||◌}
use Rattle.std.specs.Str.{bytes_eq}
use Rattle.std.proofs.lemmas.Bool.{cases_Bool, cases_eq, and_parts, not-true, false≢true}
use Rattle.std.proofs.lemmas.Option.{slice_get_within}
use Rattle.org_disk.specs.Disk.{FileState, IsImage, IsStable, AreLeftBy, Changes, Passes, sync, stable}
use Rattle.org_disk.specs.Names.{journal_name}
use Rattle.org_disk.specs.declared.disk.DiskFault.{DiskFault}
use Rattle.org_disk.proofs.Images.{only_image, stable_is}
use Rattle.org_disk.proofs.Moments.{passes_then, passes_none}
use Rattle.org_disk.proofs.Names.{name_cases}
use Rattle.org_journal.specs.declared.record.Entry.{Entry}
use Rattle.org_journal.specs.Record.{is_named, names_differ}
use Rattle.org_journal.specs.Recovered.{Image, contents}
use Rattle.org_fileset.specs.Replay.{EachMadeBy, IsMadeBy, Applies, TakesTo, AreApplicable, EachTakes, Replays, LeavesTaking}
use Rattle.org_fileset.proofs.Patching.{applies_none, applies_call}
use Rattle.org_fileset.proofs.Takes.{TakesTo-entry, entry-TakesTo, named_apart, journal_unnamed}

-- no entry's name is the journal's
pub not_journal : (entries : List Entry) (i : ℕ) (entry : Entry) → AreApplicable entries → slice_get entries i ≡ Some entry → entry.name ≢ journal_name
not_journal entries i entry applicable is = λ same. named_apart entries i entry journal_name (journal_unnamed entries applicable.each) is (sym same)

-- of whatever a crash leaves of its file an entry makes one text
pub entry_takes : {keep : Bool} (entries : List Entry) (texts : Image) (files : List ℕ → FileState) (i : ℕ) (entry : Entry) → AreApplicable entries → slice_get entries i ≡ Some entry
    → EachTakes keep entries texts files → EachMadeBy keep entry (texts entry.name) (files entry.name)
entry_takes entries texts files i entry applicable is takes text image =
    TakesTo-entry entries i entry text (texts entry.name) applicable.apart is (takes.each entry.name (not_journal entries i entry applicable is) text image)

pub replays_none : {keep : Bool} {entries : List Entry} {texts : Image} (m : ℕ) (s : ℕ → Image → Type 0) (files : List ℕ → FileState) → EachTakes keep entries texts files → Replays keep entries texts m m s s files files
replays_none {keep} {entries} {texts} m s files takes = record {
  any_moment = passes_none m s (LeavesTaking keep (files journal_name).content entries texts);
  takes = takes;
  others = λ name none. refl;
}

-- calls on the file of one entry
pub replays_entry : {keep : Bool} {entries : List Entry} {texts : Image} {m n k : ℕ} {s u v : ℕ → Image → Type 0} {old mid new : List ℕ → FileState} (i : ℕ) (entry : Entry)
    → AreApplicable entries → slice_get entries i ≡ Some entry → IsStable (old journal_name)
    → Replays keep entries texts m n s u old mid → Applies keep entry (texts entry.name) n k u v mid new → Replays keep entries texts m k s v old new
replays_entry {keep} {entries} {texts} {old = old} {mid = mid} {new = new} i entry applicable is stable sofar applies = record {
  any_moment = passes_then sofar.any_moment applies.any_moment (λ image left. record {
    same_journal = only_image stable (image journal_name) (subst (λ f. IsImage f (image journal_name)) (sofar.others journal_name none) (left.others journal_name (λ same. apart (sym same))));
    each = λ name not. elim (name_cases name entry.name) [
      | inl same ↦ subst (λ (x : List ℕ). TakesTo keep entries x (image x) (texts x)) (sym same.0)
          (entry-TakesTo entries i entry (image entry.name) (texts entry.name) applicable.apart is left.here)
      | inr other ↦ sofar.takes.each name not (image name) (left.others name other.0)
    ];
  });
  takes = record {
    each = λ name not text image. elim (name_cases name entry.name) [
      | inl same ↦ subst (λ (x : List ℕ). TakesTo keep entries x text (texts x)) (sym same.0)
          (entry-TakesTo entries i entry text (texts entry.name) applicable.apart is (applies.takes text (subst (λ (x : List ℕ). IsImage (new x) text) same.0 image)))
      | inr other ↦ sofar.takes.each name not text (subst (λ f. IsImage f text) (applies.others name other.0) image)
    ];
  };
  others = λ name none. applies.others name (named_apart entries i entry name none is) ∙ sofar.others name none;
}
  where
    apart : entry.name ≢ journal_name
    apart = not_journal entries i entry applicable is

    none : is_named journal_name entries ≡ false
    none = journal_unnamed entries applicable.each

-- a sync of the file of one entry
pub applies_sync : {keep : Bool} {entry : Entry} {to : List ℕ} {m n : ℕ} {s u : ℕ → Image → Type 0} {old new : List ℕ → FileState} (r : Result (Unit {0}) DiskFault)
    → EachMadeBy keep entry to (old entry.name) → IsImage (old entry.name) (old entry.name).content → Changes sync entry.name old new r → Passes m n s u (AreLeftBy sync entry.name old)
    → Applies keep entry to m n s u old new
applies_sync {keep} {entry} {to} {m = m} {s = s} {old = old} r takes own changes time =
    applies_call sync r (applies_none m s old takes)
    (λ text image. subst (λ (t : List ℕ). IsMadeBy keep entry t to) (sym (only_image (stable_is (old entry.name).content) text image)) (takes (old entry.name).content own))
    changes time

-- the entries up to one have their texts
abbrev pub HaveTexts : List Entry → Image → ℕ → (List ℕ → FileState) → Type 0
HaveTexts entries texts n files = (j : ℕ) (entry : Entry) → j < n → slice_get entries j ≡ Some entry → (files entry.name).content ≡ texts entry.name

-- one more
pub texts_more : (entries : List Entry) (texts : Image) (i : ℕ) (entry : Entry) (old new : List ℕ → FileState) → slice_get entries i ≡ Some entry
    → (new entry.name).content ≡ texts entry.name → ((other : List ℕ) → other ≢ entry.name → new other ≡ old other) → HaveTexts entries texts i old → HaveTexts entries texts (i + 1) new
texts_more entries texts i entry old new is content others sofar j earlier below at = elim (name_cases earlier.name entry.name) [
  | inl same ↦ ap (λ (x : List ℕ). (new x).content) same.0 ∙ content ∙ ap texts (sym same.0)
  | inr other ↦ ap (λ (f : FileState). f.content) (others earlier.name other.0) ∙ elim (cases_eq j i) [
    | inl here ↦
        let one : Some earlier ≡ Some entry = sym at ∙ ap (λ (k : ℕ). slice_get entries k) here ∙ is in
        let e : earlier ≡ entry = cc in
        absurd (other.0 (ap (λ (x : Entry). x.name) e))
    | inr before ↦ let less : j < i = omega arith in sofar j earlier less at
  ]
]

named_at : (entries : List Entry) (name : List ℕ) → is_named name entries ≡ true → (i : ℕ) × (entry : Entry) × (slice_get entries i ≡ Some entry) × (entry.name ≡ name)
named_at [] name named = absurd (false≢true named)
named_at (entry ∷ entries) name named = elim (name_cases entry.name name) [
  | inl same ↦ (0, entry, refl, same.0)
  | inr other ↦
      let e : bytes_eq entry.name name ≡ false = other.1 in
      let rest = named_at entries name (sym (ap (λ (b : Bool). b || is_named name entries) e) ∙ named) in
      (suc rest.0, rest.1, rest.2, rest.3)
]

-- the files have the texts that the record makes
pub all_texts : (entries : List Entry) (texts : Image) (n : ℕ) (old new : List ℕ → FileState) (name : List ℕ) → length entries ≤ n → HaveTexts entries texts n new
    → ((other : List ℕ) → is_named other entries ≡ false → new other ≡ old other) → (is_named name entries ≡ false → contents old name ≡ texts name) → contents new name ≡ texts name
all_texts entries texts n old new name done have others own = elim (cases_Bool (is_named name entries)) [
  | inl named ↦
      let found = named_at entries name named in
      let within : found.0 < n = omega (arith, done, slice_get_within entries found.0 found.1 found.2) in
      ap (λ (x : List ℕ). (new x).content) (sym found.3) ∙ have found.0 found.1 within found.2 ∙ ap texts found.3
  | inr none ↦ ap (λ (f : FileState). f.content) (others name none) ∙ own none
]

-- the files of the entries from one on are as they were
abbrev pub AreUntouched : List Entry → ℕ → (old new : List ℕ → FileState) → Type 0
AreUntouched entries n old new = (j : ℕ) (entry : Entry) → n ≤ j → slice_get entries j ≡ Some entry → new entry.name ≡ old entry.name

apart_at : (entries : List Entry) (i j : ℕ) (one other : Entry) → names_differ entries ≡ true → i < j → slice_get entries i ≡ Some one → slice_get entries j ≡ Some other → other.name ≢ one.name
apart_at [] i j one other differ less at there = absurd (cc)
apart_at (first ∷ entries) i zero one other differ less at there = absurd (omega arith)
apart_at (first ∷ entries) zero (suc j) one other differ less at there = grind (arith, common_steps, and_parts, named_apart, not-true)
apart_at (first ∷ entries) (suc i) (suc j) one other differ less at there =
    apart_at entries i j one other (and_parts (not (is_named first.name entries)) (names_differ entries) differ).1 (omega arith) at there

pub untouched_more : (entries : List Entry) (i : ℕ) (entry : Entry) (old mid new : List ℕ → FileState) → AreApplicable entries → slice_get entries i ≡ Some entry
    → ((other : List ℕ) → other ≢ entry.name → new other ≡ mid other) → AreUntouched entries i old mid → AreUntouched entries (i + 1) old new
untouched_more entries i entry old mid new applicable is others sofar j later le at =
    others later.name (apart_at entries i j entry later applicable.apart (omega arith) is at) ∙ sofar j later (omega arith) at

-- the files of the entries up to one are on the disk
abbrev pub AreStable : List Entry → ℕ → (List ℕ → FileState) → Type 0
AreStable entries n files = (j : ℕ) (entry : Entry) → j < n → slice_get entries j ≡ Some entry → IsStable (files entry.name)

pub stable_more : (entries : List Entry) (i : ℕ) (entry : Entry) (old new : List ℕ → FileState) → slice_get entries i ≡ Some entry
    → IsStable (new entry.name) → ((other : List ℕ) → other ≢ entry.name → new other ≡ old other) → AreStable entries i old → AreStable entries (i + 1) new
stable_more entries i entry old new is this others sofar j earlier below at = elim (name_cases earlier.name entry.name) [
  | inl same ↦ subst (λ (x : List ℕ). IsStable (new x)) (sym same.0) this
  | inr other ↦ subst IsStable (sym (others earlier.name other.0)) (elim (cases_eq j i) [
    | inl here ↦
        let one : Some earlier ≡ Some entry = sym at ∙ ap (λ (k : ℕ). slice_get entries k) here ∙ is in
        let e : earlier ≡ entry = cc in
        absurd (other.0 (ap (λ (x : Entry). x.name) e))
    | inr before ↦ let less : j < i = omega arith in sofar j earlier less at
  ])
]

pub all_stable : (entries : List Entry) (n : ℕ) (old new : List ℕ → FileState) (name : List ℕ) → length entries ≤ n → AreStable entries n new
    → ((other : List ℕ) → is_named other entries ≡ false → new other ≡ old other) → (is_named name entries ≡ false → IsStable (old name)) → IsStable (new name)
all_stable entries n old new name done each others before = elim (cases_Bool (is_named name entries)) [
  | inl named ↦
      let found = named_at entries name named in
      let within : found.0 < n = omega (arith, done, slice_get_within entries found.0 found.1 found.2) in
      subst (λ (x : List ℕ). IsStable (new x)) found.3 (each found.0 found.1 within found.2)
  | inr none ↦ subst IsStable (sym (others name none)) (before none)
]
