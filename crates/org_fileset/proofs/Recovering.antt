-- The stages of an opening, and what is left in each.
use Rattle.std.proofs.Common.{◌≡◌, ◌≢◌, ◌⊎◌, inl, inr, ⊎_elim, ℕ, ◌+◌, ◌<◌, ◌≤◌, List, [], ◌∷◌, length, take, drop, get_or, set, true, false, Option, Some, None, Result, Ok, Err, refl, sym, ◌∙◌, ap, subst, arith, length-set, length-take, length-append, ◌++◌}
use Rattle.std.specs.Prelude.{Bool, ◌&&◌, not, IsSomeAnd, is_some, nat_le, slice_index, ◌==◌, if◌then◌else◌}
use Rattle.std.specs.List.{AllByRecursion}
use Rattle.std.specs.Str.{bytes_eq}
use Rattle.std.proofs.lemmas.Bool.{cases_Bool, cases_lt, cases_eq, and_from, and_parts, le-leb, leb-true, eq-eqb, true≢false, false≢true}
use Rattle.std.proofs.lemmas.List.{get_or-set_same, get_or-set_other, get_or-take, get_or_append_left}
use Rattle.org_disk.specs.Disk.{FileState, IsOutside, IsImage, IsStable, AreImages, AreLeftBy, MayLeave, Changes, sync, stable}
use Rattle.org_disk.specs.Names.{journal_name}
use Rattle.org_disk.specs.declared.disk.DiskFault.{DiskFault}
use Rattle.org_disk.proofs.Images.{only_image, stable_is}
use Rattle.org_disk.proofs.Names.{name_cases}
use Rattle.org_journal.specs.declared.record.Entry.{Entry}
use Rattle.org_journal.specs.declared.finding.Found.{Found}
use Rattle.org_journal.specs.declared.finding.Found.TheVariants.{Open, Closed}
use Rattle.org_journal.specs.Finding.{Finds}
use Rattle.org_journal.specs.Gate.{front_size, is_open, HasClosedGate, LeavesClosed}
use Rattle.org_journal.specs.Reading.{journal_at}
use Rattle.org_journal.specs.declared.record.Version.{Version}
use Rattle.org_journal.specs.declared.record.Version.TheVariants.{One, Two, Three}
use Rattle.org_journal.specs.Record.{greatest_length, is_named, IsEntry, IsRecord}
use Rattle.org_journal.specs.Recovered.{Image, SameFiles, RecoversTo, IsOpenOverRecord, IsRecoverable, OthersStable, recovered, all_fit, replayed, contents}
use Rattle.org_fileset.specs.Opening.{IsFit}
use Rattle.org_fileset.specs.Recovery.{EachRecovers, RecoversAsBefore, is_closed, closed_journal, marked}
use Rattle.org_fileset.specs.Replay.{TakesTo, IsApplicable, AreApplicable, EachTakes, IsOpenOver, IsReplayable, IsAtRest}
use Rattle.org_fileset.proofs.Recovers.{recovers_open, recovers_closed, open_recovers, takes-replayed}

-- A file of which a crash leaves the content and nothing else is all on the disk.

out_or_in : (written : List (ℕ × ℕ)) (i : ℕ) → IsOutside written i ⊎ (IsOutside written i → ⊥)
out_or_in [] i = inl tt
out_or_in (range ∷ written) i = elim (out_or_in written i) [
  | inr not ↦ inr (λ out. not out.1)
  | inl rest ↦ elim (cases_lt i range.0) [
    | inl before ↦ inl (inl before, rest)
    | inr from ↦ elim (cases_lt i (range.0 + range.1)) [
      | inl inside ↦ inr (λ out. ⊎_elim (λ less. absurd (omega arith)) (λ more. absurd (omega arith)) out.0)
      | inr past ↦ inl (inr past, rest)
    ]
  ]
]

module _ (file : FileState) (own : IsImage file file.content) (only : (bytes : List ℕ) → IsImage file bytes → bytes ≡ file.content) where
  least_is : file.least ≡ length file.content
  least_is = elim (cases_lt file.least (length file.content)) [
    | inl less ↦
        let short : List ℕ = take file.least file.content in
        let size : length short ≡ file.least = omega (arith, length-take file.least file.content, less) in
        let image : IsImage file short = record {
          no_shorter = omega (arith, size);
          no_longer = omega (arith, size, less, own.no_longer);
          fixed = λ i fixed. get_or-take file.least file.content i 0 fixed.0;
        } in
        absurd (omega (arith, ap length (only short image), size, less))
    | inr enough ↦ omega (arith, enough, own.no_shorter)
  ]

  greatest_is : file.greatest ≡ length file.content
  greatest_is = elim (cases_lt (length file.content) file.greatest) [
    | inl more ↦
        let long : List ℕ = file.content ++ 0 ∷ [] in
        let size : length long ≡ length file.content + 1 = length-append file.content (0 ∷ []) in
        let image : IsImage file long = record {
          no_shorter = omega (arith, size, own.no_shorter);
          no_longer = omega (arith, size, more);
          fixed = λ i fixed. get_or_append_left file.content (0 ∷ []) 0 i (omega (arith, fixed.0, own.no_shorter));
        } in
        absurd (omega (arith, ap length (only long image), size))
    | inr enough ↦ omega (arith, enough, own.no_longer)
  ]

  all_outside : (i : ℕ) → i < length file.content → IsOutside file.written i
  all_outside i within = elim (out_or_in file.written i) [
    | inl out ↦ out
    | inr inside ↦
        let other : List ℕ = set file.content i (get_or file.content i 0 + 1) in
        let size : length other ≡ length file.content = length-set file.content i (get_or file.content i 0 + 1) in
        let image : IsImage file other = record {
          no_shorter = omega (arith, size, own.no_shorter);
          no_longer = omega (arith, size, own.no_longer);
          fixed = λ j fixed. elim (cases_eq j i) [
            | inl same ↦ absurd (inside (subst (IsOutside file.written) same fixed.1))
            | inr apart ↦ get_or-set_other file.content i j (get_or file.content i 0 + 1) 0 apart
          ];
        } in
        let changed : get_or file.content i 0 + 1 ≡ get_or file.content i 0 =
        sym (get_or-set_same file.content i (get_or file.content i 0 + 1) 0 within) ∙ ap (λ (l : List ℕ). get_or l i 0) (only other image) in
        absurd (omega (arith, changed))
  ]

  pub stable_from_only : IsStable file
  stable_from_only = record { least = least_is; greatest = greatest_is; fixed = all_outside }

-- What the first sync may leave

sync_here : (file : FileState) → IsImage file file.content → (bytes : List ℕ) → MayLeave sync file bytes → IsImage file bytes
sync_here file own bytes left = ⊎_elim (λ before. before) (λ after. subst (λ (b : List ℕ). IsImage file b) (sym (only_image (stable_is file.content) bytes after)) own) left

-- an image from within the sync is one from before it
pub sync_left : (name : List ℕ) (files : List ℕ → FileState) (image : Image) → IsImage (files name) (files name).content → AreLeftBy sync name files image → AreImages files image
sync_left name files image own left other = elim (name_cases other name) [
  | inl same ↦ subst (λ (n : List ℕ). IsImage (files n) (image n)) (sym same.0) (sync_here (files name) own (image name) left.here)
  | inr apart ↦ left.others other apart.0
]

-- so is one from after it
pub sync_after : (name : List ℕ) (old new : List ℕ → FileState) (r : Result (Unit {0}) DiskFault) → IsImage (old name) (old name).content → Changes sync name old new r
    → (other bytes : List ℕ) → IsImage (new other) bytes → IsImage (old other) bytes
sync_after name old new r own changes other bytes image = elim (name_cases other name) [
  | inl same ↦ subst (λ (n : List ℕ). IsImage (old n) bytes) (sym same.0) (sync_here (old name) own bytes (may r changes (subst (λ (n : List ℕ). IsImage (new n) bytes) same.0 image)))
  | inr apart ↦ subst (λ f. IsImage f bytes) (changes.others other apart.0) image
]
  where
    may : (r : Result (Unit {0}) DiskFault) → Changes sync name old new r → IsImage (new name) bytes → MayLeave sync (old name) bytes
    may (Ok x) changes here = inr (subst (λ f. IsImage f bytes) changes.ok here)
    may (Err e) changes here = changes.err.images bytes here

-- the sync keeps a disk recoverable, also where it fails
pub sync_recoverable : (old new : List ℕ → FileState) (r : Result (Unit {0}) DiskFault) → IsImage (old journal_name) (old journal_name).content → ((name : List ℕ) → IsImage (new name) (new name).content)
    → Changes sync journal_name old new r → IsRecoverable old → IsRecoverable new
sync_recoverable old new r own images changes (inl stable) = inl (λ name not. subst IsStable (sym (changes.others name not)) (stable name not))
sync_recoverable old new r own images changes (inr over_record) =
    let before : (bytes : List ℕ) → IsImage (new journal_name) bytes → IsImage (old journal_name) bytes =
    λ bytes image. sync_after journal_name old new r own changes journal_name bytes image in
    inr (record {
      entries = over_record.entries;
      opened = λ bytes image. over_record.opened bytes (before bytes image);
      found = λ bytes image. over_record.found bytes (before bytes image);
      others = λ name not none. subst IsStable (sym (changes.others name not)) (over_record.others name not none);
      texts = over_record.texts;
      same = λ image left. over_record.same image (λ name. sync_after journal_name old new r own changes name (image name) (left name));
    })

-- What the record of a recoverable disk makes

-- an image with one file's bytes put in place of its content
pub with_bytes : (List ℕ → FileState) → List ℕ → List ℕ → Image
with_bytes files name bytes other = if bytes_eq other name then bytes else contents files other

module _ (files : List ℕ → FileState) (own : (name : List ℕ) → IsImage (files name) (files name).content) where
  pub one_image : (name bytes : List ℕ) → IsImage (files name) bytes → AreImages files (with_bytes files name bytes)
  unfolding with_bytes
  one_image name bytes image other = elim (name_cases other name) [
    | inl same ↦ let t : bytes_eq other name ≡ true = same.1 in rw t (subst (λ (n : List ℕ). IsImage (files n) bytes) (sym same.0) image)
    | inr apart ↦ let f : bytes_eq other name ≡ false = apart.1 in rw f (own other)
  ]

  pub here_is : (name bytes : List ℕ) → with_bytes files name bytes name ≡ bytes
  unfolding with_bytes
  here_is name bytes = elim (name_cases name name) [
    | inl same ↦ let t : bytes_eq name name ≡ true = same.1 in rw t refl
    | inr apart ↦ absurd (apart.0 refl)
  ]

  pub journal_is : (name bytes : List ℕ) → name ≢ journal_name → with_bytes files name bytes journal_name ≡ contents files journal_name
  unfolding with_bytes
  journal_is name bytes not = elim (name_cases journal_name name) [
    | inl same ↦ absurd (not (sym same.0))
    | inr apart ↦ let f : bytes_eq journal_name name ≡ false = apart.1 in rw f refl
  ]

module _ (files : List ℕ → FileState) (own : (name : List ℕ) → IsImage (files name) (files name).content) (entries : List Entry) (applicable : AreApplicable entries)
    (over : IsOpenOver entries files) (fit : all_fit entries (contents files) ≡ true) where
  -- one of the two kinds of recoverable disks
  pub stable_replayable : OthersStable files → IsReplayable entries files
  stable_replayable stable = record {
    others = λ name not none. stable name not;
    texts = replayed entries (contents files);
    takes = record {
      each = λ name not text image. subst (λ (t : List ℕ). TakesTo false entries name t (replayed entries (contents files) name)) (sym (only_image (stable name not) text image))
          (takes-replayed entries (contents files) name (replayed entries (contents files) name) fit refl);
    };
  }

  -- and the other
  pub open_takes : (over_record : IsOpenOverRecord files) → EachTakes false entries over_record.texts files
  open_takes over_record = record {
    each = λ name not text image.
        let whole = with_bytes files name text in
        subst (λ (t : List ℕ). TakesTo false entries name t (over_record.texts name)) (here_is files own name text)
        (open_recovers entries over_record.texts whole (ap is_open (journal_is files own name text not) ∙ over.opened)
        (ap (λ (l : List ℕ). journal_at (drop 1 l)) (journal_is files own name text not) ∙ over.found) (over_record.same whole (one_image files own name text image)) name not);
  }

  pub open_replayable : IsOpenOverRecord files → IsReplayable entries files
  open_replayable over_record =
      let one : Some over_record.entries ≡ Some entries = sym (over_record.found (contents files journal_name) (own journal_name)) ∙ over.found in
      let same : over_record.entries ≡ entries = cc in
      record {
        others = λ name not none. over_record.others name not (ap (λ (l : List Entry). is_named name l) same ∙ none);
        texts = over_record.texts;
        takes = open_takes over_record;
      }

  pub recoverable_replayable : IsRecoverable files → IsReplayable entries files
  recoverable_replayable (inl stable) = stable_replayable stable
  recoverable_replayable (inr over_record) = open_replayable over_record

  -- the contents recover to what it makes
  pub contents_recover : (can : IsReplayable entries files) → RecoversTo can.texts (contents files)
  contents_recover can = recovers_open entries can.texts (contents files) applicable over.opened over.found (λ name not. can.takes.each name not (contents files name) (own name))

-- A closed gate on a recoverable disk: all other files are on the disk.
pub closed_stable : (files : List ℕ → FileState) → IsImage (files journal_name) (files journal_name).content → is_open (contents files journal_name) ≡ false → IsRecoverable files
    → OthersStable files
closed_stable files own shut (inl stable) = stable
closed_stable files own shut (inr over_record) = absurd (false≢true (sym shut ∙ over_record.opened (contents files journal_name) own))

-- a stable journal of which the gate is closed has it on the disk
pub shut_gate : (file : FileState) → IsStable file → is_open file.content ≡ false → front_size ≤ length file.content → HasClosedGate file
shut_gate file stable shut long = record {
  nonempty = omega arith;
  fixed = (omega (arith, stable.least), stable.fixed 0 (omega arith));
  closed = λ one.
      let opened : is_open file.content ≡ true = and_from (nat_le front_size (length file.content)) (slice_index file.content 0 == 1) (le-leb front_size (length file.content) long) (eq-eqb (slice_index file.content 0) 1 one) in
      true≢false (sym opened ∙ shut);
}

-- The steps of an opening

some_of : (o : Option Image) → is_some o ≡ true → (found : Image) × (o ≡ Some found)
some_of None is = absurd (false≢true is)
some_of (Some found) is = (found, refl)

-- an image from the start recovers to what it recovers to
pub as_before : (files : List ℕ → FileState) → EachRecovers files → (image : Image) → AreImages files image → RecoversAsBefore files image
as_before files each image left =
    let found = some_of (recovered image) (each image left) in
    let recovered_then : RecoversTo found.0 image = subst (λ (o : Option Image). IsSomeAnd o (λ (f : Image). SameFiles f found.0)) (sym found.1) (λ name not. refl) in
    record { start = image; left = left; texts = found.0; recovered_then = recovered_then; recovers_now = recovered_then }

-- an open gate: what recovers to the files that the record makes
pub open_before : (files : List ℕ → FileState) (entries : List Entry) → ((name : List ℕ) → IsImage (files name) (files name).content) → AreApplicable entries → IsOpenOver entries files
    → all_fit entries (contents files) ≡ true → (can : IsReplayable entries files) → (image : Image) → RecoversTo can.texts image → RecoversAsBefore files image
open_before files entries own applicable over fit can image stand =
    record { start = contents files; left = own; texts = can.texts; recovered_then = contents_recover files own entries applicable over fit can; recovers_now = stand }

-- a closed one: what recovers to the files themselves
pub closed_before : (files : List ℕ → FileState) → ((name : List ℕ) → IsImage (files name) (files name).content) → is_open (contents files journal_name) ≡ false → OthersStable files
    → (image : Image) → LeavesClosed journal_name files image → RecoversAsBefore files image
closed_before files own shut stable image left = record {
  start = contents files;
  left = own;
  texts = contents files;
  recovered_then = recovers_closed (contents files) (contents files) shut (λ name not. refl);
  recovers_now = recovers_closed (contents files) image left.closed (λ name not. only_image (stable name not) (image name) (left.others name not));
}

-- what a record that was found is
small_enough : (version : Version) (n : ℕ) → n ≤ greatest_length version → n ≤ greatest_length Two
small_enough One n small = omega (arith, small)
small_enough Two n small = small
small_enough Three n small = small

each_applicable : (version : Version) (entries : List Entry) → AllByRecursion (IsEntry version) entries → AllByRecursion IsApplicable entries
each_applicable version [] each = tt
each_applicable version (entry ∷ entries) each =
    (record { name = each.0.name; patches = each.0.patches; small = small_enough version entry.length each.0.small }, each_applicable version entries each.1)

pub formed_applicable : (entries : List Entry) → IsRecord entries → AreApplicable entries
formed_applicable entries formed = record { each = each_applicable formed.0 entries formed.1.each; apart = formed.1.apart }

-- all at rest where the gate is closed
pub closed_rest : (files : List ℕ → FileState) → HasClosedGate (files journal_name) → IsStable (files journal_name) → OthersStable files → IsAtRest files
closed_rest files gate only stable = record {
  gate = gate;
  stable = λ name. elim (name_cases name journal_name) [
    | inl same ↦ subst (λ (n : List ℕ). IsStable (files n)) (sym same.0) only
    | inr apart ↦ stable name apart.0
  ];
}

-- what an opening makes of the journal
closed_when : (journal : List ℕ) (test : Bool) → is_closed journal ≡ test
    → closed_journal journal ≡ (if test then journal else 0 ∷ drop 1 (if is_open journal then marked journal else journal))
closed_when journal test is = ap (λ (b : Bool). if b then journal else 0 ∷ drop 1 (if is_open journal then marked journal else journal)) is

and_false : (b : Bool) → (b && false) ≡ false
and_false true = refl
and_false false = refl

pub closed_open : (journal : List ℕ) → is_open journal ≡ true → closed_journal journal ≡ 0 ∷ drop 1 (marked journal)
closed_open journal opened =
    closed_when journal false (ap (λ (b : Bool). nat_le front_size (length journal) && not b) opened ∙ and_false (nat_le front_size (length journal)))
    ∙ ap (λ (b : Bool). 0 ∷ drop 1 (if b then marked journal else journal)) opened

pub closed_short : (journal : List ℕ) → length journal < front_size → closed_journal journal ≡ 0 ∷ drop 1 journal
closed_short journal short =
    closed_when journal false (ap (λ (b : Bool). b && not (is_open journal)) not_long)
    ∙ ap (λ (b : Bool). 0 ∷ drop 1 (if b then marked journal else journal)) (ap (λ (b : Bool). b && (slice_index journal 0 == 1)) not_long)
  where
    not_long : nat_le front_size (length journal) ≡ false
    not_long = elim (cases_Bool (nat_le front_size (length journal))) [
      | inl long ↦ (let le = leb-true front_size (length journal) long in absurd (omega (arith, le, short)))
      | inr none ↦ none
    ]

pub closed_shut : (journal : List ℕ) → is_open journal ≡ false → front_size ≤ length journal → closed_journal journal ≡ journal
closed_shut journal shut long = closed_when journal true (ap (λ (b : Bool). nat_le front_size (length journal) && not b) shut ∙ ap (λ (b : Bool). b && true) (le-leb front_size (length journal) long))

-- a whole journal with a closed gate is neither shorter than a header nor open
pub not_short : {P : Type 0} (journal : List ℕ) → length journal < front_size → is_closed journal ≡ true → P
not_short journal short closed =
    let long = leb-true front_size (length journal) (and_parts (nat_le front_size (length journal)) (not (is_open journal)) closed).0 in absurd (omega (arith, long, short))

pub not_open : {P : Type 0} (journal : List ℕ) → is_open journal ≡ true → is_closed journal ≡ true → P
not_open journal opened closed =
    absurd (false≢true (subst (λ (b : Bool). not b ≡ true) opened (and_parts (nat_le front_size (length journal)) (not (is_open journal)) closed).1))

-- with a closed gate files recover to themselves
pub recovered_closed : (files new : Image) → is_open (files journal_name) ≡ false → SameFiles new files → IsSomeAnd (recovered files) (SameFiles new)
recovered_closed files new shut same = rw shut same

-- A journal that was found isn't bad.
pub found_good : (files : Image) (found : Found) → Finds files (Ok found) → IsFit found files → recovered files ≡ None → ⊥
found_good files Closed shut fit none = subst (λ (o : Option Image). IsSomeAnd o (λ f. Unit {0})) none (rw shut tt)
found_good files (Open entries end) found fit none =
    let opened = found.0 in
    let reported = found.1 in
    let fits : all_fit entries files ≡ true = fit in
    let good : IsSomeAnd (recovered files) (λ f. Unit {0}) = rw (opened, reported, fits) tt in
    subst (λ (o : Option Image). IsSomeAnd o (λ f. Unit {0})) none good
