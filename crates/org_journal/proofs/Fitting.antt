-- Whether patches fit a file, found patch by patch; and what a journal's front says of its record.
use Rattle.std.proofs.Common.{◌≡◌, ℕ, suc, ◌+◌, ◌<◌, ◌≤◌, Bool, true, false, cond, ltb, leb, List, [], ◌∷◌, ◌++◌, length, take, drop, get_or, Option, Some, None, refl, sym, ap, subst, ◌∙◌, arith, add-one, drop-cons}
use Rattle.std.proofs.lemmas.Grind.{common_steps}
use Rattle.std.specs.Prelude.{◌&&◌, nat_le, max, is_some, Result, Ok, Err}
use Rattle.std.specs.List.{AllByRecursion}
use Rattle.std.proofs.lemmas.Bool.{false≢true, leb-true, le-leb, le-ltb, lt-ltb, ltb-false, lt-leb}
use Rattle.std.proofs.lemmas.List.{drop_all, drop-drop, drop-take, get_or-take, length-append, length-drop, length-take, take-append-drop, take-append-le, drop-append-le, get_or_append_left}
use Rattle.byteorder.specs.Endian.{big_number}
use Rattle.byteorder.specs.Numbers.{big_from-append, big_from-take}
use Rattle.org_splice.specs.Patches.{end_of, last_end, Rise, AreWellFormed}
use Rattle.org_splice.specs.Texts.{pairs_of}
use Rattle.org_journal.specs.declared.record.Entry.{Entry}
use Rattle.org_splice.specs.declared.patch.Patch.{Patch}
use Rattle.org_journal.specs.declared.record.Version.{Version}
use Rattle.org_journal.specs.Record.{IsEntry, IsWellFormed}
use Rattle.org_journal.specs.Reading.{◌>>=◌, number_at, bytes_at, counted_at, header_at, journal_at}
use Rattle.org_disk.specs.Disk.{FileState}
use Rattle.org_disk.specs.Names.{journal_name}
use Rattle.org_journal.specs.declared.fault.FindFault.{FindFault}
use Rattle.org_journal.specs.declared.fault.FindFault.TheVariants.{BadJournal, Device, OutOfMemory}
use Rattle.org_journal.specs.declared.finding.Found.{Found}
use Rattle.org_journal.specs.declared.finding.Found.TheVariants.{Closed, Open}
use Rattle.org_journal.specs.Gate.{front_size, is_open, HasSameRecord}
use Rattle.org_journal.specs.Recovered.{Image, begins_within, contents, fits, all_fit}
use Rattle.org_journal.specs.Finding.{EndsAt, Finds, FindsRecord, FindsSize, HaveWellFormedPatches, HoldsRecord, HoldsRecordOfSize, record_size}

-- the test of the patches that are left, from this place on, is that of all
pub record FitSoFar (left : List Patch) (place final size : ℕ) (all : List Patch) : Type 0 where
  pub rise : Rise place (pairs_of left)
  pub within : last_end place (pairs_of left) ≤ final
  pub same : (begins_within size place (pairs_of left) && nat_le final (max size (last_end place (pairs_of left)))) ≡ fits (pairs_of all) final size

last_end_after : (place : ℕ) (patches : List (ℕ × List ℕ)) → Rise place patches → place ≤ last_end place patches
last_end_after place [] rise = omega arith
last_end_after place (patch ∷ patches) rise = omega (arith, rise.0, last_end_after (end_of patch) patches rise.1)

first_left : {A : Type 0} (items : List A) (i : ℕ) (item : A) → i < length items → item ≡ get_or items i item → drop i items ≡ item ∷ drop (i + 1) items
first_left {A} items i item lt is = rw add-one (drop-cons items i item lt ∙ ap (λ (x : A). x ∷ drop (suc i) items) (sym is))

none_left : {A : Type 0} (items : List A) (i : ℕ) → length items ≤ i → drop i items ≡ []
none_left items i le = drop_all i items le

-- nothing has been looked at
pub fit_start : (patches : List Patch) (final size : ℕ) → AreWellFormed (pairs_of patches) final → FitSoFar patches 0 final size patches
fit_start patches final size is = record { rise = is.rise; within = is.within; same = refl }

at_first : (patches : List Patch) (i place final size : ℕ) (patch : Patch) → i < length patches → patch ≡ get_or patches i patch → FitSoFar (drop i patches) place final size patches → FitSoFar (patch ∷ drop (i + 1) patches) place final size patches
at_first patches i place final size patch lt is so_far = subst (λ (left : List Patch). FitSoFar left place final size patches) (first_left patches i patch lt is) so_far

pub fit_ends : (patches : List Patch) (i place final size : ℕ) (patch : Patch) → i < length patches → patch ≡ get_or patches i patch → FitSoFar (drop i patches) place final size patches → patch.from + length patch.bytes ≤ final
fit_ends patches i place final size patch lt is so_far = grind (arith, common_steps, at_first, last_end_after)

-- ---- the next patch

pub fit_next : (patches : List Patch) (i place final size : ℕ) (patch : Patch) → i < length patches → patch ≡ get_or patches i patch → patch.from ≤ max size place
    → FitSoFar (drop i patches) place final size patches → FitSoFar (drop (i + 1) patches) (patch.from + length patch.bytes) final size patches
fit_next patches i place final size patch lt is begins so_far =
    let now = at_first patches i place final size patch lt is so_far in
    let left = pairs_of (drop (i + 1) patches) in
    let place' = patch.from + length patch.bytes in
    record {
      rise = now.rise.1;
      within = now.within;
      same = ap (λ (b : Bool). (b && begins_within size place' left) && leb final (max size (last_end place' left))) (sym (le-leb _ _ begins)) ∙ now.same;
    }

pub fit_stop : (patches : List Patch) (i place final size : ℕ) (patch : Patch) → i < length patches → patch ≡ get_or patches i patch → max size place < patch.from
    → FitSoFar (drop i patches) place final size patches → false ≡ fits (pairs_of patches) final size
fit_stop patches i place final size patch lt is late so_far =
    let now = at_first patches i place final size patch lt is so_far in
    let left = pairs_of (drop (i + 1) patches) in
    let place' = patch.from + length patch.bytes in
    ap (λ (b : Bool). (b && begins_within size place' left) && leb final (max size (last_end place' left))) (sym (lt-leb _ _ late)) ∙ now.same

pub fit_end : (patches : List Patch) (i place final size : ℕ) → length patches ≤ i → FitSoFar (drop i patches) place final size patches → leb final (max size place) ≡ fits (pairs_of patches) final size
fit_end patches i place final size le so_far =
    let now = subst (λ (left : List Patch). FitSoFar left place final size patches) (none_left patches i le) so_far in
    now.same

-- ---- entries

pub patches_first : (entries : List Entry) (i : ℕ) (entry : Entry) → i < length entries → entry ≡ get_or entries i entry → HaveWellFormedPatches (drop i entries) → AreWellFormed (pairs_of entry.patches) entry.length × HaveWellFormedPatches (drop (i + 1) entries)
patches_first entries i entry lt is formed = subst HaveWellFormedPatches (first_left entries i entry lt is) formed

pub all_first : (entries : List Entry) (i : ℕ) (entry : Entry) (image : Image) → i < length entries → entry ≡ get_or entries i entry
    → all_fit (drop i entries) image ≡ (fits (pairs_of entry.patches) entry.length (length (image entry.name)) && all_fit (drop (i + 1) entries) image)
all_first entries i entry image lt is = ap (λ (left : List Entry). all_fit left image) (first_left entries i entry lt is)

each_patches : (version : Version) (entries : List Entry) → AllByRecursion (IsEntry version) entries → HaveWellFormedPatches entries
each_patches version [] each = tt
each_patches version (entry ∷ entries) each = (each.0.patches, each_patches version entries each.1)

-- a well-formed record's are
pub formed_patches : (version : Version) (entries : List Entry) → IsWellFormed version entries → HaveWellFormedPatches entries
formed_patches version entries formed = each_patches version entries formed.each

-- ---- the front of a journal

counted_front : (front rest : List ℕ) → 8 ≤ length front → 8 + big_number 8 front ≤ length front → (text : List ℕ) × (counted_at front ≡ Some (text, drop (big_number 8 front) (drop 8 front))) × (counted_at (front ++ rest) ≡ Some (text, drop (big_number 8 front) (drop 8 front) ++ rest))
unfolding counted_at
counted_front front rest long within =
    let size = big_number 8 front in
    let first : ltb (length front) 8 ≡ false = le-ltb _ _ long in
    let first' : ltb (length (front ++ rest)) 8 ≡ false = le-ltb _ _ (omega (arith, long, length-append front rest)) in
    let second : ltb (length (drop 8 front)) size ≡ false = le-ltb _ _ (omega (arith, within, length-drop 8 front)) in
    let second' : ltb (length (drop 8 front ++ rest)) size ≡ false = le-ltb _ _ (omega (arith, within, length-drop 8 front, length-append (drop 8 front) rest)) in
    let short : size ≤ length (drop 8 front) = omega (arith, within, length-drop 8 front) in (
      take size (drop 8 front),
      rw (first, second) refl,
      rw (first', big_from-append 8 front rest long, drop-append-le 8 front rest long, second', take-append-le size (drop 8 front) rest short, drop-append-le size (drop 8 front) rest short) refl,
    )

-- bytes after the record change nothing
journal_front : (front rest : List ℕ) → 15 ≤ length front → 15 + big_number 8 (drop 7 front) ≤ length front → journal_at (front ++ rest) ≡ journal_at front
unfolding journal_at header_at
journal_front front rest long within =
    let counted = counted_front (drop 7 front) rest (omega (arith, long, length-drop 7 front)) (omega (arith, within, length-drop 7 front)) in
    let size : leb 15 (length front) ≡ true = le-leb _ _ long in
    let size' : leb 15 (length (front ++ rest)) ≡ true = le-leb _ _ (omega (arith, long, length-append front rest)) in
    let magic : take 4 (front ++ rest) ≡ take 4 front = take-append-le 4 front rest (omega (arith, long)) in
    let four : get_or (front ++ rest) 4 0 ≡ get_or front 4 0 = get_or_append_left front rest 0 4 (omega (arith, long)) in
    let five : get_or (front ++ rest) 5 0 ≡ get_or front 5 0 = get_or_append_left front rest 0 5 (omega (arith, long)) in
    let six : get_or (front ++ rest) 6 0 ≡ get_or front 6 0 = get_or_append_left front rest 0 6 (omega (arith, long)) in
    let behind : drop 7 (front ++ rest) ≡ drop 7 front ++ rest = drop-append-le 7 front rest (omega (arith, long)) in
    rw (size, size', magic, four, five, six, behind, counted.1, counted.2) refl

journal_taken : (bytes : List ℕ) (n : ℕ) → n ≡ 15 + big_number 8 (drop 7 bytes) → n ≤ length bytes → journal_at (take n bytes) ≡ journal_at bytes
journal_taken bytes n is within =
    let front = take n bytes in
    let whole : front ++ drop n bytes ≡ bytes = take-append-drop n bytes in
    let long : length front ≡ n = omega (arith, within, length-take n bytes) in
    let front_long : 7 ≤ length front = omega (arith, long, is) in
    let behind : drop 7 bytes ≡ drop 7 front ++ drop n bytes = ap (drop 7) (sym whole) ∙ drop-append-le 7 front (drop n bytes) front_long in
    let size : big_number 8 (drop 7 bytes) ≡ big_number 8 (drop 7 front) = ap (big_number 8) behind ∙ big_from-append 8 (drop 7 front) (drop n bytes) (omega (arith, long, is, length-drop 7 front)) in
    sym (journal_front front (drop n bytes) (omega (arith, long, is)) (omega (arith, long, is, size))) ∙ ap (λ (x : List ℕ). journal_at x) whole

pub journal_of_body : (journal body : List ℕ) (size : ℕ) → HoldsRecordOfSize journal size → body ≡ take (15 + size) (drop 1 journal) → journal_at (drop 1 journal) ≡ journal_at body
journal_of_body journal body size held read = grind (arith, common_steps, drop-drop, journal_taken, length-drop)

-- the place after a record that was read
pub end_here : (journal body : List ℕ) (size end : ℕ) → HoldsRecordOfSize journal size → body ≡ take (15 + size) (drop 1 journal) → end ≡ length body + 1 → EndsAt journal end
end_here journal body size end held read is =
    let taken : length (take (15 + size) (drop 1 journal)) ≡ 15 + size = omega (arith, length-take (15 + size) (drop 1 journal), length-drop 1 journal, held.within, held.size_is) in
    let long : length body ≡ 15 + size = ap length read ∙ taken in
    record { end_is = omega (arith, is, long, held.size_is); within = omega (arith, is, long, held.within, held.size_is) }

size_front : (k : ℕ) (text : List ℕ) → 8 ≤ k → big_number 8 (drop 8 (take (8 + k) text)) ≡ big_number 8 (drop 8 text)
size_front k text le = ap (big_number 8) (drop-take 8 k text) ∙ big_from-take 0 8 k (drop 8 text) le

-- a journal that begins with the bytes of another one, up to the end of its record, says the same
module _ (text bytes : List ℕ) (end : ℕ) (ends : EndsAt text end) (front : take end bytes ≡ take end text) (long : end ≤ length bytes) where
  body_in : (journal : List ℕ) → drop 1 (take end journal) ≡ take (15 + record_size text) (drop 1 journal)
  body_in journal =
      let at_end : end ≡ 1 + (15 + record_size text) = omega (arith, ends.end_is) in
      subst (λ (n : ℕ). drop 1 (take n journal) ≡ take (15 + record_size text) (drop 1 journal)) (sym at_end) (drop-take 1 (15 + record_size text) journal)

  size_in : (journal : List ℕ) → big_number 8 (drop 8 (take end journal)) ≡ record_size journal
  size_in journal =
      let at_end : end ≡ 8 + (8 + record_size text) = omega (arith, ends.end_is) in
      subst (λ (n : ℕ). big_number 8 (drop 8 (take n journal)) ≡ record_size journal) (sym at_end) (size_front (8 + record_size text) journal (omega arith))

  same_size : record_size bytes ≡ record_size text
  same_size = sym (size_in bytes) ∙ ap (λ (l : List ℕ). big_number 8 (drop 8 l)) front ∙ size_in text

  same_first : get_or bytes 0 0 ≡ get_or text 0 0
  same_first =
      let some : 0 < end = omega (arith, ends.end_is) in
      sym (get_or-take end bytes 0 0 some) ∙ ap (λ (l : List ℕ). get_or l 0 0) front ∙ get_or-take end text 0 0 some

  pub same_record : HasSameRecord text bytes
  same_record =
      let one : leb 16 (length bytes) ≡ true = le-leb _ _ (omega (arith, ends.end_is, long)) in
      let other : leb 16 (length text) ≡ true = le-leb _ _ (omega (arith, ends.end_is, ends.within)) in
      record {
        opened = rw (one, other, same_first) refl;
        found = journal_of_body bytes (drop 1 (take end text)) (record_size text) (record { size_is = sym same_size; within = omega (arith, same_size, long, ends.end_is) }) (ap (drop 1) (sym front) ∙ body_in bytes)
            ∙ sym (journal_of_body text (drop 1 (take end text)) (record_size text) (record { size_is = refl; within = omega (arith, ends.end_is, ends.within) }) (body_in text));
      }

-- ---- what was found

no_size : (bytes : List ℕ) → length bytes < 15 + big_number 8 (drop 7 bytes) → counted_at (drop 7 bytes) ≡ None
unfolding counted_at
no_size bytes short = by_test (ltb (length (drop 7 bytes)) 8) refl
  where
    by_test : (b : Bool) → ltb (length (drop 7 bytes)) 8 ≡ b → (number_at 8 (drop 7 bytes) >>= λ count. bytes_at count.0 count.1) ≡ None
    by_test true e = rw e refl
    by_test false e =
        let long : 8 ≤ length (drop 7 bytes) = ltb-false _ _ e in
        let less : ltb (length (drop 8 (drop 7 bytes))) (big_number 8 (drop 7 bytes)) ≡ true = lt-ltb _ _ (omega (arith, short, long, length-drop 7 bytes, length-drop 8 (drop 7 bytes))) in
        rw (e, less) refl

abbrev none_of : (B : Type 0) → Option B
none_of B = None

none_then : {A B : Type 0} (o : Option A) → (o >>= λ (x : A). none_of B) ≡ none_of B
none_then (Some x) = refl
none_then None = refl

either_none : {B : Type 0} (b : Bool) (r : Option B) → r ≡ None → cond b r None ≡ None
either_none true r e = e
either_none false r e = refl

journal_short : (bytes : List ℕ) → length bytes < 15 + big_number 8 (drop 7 bytes) → journal_at bytes ≡ None
unfolding journal_at header_at
journal_short bytes short = grind (arith, common_steps, no_size, none_then, either_none)

-- the header gives a size that the journal doesn't hold
size_passes : (journal : List ℕ) → length journal < front_size + record_size journal → journal_at (drop 1 journal) ≡ None
size_passes journal short = grind (arith, common_steps, drop-drop, journal_short, length-drop)

-- what the header says
pub bad_size : (image : Image) (e : FindFault) → FindsSize (image journal_name) (Err e) → Finds image (Err e)
bad_size image BadJournal found = (found.0, size_passes (image journal_name) found.1)
bad_size image Device found = tt
bad_size image OutOfMemory found = absurd found

-- what the record after an open gate says
pub found_of : (image : Image) (journal : List ℕ) (r : Result Found FindFault) → journal ≡ image journal_name → is_open journal ≡ true → HoldsRecord journal → FindsRecord journal r → Finds image r
found_of image journal r is opened held found = go r (subst (λ (j : List ℕ). is_open j ≡ true) is opened) (subst HoldsRecord is held) (subst (λ (j : List ℕ). FindsRecord j r) is found)
  where
    go : (r : Result Found FindFault) → is_open (image journal_name) ≡ true → HoldsRecord (image journal_name) → FindsRecord (image journal_name) r → Finds image r
    go (Ok (Open entries end)) opened held found = (opened, found.0, found.1)
    go (Ok Closed) opened held found = absurd found
    go (Err BadJournal) opened held found = (opened, found)
    go (Err Device) opened held found = tt
    go (Err OutOfMemory) opened held found = (opened, held)

-- ---- an open gate

no_header : (bytes : List ℕ) → leb 15 (length bytes) ≡ false → journal_at bytes ≡ None
unfolding journal_at header_at
no_header bytes e = rw e refl

has_header : (bytes : List ℕ) (b : Bool) → leb 15 (length bytes) ≡ b → is_some (journal_at bytes) ≡ true → leb 15 (length bytes) ≡ true
has_header bytes true e some = e
has_header bytes false e some = absurd (false≢true (sym (ap is_some (no_header bytes e)) ∙ some))

-- a gate of 1 before a record
pub opens : (journal old : List ℕ) → is_some (journal_at (drop 1 old)) ≡ true → journal ≡ 1 ∷ drop 1 old → is_open journal ≡ true
opens journal old some written =
    let long : 15 ≤ length (drop 1 old) = leb-true _ _ (has_header (drop 1 old) (leb 15 (length (drop 1 old))) refl some) in
    let size : leb 16 (suc (length (drop 1 old))) ≡ true = le-leb _ _ (omega (arith, long)) in
    ap is_open written ∙ rw size refl
