-- The lengths that a set keeps are those of its files, also after a read and a commit.
use Rattle.std.proofs.Common.{◌≡◌, ◌≢◌, ◌⊎◌, ◌+◌, ◌++◌, ◌<◌, ◌≤◌, ℕ, zero, suc, true, false, List, [], ◌∷◌, length, take, drop, get_or, set, inl, inr, refl, sym, ◌∙◌, ap, subst, arith, add-one, drop-cons}
use Rattle.std.proofs.lemmas.List.{append-nil, drop_all, get_or_default, take_all}
use Rattle.std.specs.Prelude.{if◌then◌else◌, slice_get, IsSomeAnd, Option, Some, None}
use Rattle.std.specs.List.{AllByRecursion, Contains}
use Rattle.std.specs.Str.{bytes_eq}
use Rattle.org_disk.specs.Disk.{FileState}
use Rattle.org_disk.specs.Names.{journal_name}
use Rattle.org_disk.proofs.Names.{name_cases}
use Rattle.org_splice.specs.Texts.{EditedText}
use Rattle.org_journal.specs.declared.record.Before.{Before}
use Rattle.org_journal.specs.declared.record.Entry.{Entry}
use Rattle.org_journal.specs.Record.{is_named}
use Rattle.org_journal.specs.Recovered.{Image, SameFiles, contents, replayed}
use Rattle.org_fileset.specs.Entries.{AreEntriesOf, SaySizes}
use Rattle.org_fileset.specs.Lengths.{AreLengths, length_of, with_length, with_lengths}
use Rattle.org_fileset.specs.Replay.{AreApplicableTo}
use Rattle.org_fileset.proofs.Made.{length-made}
use Rattle.org_fileset.proofs.Recorded.{said_kept}
use Rattle.org_fileset.proofs.Recovers.{replayed-entry, replayed-other}
use Rattle.org_fileset.proofs.Takes.{applicable_at}

-- what is known of a file of the set
pub length_known : (names : List (List ℕ)) (lengths : List ℕ) (files : Image) (name : List ℕ) → AreLengths names lengths files → Contains names name → length_of names lengths name ≡ length (files name)
length_known [] [] files name are at = absurd (omega (arith, at.1))
length_known (x ∷ names) (l ∷ lengths) files name are at = elim (name_cases x name) [
  | inl same ↦ let e : bytes_eq x name ≡ true = same.1 in rw e (are.0 ∙ ap (λ (n : List ℕ). length (files n)) same.0)
  | inr other ↦ let e : bytes_eq x name ≡ false = other.1 in rw e (length_known names lengths files name are.1 (later other.0 at))
]
  where
    later : x ≢ name → Contains (x ∷ names) name → Contains names name
    later apart (zero, within, is) = absurd (apart is)
    later apart (suc k, within, is) = (k, omega arith, is)
length_known [] (l ∷ lengths) files name are at = absurd are
length_known (x ∷ names) [] files name are at = absurd are

-- the entries of a commit say how long their files are
pub says_lengths : (names : List (List ℕ)) (lengths : List ℕ) (files : Image) (changes : List (List ℕ × EditedText)) (entries : List Entry) → AreLengths names lengths files → AreEntriesOf changes entries
    → AllByRecursion (λ (change : List ℕ × EditedText). Contains names change.0) changes → SaySizes (length_of names lengths) entries → SaySizes (λ n. length (files n)) entries
says_lengths names lengths files [] [] known are named says = tt
says_lengths names lengths files (change ∷ changes) (entry ∷ entries) known are named says = (go entry.before says.0, says_lengths names lengths files changes entries known are.1 named.1 says.1)
  where
    is : length_of names lengths entry.name ≡ length (files entry.name)
    is = length_known names lengths files entry.name known (subst (λ (n : List ℕ). Contains names n) (sym are.0.name) named.0)

    go : (before : Option Before) → IsSomeAnd before (λ b. b.length ≡ length_of names lengths entry.name) → IsSomeAnd before (λ b. b.length ≡ length (files entry.name))
    go None says = absurd says
    go (Some before) says = says ∙ is
says_lengths names lengths files [] (entry ∷ entries) known are named says = absurd are
says_lengths names lengths files (change ∷ changes) [] known are named says = absurd are

said_at : (sizes : List ℕ → ℕ) (entries : List Entry) (i : ℕ) (entry : Entry) → SaySizes sizes entries → slice_get entries i ≡ Some entry → IsSomeAnd entry.before (λ b. b.length ≡ sizes entry.name)
said_at sizes [] i entry says is = absurd (cc)
said_at sizes (first ∷ entries) zero entry says is = let one : first ≡ entry = cc in subst (λ (e : Entry). IsSomeAnd e.before (λ b. b.length ≡ sizes e.name)) one says.0
said_at sizes (first ∷ entries) (suc i) entry says is = said_at sizes entries i entry says.1 is

-- one file has this length now, and the others are as long as they were
pub noted : (names : List (List ℕ)) (lengths : List ℕ) (files new : Image) (name : List ℕ) (size : ℕ) → AreLengths names lengths files → size ≡ length (new name)
    → ((other : List ℕ) → other ≢ name → length (new other) ≡ length (files other)) → AreLengths names (with_length names lengths name size) new
noted [] [] files new name size are is others = tt
noted (x ∷ names) (l ∷ lengths) files new name size are is others = (here (name_cases x name), noted names lengths files new name size are.1 is others)
  where
    here : ((x ≡ name) × (bytes_eq x name ≡ true)) ⊎ ((x ≢ name) × (bytes_eq x name ≡ false)) → (if bytes_eq x name then size else l) ≡ length (new x)
    here (inl same) = let e : bytes_eq x name ≡ true = same.1 in rw e (is ∙ ap (λ (n : List ℕ). length (new n)) (sym same.0))
    here (inr other) = let e : bytes_eq x name ≡ false = other.1 in rw e (are.0 ∙ sym (others x other.0))
noted [] (l ∷ lengths) files new name size are is others = absurd are
noted (x ∷ names) [] files new name size are is others = absurd are

-- the files as they are after the first entry
with_file : List ℕ → (files new : Image) → Image
with_file name files new other = if bytes_eq other name then new other else files other

-- each file has the length of its entry, and the others are as long as they were
all_noted : (entries : List Entry) (names : List (List ℕ)) (lengths : List ℕ) (files new : Image) → AreLengths names lengths files
    → ((i : ℕ) (entry : Entry) → slice_get entries i ≡ Some entry → entry.length ≡ length (new entry.name))
    → ((name : List ℕ) → is_named name entries ≡ false → length (new name) ≡ length (files name)) → AreLengths names (with_lengths names lengths entries) new
unfolding with_file
all_noted [] names lengths files new are each others = same names lengths are
  where
    same : (names : List (List ℕ)) (lengths : List ℕ) → AreLengths names lengths files → AreLengths names lengths new
    same [] [] are = tt
    same (x ∷ names) (l ∷ lengths) are = (are.0 ∙ sym (others x refl), same names lengths are.1)
    same [] (l ∷ lengths) are = absurd are
    same (x ∷ names) [] are = absurd are
all_noted (entry ∷ entries) names lengths files new are each others =
    let mid = with_file entry.name files new in
    let at_name : mid entry.name ≡ new entry.name = elim (name_cases entry.name entry.name) [
      | inl same ↦ let e : bytes_eq entry.name entry.name ≡ true = same.1 in rw e refl
      | inr other ↦ absurd (other.0 refl)
    ] in
    let elsewhere : (other : List ℕ) → other ≢ entry.name → length (mid other) ≡ length (files other) = λ other apart. elim (name_cases other entry.name) [
      | inl same ↦ absurd (apart same.0)
      | inr o ↦ let e : bytes_eq other entry.name ≡ false = o.1 in rw e refl
    ] in
    let first = noted names lengths files mid entry.name entry.length are (each 0 entry refl ∙ ap length (sym at_name)) elsewhere in
    all_noted entries names (with_length names lengths entry.name entry.length) mid new first (λ i e is. each (suc i) e is) (λ name none. elim (name_cases name entry.name) [
      | inl same ↦ let e : bytes_eq name entry.name ≡ true = same.1 in rw e refl
      | inr other ↦
          let e : bytes_eq name entry.name ≡ false = other.1 in
          rw e (others name (unnamed name other.0 none))
    ])
  where
    unnamed : (name : List ℕ) → name ≢ entry.name → is_named name entries ≡ false → is_named name (entry ∷ entries) ≡ false
    unnamed name apart none = elim (name_cases entry.name name) [
      | inl same ↦ absurd (apart (sym same.0))
      | inr other ↦ let e : bytes_eq entry.name name ≡ false = other.1 in rw e none
    ]

-- after a commit of these entries
pub lengths_after : (names : List (List ℕ)) (lengths : List ℕ) (entries : List Entry) (old new : List ℕ → FileState) → AllByRecursion (λ name. name ≢ journal_name) names
    → AreApplicableTo entries old → SaySizes (λ n. length (contents old n)) entries → AreLengths names lengths (contents old) → SameFiles (contents new) (replayed entries (contents old)) → AreLengths names (with_lengths names lengths entries) (contents new)
lengths_after names lengths entries old new each can says are made =
    let texts = replayed entries (contents old) in
    let among = all_noted entries names lengths (contents old) texts are (λ i entry is.
    let own = applicable_at entries i entry can.applicable.each is in
    let takes = replayed-entry entries (contents old) i entry can.applicable can.fits is in
    let size = length (contents old entry.name) in
    sym (length-made entry own.patches (contents old entry.name) (texts entry.name) takes ∙ said_kept entry.before entry.length size (said_at (λ n. length (contents old n)) entries i entry says is)))
    (λ name none. ap length (sym (replayed-other entries (contents old) name can.fits none))) in
    swap names (with_lengths names lengths entries) each among
  where
    swap : (names : List (List ℕ)) (lengths : List ℕ) → AllByRecursion (λ name. name ≢ journal_name) names → AreLengths names lengths (replayed entries (contents old)) → AreLengths names lengths (contents new)
    swap [] [] each are = tt
    swap (x ∷ names) (l ∷ lengths) each are = (are.0 ∙ ap length (sym (made x each.0)), swap names lengths each.1 are.1)
    swap [] (l ∷ lengths) each are = absurd are
    swap (x ∷ names) [] each are = absurd are

-- one more name was asked for
pub lengths_more : (names : List (List ℕ)) (lengths new : List ℕ) (files : Image) (name : List ℕ) (size : ℕ) → AreLengths names lengths files → size ≡ length (files name)
    → new ≡ lengths ++ size ∷ [] → AreLengths (names ++ name ∷ []) new files
lengths_more names lengths new files name size are is pushed = subst (λ (l : List ℕ). AreLengths (names ++ name ∷ []) l files) (sym pushed) (go names lengths are)
  where
    go : (names : List (List ℕ)) (lengths : List ℕ) → AreLengths names lengths files → AreLengths (names ++ name ∷ []) (lengths ++ size ∷ []) files
    go [] [] are = (is, tt)
    go (x ∷ names) (l ∷ lengths) are = (are.0, go names lengths are.1)
    go [] (l ∷ lengths) are = absurd are
    go (x ∷ names) [] are = absurd are

-- the same files
pub lengths_as : (names : List (List ℕ)) (lengths : List ℕ) (files new : Image) → new ≡ files → AreLengths names lengths files → AreLengths names lengths new
lengths_as names lengths files new same are = subst (AreLengths names lengths) (sym same) are

-- ---- the loops

from_here : {A : Type 0} (items : List A) (i : ℕ) (item : A) → i < length items → item ≡ get_or items i item → drop i items ≡ item ∷ drop (i + 1) items
from_here {A} items i item lt is = rw add-one (drop-cons items i item lt ∙ ap (λ (x : A). x ∷ drop (suc i) items) (sym is))

-- a name beside which no length stands
none_beside : (names : List (List ℕ)) (name : List ℕ) → length_of names [] name ≡ 0
none_beside [] name = refl
none_beside (x ∷ names) name = refl

-- the name is found
pub length_here : (names : List (List ℕ)) (lengths : List ℕ) (name other : List ℕ) (i size : ℕ) → i < length names → other ≡ get_or names i other → i < length lengths → size ≡ get_or lengths i size
    → bytes_eq other name ≡ true → length_of (drop i names) (drop i lengths) name ≡ size
length_here names lengths name other i size lt is within here same =
    ap (λ (n : List (List ℕ)). length_of n (drop i lengths) name) (from_here names i other lt is)
    ∙ ap (λ (l : List ℕ). length_of (other ∷ drop (i + 1) names) l name) (from_here lengths i size within here)
    ∙ rw same refl

-- it is another name
pub length_later : (names : List (List ℕ)) (lengths : List ℕ) (name other : List ℕ) (i : ℕ) → i < length names → other ≡ get_or names i other → i < length lengths
    → bytes_eq other name ≡ false → length_of (drop i names) (drop i lengths) name ≡ length_of (drop (i + 1) names) (drop (i + 1) lengths) name
length_later names lengths name other i lt is within differs =
    let size = get_or lengths i 0 in
    ap (λ (n : List (List ℕ)). length_of n (drop i lengths) name) (from_here names i other lt is)
    ∙ ap (λ (l : List ℕ). length_of (other ∷ drop (i + 1) names) l name) (from_here lengths i size within (get_or_default lengths i 0 size within))
    ∙ rw differs refl

-- there are no more lengths
pub length_past : (names : List (List ℕ)) (lengths : List ℕ) (name : List ℕ) (i : ℕ) → length lengths ≤ i
    → length_of (drop i names) (drop i lengths) name ≡ length_of (drop (i + 1) names) (drop (i + 1) lengths) name
length_past names lengths name i le =
    ap (λ (l : List ℕ). length_of (drop i names) l name) (drop_all i lengths le) ∙ none_beside (drop i names) name
    ∙ sym (ap (λ (l : List ℕ). length_of (drop (i + 1) names) l name) (drop_all (i + 1) lengths (omega (arith, le))) ∙ none_beside (drop (i + 1) names) name)

-- nor names
pub length_none : (names : List (List ℕ)) (lengths : List ℕ) (name : List ℕ) (i : ℕ) → length names ≤ i → length_of (drop i names) (drop i lengths) name ≡ 0
length_none names lengths name i le = ap (λ (n : List (List ℕ)). length_of n (drop i lengths) name) (drop_all i names le)

pub with_none : (lengths : List ℕ) (name : List ℕ) (size : ℕ) → with_length [] lengths name size ≡ lengths
with_none [] name size = refl
with_none (l ∷ lengths) name size = refl

set_here : (names : List (List ℕ)) (lengths : List ℕ) (name other : List ℕ) (size i : ℕ) → i < length names → other ≡ get_or names i other → i < length lengths → bytes_eq other name ≡ true
    → set (with_length (take i names) lengths name size) i size ≡ with_length (take (suc i) names) lengths name size
set_here [] lengths name other size i lt is within same = absurd (omega (arith, lt))
set_here (x ∷ names) [] name other size i lt is within same = absurd (omega (arith, within))
set_here (x ∷ names) (l ∷ lengths) name other size zero lt is within same =
    let e : bytes_eq x name ≡ true = ap (λ (n : List ℕ). bytes_eq n name) (sym is) ∙ same in
    rw e (ap (λ (r : List ℕ). size ∷ r) (sym (with_none lengths name size)))
set_here (x ∷ names) (l ∷ lengths) name other size (suc i) lt is within same =
    ap (λ (r : List ℕ). (if bytes_eq x name then size else l) ∷ r) (set_here names lengths name other size i (omega (arith, lt)) is (omega (arith, within)) same)

-- one name more was compared: its length is another one now
pub with_here : (names : List (List ℕ)) (lengths : List ℕ) (name other : List ℕ) (size i : ℕ) → i < length names → other ≡ get_or names i other → i < length lengths → bytes_eq other name ≡ true
    → set (with_length (take i names) lengths name size) i size ≡ with_length (take (i + 1) names) lengths name size
with_here names lengths name other size i lt is within same = rw add-one (set_here names lengths name other size i lt is within same)

other_here : (names : List (List ℕ)) (lengths : List ℕ) (name other : List ℕ) (size i : ℕ) → i < length names → other ≡ get_or names i other → bytes_eq other name ≡ false
    → with_length (take i names) lengths name size ≡ with_length (take (suc i) names) lengths name size
other_here [] lengths name other size i lt is differs = absurd (omega (arith, lt))
other_here (x ∷ names) [] name other size i lt is differs = refl
other_here (x ∷ names) (l ∷ lengths) name other size zero lt is differs =
    let e : bytes_eq x name ≡ false = ap (λ (n : List ℕ). bytes_eq n name) (sym is) ∙ differs in
    rw e (ap (λ (r : List ℕ). l ∷ r) (sym (with_none lengths name size)))
other_here (x ∷ names) (l ∷ lengths) name other size (suc i) lt is differs =
    ap (λ (r : List ℕ). (if bytes_eq x name then size else l) ∷ r) (other_here names lengths name other size i (omega (arith, lt)) is differs)

-- it is another name
pub with_other : (names : List (List ℕ)) (lengths : List ℕ) (name other : List ℕ) (size i : ℕ) → i < length names → other ≡ get_or names i other → bytes_eq other name ≡ false
    → with_length (take i names) lengths name size ≡ with_length (take (i + 1) names) lengths name size
with_other names lengths name other size i lt is differs = rw add-one (other_here names lengths name other size i lt is differs)

past_here : (names : List (List ℕ)) (lengths : List ℕ) (name : List ℕ) (size i : ℕ) → length lengths ≤ i → with_length (take i names) lengths name size ≡ with_length (take (suc i) names) lengths name size
past_here names [] name size i le = refl
past_here [] (l ∷ lengths) name size zero le = absurd (omega (arith, le))
past_here [] (l ∷ lengths) name size (suc i) le = refl
past_here (x ∷ names) (l ∷ lengths) name size zero le = absurd (omega (arith, le))
past_here (x ∷ names) (l ∷ lengths) name size (suc i) le = ap (λ (r : List ℕ). (if bytes_eq x name then size else l) ∷ r) (past_here names lengths name size i (omega (arith, le)))

-- there are no more lengths
pub with_past : (names : List (List ℕ)) (lengths : List ℕ) (name : List ℕ) (size i : ℕ) → length lengths ≤ i → with_length (take i names) lengths name size ≡ with_length (take (i + 1) names) lengths name size
with_past names lengths name size i le = rw add-one (past_here names lengths name size i le)

pub with_all : (names : List (List ℕ)) (lengths : List ℕ) (name : List ℕ) (size i : ℕ) → length names ≤ i → with_length (take i names) lengths name size ≡ with_length names lengths name size
with_all names lengths name size i le = ap (λ (n : List (List ℕ)). with_length n lengths name size) (take_all i names le)

pub length-with : (names : List (List ℕ)) (lengths : List ℕ) (name : List ℕ) (size : ℕ) → length (with_length names lengths name size) ≡ length lengths
length-with names [] name size = refl
length-with [] (l ∷ lengths) name size = refl
length-with (x ∷ names) (l ∷ lengths) name size = ap suc (length-with names lengths name size)

-- the entries that are left
pub entries_left : (names : List (List ℕ)) (lengths : List ℕ) (entries : List Entry) (i : ℕ) (entry : Entry) → i < length entries → entry ≡ get_or entries i entry
    → with_lengths names (with_length names lengths entry.name entry.length) (drop (i + 1) entries) ≡ with_lengths names lengths (drop i entries)
entries_left names lengths entries i entry lt is = sym (ap (with_lengths names lengths) (from_here entries i entry lt is))

pub entries_none : (names : List (List ℕ)) (lengths : List ℕ) (entries : List Entry) (i : ℕ) → length entries ≤ i → with_lengths names lengths (drop i entries) ≡ lengths
entries_none names lengths entries i le = ap (with_lengths names lengths) (drop_all i entries le)

length-with_all : (names : List (List ℕ)) (lengths : List ℕ) (entries : List Entry) → length (with_lengths names lengths entries) ≡ length lengths
length-with_all names lengths [] = refl
length-with_all names lengths (entry ∷ entries) =
    length-with_all names (with_length names lengths entry.name entry.length) entries ∙ length-with names lengths entry.name entry.length

-- ---- in a vector

-- what was written to all of it is what it has
written_back : (len : ℕ) (items now : List ℕ) → len ≡ length items → length now ≡ length items → take len (now ++ drop (length now) items) ≡ now
written_back len items now long same =
    ap (λ (x : List ℕ). take len (now ++ x)) (drop_all (length now) items (omega (arith, same))) ∙ ap (take len) (append-nil now) ∙ take_all len now (omega (arith, long, same))

module _ (names given : List (List ℕ)) (items was now : List ℕ) (len : ℕ) (names_are : given ≡ names) (items_are : was ≡ items) (long : len ≡ length items) where
  -- after a file was read
  pub read_noted : (name : List ℕ) (size : ℕ) (files new : Image) → now ≡ with_length given was name size → AreLengths names items files → new ≡ files → size ≡ length (files name)
      → AreLengths names (take len (now ++ drop (length now) items)) new
  read_noted name size files new made are same is =
      let here : now ≡ with_length names items name size =
      made ∙ ap (λ (n : List (List ℕ)). with_length n was name size) names_are ∙ ap (λ (l : List ℕ). with_length names l name size) items_are in
      let back = written_back len items now long (ap length here ∙ length-with names items name size) in
      subst (λ (l : List ℕ). AreLengths names l new) (sym (back ∙ here))
      (lengths_as names (with_length names items name size) files new same (noted names items files files name size are is (λ other apart. refl)))

  -- after a commit
  pub commit_noted : (entries : List Entry) (old new : List ℕ → FileState) → now ≡ with_lengths given was entries → AllByRecursion (λ name. name ≢ journal_name) names → AreApplicableTo entries old
      → SaySizes (λ n. length (contents old n)) entries → AreLengths names items (contents old) → SameFiles (contents new) (replayed entries (contents old)) → AreLengths names (take len (now ++ drop (length now) items)) (contents new)
  commit_noted entries old new made each can says are done =
      let here : now ≡ with_lengths names items entries =
      made ∙ ap (λ (n : List (List ℕ)). with_lengths n was entries) names_are ∙ ap (λ (l : List ℕ). with_lengths names l entries) items_are in
      let back = written_back len items now long (ap length here ∙ length-with_all names items entries) in
      subst (λ (l : List ℕ). AreLengths names l (contents new)) (sym (back ∙ here)) (lengths_after names items entries old new each can says are done)
