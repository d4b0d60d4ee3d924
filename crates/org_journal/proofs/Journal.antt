-- A journal whose record is read begins with the record's bytes, and from such bytes the record is
-- read.
use Rattle.std.proofs.Common.{◌≡◌, ℕ, ◌+◌, ◌*◌, ◌-◌, ◌^◌, ◌<◌, ◌≤◌, Bool, true, false, cond, leb, List, [], ◌∷◌, ◌++◌, length, take, drop, get_or, slice_index, Option, Some, None, refl, sym, ap, subst, ◌∙◌, append_assoc, arith, ◌⊎◌, inl, inr, Result, Ok, Err, zero, suc}
use Rattle.std.proofs.lemmas.Grind.{common_steps}
use Rattle.std.specs.Prelude.{◌&&◌, ◌==◌, nat_eq, codes, is_some, IsSomeAnd, IsTrue, IfOk, ◌↔◌}
use Rattle.std.specs.List.{flat_map, AllByRecursion, starts_with}
use Rattle.std.proofs.Math.Nat.{mul-le-mul_left}
use Rattle.std.proofs.lemmas.Bool.{false≢true, leb-true, le-leb, eqb-true}
use Rattle.std.proofs.lemmas.List.{append-nil, take_at, drop_at, take_all, drop_all, length-append}
use Rattle.std.proofs.lemmas.Option.{none-some, same_Some, some_pair_parts}
use Rattle.byteorder.specs.Endian.{big_bytes}
use Rattle.byteorder.specs.Numbers.{length-bytes_high_first}
use Rattle.org_journal.specs.declared.record.Before.{Before}
use Rattle.org_journal.specs.declared.record.Entry.{Entry}
use Rattle.org_splice.specs.declared.patch.Patch.{Patch}
use Rattle.org_journal.specs.declared.record.Version.{Version}
use Rattle.org_journal.specs.declared.record.Version.TheVariants.{One, Two, Three}
use Rattle.org_fault.specs.declared.fault.Fault.{Fault}
use Rattle.org_fault.specs.declared.fault.Fault.TheVariants.{Refused, OutOfMemory}
use Rattle.org_journal.specs.declared.fault.Malformed.{Malformed}
use Rattle.org_journal.specs.Decoding.{DecodesAs}
use Rattle.org_disk.specs.Names.{is_file_name}
use Rattle.org_splice.specs.Patches.{AreWellFormed}
use Rattle.org_splice.specs.Texts.{pairs_of}
use Rattle.org_journal.specs.Record.{name_bytes, counted_bytes, patch_bytes, old_patch_bytes, context_bytes, before_bytes, new_entry_bytes, entry_bytes, record_bytes, version_number, header_bytes, journal_bytes, most_context, IsBefore, IsEntry, IsRecord, IsWellFormed, BeginsWith}
use Rattle.org_journal.specs.Reading.{◌>>=◌, counted_at, record_at, version_at, header_at, journal_at}
use Rattle.org_journal.proofs.Numbers.{IsBytes, IsBytes-drop, IsBytes-take, bind_some, passed, both_true, counted_takes, counted_again}
use Rattle.org_journal.proofs.Patched.{AllFollow, well_formed_follow}
use Rattle.org_journal.proofs.Spelled.{name_short, record_takes, record_again}

-- ---- the size of a record

-- where each item has at most this many bytes
flat_map_within : {A : Type 0} (f : A → List ℕ) (most : ℕ) (P : A → Type 0) → ((x : A) → P x → length (f x) ≤ most) → (xs : List A) → AllByRecursion P xs → length (flat_map f xs) ≤ most * length xs
flat_map_within f most P each [] all = omega arith
flat_map_within f most P each (x ∷ xs) all = grind (arith, common_steps, flat_map_within f most P each xs all.1)

follow_within : (place final : ℕ) (alone : Bool) (patches : List Patch) → AllFollow place final alone patches → AllByRecursion (λ patch. length patch.bytes ≤ final) patches
follow_within place final alone [] follow = tt
follow_within place final alone (patch ∷ patches) follow = (omega (arith, follow.0.ends), follow_within (patch.from + length patch.bytes) final alone patches follow.1)

patch_length : (most : ℕ) (patch : Patch) → length patch.bytes ≤ most → length (patch_bytes patch) ≤ 16 + most
patch_length most patch within =
    omega (arith, within, length-append (big_bytes 8 patch.from) (counted_bytes patch.bytes), length-append (big_bytes 8 (length patch.bytes)) patch.bytes, length-bytes_high_first 8 patch.from, length-bytes_high_first 8 (length patch.bytes))

old_patch_length : (most final : ℕ) (patch : Patch) → length patch.bytes ≤ most → length (old_patch_bytes final patch) ≤ 24 + most
old_patch_length most final patch within = grind (arith, common_steps)

name_length : (name : List ℕ) → length name ≤ 1_008 → length (name_bytes name) ≤ 1_010
name_length name short = omega (arith, short, length-append (big_bytes 2 (length name)) name, length-bytes_high_first 2 (length name))

context_length : (context : List ℕ) → length context ≤ most_context → length (context_bytes context) ≤ 33
context_length context short = omega (arith, short, length-append (big_bytes 1 (length context)) context, length-bytes_high_first 1 (length context))

none_short : (before : Option Before) → before ≡ None → length (before_bytes before) ≤ 74
none_short None is = omega arith
none_short (Some before) is = absurd (none-some before (sym is))

some_short : (before : Option Before) → IsSomeAnd before IsBefore → length (before_bytes before) ≤ 74
some_short None is = absurd is
some_short (Some before) is =
    let leading = context_length before.leading is.leading in
    let trailing = context_length before.trailing is.trailing in
    omega (
      arith,
      leading,
      trailing,
      length-append (big_bytes 8 before.length) (context_bytes before.leading ++ context_bytes before.trailing),
      length-append (context_bytes before.leading) (context_bytes before.trailing),
      length-bytes_high_first 8 before.length,
    )

-- an entry of version 2 or 3
new_length : (entry : Entry) → IsTrue (is_file_name entry.name) → length entry.patches ≤ 1_000 → AreWellFormed (pairs_of entry.patches) entry.length → entry.length ≤ 67_108_864
    → length (before_bytes entry.before) ≤ 74 → length (new_entry_bytes entry) ≤ 68_000_000_000
new_length entry accepted few formed small short =
    let each = follow_within 0 entry.length (length entry.patches == 1) entry.patches (well_formed_follow entry.length entry.patches formed) in
    let patches = flat_map_within patch_bytes (16 + entry.length) (λ patch. length patch.bytes ≤ entry.length) (λ patch within. patch_length entry.length patch within) entry.patches each in
    let name = name_length entry.name (name_short entry.name accepted) in
    let all : (16 + entry.length) * length entry.patches ≤ (16 + entry.length) * 1_000 = mul-le-mul_left (16 + entry.length) few in
    let count = big_bytes 4 (length entry.patches) ++ flat_map patch_bytes entry.patches in
    omega (
      arith,
      patches,
      all,
      name,
      small,
      short,
      length-append (name_bytes entry.name) (big_bytes 8 entry.length ++ (before_bytes entry.before ++ count)),
      length-append (big_bytes 8 entry.length) (before_bytes entry.before ++ count),
      length-append (before_bytes entry.before) count,
      length-append (big_bytes 4 (length entry.patches)) (flat_map patch_bytes entry.patches),
      length-bytes_high_first 8 entry.length,
      length-bytes_high_first 4 (length entry.patches),
    )

entry_length : (version : Version) (entry : Entry) → IsEntry version entry → length (entry_bytes version entry) ≤ 68_000_000_000
entry_length One entry is =
    let each = follow_within 0 entry.length (length entry.patches == 1) entry.patches (well_formed_follow entry.length entry.patches is.patches) in
    let patches = flat_map_within (old_patch_bytes entry.length) (24 + entry.length) (λ patch. length patch.bytes ≤ entry.length) (λ patch within. old_patch_length entry.length entry.length patch within) entry.patches each in
    let name = name_length entry.name (name_short entry.name is.name) in
    let all : (24 + entry.length) * length entry.patches ≤ (24 + entry.length) * 1 = mul-le-mul_left (24 + entry.length) is.few in
    omega (arith, patches, all, name, is.small, length-append (name_bytes entry.name) (flat_map (old_patch_bytes entry.length) entry.patches))
entry_length Two entry is = new_length entry is.name is.few is.patches is.small (none_short entry.before is.before)
entry_length Three entry is = new_length entry is.name is.few is.patches is.small (some_short entry.before is.before)

pub record_length : (version : Version) (entries : List Entry) → IsWellFormed version entries → length (record_bytes version entries) < 256 ^ 8
record_length version entries is =
    let items = flat_map_within (entry_bytes version) 68_000_000_000 (IsEntry version) (entry_length version) entries is.each in
    omega (arith, items, is.few, length-append (big_bytes 4 (length entries)) (flat_map (entry_bytes version) entries), length-bytes_high_first 4 (length entries))

-- ---- the header

version_is : (n : ℕ) (version : Version) → version_at n ≡ Some version → n ≡ version_number version
version_is n version e = by_test (n == 1) (n == 2) (n == 3) refl refl refl e
  where
    by_test : (one two three : Bool) → (n == 1) ≡ one → (n == 2) ≡ two → (n == 3) ≡ three → cond one (Some One) (cond two (Some Two) (cond three (Some Three) None)) ≡ Some version → n ≡ version_number version
    by_test true two three is_one is_two is_three found = eqb-true _ _ is_one ∙ ap version_number (same_Some One version found)
    by_test false true three is_one is_two is_three found = eqb-true _ _ is_two ∙ ap version_number (same_Some Two version found)
    by_test false false true is_one is_two is_three found = eqb-true _ _ is_three ∙ ap version_number (same_Some Three version found)
    by_test false false false is_one is_two is_three found = absurd (none-some version found)

version_again : (version : Version) → version_at (version_number version) ≡ Some version
version_again One = refl
version_again Two = refl
version_again Three = refl

-- the first bytes of a header
front_is : (bytes : List ℕ) → 7 ≤ length bytes → starts_with nat_eq bytes (codes "ORGJ") ≡ true → slice_index bytes 5 ≡ 0 → slice_index bytes 6 ≡ 0
    → bytes ≡ codes "ORGJ" ++ slice_index bytes 4 ∷ 0 ∷ 0 ∷ drop 7 bytes
front_is [] long magic six seven = absurd (omega arith)
front_is (a ∷ []) long magic six seven = absurd (omega arith)
front_is (a ∷ b ∷ []) long magic six seven = absurd (omega arith)
front_is (a ∷ b ∷ c ∷ []) long magic six seven = absurd (omega arith)
front_is (a ∷ b ∷ c ∷ d ∷ []) long magic six seven = absurd (omega arith)
front_is (a ∷ b ∷ c ∷ d ∷ e ∷ []) long magic six seven = absurd (omega arith)
front_is (a ∷ b ∷ c ∷ d ∷ e ∷ f ∷ []) long magic six seven = absurd (omega arith)
front_is (a ∷ b ∷ c ∷ d ∷ e ∷ f ∷ g ∷ rest) long magic six seven = grind (arith, common_steps)

header_takes : (bytes : List ℕ) (version : Version) (text : List ℕ) → IsBytes bytes → header_at bytes ≡ Some (version, text)
    → (rest : List ℕ) × (bytes ≡ (header_bytes version (length text) ++ text) ++ rest) × IsBytes text
unfolding header_at
header_takes bytes version text fits e =
    let size_test = leb 15 (length bytes) in
    let magic_test = starts_with nat_eq bytes (codes "ORGJ") in
    let six_test = slice_index bytes 5 == 0 in
    let seven_test = slice_index bytes 6 == 0 in
    let g = passed (size_test && (magic_test && (six_test && seven_test))) (version_at (slice_index bytes 4) >>= λ v. counted_at (drop 7 bytes) >>= λ t. Some (v, t.0)) (version, text) e in
    let size = both_true size_test (magic_test && (six_test && seven_test)) g.0 in
    let magic = both_true magic_test (six_test && seven_test) size.1 in
    let zeros = both_true six_test seven_test magic.1 in
    let v = bind_some (version_at (slice_index bytes 4)) (λ v. counted_at (drop 7 bytes) >>= λ t. Some (v, t.0)) (version, text) g.1 in
    let t = bind_some (counted_at (drop 7 bytes)) (λ t. Some (v.0, t.0)) (version, text) v.2 in
    let parts = some_pair_parts v.0 version t.0.0 text t.2 in
    let counted = (counted_takes (drop 7 bytes) t.0.0 t.0.1 (IsBytes-drop 7 bytes fits) t.1).0 in
    let long : 15 ≤ length bytes = leb-true _ _ size.0 in
    let behind : drop 7 bytes ≡ counted_bytes text ++ t.0.1 = counted.parts ∙ ap (λ (x : List ℕ). counted_bytes x ++ t.0.1) parts.1 in
    let number : slice_index bytes 4 ≡ version_number version = version_is (slice_index bytes 4) version (v.1 ∙ ap (λ (x : Version). Some x) parts.0) in
    let whole : bytes ≡ (header_bytes version (length text) ++ text) ++ t.0.1 =
    front_is bytes (omega (arith, long)) magic.0 (eqb-true _ _ zeros.0) (eqb-true _ _ zeros.1)
    ∙ ap (λ (n : ℕ). codes "ORGJ" ++ n ∷ 0 ∷ 0 ∷ drop 7 bytes) number ∙ ap (λ (x : List ℕ). codes "ORGJ" ++ version_number version ∷ 0 ∷ 0 ∷ x) behind in
    let cut : text ≡ take (length text) (drop 8 (drop 7 bytes)) =
    sym (take_at text t.0.1 (length text) refl) ∙ ap (take (length text)) (sym (drop_at (big_bytes 8 (length text)) (text ++ t.0.1) 8 (length-bytes_high_first 8 (length text))))
    ∙ ap (λ (x : List ℕ). take (length text) (drop 8 x)) (sym (append_assoc (big_bytes 8 (length text)) text t.0.1) ∙ sym behind) in
    (t.0.1, whole, subst IsBytes (sym cut) (IsBytes-take (length text) (drop 8 (drop 7 bytes)) (IsBytes-drop 8 (drop 7 bytes) (IsBytes-drop 7 bytes fits))))

header_again : (version : Version) (text rest : List ℕ) → length text < 256 ^ 8 → header_at ((header_bytes version (length text) ++ text) ++ rest) ≡ Some (version, text)
unfolding header_at
header_again version text rest small =
    let long : leb 15 (length ((header_bytes version (length text) ++ text) ++ rest)) ≡ true =
    le-leb _ _ (omega (arith, length-append (header_bytes version (length text) ++ text) rest, length-append (header_bytes version (length text)) text, length-bytes_high_first 8 (length text))) in
    rw (long, version_again version, counted_again text rest small) refl

-- ---- a journal

pub journal_takes : (bytes : List ℕ) (entries : List Entry) → IsBytes bytes → journal_at bytes ≡ Some entries → BeginsWith bytes entries
unfolding journal_at
journal_takes bytes entries fits e =
    let a = bind_some (header_at bytes) (λ found. record_at found.0 found.1) entries e in
    let header = header_takes bytes a.0.0 a.0.1 fits a.1 in
    let found = record_takes a.0.0 a.0.1 entries header.2 a.2 in
    record {
      version = a.0.0;
      rest = header.0;
      whole = header.1 ∙ ap (λ (x : List ℕ). (header_bytes a.0.0 (length x) ++ x) ++ header.0) found.0;
      well_formed = found.1;
    }

pub journal_again : (bytes : List ℕ) (entries : List Entry) → BeginsWith bytes entries → journal_at bytes ≡ Some entries
unfolding journal_at
journal_again bytes entries is =
    let small = record_length is.version entries is.well_formed in
    ap (λ (x : List ℕ). journal_at x) is.whole
    ∙ rw (header_again is.version (record_bytes is.version entries) is.rest small) (record_again is.version entries is.well_formed)

-- ---- what the functions promise

read_begins : (bytes : List ℕ) (read : Option (List Entry)) → IsBytes bytes → journal_at bytes ≡ read → is_some read ≡ true → (entries : List Entry) × BeginsWith bytes entries
read_begins bytes (Some entries) fits e some = (entries, journal_takes bytes entries fits e)
read_begins bytes None fits e some = absurd (false≢true some)

pub says_record : (bytes : List ℕ) (answer : Bool) → IsBytes bytes → answer ≡ is_some (journal_at bytes) → IsTrue answer ↔ ((entries : List Entry) × BeginsWith bytes entries)
says_record bytes answer fits is = (
  (λ yes. read_begins bytes (journal_at bytes) fits refl (sym is ∙ yes)),
  (λ given. is ∙ ap is_some (journal_again bytes given.0 given.1)),
)

pub found_begins : (bytes : List ℕ) (answer : Result (List Entry) (Fault Malformed)) → IsBytes bytes → DecodesAs (λ entries. entries) answer (journal_at bytes) → IfOk answer (λ entries. BeginsWith bytes entries)
found_begins bytes (Ok entries) fits given = journal_takes bytes entries fits given
found_begins bytes (Err e) fits given = tt

pub begins_found : (bytes : List ℕ) (answer : Result (List Entry) (Fault Malformed)) → DecodesAs (λ entries. entries) answer (journal_at bytes)
    → (entries : List Entry) → BeginsWith bytes entries → (answer ≡ Ok entries) ⊎ (answer ≡ Err OutOfMemory)
begins_found bytes (Ok other) given entries begins = inl (ap (λ (x : List Entry). Ok x) (same_Some other entries (sym given ∙ journal_again bytes entries begins)))
begins_found bytes (Err (Refused _)) given entries begins = absurd (none-some entries (sym given ∙ journal_again bytes entries begins))
begins_found bytes (Err OutOfMemory) given entries begins = inr refl

-- ---- writing

pub appended3 : (out o1 o2 o3 a b c : List ℕ) → o1 ≡ out ++ a → o2 ≡ o1 ++ b → o3 ≡ o2 ++ c → o3 ≡ out ++ (a ++ (b ++ c))
appended3 out o1 o2 o3 a b c e1 e2 e3 = e3 ∙ ap (λ (x : List ℕ). x ++ c) (e2 ∙ ap (λ (x : List ℕ). x ++ b) e1) ∙ append_assoc (out ++ a) b c ∙ append_assoc out a (b ++ c)

pub appended2 : (out o1 o2 a b : List ℕ) → o1 ≡ out ++ a → o2 ≡ o1 ++ b → o2 ≡ out ++ (a ++ b)
appended2 out o1 o2 a b e1 e2 = e2 ∙ ap (λ (x : List ℕ). x ++ b) e1 ∙ append_assoc out a b

pub appended6 : (out o1 o2 o3 o4 o5 o6 a b c d e f : List ℕ) → o1 ≡ out ++ a → o2 ≡ o1 ++ b → o3 ≡ o2 ++ c → o4 ≡ o3 ++ d → o5 ≡ o4 ++ e → o6 ≡ o5 ++ f
    → o6 ≡ out ++ ((a ++ b) ++ (c ++ (d ++ (e ++ f))))
appended6 out o1 o2 o3 o4 o5 o6 a b c d e f e1 e2 e3 e4 e5 e6 =
    appended2 out o2 o6 (a ++ b) (c ++ (d ++ (e ++ f))) (appended2 out o1 o2 a b e1 e2)
    (appended2 o2 o3 o6 c (d ++ (e ++ f)) e3 (appended3 o3 o4 o5 o6 d e f e4 e5 e6))

-- one item more was written
pub item_appended : {A : Type 0} (f : A → List ℕ) (out now next : List ℕ) (xs : List A) (i : ℕ) (x : A) → i < length xs → x ≡ get_or xs i x
    → now ≡ out ++ flat_map f (take i xs) → next ≡ now ++ f x → next ≡ out ++ flat_map f (take (i + 1) xs)
item_appended {A} f out now next xs i x lt is so_far written = grind (arith, common_steps)

-- the item at a place, where each item has P
pub item_of : {A : Type 0} (P : A → Type 0) (xs : List A) (i : ℕ) (x : A) → AllByRecursion P xs → i < length xs → x ≡ get_or xs i x → P x
item_of P [] i x all lt is = absurd (omega (arith, lt))
item_of P (y ∷ ys) zero x all lt is = subst P (sym is) all.0
item_of P (y ∷ ys) (suc i) x all lt is = item_of P ys i x all.1 (omega (arith, lt)) is

-- a journal of version 3 whose size is written last
pub sized : (o1 o2 o3 o4 bytes count items : List ℕ) (len size : ℕ) → o1 ≡ 79 ∷ 82 ∷ 71 ∷ 74 ∷ 3 ∷ 0 ∷ 0 ∷ [] → o2 ≡ o1 ++ big_bytes 8 0 → o3 ≡ o2 ++ count → o4 ≡ o3 ++ items
    → len ≡ length o4 → size ≡ length o4 - 15 → bytes ≡ take 7 o4 ++ (big_bytes 8 size ++ drop 15 o4)
    → take len (bytes ++ drop (length bytes) o4) ≡ header_bytes Three (length (count ++ items)) ++ (count ++ items)
sized o1 o2 o3 o4 bytes count items len size e1 e2 e3 e4 long is_size written =
    let front : List ℕ = 79 ∷ 82 ∷ 71 ∷ 74 ∷ 3 ∷ 0 ∷ 0 ∷ [] in
    let whole : o4 ≡ (front ++ big_bytes 8 0) ++ (count ++ items) =
    e4 ∙ ap (λ (x : List ℕ). x ++ items) (e3 ∙ ap (λ (x : List ℕ). x ++ count) (e2 ∙ ap (λ (x : List ℕ). x ++ big_bytes 8 0) e1)) ∙ append_assoc (front ++ big_bytes 8 0) count items in
    let grown : length o4 ≡ 15 + length (count ++ items) = ap length whole ∙ length-append (front ++ big_bytes 8 0) (count ++ items) in
    let is_length : size ≡ length (count ++ items) = omega (arith, grown, is_size) in
    let made : bytes ≡ header_bytes Three (length (count ++ items)) ++ (count ++ items) =
    written ∙ ap (λ (x : List ℕ). take 7 x ++ (big_bytes 8 size ++ drop 15 x)) whole ∙ ap (λ (n : ℕ). front ++ (big_bytes 8 n ++ (count ++ items))) is_length in
    let same : length bytes ≡ length o4 = ap length made ∙ length-append (header_bytes Three (length (count ++ items))) (count ++ items) ∙ sym grown in
    ap (λ (n : ℕ). take n (bytes ++ drop (length bytes) o4)) long
    ∙ ap (λ (x : List ℕ). take (length o4) (bytes ++ x)) (drop_all (length bytes) o4 (omega (arith, same)))
    ∙ ap (take (length o4)) (append-nil bytes) ∙ take_all (length o4) bytes (omega (arith, same)) ∙ made

-- bytes that are a record's begin with them
pub written_begins : (bytes : List ℕ) (entries : List Entry) → IsWellFormed Three entries → bytes ≡ journal_bytes Three entries → BeginsWith bytes entries
written_begins bytes entries is written =
    record { version = Three; rest = []; whole = written ∙ sym (append-nil (journal_bytes Three entries)); well_formed = is }

-- the record is read again, whatever follows
pub begins_again : (bytes : List ℕ) (entries : List Entry) → BeginsWith bytes entries → (rest : List ℕ) → journal_at (bytes ++ rest) ≡ Some entries
begins_again bytes entries is rest = journal_again (bytes ++ rest) entries (record {
  version = is.version;
  rest = is.rest ++ rest;
  whole = ap (λ (x : List ℕ). x ++ rest) is.whole ∙ append_assoc (journal_bytes is.version entries) is.rest rest;
  well_formed = is.well_formed;
})

-- what was read is a record
pub found_record : (bytes : List ℕ) (answer : Result (List Entry) (Fault Malformed)) → IfOk answer (λ entries. BeginsWith bytes entries) → IfOk answer (λ entries. IsRecord entries)
found_record bytes (Ok entries) found = (found.version, found.well_formed)
found_record bytes (Err e) found = tt

-- and what was read in version 3 can be written
read_writable : (version : Version) (entries : List Entry) → version_number version ≡ 3 → IsWellFormed version entries → IsWellFormed Three entries
read_writable One entries three is = absurd (omega (arith, three))
read_writable Two entries three is = absurd (omega (arith, three))
read_writable Three entries three is = is

pub found_writable : (bytes : List ℕ) (answer : Result (List Entry) (Fault Malformed)) → IfOk answer (λ entries. BeginsWith bytes entries)
    → IfOk answer (λ entries. slice_index bytes 4 ≡ 3 → IsWellFormed Three entries)
found_writable bytes (Ok entries) found = λ three.
    let number : slice_index bytes 4 ≡ version_number found.version = ap (λ (l : List ℕ). slice_index l 4) found.whole in
    read_writable found.version entries (sym number ∙ three) found.well_formed
found_writable bytes (Err e) found = tt
