-- A record that is read is the one that was written, and what was written is read again.
use Rattle.std.proofs.Common.{◌≡◌, ℕ, zero, suc, ◌-◌, ◌^◌, ◌<◌, ◌≤◌, Bool, true, false, cond, leb, eqb, List, [], ◌∷◌, ◌++◌, length, take, Option, Some, None, refl, sym, ap, subst, ◌∙◌, append_assoc, arith, inl}
use Rattle.std.proofs.lemmas.Grind.{common_steps}
use Rattle.std.specs.Prelude.{◌&&◌, ◌==◌, IsTrue, IsUtf8}
use Rattle.std.specs.List.{flat_map, AllByRecursion}
use Rattle.std.proofs.lemmas.Bool.{leb-true, le-leb, eqb-true}
use Rattle.std.proofs.lemmas.List.{append-nil, nil_from_length, length-take}
use Rattle.std.proofs.lemmas.List.Concat.{flat_map-cons}
use Rattle.std.proofs.lemmas.Option.{none-some, same_Some}
use Rattle.byteorder.specs.Endian.{big_bytes}
use Rattle.org_disk.specs.Names.{is_file_name, is_org_name, is_archive_name, base_name}
use Rattle.org_journal.specs.declared.record.Before.{Before}
use Rattle.org_journal.specs.declared.record.Entry.{Entry}
use Rattle.org_splice.specs.Patches.{AreWellFormed}
use Rattle.org_splice.specs.Texts.{pairs_of}
use Rattle.org_splice.specs.declared.patch.Patch.{Patch}
use Rattle.org_journal.specs.declared.record.Version.{Version}
use Rattle.org_journal.specs.declared.record.Version.TheVariants.{One, Two, Three}
use Rattle.org_journal.specs.Record.{name_bytes, counted_bytes, patch_bytes, old_patch_bytes, context_bytes, before_bytes, new_entry_bytes, entry_bytes, record_bytes, most_entries, most_patches, greatest_length, IsBefore, HasBefore, IsEntry, names_differ, IsWellFormed}
use Rattle.org_journal.specs.Reading.{◌>>=◌, number_at, counted_at, name_at, may_follow, patches_at, old_entry, old_entry_at, context_at, before_of, before_at, before_in, Head, head_at, new_entry_at, entry_at, entries_at, count_at, record_at}
use Rattle.org_journal.proofs.Numbers.{IsBytes, Takes, Takes-then, bind_some, passed, both_true, back4, back8, number_takes, number_again, counted_takes, counted_again, context_takes, context_again, name_takes, name_again}
use Rattle.org_journal.proofs.Patched.{Follows, follows_is, follows_again, AllFollow, patches_take, patches_again, length-pairs, well_formed_is, well_formed_follow}

-- ---- the length of a name

length-base : (name : List ℕ) (b : Bool) → length (cond b (take (length name - 8) name) name) ≤ 1_000 → length name ≤ 1_008
length-base name true le = omega (arith, le, length-take (length name - 8) name)
length-base name false le = omega (arith, le)

org_short : (name : List ℕ) → is_org_name name ≡ true → length name ≤ 1_000
org_short name e = leb-true (length name) 1_000 (both_true _ _ (both_true _ _ e).0).0

pub name_short : (name : List ℕ) → is_file_name name ≡ true → length name ≤ 1_008
name_short name e = length-base name (is_archive_name name) (org_short (base_name name) e)

-- its length has 2 bytes
pub name_fits : (name : List ℕ) → is_file_name name ≡ true → length name < 65_536
name_fits name accepted = omega (arith, name_short name accepted)

-- ---- an entry of version 1

old_is : (name : List ℕ) (final from : ℕ) (bytes : List ℕ) → IsUtf8 name → IsTrue (is_file_name name) → final ≤ greatest_length One → Follows 0 final true from (length bytes) → IsEntry One (old_entry name final from bytes)
old_is name final from bytes text accepted small follows = grind (arith, common_steps)

old_takes : (bytes : List ℕ) (entry : Entry) (rest : List ℕ) → IsBytes bytes → old_entry_at bytes ≡ Some (entry, rest) → Takes bytes (entry_bytes One entry) rest × IsEntry One entry
unfolding old_entry_at
old_takes bytes entry rest fits e =
    let a = bind_some (name_at bytes) (λ name. number_at 8 name.1 >>= λ from. number_at 8 from.1 >>= λ final. counted_at final.1 >>= λ text. cond (leb final.0 (greatest_length One) && may_follow 0 final.0 true from.0 (length text.0)) (Some (old_entry name.0 final.0 from.0 text.0, text.1)) None) (entry, rest) e in
    let b = bind_some (number_at 8 a.0.1) (λ from. number_at 8 from.1 >>= λ final. counted_at final.1 >>= λ text. cond (leb final.0 (greatest_length One) && may_follow 0 final.0 true from.0 (length text.0)) (Some (old_entry a.0.0 final.0 from.0 text.0, text.1)) None) (entry, rest) a.2 in
    let c = bind_some (number_at 8 b.0.1) (λ final. counted_at final.1 >>= λ text. cond (leb final.0 (greatest_length One) && may_follow 0 final.0 true b.0.0 (length text.0)) (Some (old_entry a.0.0 final.0 b.0.0 text.0, text.1)) None) (entry, rest) b.2 in
    let d = bind_some (counted_at c.0.1) (λ text. cond (leb c.0.0 (greatest_length One) && may_follow 0 c.0.0 true b.0.0 (length text.0)) (Some (old_entry a.0.0 c.0.0 b.0.0 text.0, text.1)) None) (entry, rest) c.2 in
    let made : Entry × List ℕ = (old_entry a.0.0 c.0.0 b.0.0 d.0.0, d.0.1) in
    let g = passed (leb c.0.0 (greatest_length One) && may_follow 0 c.0.0 true b.0.0 (length d.0.0)) (Some made) (entry, rest) d.2 in
    let tests = both_true (leb c.0.0 (greatest_length One)) (may_follow 0 c.0.0 true b.0.0 (length d.0.0)) g.0 in
    let name = name_takes bytes a.0.0 a.0.1 fits a.1 in
    let from = number_takes 8 back8 a.0.1 b.0.0 b.0.1 name.0.rest_fits b.1 in
    let final = number_takes 8 back8 b.0.1 c.0.0 c.0.1 from.0.rest_fits c.1 in
    let text = counted_takes c.0.1 d.0.0 d.0.1 final.0.rest_fits d.1 in
    let patch = Takes-then a.0.1 (big_bytes 8 b.0.0) b.0.1 (big_bytes 8 c.0.0 ++ counted_bytes d.0.0) d.0.1 from.0 (Takes-then b.0.1 (big_bytes 8 c.0.0) c.0.1 (counted_bytes d.0.0) d.0.1 final.0 text.0) in
    let whole = Takes-then bytes (name_bytes a.0.0) a.0.1 (old_patch_bytes c.0.0 (record { from = b.0.0; bytes = d.0.0 })) d.0.1 name.0 patch in
    let spelled : Takes bytes (entry_bytes One made.0) made.1 = subst (λ (x : List ℕ). Takes bytes (name_bytes a.0.0 ++ x) d.0.1) (sym (append-nil (old_patch_bytes c.0.0 (record { from = b.0.0; bytes = d.0.0 })))) whole in
    subst (λ (x : Entry × List ℕ). Takes bytes (entry_bytes One x.0) x.1 × IsEntry One x.0) (same_Some made (entry, rest) g.1)
    (spelled, old_is a.0.0 c.0.0 b.0.0 d.0.0 name.1.0 name.1.1 (leb-true _ _ tests.0) (follows_is 0 c.0.0 true b.0.0 (length d.0.0) tests.1))

old_one_again : (name : List ℕ) (final : ℕ) (patch : Patch) (rest : List ℕ) → IsUtf8 name → IsTrue (is_file_name name) → final ≤ greatest_length One → Follows 0 final true patch.from (length patch.bytes)
    → old_entry_at (entry_bytes One (old_entry name final patch.from patch.bytes) ++ rest) ≡ Some (old_entry name final patch.from patch.bytes, rest)
unfolding old_entry_at
old_one_again name final patch rest text accepted small follows =
    let bytes = patch.bytes in
    let low : patch.from < 256 ^ 8 = omega (arith, follows.ends, small) in
    let short : length bytes < 256 ^ 8 = omega (arith, follows.ends, small) in
    let below : final < 256 ^ 8 = omega (arith, small) in
    let named : length name < 256 ^ 2 = omega (arith, name_short name accepted) in
    let test = follows_again 0 final true patch.from (length bytes) follows in
    let within = le-leb _ _ small in
    let regrouped : entry_bytes One (old_entry name final patch.from bytes) ++ rest ≡ name_bytes name ++ (big_bytes 8 patch.from ++ (big_bytes 8 final ++ (counted_bytes bytes ++ rest))) =
    ap (λ (x : List ℕ). (name_bytes name ++ x) ++ rest) (append-nil (old_patch_bytes final patch))
    ∙ append_assoc (name_bytes name) (old_patch_bytes final patch) rest
    ∙ ap (λ (x : List ℕ). name_bytes name ++ x) (append_assoc (big_bytes 8 patch.from) (big_bytes 8 final ++ counted_bytes bytes) rest ∙ ap (λ (x : List ℕ). big_bytes 8 patch.from ++ x) (append_assoc (big_bytes 8 final) (counted_bytes bytes) rest)) in
    ap (λ (x : List ℕ). old_entry_at x) regrouped
    ∙ rw (name_again name (big_bytes 8 patch.from ++ (big_bytes 8 final ++ (counted_bytes bytes ++ rest))) text accepted named, number_again 8 patch.from (big_bytes 8 final ++ (counted_bytes bytes ++ rest)) low, number_again 8 final (counted_bytes bytes ++ rest) below, counted_again bytes rest short, within, test) refl

old_patches_again : (name : List ℕ) (final : ℕ) (patches : List Patch) (rest : List ℕ) → IsEntry One (record { name = name; length = final; before = None; patches = patches })
    → old_entry_at (entry_bytes One (record { name = name; length = final; before = None; patches = patches }) ++ rest) ≡ Some (record { name = name; length = final; before = None; patches = patches }, rest)
old_patches_again name final [] rest is = absurd (omega (arith, is.patches.some))
old_patches_again name final (patch ∷ []) rest is =
    old_one_again name final patch rest is.text is.name is.small (record { begins = is.patches.rise.0; ends = is.patches.within; full = inl refl })
old_patches_again name final (patch ∷ other ∷ patches) rest is = absurd (omega (arith, is.few))

old_again : (entry : Entry) (rest : List ℕ) → IsEntry One entry → old_entry_at (entry_bytes One entry ++ rest) ≡ Some (entry, rest)
old_again entry rest is =
    let same : record { name = entry.name; length = entry.length; before = None; patches = entry.patches } ≡ entry = ap (λ (b : Option Before). record { name = entry.name; length = entry.length; before = b; patches = entry.patches }) (sym is.before) in
    subst (λ (x : Entry). old_entry_at (entry_bytes One x ++ rest) ≡ Some (x, rest)) same
    (old_patches_again entry.name entry.length entry.patches rest (subst (IsEntry One) (sym same) is))

-- ---- what a file was before

before_takes : (bytes : List ℕ) (before : Before) (rest : List ℕ) → IsBytes bytes → before_at bytes ≡ Some (before, rest) → Takes bytes (before_bytes (Some before)) rest × IsBefore before
unfolding before_at
before_takes bytes before rest fits e =
    let a = bind_some (number_at 8 bytes) (λ size. context_at size.1 >>= λ leading. context_at leading.1 >>= λ trailing. Some (before_of size.0 leading.0 trailing.0, trailing.1)) (before, rest) e in
    let b = bind_some (context_at a.0.1) (λ leading. context_at leading.1 >>= λ trailing. Some (before_of a.0.0 leading.0 trailing.0, trailing.1)) (before, rest) a.2 in
    let c = bind_some (context_at b.0.1) (λ trailing. Some (before_of a.0.0 b.0.0 trailing.0, trailing.1)) (before, rest) b.2 in
    let size = number_takes 8 back8 bytes a.0.0 a.0.1 fits a.1 in
    let leading = context_takes a.0.1 b.0.0 b.0.1 size.0.rest_fits b.1 in
    let trailing = context_takes b.0.1 c.0.0 c.0.1 leading.0.rest_fits c.1 in
    let contexts = Takes-then a.0.1 (context_bytes b.0.0) b.0.1 (context_bytes c.0.0) c.0.1 leading.0 trailing.0 in
    let whole = Takes-then bytes (big_bytes 8 a.0.0) a.0.1 (context_bytes b.0.0 ++ context_bytes c.0.0) c.0.1 size.0 contexts in
    subst (λ (x : Before × List ℕ). Takes bytes (before_bytes (Some x.0)) x.1 × IsBefore x.0) (same_Some (before_of a.0.0 b.0.0 c.0.0, c.0.1) (before, rest) c.2)
    (whole, record { sized = omega (arith, size.1); leading = leading.1; trailing = trailing.1 })

before_again : (before : Before) (rest : List ℕ) → IsBefore before → before_at (before_bytes (Some before) ++ rest) ≡ Some (before, rest)
unfolding before_at
before_again before rest is =
    let leading = before.leading in
    let trailing = before.trailing in
    let sized : before.length < 256 ^ 8 = omega (arith, is.sized) in
    let regrouped : before_bytes (Some before) ++ rest ≡ big_bytes 8 before.length ++ (context_bytes leading ++ (context_bytes trailing ++ rest)) =
    append_assoc (big_bytes 8 before.length) (context_bytes leading ++ context_bytes trailing) rest
    ∙ ap (λ (x : List ℕ). big_bytes 8 before.length ++ x) (append_assoc (context_bytes leading) (context_bytes trailing) rest) in
    ap (λ (x : List ℕ). before_at x) regrouped
    ∙ rw (number_again 8 before.length (context_bytes leading ++ (context_bytes trailing ++ rest)) sized, context_again leading (context_bytes trailing ++ rest) is.leading, context_again trailing rest is.trailing) refl

before_in_takes : (version : Version) (bytes : List ℕ) (before : Option Before) (rest : List ℕ) → IsBytes bytes → before_in version bytes ≡ Some (before, rest)
    → Takes bytes (before_bytes before) rest × HasBefore version before
unfolding before_in
before_in_takes One bytes before rest fits e =
    subst (λ (x : Option Before × List ℕ). Takes bytes (before_bytes x.0) x.1 × HasBefore One x.0) (same_Some (None, bytes) (before, rest) e) (record { parts = refl; rest_fits = fits }, refl)
before_in_takes Two bytes before rest fits e =
    subst (λ (x : Option Before × List ℕ). Takes bytes (before_bytes x.0) x.1 × HasBefore Two x.0) (same_Some (None, bytes) (before, rest) e) (record { parts = refl; rest_fits = fits }, refl)
before_in_takes Three bytes before rest fits e =
    let a = bind_some (before_at bytes) (λ b. Some (Some b.0, b.1)) (before, rest) e in
    let found = before_takes bytes a.0.0 a.0.1 fits a.1 in
    subst (λ (x : Option Before × List ℕ). Takes bytes (before_bytes x.0) x.1 × HasBefore Three x.0) (same_Some (Some a.0.0, a.0.1) (before, rest) a.2) (found.0, found.1)

before_in_again : (version : Version) (before : Option Before) (rest : List ℕ) → HasBefore version before → before_in version (before_bytes before ++ rest) ≡ Some (before, rest)
unfolding before_in
before_in_again One None rest is = refl
before_in_again One (Some before) rest is = absurd (none-some before (sym is))
before_in_again Two None rest is = refl
before_in_again Two (Some before) rest is = absurd (none-some before (sym is))
before_in_again Three None rest is = absurd is
before_in_again Three (Some before) rest is = rw (before_again before rest is) refl

-- ---- an entry of version 2 or 3

head_bytes : Head → List ℕ
head_bytes head = name_bytes head.name ++ (big_bytes 8 head.final ++ (before_bytes head.before ++ big_bytes 4 head.count))

pub record IsHead (version : Version) (head : Head) : Type 0 where
  pub text : IsUtf8 head.name
  pub name : IsTrue (is_file_name head.name)
  pub small : head.final ≤ greatest_length Three
  pub some : 1 ≤ head.count
  pub few : head.count ≤ most_patches Three
  pub before : HasBefore version head.before

abbrev head_if : List ℕ × List ℕ → ℕ × List ℕ → Option Before × List ℕ → ℕ × List ℕ → Option (Head × List ℕ)
head_if name final before count =
    cond (leb final.0 (greatest_length Three) && (leb 1 count.0 && leb count.0 (most_patches Three))) (Some (record { name = name.0; final = final.0; before = before.0; count = count.0 }, count.1)) None

head_takes : (version : Version) (bytes : List ℕ) (head : Head) (rest : List ℕ) → IsBytes bytes → head_at version bytes ≡ Some (head, rest) → Takes bytes (head_bytes head) rest × IsHead version head
unfolding head_at head_bytes
head_takes version bytes head rest fits e =
    let a = bind_some (name_at bytes) (λ name. number_at 8 name.1 >>= λ final. before_in version final.1 >>= λ before. number_at 4 before.1 >>= λ count. head_if name final before count) (head, rest) e in
    let b = bind_some (number_at 8 a.0.1) (λ final. before_in version final.1 >>= λ before. number_at 4 before.1 >>= λ count. head_if a.0 final before count) (head, rest) a.2 in
    let c = bind_some (before_in version b.0.1) (λ before. number_at 4 before.1 >>= λ count. head_if a.0 b.0 before count) (head, rest) b.2 in
    let d = bind_some (number_at 4 c.0.1) (λ count. head_if a.0 b.0 c.0 count) (head, rest) c.2 in
    let made : Head × List ℕ = (record { name = a.0.0; final = b.0.0; before = c.0.0; count = d.0.0 }, d.0.1) in
    let g = passed (leb b.0.0 (greatest_length Three) && (leb 1 d.0.0 && leb d.0.0 (most_patches Three))) (Some made) (head, rest) d.2 in
    let small = both_true (leb b.0.0 (greatest_length Three)) (leb 1 d.0.0 && leb d.0.0 (most_patches Three)) g.0 in
    let range = both_true (leb 1 d.0.0) (leb d.0.0 (most_patches Three)) small.1 in
    let name = name_takes bytes a.0.0 a.0.1 fits a.1 in
    let final = number_takes 8 back8 a.0.1 b.0.0 b.0.1 name.0.rest_fits b.1 in
    let before = before_in_takes version b.0.1 c.0.0 c.0.1 final.0.rest_fits c.1 in
    let count = number_takes 4 back4 c.0.1 d.0.0 d.0.1 before.0.rest_fits d.1 in
    let ending = Takes-then b.0.1 (before_bytes c.0.0) c.0.1 (big_bytes 4 d.0.0) d.0.1 before.0 count.0 in
    let sized = Takes-then a.0.1 (big_bytes 8 b.0.0) b.0.1 (before_bytes c.0.0 ++ big_bytes 4 d.0.0) d.0.1 final.0 ending in
    let whole = Takes-then bytes (name_bytes a.0.0) a.0.1 (big_bytes 8 b.0.0 ++ (before_bytes c.0.0 ++ big_bytes 4 d.0.0)) d.0.1 name.0 sized in
    subst (λ (x : Head × List ℕ). Takes bytes (head_bytes x.0) x.1 × IsHead version x.0) (same_Some made (head, rest) g.1)
    (whole, record { text = name.1.0; name = name.1.1; small = leb-true _ _ small.0; some = leb-true _ _ range.0; few = leb-true _ _ range.1; before = before.1 })

head_again : (version : Version) (head : Head) (rest : List ℕ) → IsHead version head → head_at version (head_bytes head ++ rest) ≡ Some (head, rest)
unfolding head_at head_bytes
head_again version head rest is =
    let final : head.final < 256 ^ 8 = omega (arith, is.small) in
    let count : head.count < 256 ^ 4 = omega (arith, is.few) in
    let named : length head.name < 256 ^ 2 = omega (arith, name_short head.name is.name) in
    let small = le-leb _ _ is.small in
    let some = le-leb _ _ is.some in
    let few = le-leb _ _ is.few in
    let ending = big_bytes 4 head.count ++ rest in
    let was = before_bytes head.before in
    let regrouped : (name_bytes head.name ++ (big_bytes 8 head.final ++ (was ++ big_bytes 4 head.count))) ++ rest ≡ name_bytes head.name ++ (big_bytes 8 head.final ++ (was ++ ending)) =
    append_assoc (name_bytes head.name) (big_bytes 8 head.final ++ (was ++ big_bytes 4 head.count)) rest
    ∙ ap (λ (x : List ℕ). name_bytes head.name ++ x) (append_assoc (big_bytes 8 head.final) (was ++ big_bytes 4 head.count) rest ∙ ap (λ (x : List ℕ). big_bytes 8 head.final ++ x) (append_assoc was (big_bytes 4 head.count) rest)) in
    ap (λ (x : List ℕ). head_at version x) regrouped
    ∙ rw (name_again head.name (big_bytes 8 head.final ++ (was ++ ending)) is.text is.name named, number_again 8 head.final (was ++ ending) final, before_in_again version head.before ending is.before, number_again 4 head.count rest count, small, some, few) refl

-- the head of an entry, and the bytes after it
head_of : Entry → Head
head_of entry = record { name = entry.name; final = entry.length; before = entry.before; count = length entry.patches }

new_of_head : (entry : Entry) → new_entry_bytes entry ≡ head_bytes (head_of entry) ++ flat_map patch_bytes entry.patches
unfolding head_bytes head_of
new_of_head entry =
    let final = big_bytes 8 entry.length in
    let was = before_bytes entry.before in
    let count = big_bytes 4 (length entry.patches) in
    let patches = flat_map patch_bytes entry.patches in
    sym (append_assoc (name_bytes entry.name) (final ++ (was ++ count)) patches
    ∙ ap (λ (x : List ℕ). name_bytes entry.name ++ x) (append_assoc final (was ++ count) patches ∙ ap (λ (x : List ℕ). final ++ x) (append_assoc was count patches)))

-- an entry of version 2 or 3, whichever
pub record IsNewEntry (version : Version) (entry : Entry) : Type 0 where
  pub text : IsUtf8 entry.name
  pub name : IsTrue (is_file_name entry.name)
  pub few : length entry.patches ≤ most_patches Three
  pub patches : AreWellFormed (pairs_of entry.patches) entry.length
  pub small : entry.length ≤ greatest_length Three
  pub before : HasBefore version entry.before

new_takes : (version : Version) (bytes : List ℕ) (entry : Entry) (rest : List ℕ) → IsBytes bytes → new_entry_at version bytes ≡ Some (entry, rest) → Takes bytes (new_entry_bytes entry) rest × IsNewEntry version entry
unfolding new_entry_at head_of
new_takes version bytes entry rest fits e =
    let a = bind_some (head_at version bytes) (λ head. patches_at 0 head.0.final (head.0.count == 1) head.0.count head.1 >>= λ patches. Some (record { name = head.0.name; length = head.0.final; before = head.0.before; patches = patches.0 }, patches.1)) (entry, rest) e in
    let b = bind_some (patches_at 0 a.0.0.final (a.0.0.count == 1) a.0.0.count a.0.1) (λ patches. Some (record { name = a.0.0.name; length = a.0.0.final; before = a.0.0.before; patches = patches.0 }, patches.1)) (entry, rest) a.2 in
    let made : Entry × List ℕ = (record { name = a.0.0.name; length = a.0.0.final; before = a.0.0.before; patches = b.0.0 }, b.0.1) in
    let head = head_takes version bytes a.0.0 a.0.1 fits a.1 in
    let patches = patches_take 0 a.0.0.final (a.0.0.count == 1) a.0.0.count a.0.1 b.0.0 b.0.1 head.0.rest_fits b.1 in
    let whole = Takes-then bytes (head_bytes a.0.0) a.0.1 (flat_map patch_bytes b.0.0) b.0.1 head.0 patches.0 in
    let counted : head_bytes a.0.0 ≡ head_bytes (head_of made.0) = ap (λ (n : ℕ). head_bytes (record { name = a.0.0.name; final = a.0.0.final; before = a.0.0.before; count = n })) (sym patches.1) in
    let spelled : Takes bytes (new_entry_bytes made.0) made.1 = subst (λ (x : List ℕ). Takes bytes x b.0.1) (ap (λ (x : List ℕ). x ++ flat_map patch_bytes b.0.0) counted ∙ sym (new_of_head made.0)) whole in
    let follow : AllFollow 0 a.0.0.final (length b.0.0 == 1) b.0.0 = subst (λ (n : ℕ). AllFollow 0 a.0.0.final (n == 1) b.0.0) (sym patches.1) patches.2 in
    let is : IsNewEntry version made.0 = record {
      text = head.1.text;
      name = head.1.name;
      few = omega (arith, head.1.few, patches.1);
      patches = well_formed_is a.0.0.final b.0.0 (omega (arith, head.1.some, patches.1)) (omega (arith, head.1.few, patches.1)) follow;
      small = head.1.small;
      before = head.1.before;
    } in
    subst (λ (x : Entry × List ℕ). Takes bytes (new_entry_bytes x.0) x.1 × IsNewEntry version x.0) (same_Some made (entry, rest) b.2) (spelled, is)

new_again : (version : Version) (entry : Entry) (rest : List ℕ) → IsNewEntry version entry → new_entry_at version (new_entry_bytes entry ++ rest) ≡ Some (entry, rest)
unfolding new_entry_at head_of
new_again version entry rest is =
    let is_head : IsHead version (head_of entry) = record { text = is.text; name = is.name; small = is.small; some = omega (arith, is.patches.some, length-pairs entry.patches); few = is.few; before = is.before } in
    let below : entry.length < 256 ^ 8 = omega (arith, is.small) in
    let follow = well_formed_follow entry.length entry.patches is.patches in
    let regrouped : new_entry_bytes entry ++ rest ≡ head_bytes (head_of entry) ++ (flat_map patch_bytes entry.patches ++ rest) =
    ap (λ (x : List ℕ). x ++ rest) (new_of_head entry) ∙ append_assoc (head_bytes (head_of entry)) (flat_map patch_bytes entry.patches) rest in
    ap (λ (x : List ℕ). new_entry_at version x) regrouped
    ∙ rw (head_again version (head_of entry) (flat_map patch_bytes entry.patches ++ rest) is_head, patches_again 0 entry.length (length entry.patches == 1) entry.patches rest below follow) refl

-- ---- an entry

entry_takes : (version : Version) (bytes : List ℕ) (entry : Entry) (rest : List ℕ) → IsBytes bytes → entry_at version bytes ≡ Some (entry, rest) → Takes bytes (entry_bytes version entry) rest × IsEntry version entry
unfolding entry_at
entry_takes One bytes entry rest fits e = old_takes bytes entry rest fits e
entry_takes Two bytes entry rest fits e =
    let new = new_takes Two bytes entry rest fits e in
    let is = new.1 in
    (new.0, record { text = is.text; name = is.name; few = is.few; patches = is.patches; small = is.small; before = is.before })
entry_takes Three bytes entry rest fits e =
    let new = new_takes Three bytes entry rest fits e in
    let is = new.1 in
    (new.0, record { text = is.text; name = is.name; few = is.few; patches = is.patches; small = is.small; before = is.before })

entry_again : (version : Version) (entry : Entry) (rest : List ℕ) → IsEntry version entry → entry_at version (entry_bytes version entry ++ rest) ≡ Some (entry, rest)
unfolding entry_at
entry_again One entry rest is = old_again entry rest is
entry_again Two entry rest is = new_again Two entry rest (record { text = is.text; name = is.name; few = is.few; patches = is.patches; small = is.small; before = is.before })
entry_again Three entry rest is = new_again Three entry rest (record { text = is.text; name = is.name; few = is.few; patches = is.patches; small = is.small; before = is.before })

-- ---- the entries of a record

entries_take : (version : Version) (n : ℕ) (bytes : List ℕ) (entries : List Entry) (rest : List ℕ) → IsBytes bytes → entries_at version n bytes ≡ Some (entries, rest)
    → Takes bytes (flat_map (entry_bytes version) entries) rest × (length entries ≡ n) × AllByRecursion (IsEntry version) entries
unfolding entries_at
entries_take version zero bytes entries rest fits e = grind (arith, common_steps)
entries_take version (suc n) bytes entries rest fits e =
    let a = bind_some (entry_at version bytes) (λ first. entries_at version n first.1 >>= λ others. Some (first.0 ∷ others.0, others.1)) (entries, rest) e in
    let b = bind_some (entries_at version n a.0.1) (λ others. Some (a.0.0 ∷ others.0, others.1)) (entries, rest) a.2 in
    let first = entry_takes version bytes a.0.0 a.0.1 fits a.1 in
    let second = entries_take version n a.0.1 b.0.0 b.0.1 first.0.rest_fits b.1 in
    let both = Takes-then bytes (entry_bytes version a.0.0) a.0.1 (flat_map (entry_bytes version) b.0.0) b.0.1 first.0 second.0 in
    let made : List Entry × List ℕ = (a.0.0 ∷ b.0.0, b.0.1) in
    subst (λ (x : List Entry × List ℕ). Takes bytes (flat_map (entry_bytes version) x.0) x.1 × (length x.0 ≡ suc n) × AllByRecursion (IsEntry version) x.0) (same_Some made (entries, rest) b.2)
    (rw flat_map-cons both, ap suc second.1, (first.1, second.2))

entries_again : (version : Version) (entries : List Entry) (rest : List ℕ) → AllByRecursion (IsEntry version) entries → entries_at version (length entries) (flat_map (entry_bytes version) entries ++ rest) ≡ Some (entries, rest)
unfolding entries_at
entries_again version [] rest each = refl
entries_again version (entry ∷ entries) rest each = grind (arith, common_steps, flat_map-cons, append_assoc, entry_again, entries_again version entries rest each.1)

-- ---- a record

pub record_takes : (version : Version) (bytes : List ℕ) (entries : List Entry) → IsBytes bytes → record_at version bytes ≡ Some entries → (bytes ≡ record_bytes version entries) × IsWellFormed version entries
unfolding record_at count_at
record_takes version bytes entries fits e =
    let a = bind_some (count_at bytes) (λ count. entries_at version count.0 count.1 >>= λ found. cond (eqb (length found.1) 0 && names_differ found.0) (Some found.0) None) entries e in
    let b = bind_some (entries_at version a.0.0 a.0.1) (λ found. cond (eqb (length found.1) 0 && names_differ found.0) (Some found.0) None) entries a.2 in
    let g = passed (eqb (length b.0.1) 0 && names_differ b.0.0) (Some b.0.0) entries b.2 in
    let tests = both_true (eqb (length b.0.1) 0) (names_differ b.0.0) g.0 in
    let n = bind_some (number_at 4 bytes) (λ count. cond (leb 1 count.0 && leb count.0 most_entries) (Some count) None) a.0 a.1 in
    let range = passed (leb 1 n.0.0 && leb n.0.0 most_entries) (Some n.0) a.0 n.2 in
    let bounds = both_true (leb 1 n.0.0) (leb n.0.0 most_entries) range.0 in
    let found = number_takes 4 back4 bytes n.0.0 n.0.1 fits n.1 in
    let count : Takes bytes (big_bytes 4 a.0.0) a.0.1 × (1 ≤ a.0.0) × (a.0.0 ≤ most_entries) =
    subst (λ (x : ℕ × List ℕ). Takes bytes (big_bytes 4 x.0) x.1 × (1 ≤ x.0) × (x.0 ≤ most_entries)) (same_Some n.0 a.0 range.1) (found.0, leb-true _ _ bounds.0, leb-true _ _ bounds.1) in
    let items = entries_take version a.0.0 a.0.1 b.0.0 b.0.1 count.0.rest_fits b.1 in
    let nothing : b.0.1 ≡ [] = nil_from_length b.0.1 (eqb-true _ _ tests.0) in
    let both = (Takes-then bytes (big_bytes 4 a.0.0) a.0.1 (flat_map (entry_bytes version) b.0.0) b.0.1 count.0 items.0).parts in
    let whole : bytes ≡ record_bytes version b.0.0 = both ∙ ap (λ (r : List ℕ). (big_bytes 4 a.0.0 ++ flat_map (entry_bytes version) b.0.0) ++ r) nothing ∙ append-nil (big_bytes 4 a.0.0 ++ flat_map (entry_bytes version) b.0.0) ∙ ap (λ (k : ℕ). big_bytes 4 k ++ flat_map (entry_bytes version) b.0.0) (sym items.1) in
    subst (λ (x : List Entry). (bytes ≡ record_bytes version x) × IsWellFormed version x) (same_Some b.0.0 entries g.1)
    (whole, record { some = omega (arith, count.1, items.1); few = omega (arith, count.2, items.1); each = items.2; apart = tests.1 })

pub record_again : (version : Version) (entries : List Entry) → IsWellFormed version entries → record_at version (record_bytes version entries) ≡ Some entries
unfolding record_at count_at
record_again version entries is =
    let items : entries_at version (length entries) (flat_map (entry_bytes version) entries) ≡ Some (entries, []) =
    ap (entries_at version (length entries)) (sym (append-nil (flat_map (entry_bytes version) entries))) ∙ entries_again version entries [] is.each in
    let below : length entries < 256 ^ 4 = omega (arith, is.few) in
    let some = le-leb _ _ is.some in
    let few = le-leb _ _ is.few in
    let apart : names_differ entries ≡ true = is.apart in
    rw (number_again 4 (length entries) (flat_map (entry_bytes version) entries) below, some, few, items, apart) refl
