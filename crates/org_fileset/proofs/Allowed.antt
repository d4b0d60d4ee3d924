-- While an entry is applied to its file, a crash leaves nothing of the file but what the entry
-- allows.
use Rattle.std.proofs.Common.{◌≡◌, ◌⊎◌, inl, inr, ℕ, zero, suc, ◌+◌, ◌-◌, ◌<◌, ◌≤◌, ◌^◌, min, max, Bool, true, false, List, [], ◌∷◌, length, get_or, take, drop, Option, Some, None, refl, sym, ◌∙◌, ap, subst, arith}
use Rattle.std.specs.Prelude.{◌&&◌, ◌==◌, nat_le, slice_get, if◌then◌else◌, IsSomeAnd}
use Rattle.std.specs.Str.{bytes_eq}
use Rattle.std.proofs.lemmas.Bool.{and_from, eqb-true, le-leb}
use Rattle.std.proofs.lemmas.List.{get_or-drop, get_or-take, get_or_default, length-drop, length-take, same_lists}
use Rattle.org_disk.specs.Disk.{FileState, IsFixed, IsImage, IsStable, cut, sync, write}
use Rattle.org_disk.proofs.Names.{same_name}
use Rattle.org_splice.specs.Patches as patch
use Rattle.org_splice.specs.Patches.{AreWellFormed, PatchedTo, Rise, end_of, last_end, patched}
use Rattle.org_splice.proofs.Overwritten.{overwritten-outside}
use Rattle.org_splice.proofs.Patching.{last_end-place, patched-outside}
use Rattle.org_splice.specs.Texts.{EditedText, IsEditOf, pairs_of}
use Rattle.org_journal.specs.declared.record.Before.{Before}
use Rattle.org_journal.specs.declared.record.Entry.{Entry}
use Rattle.org_journal.specs.Left.{ends_at, first_from, is_between, is_left, is_left_of, stands_at}
use Rattle.org_journal.specs.Record.{most_context}
use Rattle.org_fileset.specs.Entries.{IsEntryOf, before_of}
use Rattle.org_fileset.specs.Left.{HoldsFixed, StaysLeft, StaysLeftBy}

-- ---- positions outside the patches

all_after : (place : ℕ) (patches : List (ℕ × List ℕ)) (i : ℕ) → Rise place patches → i < place → patch.IsOutside patches i
all_after place [] i rise lt = tt
all_after place (p ∷ patches) i rise lt = (inl (omega (arith, lt, rise.0)), all_after (end_of p) patches i rise.1 (omega (arith, lt, rise.0)))

out_before : (place : ℕ) (patches : List (ℕ × List ℕ)) (i : ℕ) → Rise place patches → i < first_from patches → patch.IsOutside patches i
out_before place [] i rise lt = tt
out_before place (p ∷ patches) i rise lt = (inl lt, all_after (end_of p) patches i rise.1 (omega (arith, lt)))

pub out_after : (place : ℕ) (patches : List (ℕ × List ℕ)) (i : ℕ) → Rise place patches → last_end place patches ≤ i → patch.IsOutside patches i
out_after place [] i rise le = tt
out_after place (p ∷ patches) i rise le = (inr (omega (arith, le, last_end-place (end_of p) patches rise.1)), out_after (end_of p) patches i rise.1 le)

-- each patch lies between the first one's beginning and the last one's end
first_least : (place : ℕ) (patches : List (ℕ × List ℕ)) (k from : ℕ) (bytes : List ℕ) → Rise place patches → slice_get patches k ≡ Some (from, bytes)
    → (first_from patches ≤ from) × (place ≤ from) × (from + length bytes ≤ last_end place patches)
first_least place [] k from bytes rise is = absurd (cc)
first_least place (p ∷ patches) zero from bytes rise is =
    let one : p ≡ (from, bytes) = cc in
    let from_is : p.0 ≡ from = ap (λ (x : ℕ × List ℕ). x.0) one in
    let end_is : end_of p ≡ from + length bytes = ap end_of one in
    (omega (arith, from_is), omega (arith, from_is, rise.0), omega (arith, end_is, last_end-place (end_of p) patches rise.1))
first_least place (p ∷ patches) (suc k) from bytes rise is =
    let rest = first_least (end_of p) patches k from bytes rise.1 is in
    (omega (arith, rest.1), omega (arith, rest.1, rise.0), rest.2)

-- ---- what a crash leaves

-- fixed bytes are in each image
stands : (from : ℕ) (context : List ℕ) (file : FileState) (text : List ℕ) → HoldsFixed from context file → IsImage file text → stands_at from context text ≡ true
stands from context file text holds image =
    let short : length (take (length context) (drop from text)) ≡ length context = by_size (length context) refl in
    let same : take (length context) (drop from text) ≡ context =
    same_lists (take (length context) (drop from text)) context short (λ i d within.
    let here : i < length context = omega (arith, within, short) in
    let held = holds i here in
    let inside : from + i < length text = omega (arith, held.0.0, image.no_shorter) in
    get_or-take (length context) (drop from text) i d here ∙ get_or-drop from text i d ∙ get_or_default text (from + i) d 0 inside
    ∙ image.fixed (from + i) held.0 ∙ held.1 ∙ get_or_default context i 0 d here) in
    subst (λ (t : List ℕ). bytes_eq t context ≡ true) (sym same) (same_name context)
  where
    by_size : (n : ℕ) → length context ≡ n → length (take (length context) (drop from text)) ≡ length context
    by_size zero none = omega (arith, none, length-take (length context) (drop from text))
    by_size (suc n) some =
        let last = (holds n (omega (arith, some))).0.0 in
        omega (arith, some, last, image.no_shorter, length-take (length context) (drop from text), length-drop from text)

module _ (before : Before) (patches : List (ℕ × List ℕ)) (final : ℕ) where
  pub left_image : (file : FileState) (text : List ℕ) → StaysLeft before patches final file → IsImage file text → is_left_of (Some before) patches final text ≡ true
  left_image file text stays image =
      let between : is_between before.length final (length text) ≡ true =
      and_from (nat_le (min before.length final) (length text)) (nat_le (length text) (max before.length final))
      (le-leb _ _ (omega (arith, stays.low, image.no_shorter))) (le-leb _ _ (omega (arith, stays.high, image.no_longer))) in
      let leading : ends_at (first_from patches) before.leading text ≡ true =
      and_from (nat_le (length before.leading) (first_from patches)) (stands_at (first_from patches - length before.leading) before.leading text)
      (le-leb _ _ stays.begins) (stands (first_from patches - length before.leading) before.leading file text stays.leading image) in
      and_from (is_between before.length final (length text)) (ends_at (first_from patches) before.leading text && stands_at (last_end 0 patches) before.trailing text) between
      (and_from (ends_at (first_from patches) before.leading text) (stands_at (last_end 0 patches) before.trailing text) leading (stands (last_end 0 patches) before.trailing file text stays.trailing image))

  -- ---- what the calls keep

  outside_more : (from : ℕ) (bytes : List ℕ) (file : FileState) (i : ℕ) → (i < from) ⊎ (from + length bytes ≤ i) → IsFixed file i → IsFixed (write from bytes file) i
  outside_more from [] file i apart fixed = fixed
  outside_more from (byte ∷ bytes) file i apart fixed = (fixed.0, (apart, fixed.1))

  holds_write : (from : ℕ) (bytes : List ℕ) (file : FileState) (at : ℕ) (context : List ℕ) → from ≤ length file.content
      → ((i : ℕ) → i < length context → (at + i < from) ⊎ (from + length bytes ≤ at + i)) → HoldsFixed at context file → HoldsFixed at context (write from bytes file)
  holds_write from bytes file at context le apart holds i within =
      let held = holds i within in
      (outside_more from bytes file (at + i) (apart i within) held.0, overwritten-outside from bytes file.content (at + i) le (apart i within) ∙ held.1)

  -- a write of one of the patches
  pub left_write : (file : FileState) (k from : ℕ) (bytes : List ℕ) → AreWellFormed patches final → slice_get patches k ≡ Some (from, bytes) → from ≤ length file.content
      → StaysLeft before patches final file → StaysLeft before patches final (write from bytes file)
  left_write file k from bytes formed is le stays =
      let place = first_least 0 patches k from bytes formed.rise is in
      record {
        low = stays.low;
        high = omega (arith, stays.high, place.2, formed.within);
        begins = stays.begins;
        leading = holds_write from bytes file (first_from patches - length before.leading) before.leading le (λ i within. inl (omega (arith, within, stays.begins, place.0))) stays.leading;
        trailing = holds_write from bytes file (last_end 0 patches) before.trailing le (λ i within. inr (omega (arith, place.2))) stays.trailing;
        ends = stays.ends;
      }

  holds_cut : (file : FileState) (at : ℕ) (context : List ℕ) → at + length context ≤ final → HoldsFixed at context file → HoldsFixed at context (cut final file)
  holds_cut file at context ends holds i within =
      let held = holds i within in
      let below : at + i < final = omega (arith, within, ends) in
      ((omega (arith, held.0.0, below), held.0.1), get_or-take final file.content (at + i) 0 below ∙ held.1)

  first_small : AreWellFormed patches final → first_from patches ≤ final
  first_small formed = omega (arith, formed.within, least patches formed.rise)
    where
      least : (patches : List (ℕ × List ℕ)) → Rise 0 patches → first_from patches ≤ last_end 0 patches
      least [] rise = omega arith
      least (p ∷ patches) rise = omega (arith, last_end-place (end_of p) patches rise.1)

  -- a cut to the final length
  pub left_cut : (file : FileState) → AreWellFormed patches final → StaysLeft before patches final file → StaysLeft before patches final (cut final file)
  left_cut file formed stays = record {
    low = omega (arith, stays.low);
    high = stays.high;
    begins = stays.begins;
    leading = holds_cut file (first_from patches - length before.leading) before.leading (omega (arith, stays.begins, first_small formed)) stays.leading;
    trailing = holds_cut file (last_end 0 patches) before.trailing stays.ends stays.trailing;
    ends = stays.ends;
  }

  holds_sync : (file : FileState) (at : ℕ) (context : List ℕ) → IsImage file file.content → HoldsFixed at context file → HoldsFixed at context (sync file)
  holds_sync file at context own holds i within =
      let held = holds i within in
      ((omega (arith, held.0.0, own.no_shorter), tt), held.1)

  -- a sync
  pub left_sync : (file : FileState) → IsImage file file.content → StaysLeft before patches final file → StaysLeft before patches final (sync file)
  left_sync file own stays = record {
    low = omega (arith, stays.low, own.no_shorter);
    high = omega (arith, stays.high, own.no_longer);
    begins = stays.begins;
    leading = holds_sync file (first_from patches - length before.leading) before.leading own stays.leading;
    trailing = holds_sync file (last_end 0 patches) before.trailing own stays.trailing;
    ends = stays.ends;
  }

-- ---- what a commit begins with

module _ (patches : List (ℕ × List ℕ)) (final : ℕ) (text : List ℕ) (long : final ≡ length text) (formed : AreWellFormed patches final) (file : FileState) (is : IsStable file)
    (made : PatchedTo patches final file.content text) where
  abbrev was : Before
  was = before_of (length file.content) patches text

  -- outside the patches the file has the text's bytes
  same_byte : (i : ℕ) → i < final → patch.IsOutside patches i → get_or file.content i 0 ≡ get_or text i 0
  same_byte i below outside = sym (patched-outside patches final file.content i formed.rise made.fit below outside) ∙ ap (λ (t : List ℕ). get_or t i 0) made.makes

  first_in : first_from patches ≤ final
  first_in = omega (arith, formed.within, least patches formed.rise)
    where
      least : (patches : List (ℕ × List ℕ)) → Rise 0 patches → first_from patches ≤ last_end 0 patches
      least [] rise = omega arith
      least (p ∷ patches) rise = omega (arith, last_end-place (end_of p) patches rise.1)

  -- where a patch begins, the file has bytes up to it
  first_old : first_from patches ≤ length file.content
  first_old = least patches made.fit.begin
    where
      least : (patches : List (ℕ × List ℕ)) → patch.BeginWithin (length file.content) 0 patches → first_from patches ≤ length file.content
      least [] begin = omega arith
      least (p ∷ patches) begin = omega (arith, begin.0)

  leading_long : length was.leading ≡ min most_context (first_from patches)
  leading_long = omega (arith, long, first_in, length-take (first_from patches - (first_from patches - most_context)) (drop (first_from patches - most_context) text), length-drop (first_from patches - most_context) text)

  leading_byte : (i : ℕ) → i < length was.leading → get_or was.leading i 0 ≡ get_or text (first_from patches - most_context + i) 0
  leading_byte i within =
      get_or-take (first_from patches - (first_from patches - most_context)) (drop (first_from patches - most_context) text) i 0 (omega (arith, within, leading_long))
      ∙ get_or-drop (first_from patches - most_context) text i 0

  fixed_at : (i : ℕ) → i < length file.content → IsFixed file i
  fixed_at i within = (omega (arith, within, is.least), is.fixed i within)

  trailing_of : Bool → List ℕ
  trailing_of b = if b then take most_context (drop (last_end 0 patches) text) else []

  trailing_held : (b : Bool) → (length file.content == length text) ≡ b → HoldsFixed (last_end 0 patches) (trailing_of b) file × (last_end 0 patches + length (trailing_of b) ≤ final)
  unfolding trailing_of
  trailing_held false e = ((λ i within. absurd (omega (arith, within))), omega (arith, formed.within))
  trailing_held true e =
      let same : length file.content ≡ length text = eqb-true _ _ e in
      let size = length-take most_context (drop (last_end 0 patches) text) in
      let rest = length-drop (last_end 0 patches) text in (
        (λ i within.
            let below : last_end 0 patches + i < final = omega (arith, within, size, rest, long, formed.within) in (
              fixed_at (last_end 0 patches + i) (omega (arith, below, same, long)),
              same_byte (last_end 0 patches + i) below (out_after 0 patches (last_end 0 patches + i) formed.rise (omega arith))
                  ∙ sym (get_or-take most_context (drop (last_end 0 patches) text) i 0 (omega (arith, within, size)) ∙ get_or-drop (last_end 0 patches) text i 0),
            )),
        omega (arith, size, rest, long, formed.within),
      )

  pub left_start : StaysLeft was patches final file
  unfolding trailing_of
  left_start =
      let trailing = trailing_held (length file.content == length text) refl in
      record {
        low = omega (arith, is.least);
        high = omega (arith, is.greatest);
        begins = omega (arith, leading_long);
        leading = λ i within.
            let at : first_from patches - length was.leading + i ≡ first_from patches - most_context + i = omega (arith, leading_long) in
            let below : first_from patches - most_context + i < first_from patches = omega (arith, within, leading_long) in
            subst (λ (j : ℕ). IsFixed file j × (get_or file.content j 0 ≡ get_or was.leading i 0)) (sym at) (
              fixed_at (first_from patches - most_context + i) (omega (arith, below, first_old)),
              same_byte (first_from patches - most_context + i) (omega (arith, below, first_in)) (out_before 0 patches (first_from patches - most_context + i) formed.rise below) ∙ sym (leading_byte i within),
            );
        trailing = trailing.0;
        ends = trailing.1;
      }

-- ---- of an entry

-- the entry that a commit makes of a file on the disk
pub entry_start : (change : List ℕ × EditedText) (entry : Entry) (file : FileState) → IsEntryOf change entry → IsStable file → IsEditOf file.content change.1
    → IsSomeAnd entry.before (λ before. before.length ≡ length file.content) → StaysLeftBy entry file
entry_start change entry file is stable edit sized = go entry.before is.before sized
  where
    go : (before : Option Before) → IsSomeAnd before (λ b. (b.length < 2 ^ 64) × (b ≡ before_of b.length (pairs_of entry.patches) change.1.bytes)) → IsSomeAnd before (λ b. b.length ≡ length file.content)
        → IsSomeAnd before (λ b. StaysLeft b (pairs_of entry.patches) entry.length file)
    go None has sized = absurd has
    go (Some b) has sized =
        let made : PatchedTo (pairs_of entry.patches) entry.length file.content change.1.bytes = is.makes file.content edit in
        let same : b ≡ before_of (length file.content) (pairs_of entry.patches) change.1.bytes = has.1 ∙ ap (λ (n : ℕ). before_of n (pairs_of entry.patches) change.1.bytes) sized in
        subst (λ (w : Before). StaysLeft w (pairs_of entry.patches) entry.length file) (sym same) (left_start (pairs_of entry.patches) entry.length change.1.bytes is.length_is is.patches file stable made)

module _ (entry : Entry) where
  each : {P Q : Before → Type 0} → ((b : Before) → P b → Q b) → (before : Option Before) → IsSomeAnd before P → IsSomeAnd before Q
  each f None has = absurd has
  each f (Some b) has = f b has

  pub entry_image : (file : FileState) (text : List ℕ) → StaysLeftBy entry file → IsImage file text → is_left entry text ≡ true
  entry_image file text stays image = go entry.before stays
    where
      go : (before : Option Before) → IsSomeAnd before (λ b. StaysLeft b (pairs_of entry.patches) entry.length file) → is_left_of before (pairs_of entry.patches) entry.length text ≡ true
      go None has = absurd has
      go (Some b) has = left_image b (pairs_of entry.patches) entry.length file text has image

  pub entry_write : (file : FileState) (k from : ℕ) (bytes : List ℕ) → AreWellFormed (pairs_of entry.patches) entry.length → slice_get (pairs_of entry.patches) k ≡ Some (from, bytes)
      → from ≤ length file.content → StaysLeftBy entry file → StaysLeftBy entry (write from bytes file)
  entry_write file k from bytes formed is le stays = each (λ b has. left_write b (pairs_of entry.patches) entry.length file k from bytes formed is le has) entry.before stays

  pub entry_cut : (file : FileState) → AreWellFormed (pairs_of entry.patches) entry.length → StaysLeftBy entry file → StaysLeftBy entry (cut entry.length file)
  entry_cut file formed stays = each (λ b has. left_cut b (pairs_of entry.patches) entry.length file formed has) entry.before stays

  pub entry_sync : (file : FileState) → IsImage file file.content → StaysLeftBy entry file → StaysLeftBy entry (sync file)
  entry_sync file own stays = each (λ b has. left_sync b (pairs_of entry.patches) entry.length file own has) entry.before stays
