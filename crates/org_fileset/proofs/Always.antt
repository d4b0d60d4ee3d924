-- A file of which each image is as its entry allows: the calls that apply the entry keep it so.
use Rattle.std.proofs.Common.{◌≡◌, ◌⊎◌, inl, inr, ⊎_elim, ℕ, suc, ◌+◌, ◌-◌, ◌<◌, ◌≤◌, ◌++◌, min, max, List, [], ◌∷◌, length, get_or, set, take, drop, replicate, true, Option, Some, None, refl, sym, ◌∙◌, ap, subst, arith, length-append, length-set, length-take}
use Rattle.std.specs.Prelude.{◌&&◌, nat_le, IfSome, IsSomeAnd}
use Rattle.std.proofs.lemmas.Bool.{and_parts, cases_lt, false≢true, leb-true}
use Rattle.std.proofs.lemmas.List.{get_or-drop, get_or-set_other, get_or-set_same, get_or-take, get_or_append_left, length-drop, length-replicate}
use Rattle.org_disk.specs.Disk.{FileState, IsImage, IsOutside}
use Rattle.org_disk.proofs.Names.{name_cases}
use Rattle.org_splice.specs.Patches.{last_end}
use Rattle.org_splice.specs.Texts.{pairs_of}
use Rattle.org_journal.specs.declared.record.Before.{Before}
use Rattle.org_journal.specs.declared.record.Entry.{Entry}
use Rattle.org_journal.specs.Left.{ends_at, first_from, is_between, is_left, is_left_of, stands_at}
use Rattle.org_fileset.specs.Left.{HasRoom, HoldsFixed, IsLeftBy, StaysLeft, StaysLeftBy}
use Rattle.org_fileset.proofs.Allowed.{entry_image}

-- a position lies in none of the ranges, or in one
out_or_in : (ranges : List (ℕ × ℕ)) (i : ℕ) → IsOutside ranges i ⊎ (IsOutside ranges i → ⊥)
out_or_in [] i = inl tt
out_or_in (range ∷ ranges) i = elim (out_or_in ranges i) [
  | inr among ↦ inr (λ out. among out.1)
  | inl rest ↦ elim (cases_lt i range.0) [
    | inl before ↦ inl (inl before, rest)
    | inr from ↦ elim (cases_lt i (range.0 + range.1)) [
      | inl inside ↦ inr (λ out. ⊎_elim (λ less. absurd (omega arith)) (λ more. absurd (omega arith)) out.0)
      | inr past ↦ inl (inr past, rest)
    ]
  ]
]

-- a context that a text has lies within it
stands_byte : (from : ℕ) (context text : List ℕ) (i : ℕ) → stands_at from context text ≡ true → i < length context → (from + i < length text) × (get_or text (from + i) 0 ≡ get_or context i 0)
stands_byte from context text i stands within =
    let same : take (length context) (drop from text) ≡ context = elim (name_cases (take (length context) (drop from text)) context) [
      | inl one ↦ one.0
      | inr apart ↦ absurd (false≢true (sym apart.1 ∙ stands))
    ] in
    let long = ap length same in (
      omega (arith, within, long, length-take (length context) (drop from text), length-drop from text),
      sym (get_or-take (length context) (drop from text) i 0 within ∙ get_or-drop from text i 0) ∙ ap (λ (t : List ℕ). get_or t i 0) same,
    )

module _ (file : FileState) (own : IsImage file file.content) where
  -- the shortest text that a crash may leave
  short_image : IsImage file (take file.least file.content)
  short_image =
      let size : length (take file.least file.content) ≡ file.least = omega (arith, length-take file.least file.content, own.no_shorter) in
      record { no_shorter = omega (arith, size); no_longer = omega (arith, size, own.no_shorter, own.no_longer); fixed = λ i fixed. get_or-take file.least file.content i 0 fixed.0 }

  short_length : length (take file.least file.content) ≡ file.least
  short_length = omega (arith, length-take file.least file.content, own.no_shorter)

  -- and a longest one
  abbrev longest : List ℕ
  longest = file.content ++ replicate (file.greatest - length file.content) 0

  long_length : length longest ≡ file.greatest
  long_length = length-append file.content (replicate (file.greatest - length file.content) 0) ∙ omega (arith, own.no_longer, length-replicate {A = ℕ} (file.greatest - length file.content) 0)

  long_image : IsImage file longest
  long_image = record {
    no_shorter = omega (arith, long_length, own.no_shorter, own.no_longer);
    no_longer = omega (arith, long_length);
    fixed = λ i fixed. get_or_append_left file.content (replicate (file.greatest - length file.content) 0) 0 i (omega (arith, fixed.0, own.no_shorter));
  }

  -- a context that each image has is fixed
  always_fixed : (from : ℕ) (context : List ℕ) → ((text : List ℕ) → IsImage file text → stands_at from context text ≡ true) → HoldsFixed from context file
  always_fixed from context stands i within = ((below, out), here.1)
    where
      here : (from + i < length file.content) × (get_or file.content (from + i) 0 ≡ get_or context i 0)
      here = stands_byte from context file.content i (stands file.content own) within

      below : from + i < file.least
      below = omega (arith, (stands_byte from context (take file.least file.content) i (stands (take file.least file.content) short_image) within).0, short_length)

      out : IsOutside file.written (from + i)
      out = elim (out_or_in file.written (from + i)) [
        | inl outside ↦ outside
        | inr among ↦
            let other : List ℕ = set file.content (from + i) (suc (get_or file.content (from + i) 0)) in
            let size : length other ≡ length file.content = length-set file.content (from + i) (suc (get_or file.content (from + i) 0)) in
            let image : IsImage file other = record {
              no_shorter = omega (arith, size, own.no_shorter);
              no_longer = omega (arith, size, own.no_longer);
              fixed = λ j fixed. get_or-set_other file.content (from + i) j (suc (get_or file.content (from + i) 0)) 0 (λ is. among (subst (λ (n : ℕ). IsOutside file.written n) is fixed.1));
            } in
            let there = (stands_byte from context other i (stands other image) within).1 in
            let set_is : get_or other (from + i) 0 ≡ suc (get_or file.content (from + i) 0) = get_or-set_same file.content (from + i) (suc (get_or file.content (from + i) 0)) 0 here.0 in
            absurd (omega (arith, there, set_is, here.1))
      ]

module _ (before : Before) (patches : List (ℕ × List ℕ)) (final : ℕ) (file : FileState) (own : IsImage file file.content) (ends : last_end 0 patches + length before.trailing ≤ final)
    (each : (text : List ℕ) → IsImage file text → is_left_of (Some before) patches final text ≡ true) where
  abbrev Parts : List ℕ → Type 0
  Parts text = ((min before.length final ≤ length text) × (length text ≤ max before.length final)) × (length before.leading ≤ first_from patches)
      × (stands_at (first_from patches - length before.leading) before.leading text ≡ true) × (stands_at (last_end 0 patches) before.trailing text ≡ true)

  parts : (text : List ℕ) → IsImage file text → Parts text
  parts text image =
      let all = and_parts (is_between before.length final (length text)) (ends_at (first_from patches) before.leading text && stands_at (last_end 0 patches) before.trailing text) (each text image) in
      let between = and_parts (nat_le (min before.length final) (length text)) (nat_le (length text) (max before.length final)) all.0 in
      let contexts = and_parts (ends_at (first_from patches) before.leading text) (stands_at (last_end 0 patches) before.trailing text) all.1 in
      let leading = and_parts (nat_le (length before.leading) (first_from patches)) (stands_at (first_from patches - length before.leading) before.leading text) contexts.0 in
      ((leb-true _ _ between.0, leb-true _ _ between.1), leb-true _ _ leading.0, leading.1, contexts.1)

  pub always_left : StaysLeft before patches final file
  always_left = record {
    low = omega (arith, (parts (take file.least file.content) (short_image file own)).0.0, short_length file own);
    high = omega (arith, (parts (longest file own) (long_image file own)).0.1, long_length file own);
    begins = (parts file.content own).1;
    leading = always_fixed file own (first_from patches - length before.leading) before.leading (λ text image. (parts text image).2);
    trailing = always_fixed file own (last_end 0 patches) before.trailing (λ text image. (parts text image).3);
    ends = ends;
  }

-- the file of an entry
pub entry_always : (entry : Entry) (before : Before) (file : FileState) → entry.before ≡ Some before → last_end 0 (pairs_of entry.patches) + length before.trailing ≤ entry.length
    → IsImage file file.content → ((text : List ℕ) → IsImage file text → is_left entry text ≡ true) → StaysLeftBy entry file
entry_always entry before file says ends own each =
    subst (λ (b : Option Before). IsSomeAnd b (λ was. StaysLeft was (pairs_of entry.patches) entry.length file)) (sym says)
    (always_left before (pairs_of entry.patches) entry.length file own ends (λ text image.
    ap (λ (b : Option Before). is_left_of b (pairs_of entry.patches) entry.length text) (sym says) ∙ each text image))

-- what keeps that of a file which is on the disk keeps it of each image
pub always_kept : (entry : Entry) (effect : FileState → FileState) (file : FileState) → IsImage file file.content → ((text : List ℕ) → IsImage file text → IsLeftBy entry text)
    → (StaysLeftBy entry file → StaysLeftBy entry (effect file)) → (text : List ℕ) → IsImage (effect file) text → IsLeftBy entry text
always_kept entry effect file own each keeps text image = record { room = room; left = go entry.before refl }
  where
    room : HasRoom entry
    room = (each file.content own).room

    go : (before : Option Before) → entry.before ≡ before → is_left entry text ≡ true
    go None says = ap (λ (b : Option Before). is_left_of b (pairs_of entry.patches) entry.length text) says
    go (Some before) says =
        let ends : last_end 0 (pairs_of entry.patches) + length before.trailing ≤ entry.length =
        subst (λ (b : Option Before). IfSome b (λ was. last_end 0 (pairs_of entry.patches) + length was.trailing ≤ entry.length)) says room in
        entry_image entry (effect file) text (keeps (entry_always entry before file says ends own (λ other found. (each other found).left))) image
