-- The words between the colons of a heading's tags.
use Rattle.std.proofs.Common.{◌≡◌, ℕ, suc, ◌+◌, ◌<◌, true, false, List, [], ◌∷◌, ◌++◌, length, take, drop, get_or, Option, None, Some, refl, sym, ap, subst, ◌∙◌, arith, inl}
use Rattle.std.specs.Prelude.{Bool, ◌||◌}
use Rattle.std.specs.List.{AllByRecursion, list_any, slice_split}
use Rattle.std.specs.Str.{bytes_eq}
use Rattle.std.proofs.Math.Seq.{drop-cons}
use Rattle.std.proofs.lemmas.List.{take-append-drop, drop-drop, get_or-take, get_or_default, length-take-le}
use Rattle.std.proofs.lemmas.List.Splits.{slice_split_none, slice_split_at}
use Rattle.std.proofs.lemmas.Slice.Eq.{bytes_eq-Decides}
use Rattle.memchr.specs.Find.{IsFirstByte, is_byte}
use Rattle.org_account.specs.Heading.{Part, EachTag, IsPart, IsRightTag, has_tag, is_colon, is_due_tag, part}

never : (b : Bool) → (b ≡ true → ⊥) → b ≡ false
never true none = absurd (none refl)
never false none = refl

-- ---- the first word

pub split_none : (t : List ℕ) (r : Option ℕ) → IsFirstByte (is_byte 58) t r → r ≡ None → slice_split is_colon t ≡ t ∷ []
split_none t r h is =
    let none = subst (λ (r : Option ℕ). IsFirstByte (is_byte 58) t r) is h in
    slice_split_none is_colon t (λ k d lt. ap is_colon (get_or_default t k d 0 lt) ∙ never _ (none k (omega arith) lt))

pub split_first : (t a b u : List ℕ) (r : Option ℕ) (e : ℕ) → IsFirstByte (is_byte 58) t r → r ≡ Some e → a ≡ take e t → b ≡ drop e t → u ≡ drop 1 b
    → slice_split is_colon t ≡ a ∷ slice_split is_colon u
split_first t a b u r e h is front back rest =
    let first = subst (λ (r : Option ℕ). IsFirstByte (is_byte 58) t r) is h in
    let lt : e < length t = first.0.high in
    let whole : t ≡ take e t ++ get_or t e 0 ∷ drop (suc e) t = sym (take-append-drop e t) ∙ ap (λ x. take e t ++ x) (drop-cons t e 0 lt) in
    let one : e + 1 ≡ suc e = omega arith in
    let next : drop (suc e) t ≡ u = sym (rest ∙ ap (drop 1) back ∙ drop-drop 1 e t ∙ ap (λ n. drop n t) one) in
    let before = slice_split_at is_colon (take e t) (get_or t e 0) (drop (suc e) t) (λ k d in_front.
    let less : k < e = omega (arith, in_front, length-take-le e t) in
    ap is_colon (get_or_default (take e t) k d 0 in_front ∙ get_or-take e t k 0 less) ∙ never _ (first.0.before k (omega arith) less)) first.1 in
    ap (slice_split is_colon) whole ∙ before ∙ ap (λ (x : List ℕ). x ∷ slice_split is_colon (drop (suc e) t)) (sym front) ∙ ap (λ (x : List ℕ). a ∷ slice_split is_colon x) next

-- ---- a tag

pub found : (tag left word rest : List ℕ) → slice_split is_colon left ≡ word ∷ slice_split is_colon rest → bytes_eq tag word ≡ true → has_tag tag left ≡ true
found tag left word rest e same = ap (list_any (bytes_eq tag)) e ∙ rw same refl

pub passed : (tag left word rest : List ℕ) → slice_split is_colon left ≡ word ∷ slice_split is_colon rest → bytes_eq tag word ≡ false → has_tag tag left ≡ has_tag tag rest
passed tag left word rest e other = ap (list_any (bytes_eq tag)) e ∙ rw other refl

or_false : (b : Bool) → b || false ≡ b
or_false true = refl
or_false false = refl

pub last : (tag left : List ℕ) → slice_split is_colon left ≡ left ∷ [] → bytes_eq tag left ≡ has_tag tag left
last tag left e = sym (ap (list_any (bytes_eq tag)) e ∙ or_false (bytes_eq tag left))

-- ---- each tag

pub each_last : (P : List ℕ → Type 0) (left : List ℕ) → slice_split is_colon left ≡ left ∷ [] → P left → EachTag P left
each_last P left e here = subst (AllByRecursion P) (sym e) (here, tt)

pub each_more : (P : List ℕ → Type 0) (left word rest : List ℕ) → slice_split is_colon left ≡ word ∷ slice_split is_colon rest → P word → EachTag P rest → EachTag P left
each_more P left word rest e here more = subst (AllByRecursion P) (sym e) (here, more)

each_had : (P : List ℕ → Type 0) (tag : List ℕ) (words : List (List ℕ)) → AllByRecursion P words → list_any (bytes_eq tag) words ≡ true → P tag
each_had P tag [] all has = absurd cc
each_had P tag (w ∷ ws) all has = by_test (bytes_eq tag w) refl has (each_had P tag ws all.1)
  where
    by_test : (b : Bool) → bytes_eq tag w ≡ b → b || list_any (bytes_eq tag) ws ≡ true → (list_any (bytes_eq tag) ws ≡ true → P tag) → P tag
    by_test true same has more = subst P (sym ((bytes_eq-Decides tag w).0 same)) all.0
    by_test false other has more = more has

-- a tag that nobody has is not due
no_tag : (p : Part) (tag : List ℕ) → has_tag tag p.merged ≡ false → has_tag tag p.ours ≡ false → has_tag tag p.theirs ≡ false → IsRightTag p tag
no_tag p tag r o t = inl (r ∙ not_due (has_tag tag p.base) (has_tag tag p.ours) (has_tag tag p.theirs) o t)
  where
    not_due : (b o t : Bool) → o ≡ false → t ≡ false → false ≡ is_due_tag b o t
    not_due b true t ours theirs = absurd cc
    not_due b false true ours theirs = absurd cc
    not_due true false false ours theirs = refl
    not_due false false false ours theirs = refl

pub right_tags : (p : Part) → EachTag (IsRightTag p) p.merged → EachTag (IsRightTag p) p.ours → EachTag (IsRightTag p) p.theirs → (tag : List ℕ) → IsRightTag p tag
right_tags p merged ours theirs tag = by_test (has_tag tag p.merged) (has_tag tag p.ours) (has_tag tag p.theirs) refl refl refl
  where
    by_test : (r o t : Bool) → has_tag tag p.merged ≡ r → has_tag tag p.ours ≡ o → has_tag tag p.theirs ≡ t → IsRightTag p tag
    by_test true o t r_is o_is t_is = each_had (IsRightTag p) tag (slice_split is_colon p.merged) merged r_is
    by_test false true t r_is o_is t_is = each_had (IsRightTag p) tag (slice_split is_colon p.ours) ours o_is
    by_test false false true r_is o_is t_is = each_had (IsRightTag p) tag (slice_split is_colon p.theirs) theirs t_is
    by_test false false false r_is o_is t_is = no_tag p tag r_is o_is t_is

-- the same by the texts as the code names them
pub right_tags_by : (p : Part) (m o t : List ℕ) → m ≡ p.merged → o ≡ p.ours → t ≡ p.theirs → EachTag (IsRightTag p) m → EachTag (IsRightTag p) o → EachTag (IsRightTag p) t → (tag : List ℕ) → IsRightTag p tag
right_tags_by p m o t m_is o_is t_is merged ours theirs =
    right_tags p (subst (EachTag (IsRightTag p)) m_is merged) (subst (EachTag (IsRightTag p)) o_is ours) (subst (EachTag (IsRightTag p)) t_is theirs)

-- ---- the parts of a line, as the code takes them out

pub same_part : (told heading b o t r c p u s : List ℕ) → b ≡ c → o ≡ p → t ≡ u → r ≡ s → part told heading b o t r ≡ part told heading c p u s
same_part told heading b o t r c p u s b_is o_is t_is r_is =
    ap (λ (x : List ℕ). part told heading x o t r) b_is
    ∙ ap (λ (x : List ℕ). part told heading c x t r) o_is
    ∙ ap (λ (x : List ℕ). part told heading c p x r) t_is
    ∙ ap (λ (x : List ℕ). part told heading c p u x) r_is

pub part_by : (told heading b o t r c p u s : List ℕ) → b ≡ c → o ≡ p → t ≡ u → r ≡ s → IsPart (part told heading b o t r) → IsPart (part told heading c p u s)
part_by told heading b o t r c p u s b_is o_is t_is r_is right = subst IsPart (same_part told heading b o t r c p u s b_is o_is t_is r_is) right

pub tags_by : (told heading b o t r c p u s : List ℕ) → b ≡ c → o ≡ p → t ≡ u → r ≡ s → ((tag : List ℕ) → IsRightTag (part told heading b o t r) tag)
    → (tag : List ℕ) → IsRightTag (part told heading c p u s) tag
tags_by told heading b o t r c p u s b_is o_is t_is r_is right tag =
    subst (λ (x : Part). IsRightTag x tag) (same_part told heading b o t r c p u s b_is o_is t_is r_is) (right tag)
