-- The title of a heading line, or a priority before it, begins_so after the gap or after the first
-- word after it.
use Rattle.std.proofs.Common.{rules, ◌≡◌, ℕ, zero, suc, ◌+◌, ◌-◌, ◌<◌, Bool, true, false, ◌&&◌, ◌||◌, eqb, List, [], ◌∷◌, ◌++◌, length, take, drop, refl, sym, ap, subst, ◌∙◌, append_assoc, arith, inl, inr, eq-eqb}
use Rattle.std.proofs.lemmas.Grind.{common_steps}
use Rattle.std.specs.Prelude.{◌⊎◌, ◌*◌, ◌%◌, if◌then◌else◌, nat_lt, reverse, slice_index}
use Rattle.std.specs.Char.{is_ascii_alphanumeric, is_ascii_digit}
use Rattle.std.specs.List.{prefix_len, suffix_len, starts_with, list_all}
use Rattle.std.specs.Str.{bytes_eq}
use Rattle.std.proofs.Math.Nat.{mul_comm}
use Rattle.std.proofs.lemmas.Nat.{mod-mul-add}
use Rattle.std.proofs.lemmas.Bool.{cases_Bool, cases_lt, eqb-true}
use Rattle.std.proofs.lemmas.Bool.Decides.{Decides-eqb, nat_tests}
use Rattle.std.proofs.lemmas.List.{take-append-drop, take_at, drop_at, drop_all, drop-drop, drop-append-le, append-nil, length-append, length-take, length-drop, length-reverse, reverse-append, reverse-reverse}
use Rattle.std.proofs.lemmas.List.Sums.{suffix_len-le-length}
use Rattle.std.proofs.lemmas.List.Folds.{length-prefix_len}
use Rattle.std.proofs.lemmas.Slice.Eq.{bytes_eq-Decides, starts_is}
use Rattle.org_splice.specs.Blanks.{is_blank, is_trailing, is_solid, front, behind, without_end, end_of, trimmed}
use Rattle.org_splice.proofs.Ends.{behind-none, both, end_passes, kept_end, take-none}
use Rattle.org_outline.specs.States.{Keywords, has_word}
use Rattle.org_outline.specs.Parts.{are_tags, are_closed_tags, tags_of, keyword_of, priority_of, after_keyword, after_priority, without_blanks}
use Rattle.org_headings.specs.declared.beginnings.Beginning.{Beginning}
use Rattle.org_headings.specs.Beginnings.{first_place, second_place, with_byte, hash_from, beginning_of, may_begin, may_begin_date, beginnings_of, may_have, sought_of}
use Rattle.org_outline.specs.Paths.{title_of, can_begin}

-- ---- the bytes after those that pass

-- a byte that doesn't pass ends them
pub behind-stop : (p : ℕ → Bool) (l : List ℕ) (b : ℕ) (z : List ℕ) → p b ≡ false → behind p (l ++ b ∷ z) ≡ behind p l ++ b ∷ z
behind-stop p [] b z stops = rw stops refl
behind-stop p (a ∷ l) b z stops =
    let next : 1 + prefix_len p l ≡ suc (prefix_len p l) = omega arith in
    let more : 1 + prefix_len p (l ++ b ∷ z) ≡ suc (prefix_len p (l ++ b ∷ z)) = omega arith in
    elim (cases_Bool (p a)) [
      | inl e ↦ rw (e, next, more) (behind-stop p l b z stops)
      | inr e ↦ rw e refl
    ]

-- and so does any of the bytes that are left
behind-more : (p : ℕ → Bool) (l z : List ℕ) → 0 < length (behind p l) → behind p (l ++ z) ≡ behind p l ++ z
behind-more p [] z some = absurd (omega (arith, some))
behind-more p (a ∷ l) z some =
    let next : 1 + prefix_len p l ≡ suc (prefix_len p l) = omega arith in
    let more : 1 + prefix_len p (l ++ z) ≡ suc (prefix_len p (l ++ z)) = omega arith in
    elim (cases_Bool (p a)) [
      | inl e ↦ rw (e, next, more) (behind-more p l z (rw (e, next) at some))
      | inr e ↦ rw e refl
    ]

-- ---- what stands after a title

-- bytes that leave every hash as it is
abbrev pub AddsNothing : List ℕ → Type 0
AddsNothing more = (hash : ℕ) (apart : Bool) → hash_from hash apart more ≡ hash

-- the same, after a blank
abbrev AddsNothingApart : List ℕ → Type 0
AddsNothingApart more = (hash : ℕ) → hash_from hash true more ≡ hash

hash_title : (title more : List ℕ) → AddsNothing more → (hash : ℕ) (apart : Bool) → hash_from hash apart (title ++ more) ≡ hash_from hash apart title
hash_title [] more none hash apart = none hash apart
hash_title (b ∷ title) more none hash apart =
    ap (λ (k : ℕ). if eqb b 10 || apart && eqb b 58 then hash else k) (hash_title title more none (if is_trailing b then hash else with_byte hash b) (is_trailing b))

trailing_apart : (w z : List ℕ) → list_all is_trailing w ≡ true → AddsNothingApart z → AddsNothingApart (w ++ z)
trailing_apart [] z all none hash = none hash
trailing_apart (b ∷ w) z all none hash =
    let t = both (is_trailing b) (list_all is_trailing w) all in
    elim (cases_Bool (eqb b 10 || true && eqb b 58)) [
      | inl e ↦ rw e refl
      | inr e ↦ rw (e, t.0) (trailing_apart w z t.1 none hash)
    ]

some_trailing : (w z : List ℕ) → 0 < length w → list_all is_trailing w ≡ true → AddsNothingApart z → AddsNothing (w ++ z)
some_trailing [] z some all none hash apart = absurd (omega (arith, some))
some_trailing (b ∷ w) z some all none hash apart =
    let t = both (is_trailing b) (list_all is_trailing w) all in
    elim (cases_Bool (eqb b 10 || apart && eqb b 58)) [
      | inl e ↦ rw e refl
      | inr e ↦ rw (e, t.0) (trailing_apart w z t.1 none hash)
    ]

all_trailing : (w z : List ℕ) → list_all is_trailing w ≡ true → AddsNothing z → AddsNothing (w ++ z)
all_trailing [] z all none hash apart = none hash apart
all_trailing (b ∷ w) z all none hash apart = some_trailing (b ∷ w) z (omega arith) all (λ hash. none hash true) hash apart

blanks_trail : (w : List ℕ) → list_all is_blank w ≡ true → list_all is_trailing w ≡ true
blanks_trail [] all = refl
blanks_trail (b ∷ w) all =
    let t = both (is_blank b) (list_all is_blank w) all in
    let trails : is_trailing b ≡ true = ap (λ (blank : Bool). blank || eqb b 13) t.0 in
    rw (trails, blanks_trail w t.1) refl

-- ---- tags stand after a blank

without_is : (p : ℕ → Bool) (l : List ℕ) → without_end p l ≡ reverse (behind p (reverse l))
without_is p l =
    let r = reverse l in
    let n = prefix_len p r in
    let kept = reverse (drop n r) in
    let last = reverse (take n r) in
    let split : l ≡ kept ++ last = sym (reverse-reverse l) ∙ ap reverse (sym (take-append-drop n r)) ∙ reverse-append (take n r) (drop n r) in
    let long : length kept ≡ length l - n = omega (arith, length-reverse (drop n r), length-drop n r, length-reverse l) in
    ap (take (length l - n)) split ∙ take_at kept last (length l - n) long

-- nothing that passes is left at the end
end_stops : (p : ℕ → Bool) (l : List ℕ) → suffix_len p (without_end p l) ≡ 0
end_stops p l = ap (λ (m : List ℕ). prefix_len p (reverse m)) (without_is p l) ∙ ap (prefix_len p) (reverse-reverse (behind p (reverse l))) ∙ behind-none p (reverse l)

first_stops : (p : ℕ → Bool) (u v : List ℕ) → prefix_len p (u ++ v) ≡ 0 → prefix_len p u ≡ 0
first_stops p [] v none = refl
first_stops p (b ∷ u) v none = elim (cases_Bool (p b)) [
  | inl e ↦ absurd (omega (arith, (rw e at none)))
  | inr e ↦ rw e refl
]

blank_first : (l : List ℕ) → 0 < length l → prefix_len is_solid l ≡ 0 → 0 < prefix_len is_blank l
blank_first [] some none = absurd (omega (arith, some))
blank_first (b ∷ l) some none = elim (cases_Bool (is_blank b)) [
  | inl e ↦ rw e (omega arith)
  | inr e ↦ absurd (omega (arith, (rw e at none)))
]

ends_blank : (l : List ℕ) (k : ℕ) → suffix_len is_solid l ≡ 0 → 0 < length (drop k l) → 0 < length (end_of is_blank (drop k l))
ends_blank l k none some =
    let part = drop k l in
    let split : reverse l ≡ reverse part ++ reverse (take k l) = ap reverse (sym (take-append-drop k l)) ∙ reverse-append (take k l) part in
    let stops : prefix_len is_solid (reverse part) ≡ 0 = first_stops is_solid (reverse part) (reverse (take k l)) (ap (prefix_len is_solid) (sym split) ∙ none) in
    let many : 0 < suffix_len is_blank part = blank_first (reverse part) (omega (arith, some, length-reverse part)) stops in
    omega (arith, many, suffix_len-le-length is_blank part, length-drop (length part - suffix_len is_blank part) part)

tags_begin : (tags z : List ℕ) → are_tags tags ≡ true → AddsNothingApart (tags ++ z)
tags_begin [] z e = absurd cc
tags_begin (b ∷ tags) z e =
    let first = both (eqb b 58 && nat_lt 0 (length tags)) (are_closed_tags false tags) e in
    let colon : eqb b 58 ≡ true = (both (eqb b 58) (nat_lt 0 (length tags)) first.0).0 in
    λ hash. elim (cases_Bool (eqb b 10)) [
      | inl n ↦ rw n refl
      | inr n ↦ rw (n, colon) refl
    ]

title_room : (l : List ℕ) → 0 < length (without_blanks l) → 0 < length l
title_room [] some = some
title_room (b ∷ l) some = omega arith

-- what is left of a line from its byte k on, and what stands there after a title
title_ends : (content z : List ℕ) (k : ℕ) → 0 < length (without_blanks (take (length (drop k content) - length (tags_of content)) (drop k content))) → AddsNothing z
    → AddsNothing (end_of is_blank (take (length (drop k content) - length (tags_of content)) (drop k content)) ++ (drop (length (drop k content) - length (tags_of content)) (drop k content) ++ z))
title_ends content z k some none =
    let left = drop k content in
    let m = length left - length (tags_of content) in
    elim (cases_Bool (are_tags (end_of is_solid content))) [
      | inl e ↦
          let body = without_end is_solid content in
          let tags = end_of is_solid content in
          let are : tags_of content ≡ tags = rw e refl in
          let short : length (tags_of content) ≡ length tags = ap length are in
          let size : length content ≡ length body + length tags = ap length (kept_end is_solid content) ∙ length-append body tags in
          let room : 0 < length (take m left) = title_room (take m left) some in
          let within : k < length body = omega (arith, room, length-take m left, length-drop k content, short, size) in
          let split : left ≡ drop k body ++ tags = ap (drop k) (kept_end is_solid content) ∙ drop-append-le k body tags (omega (arith, within)) in
          let count : m ≡ length (drop k body) = omega (arith, length-drop k content, length-drop k body, short, size, within) in
          let front_is : take m left ≡ drop k body = ap (take m) split ∙ take_at (drop k body) tags m (sym count) in
          let back_is : drop m left ≡ tags = ap (drop m) split ∙ drop_at (drop k body) tags m (sym count) in
          let blank : 0 < length (end_of is_blank (drop k body)) = ends_blank body k (end_stops is_solid content) (omega (arith, within, length-drop k body)) in
          subst (λ (a : List ℕ). AddsNothing (end_of is_blank a ++ (drop m left ++ z))) (sym front_is)
          (subst (λ (b : List ℕ). AddsNothing (end_of is_blank (drop k body) ++ (b ++ z))) (sym back_is)
          (some_trailing (end_of is_blank (drop k body)) (tags ++ z) blank (blanks_trail (end_of is_blank (drop k body)) (end_passes is_blank (drop k body))) (tags_begin tags z e)))
      | inr e ↦
          let are : tags_of content ≡ [] = rw e refl in
          let count : m ≡ length left = omega (arith, ap length are) in
          let back_is : drop m left ≡ [] = ap (λ n. drop n left) count ∙ drop_all (length left) left (omega arith) in
          subst (λ (b : List ℕ). AddsNothing (end_of is_blank (take m left) ++ (b ++ z))) (sym back_is)
          (all_trailing (end_of is_blank (take m left)) z (blanks_trail (end_of is_blank (take m left)) (end_passes is_blank (take m left))) none)
    ]

-- ---- where a title begins

-- the title, and what adds nothing to its hash; or the bracket of a priority before it
abbrev pub Begins : List ℕ → List ℕ → Type 0
Begins title place = (slice_index place 0 ≡ 91) ⊎ ((more : List ℕ) × ((place ≡ title ++ more) × AddsNothing more))

-- what a part of a line leaves for a title
abbrev left_of : List ℕ → ℕ → List ℕ
left_of l m = without_blanks (take m (after_priority l))

plain : (l z : List ℕ) (m : ℕ) → prefix_len is_blank l ≡ 0 → l ++ z ≡ without_blanks (take m l) ++ (end_of is_blank (take m l) ++ (drop m l ++ z))
plain l z m none =
    let y = take m l in
    let first : prefix_len is_blank y ≡ 0 = take-none is_blank m l none in
    let title : without_blanks y ≡ without_end is_blank y = ap (λ n. without_end is_blank (drop n y)) first in
    ap (λ l. l ++ z) (sym (take-append-drop m l)) ∙ append_assoc y (drop m l) z
    ∙ ap (λ y. y ++ (drop m l ++ z)) (kept_end is_blank y) ∙ append_assoc (without_end is_blank y) (end_of is_blank y) (drop m l ++ z)
    ∙ ap (λ t. t ++ (end_of is_blank y ++ (drop m l ++ z))) (sym title)

-- what stands there after the title
abbrev after_title : List ℕ → List ℕ → ℕ → List ℕ
after_title l z m = end_of is_blank (take m (after_priority l)) ++ (drop m (after_priority l) ++ z)

short : (l z : List ℕ) (m : ℕ) → priority_of l ≡ [] → prefix_len is_blank l ≡ 0 → AddsNothing (after_title l z m) → Begins (left_of l m) (l ++ z)
short l z m bare none ends =
    let all : after_priority l ≡ l = ap (λ p. drop (length p) l) bare in
    inr (after_title l z m, (plain l z m none ∙ ap (λ k. without_blanks (take m k) ++ (end_of is_blank (take m k) ++ (drop m k ++ z))) (sym all), ends))

begins : (l z : List ℕ) (m : ℕ) → prefix_len is_blank l ≡ 0 → AddsNothing (after_title l z m) → Begins (left_of l m) (l ++ z)
begins [] z m none ends = short [] z m refl none ends
begins (a ∷ []) z m none ends = short (a ∷ []) z m refl none ends
begins (a ∷ b ∷ []) z m none ends = short (a ∷ b ∷ []) z m refl none ends
begins (a ∷ b ∷ x ∷ []) z m none ends = short (a ∷ b ∷ x ∷ []) z m refl none ends
begins (a ∷ b ∷ x ∷ c ∷ l) z m none ends =
    elim (cases_Bool (eqb a 91 && eqb b 35 && is_ascii_alphanumeric x && eqb c 93)) [
      | inl e ↦
          let t = both (eqb a 91 && eqb b 35 && is_ascii_alphanumeric x) (eqb c 93) e in
          let u = both (eqb a 91 && eqb b 35) (is_ascii_alphanumeric x) t.0 in
          inl (eqb-true a 91 (both (eqb a 91) (eqb b 35) u.0).0)
      | inr e ↦ short (a ∷ b ∷ x ∷ c ∷ l) z m (rw e refl) none ends
    ]

abbrev Somewhere : List ℕ → List ℕ → Type 0
Somewhere title tail = Begins title (first_place tail) ⊎ Begins title (second_place tail)

nothing_left : (l : List ℕ) (m : ℕ) → length l ≡ 0 → length (left_of l m) ≡ 0
nothing_left [] zero e = refl
nothing_left [] (suc m) e = refl
nothing_left (a ∷ l) m e = absurd (omega (arith, e))

-- after the gap, where no keyword begins_so there
without_keyword : (states : Keywords) (content z : List ℕ) (m : ℕ) → prefix_len is_blank content ≡ 0 → keyword_of states content ≡ [] → AddsNothing (after_title (after_keyword states content) z m)
    → Begins (left_of (after_keyword states content) m) (content ++ z)
without_keyword states content z m none no_word ends =
    let same : after_keyword states content ≡ content = ap (λ w. behind is_blank (drop (length w) content)) no_word ∙ ap (λ n. drop n content) none in
    subst (λ (l : List ℕ). Begins (left_of l m) (content ++ z)) (sym same) (begins content z m none (subst (λ (l : List ℕ). AddsNothing (after_title l z m)) same ends))

-- after the keyword, where one does
behind_keyword : (states : Keywords) (content z : List ℕ) (m : ℕ) → keyword_of states content ≡ front is_solid content → 0 < length (left_of (after_keyword states content) m)
    → AddsNothing (after_title (after_keyword states content) z m)
    → Begins (left_of (after_keyword states content) m) (behind is_blank (behind is_solid (content ++ z)))
behind_keyword states content z m word some ends =
    let w = behind is_solid content in
    let next : after_keyword states content ≡ behind is_blank w =
    ap (λ w. behind is_blank (drop (length w) content)) word ∙ ap (λ n. behind is_blank (drop n content)) (length-prefix_len is_solid content) in
    let left : 0 < length (behind is_blank w) = elim (cases_lt 0 (length (behind is_blank w))) [
      | inl lt ↦ lt
      | inr low ↦ absurd (omega (arith, some, nothing_left (after_keyword states content) m (ap length next ∙ (omega (arith, low)))))
    ] in
    let more : 0 < length w = omega (arith, left, length-drop (prefix_len is_blank w) w) in
    let there : behind is_blank (behind is_solid (content ++ z)) ≡ behind is_blank w ++ z =
    ap (behind is_blank) (behind-more is_solid content z more) ∙ behind-more is_blank w z left in
    let found : Begins (left_of (behind is_blank w) m) (behind is_blank w ++ z) =
    begins (behind is_blank w) z m (behind-none is_blank w) (subst (λ (l : List ℕ). AddsNothing (after_title l z m)) next ends) in
    subst (λ (l : List ℕ). Begins (left_of l m) (behind is_blank (behind is_solid (content ++ z)))) (sym next)
    (subst (λ (place : List ℕ). Begins (left_of (behind is_blank w) m) place) (sym there) found)

-- the same after a keyword and a priority
left_ends : (states : Keywords) (content z : List ℕ)
    → 0 < length (without_blanks (take (length (after_priority (after_keyword states content)) - length (tags_of content)) (after_priority (after_keyword states content)))) → AddsNothing z
    → AddsNothing (after_title (after_keyword states content) z (length (after_priority (after_keyword states content)) - length (tags_of content)))
left_ends states content z some adds =
    let word = length (keyword_of states content) in
    let blanks = prefix_len is_blank (drop word content) in
    let priority = length (priority_of (after_keyword states content)) in
    let left_is : drop (word + blanks + priority) content ≡ after_priority (after_keyword states content) =
    sym (drop-drop priority (word + blanks) content) ∙ ap (drop priority) (sym (drop-drop blanks word content)) in
    let Some : List ℕ → Type 0 = λ left. 0 < length (without_blanks (take (length left - length (tags_of content)) left)) in
    let Ends : List ℕ → Type 0 = λ left. AddsNothing (end_of is_blank (take (length left - length (tags_of content)) left) ++ (drop (length left - length (tags_of content)) left ++ z)) in
    subst Ends left_is (title_ends content z (word + blanks + priority) (subst Some (sym left_is) some) adds)

somewhere : (states : Keywords) (rest tail z : List ℕ) → first_place tail ≡ trimmed rest ++ z → AddsNothing z → 0 < length (title_of states rest) → Somewhere (title_of states rest) tail
somewhere states rest tail z here adds some =
    let after = behind is_blank rest in
    let content = trimmed rest in
    let run = front is_solid content in
    let m = length (after_priority (after_keyword states content)) - length (tags_of content) in
    let none : prefix_len is_blank content ≡ 0 = take-none is_blank (length after - suffix_len is_trailing after) after (behind-none is_blank rest) in
    let P : List ℕ → Type 0 = λ place. Begins (title_of states rest) place in
    let ends : AddsNothing (after_title (after_keyword states content) z m) = left_ends states content z some adds in
    elim (cases_Bool (has_word states.active run || has_word states.done run)) [
      | inl e ↦
          let word : keyword_of states content ≡ run = rw e refl in
          inr (subst P (ap (λ l. behind is_blank (behind is_solid l)) (sym here)) (behind_keyword states content z m word some ends))
      | inr e ↦
          let word : keyword_of states content ≡ [] = rw e refl in
          inl (subst P (sym here) (without_keyword states content z m none word ends))
    ]

ends_add_nothing : (l : List ℕ) → AddsNothing (end_of is_trailing l)
ends_add_nothing l = subst AddsNothing (append-nil (end_of is_trailing l)) (all_trailing (end_of is_trailing l) [] (end_passes is_trailing l) (λ hash apart. refl))

-- in the rest of the line, and in all that follows its stars
in_rest : (states : Keywords) (rest : List ℕ) → 0 < length (title_of states rest) → Somewhere (title_of states rest) rest
in_rest states rest some =
    let after = behind is_blank rest in
    somewhere states rest rest (end_of is_trailing after) (kept_end is_trailing after) (ends_add_nothing after) some

in_tail : (states : Keywords) (rest more : List ℕ) → 0 < length (title_of states rest) → Somewhere (title_of states rest) (rest ++ 10 ∷ more)
in_tail states rest more some =
    let after = behind is_blank rest in
    let content = trimmed rest in
    let here : first_place (rest ++ 10 ∷ more) ≡ content ++ (end_of is_trailing after ++ 10 ∷ more) =
    behind-stop is_blank rest 10 more refl ∙ ap (λ l. l ++ 10 ∷ more) (kept_end is_trailing after) ∙ append_assoc content (end_of is_trailing after) (10 ∷ more) in
    somewhere states rest (rest ++ 10 ∷ more) (end_of is_trailing after ++ 10 ∷ more) here (all_trailing (end_of is_trailing after) (10 ∷ more) (end_passes is_trailing after) (λ hash apart. refl)) some

-- ---- what the tests of the two places say

neither : (a b : Bool) → (a || b) ≡ false → (a ≡ false) × (b ≡ false)
neither true b e = absurd cc
neither false b e = (refl, e)

cannot : (title place : List ℕ) → Begins title place → can_begin place title ≡ false → ⊥
cannot title place (inl bracket) fails =
    let first = (neither (eqb (slice_index place 0) 91) (starts_with eqb place title) fails).0 in
    let yes : eqb (slice_index place 0) 91 ≡ true = eq-eqb (slice_index place 0) 91 bracket in
    absurd cc
cannot title place (inr (more, (is, adds))) fails =
    let second = (neither (eqb (slice_index place 0) 91) (starts_with eqb place title) fails).1 in
    let yes : starts_with eqb place title ≡ true = (starts_is Decides-eqb place title (starts_with eqb place title) refl).1 more is in
    absurd cc

none_of : (title tail : List ℕ) → Somewhere title tail → can_begin (first_place tail) title ≡ false → can_begin (second_place tail) title ≡ false → ⊥
none_of title tail (inl found) first second = cannot title (first_place tail) found first
none_of title tail (inr found) first second = cannot title (second_place tail) found second

pub no_title : (states : Keywords) (rest more title tail : List ℕ) → tail ≡ rest ++ 10 ∷ more → 0 < length title → can_begin (first_place tail) title ≡ false → can_begin (second_place tail) title ≡ false
    → bytes_eq (title_of states rest) title ≡ false
no_title states rest more title tail split some first second =
    elim (cases_Bool (bytes_eq (title_of states rest) title)) [
      | inl e ↦
          let is : title_of states rest ≡ title = (bytes_eq-Decides (title_of states rest) title).0 e in
          let found = in_tail states rest more (omega (arith, some, ap length is)) in
          absurd (none_of title tail (subst (λ (t : List ℕ). Somewhere title t) (sym split) (subst (λ (t : List ℕ). Somewhere t (rest ++ 10 ∷ more)) is found)) first second)
      | inr e ↦ e
    ]

-- ---- what the kept bytes say

-- the fingerprint by the first byte and the hash
abbrev fingerprinted : ℕ → ℕ → Beginning
fingerprinted b hash = record { fingerprint = if eqb b 91 then 1 else 2 * hash + (if is_ascii_digit b then 1 else 0) }

same_beginning : (title place more : List ℕ) → 0 < length title → place ≡ title ++ more → AddsNothing more → beginning_of place ≡ beginning_of title
same_beginning [] place more some is adds = absurd (omega (arith, some))
same_beginning (b ∷ title) place more some is adds =
    ap beginning_of is ∙ ap (λ (hash : ℕ). fingerprinted b hash) (hash_title (b ∷ title) more adds 0 true)

begins_so : (title place : List ℕ) → 0 < length title → Begins title place → may_begin (beginning_of title) (beginning_of place) ≡ false → ⊥
begins_so title place some (inl bracket) fails =
    let yes : may_begin (beginning_of title) (beginning_of place) ≡ true = rw bracket refl in
    absurd cc
begins_so title place some (inr (more, (is, adds))) fails =
    let same = same_beginning title place more some is adds in
    let second = (neither (eqb (beginning_of place).fingerprint 1) (eqb (beginning_of place).fingerprint (beginning_of title).fingerprint) fails).1 in
    let yes : eqb (beginning_of place).fingerprint (beginning_of title).fingerprint ≡ true = eq-eqb (beginning_of place).fingerprint (beginning_of title).fingerprint (ap (λ (p : Beginning). p.fingerprint) same) in
    absurd cc

begins_nowhere : (title rest : List ℕ) → 0 < length title → Somewhere title rest → may_begin (beginning_of title) (beginnings_of rest).first ≡ false
    → may_begin (beginning_of title) (beginnings_of rest).second ≡ false → ⊥
begins_nowhere title rest some (inl found) first second = begins_so title (first_place rest) some found first
begins_nowhere title rest some (inr found) first second = begins_so title (second_place rest) some found second

cannot_begin : (states : Keywords) (rest title : List ℕ) → 0 < length title
    → (may_begin (beginning_of title) (beginnings_of rest).first || may_begin (beginning_of title) (beginnings_of rest).second) ≡ false
    → bytes_eq (title_of states rest) title ≡ false
cannot_begin states rest title some fails =
    let both_fail = neither (may_begin (beginning_of title) (beginnings_of rest).first) (may_begin (beginning_of title) (beginnings_of rest).second) fails in
    elim (cases_Bool (bytes_eq (title_of states rest) title)) [
      | inl e ↦
          let is : title_of states rest ≡ title = (bytes_eq-Decides (title_of states rest) title).0 e in
          let found = in_rest states rest (omega (arith, some, ap length is)) in
          absurd (begins_nowhere title rest some (subst (λ (t : List ℕ). Somewhere t rest) is found) both_fail.0 both_fail.1)
      | inr e ↦ e
    ]

pub cannot_have : (states : Keywords) (rest title : List ℕ) → may_have (sought_of title) (beginnings_of rest) ≡ false → bytes_eq (title_of states rest) title ≡ false
cannot_have states rest title fails = search (rules, arith, neither, nat_tests, cannot_begin)

odd : (n : ℕ) → (2 * n + 1) % 2 ≡ 1
odd n = ap (λ (m : ℕ). (m + 1) % 2) (mul_comm 2 n) ∙ mod-mul-add n 2 1 (omega arith)

-- the bracket is no digit
date_tells : (b hash : ℕ) → is_ascii_digit b ≡ true → may_begin_date (fingerprinted b hash) ≡ true
date_tells b hash digit =
    elim (cases_Bool (eqb b 91)) [
      | inl e ↦ rw e refl
      | inr e ↦ rw (e, digit, odd hash) refl
    ]

no_digit_at : (title place : List ℕ) → Begins title place → 0 < length title → may_begin_date (beginning_of place) ≡ false → is_ascii_digit (slice_index title 0) ≡ false
no_digit_at title place (inl bracket) some fails =
    let yes : may_begin_date (beginning_of place) ≡ true = rw bracket refl in
    absurd cc
no_digit_at [] place (inr found) some fails = absurd (omega (arith, some))
no_digit_at (b ∷ title) place (inr (more, (is, adds))) some fails =
    elim (cases_Bool (is_ascii_digit b)) [
      | inl e ↦
          let yes : may_begin_date (beginning_of place) ≡ true = ap may_begin_date (ap beginning_of is) ∙ date_tells b (hash_from 0 true (b ∷ title ++ more)) e in
          absurd cc
      | inr e ↦ e
    ]

no_digit_in : (title rest : List ℕ) → Somewhere title rest → 0 < length title → may_begin_date (beginnings_of rest).first ≡ false → may_begin_date (beginnings_of rest).second ≡ false
    → is_ascii_digit (slice_index title 0) ≡ false
no_digit_in title rest (inl found) some first second = no_digit_at title (first_place rest) found some first
no_digit_in title rest (inr found) some first second = no_digit_at title (second_place rest) found some second

of_some : (title : List ℕ) → (0 < length title → is_ascii_digit (slice_index title 0) ≡ false) → is_ascii_digit (slice_index title 0) ≡ false
of_some [] f = refl
of_some (b ∷ title) f = f (omega arith)

pub no_date : (states : Keywords) (rest : List ℕ) → (may_begin_date (beginnings_of rest).first || may_begin_date (beginnings_of rest).second) ≡ false
    → is_ascii_digit (slice_index (title_of states rest) 0) ≡ false
no_date states rest fails =
    let no = neither (may_begin_date (beginnings_of rest).first) (may_begin_date (beginnings_of rest).second) fails in
    of_some (title_of states rest) (λ some. no_digit_in (title_of states rest) rest (in_rest states rest some) some no.0 no.1)

-- ---- the same as the code says it

pub no_title_read : (states : Keywords) (rest more title tail first second : List ℕ) (r s : Bool) → tail ≡ rest ++ 10 ∷ more → 0 < length title
    → first ≡ first_place tail → second ≡ behind is_blank (behind is_solid first) → r ≡ can_begin first title → r ≡ false → s ≡ can_begin second title → s ≡ false
    → bytes_eq (title_of states rest) title ≡ false
no_title_read states rest more title tail first second r s split some fe se re r_is ce s_is = grind (arith, common_steps, no_title, behind)
