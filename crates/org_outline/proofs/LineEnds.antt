-- Where no colon ends a heading line, its title does.
use Rattle.std.proofs.Common.{◌≡◌, ℕ, suc, ◌-◌, ◌≤◌, Bool, true, false, ◌&&◌, ◌||◌, eqb, ltb, List, [], ◌∷◌, ◌++◌, length, take, drop, refl, sym, ap, ◌∙◌, append_assoc, arith, inl, inr, eq-eqb, get_or, ◌<◌}
use Rattle.std.proofs.lemmas.Grind.{common_steps}
use Rattle.std.specs.Prelude.{reverse}
use Rattle.std.specs.List.{list_all, prefix_len, suffix_len}
use Rattle.std.specs.Str.{bytes_eq}
use Rattle.std.proofs.lemmas.Bool.{cases_Bool, cases_lt}
use Rattle.std.proofs.lemmas.List.{append-nil, length-append, length-drop, length-take, take_all, reverse-append, length-reverse}
use Rattle.std.proofs.lemmas.List.Folds.{list_all-append}
use Rattle.std.proofs.lemmas.Slice.Eq.{bytes_eq-Decides}
use Rattle.org_splice.specs.Blanks.{is_blank, is_trailing, is_solid, front, behind, without_end, end_of, trimmed}
use Rattle.org_splice.proofs.Ends.{both, front_behind, end_passes, kept_end, trimmed_twice}
use Rattle.org_outline.specs.States.{Keywords}
use Rattle.org_outline.specs.Parts.{are_tags, are_closed_tags, tags_of, is_tag_byte, keyword_of, priority_of, after_keyword, after_priority, without_blanks}
use Rattle.org_outline.specs.Paths.{title_of}
use Rattle.org_outline.proofs.TitlePlaces.{behind-stop}
use Rattle.org_outline.proofs.Splitting.{keyword_front, priority_front}

-- ---- tags end with a colon

abbrev EndsWithColon : List ℕ → Type 0
EndsWithColon l = (before : List ℕ) × (l ≡ before ++ 58 ∷ [])

closed_end : (b : ℕ) (l : List ℕ) (inside : Bool) → are_closed_tags inside (b ∷ l) ≡ true → EndsWithColon (b ∷ l)
closed_end b [] inside e = grind (arith, common_steps)
closed_end b (c ∷ l) inside e =
    let more : EndsWithColon (c ∷ l) = elim (cases_Bool (eqb b 58)) [
      | inl is ↦ closed_end c l false (both inside (are_closed_tags false (c ∷ l)) (rw is at e)).1
      | inr other ↦ closed_end c l true (both (is_tag_byte b) (are_closed_tags true (c ∷ l)) (rw other at e)).1
    ] in
    (b ∷ more.0, ap (λ t. b ∷ t) more.1)

tags_colon : (l : List ℕ) → are_tags l ≡ true → EndsWithColon l
tags_colon [] e = absurd cc
tags_colon (b ∷ []) e = absurd (let t = both (eqb b 58 && ltb 0 0) (are_closed_tags false []) e in let u = both (eqb b 58) (ltb 0 0) t.0 in cc)
tags_colon (b ∷ c ∷ l) e =
    let t = both (eqb b 58 && ltb 0 (suc (length l))) (are_closed_tags false (c ∷ l)) e in
    let more = closed_end c l false t.1 in
    (b ∷ more.0, ap (λ t. b ∷ t) more.1)

no_tags : (l : List ℕ) → (EndsWithColon l → ⊥) → tags_of l ≡ []
no_tags l other =
    elim (cases_Bool (are_tags (end_of is_solid l))) [
      | inl e ↦
          let end = tags_colon (end_of is_solid l) e in
          absurd (other (without_end is_solid l ++ end.0, kept_end is_solid l ∙ ap (λ t. without_end is_solid l ++ t) end.1 ∙ simp append_assoc))
      | inr e ↦ rw e refl
    ]

-- ---- no blanks end a trimmed line

front_all : (p : ℕ → Bool) (a b : List ℕ) → list_all p a ≡ true → length a ≤ prefix_len p (a ++ b)
front_all p [] b all = omega arith
front_all p (x ∷ a) b all =
    let t = both (p x) (list_all p a) all in
    rw t.0 (omega (arith, front_all p a b t.1))

reverse_all : (p : ℕ → Bool) (l : List ℕ) → list_all p l ≡ true → list_all p (reverse l) ≡ true
reverse_all p [] h = refl
reverse_all p (b ∷ l) h =
    let t = both (p b) (list_all p l) h in
    ap (list_all p) (reverse-append (b ∷ []) l) ∙ list_all-append p (reverse l) (b ∷ []) ∙ rw (reverse_all p l t.1, t.0) refl

end_all : (p : ℕ → Bool) (a w : List ℕ) → list_all p w ≡ true → length w ≤ suffix_len p (a ++ w)
end_all p a w all =
    rw (reverse-append a w) (omega (arith, front_all p (reverse w) (reverse a) (reverse_all p w all), length-reverse w))

none_left : (l : List ℕ) → length l ≡ 0 → l ≡ []
none_left [] e = refl
none_left (b ∷ l) e = absurd (omega (arith, e))

-- a trimmed line of which one part stands at the end, all of it blanks
no_end : (l a w : List ℕ) → trimmed l ≡ l → l ≡ a ++ w → list_all is_trailing w ≡ true → w ≡ []
no_end l a w is split all = grind (arith, common_steps, length-drop, length-take, length-append, none_left, cases_lt, front, end_all)

trailing_of_blank : (l : List ℕ) → list_all is_blank l ≡ true → list_all is_trailing l ≡ true
trailing_of_blank [] e = refl
trailing_of_blank (b ∷ l) e =
    let t = both (is_blank b) (list_all is_blank l) e in
    rw (t.0, trailing_of_blank l t.1) refl

abbrev pub EndsWith : List ℕ → List ℕ → Type 0
EndsWith l title = (before : List ℕ) × (l ≡ before ++ title)

-- the title stands at the end of a line without tags
title_last : (states : Keywords) (rest : List ℕ) → tags_of (trimmed rest) ≡ [] → EndsWith (trimmed rest) (title_of states rest)
title_last states rest none =
    let content = trimmed rest in
    let keyword = keyword_of states content in
    let d = drop (length keyword) content in
    let left1 = after_keyword states content in
    let left = after_priority left1 in
    let y = behind is_blank left in
    let before = keyword ++ (front is_blank d ++ (priority_of left1 ++ front is_blank left)) in
    let uncut : take (length left - length (tags_of content)) left ≡ left = rw none (take_all (length left - 0) left (omega arith)) in
    let title : title_of states rest ≡ without_end is_blank y = ap without_blanks uncut in
    let whole : content ≡ (before ++ without_end is_blank y) ++ end_of is_blank y =
    keyword_front states content
    ∙ ap (λ l. keyword ++ l) (front_behind is_blank d
    ∙ ap (λ l. front is_blank d ++ l) (priority_front left1
    ∙ ap (λ l. priority_of left1 ++ l) (front_behind is_blank left
    ∙ ap (λ l. front is_blank left ++ l) (kept_end is_blank y))))
    ∙ simp append_assoc in
    let nothing : end_of is_blank y ≡ [] = no_end content (before ++ without_end is_blank y) (end_of is_blank y) (trimmed_twice rest) whole (trailing_of_blank (end_of is_blank y) (end_passes is_blank y)) in
    (before, whole ∙ ap (λ e. (before ++ without_end is_blank y) ++ e) nothing ∙ append-nil (before ++ without_end is_blank y) ∙ ap (λ t. before ++ t) (sym title))

no_title : (states : Keywords) (rest title : List ℕ) → (EndsWith (trimmed rest) (58 ∷ []) → ⊥) → (EndsWith (trimmed rest) title → ⊥) → bytes_eq (title_of states rest) title ≡ false
no_title states rest title no_colon other =
    elim (cases_Bool (bytes_eq (title_of states rest) title)) [
      | inl e ↦
          let is : title_of states rest ≡ title = (bytes_eq-Decides (title_of states rest) title).0 e in
          let last = title_last states rest (no_tags (trimmed rest) no_colon) in
          absurd (other (last.0, last.1 ∙ ap (λ t. last.0 ++ t) is))
      | inr e ↦ e
    ]

-- ---- the last byte

last_same : (xs ys : List ℕ) (b c : ℕ) → xs ++ b ∷ [] ≡ ys ++ c ∷ [] → b ≡ c
last_same xs ys b c e = grind (arith, common_steps)

-- a line that ends with another byte than blanks and carriage returns
trimmed_last : (front : List ℕ) (b : ℕ) → is_blank b ≡ false → is_trailing b ≡ false → trimmed (front ++ b ∷ []) ≡ behind is_blank front ++ b ∷ []
trimmed_last front b solid kept = grind (arith, common_steps, behind, reverse-append, behind-stop, take_all)

last_of : (l : List ℕ) → 0 < length l → l ≡ take (length l - 1) l ++ get_or l (length l - 1) 0 ∷ []
last_of l some = grind (arith, common_steps)

no_end_title : (states : Keywords) (rest title : List ℕ) → 0 < length rest → 0 < length title
    → eqb (get_or rest (length rest - 1) 0) (get_or title (length title - 1) 0) ≡ false → eqb (get_or rest (length rest - 1) 0) 58 ≡ false
    → is_blank (get_or rest (length rest - 1) 0) ≡ false → is_trailing (get_or rest (length rest - 1) 0) ≡ false
    → bytes_eq (title_of states rest) title ≡ false
no_end_title states rest title some some_title other no_colon solid kept =
    let b = get_or rest (length rest - 1) 0 in
    let c = get_or title (length title - 1) 0 in
    let g = behind is_blank (take (length rest - 1) rest) in
    let is : trimmed rest ≡ g ++ b ∷ [] = ap trimmed (last_of rest some) ∙ trimmed_last (take (length rest - 1) rest) b solid kept in
    no_title states rest title
    (λ end.
    let same : b ≡ 58 = last_same g end.0 b 58 (sym is ∙ end.1) in
    let yes : eqb b 58 ≡ true = eq-eqb b 58 same in
    absurd cc)
    (λ end.
    let whole : g ++ b ∷ [] ≡ (end.0 ++ take (length title - 1) title) ++ c ∷ [] =
    sym is ∙ end.1 ∙ ap (λ t. end.0 ++ t) (last_of title some_title) ∙ sym (append_assoc end.0 (take (length title - 1) title) (c ∷ [])) in
    let same : b ≡ c = last_same g (end.0 ++ take (length title - 1) title) b c whole in
    let yes : eqb b c ≡ true = eq-eqb b c same in
    absurd cc)

blank_of : (x y z : Bool) → (x || y || z) ≡ false → (x || y) ≡ false
blank_of true y z e = absurd cc
blank_of false true z e = absurd cc
blank_of false false z e = refl

neither : (a b : Bool) → (a || b) ≡ false → (a ≡ false) × (b ≡ false)
neither true b e = absurd cc
neither false b e = (refl, e)

-- the same as the code says it
pub no_end_read : (states : Keywords) (rest title : List ℕ) (r : Bool) → 0 < length rest → 0 < length title
    → eqb (get_or rest (length rest - 1) 0) (get_or title (length title - 1) 0) ≡ false
    → r ≡ (eqb (get_or rest (length rest - 1) 0) 58 || is_trailing (get_or rest (length rest - 1) 0)) → r ≡ false
    → bytes_eq (title_of states rest) title ≡ false
no_end_read states rest title r some some_title other re is = grind (arith, common_steps, neither, no_end_title, blank_of)
