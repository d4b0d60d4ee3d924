-- The parts that a heading line is split into are the ones that it has.
use Rattle.std.proofs.Common.{◌≡◌, ℕ, ◌-◌, ◌<◌, Bool, true, false, ◌&&◌, ◌||◌, eqb, ltb, List, [], ◌∷◌, ◌++◌, length, take, drop, refl, sym, ap, subst, ◌∙◌, append_assoc, arith, rules, inl, inr}
use Rattle.std.specs.Prelude.{◌⊎◌, IsTrue}
use Rattle.std.specs.Char.{is_ascii_alphanumeric}
use Rattle.std.specs.List.{AllByRecursion, flat_map, list_all}
use Rattle.std.proofs.lemmas.Bool.{cases_Bool, eqb-true}
use Rattle.std.proofs.lemmas.List.{length-append, append-nil, take_at, drop_at}
use Rattle.std.proofs.lemmas.List.Folds.{list_all-append}
use Rattle.org_splice.specs.Blanks.{is_blank, is_solid, is_trailing, front, behind, without_end, end_of, trimmed_end}
use Rattle.org_splice.proofs.Ends.{both, front_behind, front_passes, end_passes, kept_end}
use Rattle.org_outline.specs.HeadingLine.{BeginsWithNo, EndsWithNo, IsState, IsPriority, IsTag, AreTags, BeginsWithState, BeginsWithPriority, EndsWithTags, Takes, HasParts}
use Rattle.org_outline.specs.Parts.{Parts, keyword_of, priority_of, is_tag_byte, are_tags, are_closed_tags, tags_of, content_of, after_keyword, after_priority, without_blanks, parts_of}
use Rattle.org_outline.specs.States.{Keywords, is_state_byte, has_word, are_states}
use Rattle.org_outline.proofs.Borders.{front_is, behind_is, without_end_is, end_of_is, solid, begins_behind, begins_before, ends_before}
use Rattle.org_outline.proofs.Splitting.{state_word, priority_front, tags_behind}

-- ---- the keyword

-- a state has no blank
state_solid : (states : Keywords) (w : List ℕ) → IsTrue (are_states states) → IsState states w → list_all is_solid w ≡ true
state_solid states w ok is =
    let bytes = both _ (list_all is_state_byte w) (state_word states w ok is) in
    solid is_state_byte w refl refl bytes.1

whole_word : (states : Keywords) (l : List ℕ) → IsState states (front is_solid l) → BeginsWithState states l (front is_solid l) (behind is_solid l)
whole_word states l is = record { is = front_behind is_solid l; state = is; word = begins_behind is_solid l }

abbrev Keyword : Keywords → List ℕ → List ℕ → List ℕ → Type 0
Keyword states l keyword tail = Takes (BeginsWithState states l) l keyword tail

keyword_read : (states : Keywords) (l keyword tail : List ℕ) → IsTrue (are_states states) → Keyword states l keyword tail → (keyword_of states l ≡ keyword) × (l ≡ keyword ++ tail)
keyword_read states l keyword tail ok (inl h) =
    let run : front is_solid l ≡ keyword = ap (front is_solid) h.is ∙ front_is is_solid keyword tail (state_solid states keyword ok h.state) h.word in
    let is : IsState states (front is_solid l) = subst (IsState states) (sym run) h.state in
    (rw is run, h.is)
keyword_read states l keyword tail ok (inr h) =
    let whole : l ≡ keyword ++ tail = rw (h.0, h.1) refl in
    elim (cases_Bool (has_word states.active (front is_solid l) || has_word states.done (front is_solid l))) [
      | inl e ↦ absurd (h.2 (front is_solid l) (behind is_solid l) (whole_word states l e))
      | inr e ↦ (rw e (sym h.0), whole)
    ]

keyword_taken : (states : Keywords) (l : List ℕ) → IsTrue (are_states states) → Keyword states l (keyword_of states l) (drop (length (keyword_of states l)) l)
keyword_taken states l ok =
    elim (cases_Bool (has_word states.active (front is_solid l) || has_word states.done (front is_solid l))) [
      | inl e ↦
          let run = front is_solid l in
          let tail : drop (length run) l ≡ behind is_solid l = ap (drop (length run)) (front_behind is_solid l) ∙ drop_at run (behind is_solid l) (length run) refl in
          rw e (inl (rw tail (whole_word states l e)))
      | inr e ↦
          rw e (inr (
            refl,
            refl,
            λ w t h.
                let run : front is_solid l ≡ w = ap (front is_solid) h.is ∙ front_is is_solid w t (state_solid states w ok h.state) h.word in
                let is : IsState states (front is_solid l) = subst (IsState states) (sym run) h.state in
                absurd (let no : true ≡ false = sym is ∙ e in cc),
          ))
    ]

-- ---- the priority

abbrev Priority : List ℕ → List ℕ → List ℕ → Type 0
Priority l priority tail = Takes (BeginsWithPriority l) l priority tail

priority_found : (l : List ℕ) → (priority_of l ≡ []) ⊎ IsPriority (priority_of l)
priority_found [] = inl refl
priority_found (a ∷ []) = inl refl
priority_found (a ∷ b ∷ []) = inl refl
priority_found (a ∷ b ∷ x ∷ []) = inl refl
priority_found (a ∷ b ∷ x ∷ c ∷ l) =
    elim (cases_Bool (eqb a 91 && eqb b 35 && is_ascii_alphanumeric x && eqb c 93)) [
      | inl e ↦
          let t = both (eqb a 91 && eqb b 35 && is_ascii_alphanumeric x) (eqb c 93) e in
          let u = both (eqb a 91 && eqb b 35) (is_ascii_alphanumeric x) t.0 in
          let v = both (eqb a 91) (eqb b 35) u.0 in
          let first : a ≡ 91 = eqb-true a 91 v.0 in
          let second : b ≡ 35 = eqb-true b 35 v.1 in
          let last : c ≡ 93 = eqb-true c 93 t.1 in
          rw e (inr (record { value = x; alphanumeric = u.1; is = rw (first, second, last) refl }))
      | inr e ↦ rw e (inl refl)
    ]

priority_begins : (x : ℕ) (tail : List ℕ) → IsTrue (is_ascii_alphanumeric x) → priority_of (91 ∷ 35 ∷ x ∷ 93 ∷ tail) ≡ 91 ∷ 35 ∷ x ∷ 93 ∷ []
priority_begins x tail letter = rw letter refl

priority_read : (l priority tail : List ℕ) → Priority l priority tail → (priority_of l ≡ priority) × (l ≡ priority ++ tail)
priority_read l priority tail (inl h) =
    let p = h.well_formed in
    (ap priority_of (h.is ∙ ap (λ w. w ++ tail) p.is) ∙ priority_begins p.value tail p.alphanumeric ∙ sym p.is, h.is)
priority_read l priority tail (inr h) =
    elim (priority_found l) [
      | inl none ↦ (none ∙ sym h.0, rw (h.0, h.1) refl)
      | inr found ↦ absurd (h.2 (priority_of l) (drop (length (priority_of l)) l) (record { is = priority_front l; well_formed = found }))
    ]

priority_taken : (l : List ℕ) → Priority l (priority_of l) (after_priority l)
priority_taken l =
    elim (priority_found l) [
      | inl none ↦
          inr (
            none,
            ap (λ p. drop (length p) l) none,
            λ p o h.
                let is = h.well_formed in
                let begins : priority_of l ≡ 91 ∷ 35 ∷ is.value ∷ 93 ∷ [] = ap priority_of (h.is ∙ ap (λ w. w ++ o) is.is) ∙ priority_begins is.value o is.alphanumeric in
                absurd (let no : [] ≡ 91 ∷ 35 ∷ is.value ∷ 93 ∷ [] = sym none ∙ begins in cc),
          )
      | inr found ↦ inl (record { is = priority_front l; well_formed = found })
    ]

-- ---- the tags

abbrev closed : List (List ℕ) → List ℕ
closed tags = flat_map (λ tag. tag ++ 58 ∷ []) tags

no_colon : (b : ℕ) → is_tag_byte b ≡ true → eqb b 58 ≡ false
no_colon b letter =
    elim (cases_Bool (eqb b 58)) [
      | inl e ↦ absurd (let is : is_tag_byte 58 ≡ true = ap is_tag_byte (sym (eqb-true b 58 e)) ∙ letter in cc)
      | inr e ↦ e
    ]

within_tag : (tag l : List ℕ) → list_all is_tag_byte tag ≡ true → are_closed_tags true (tag ++ 58 ∷ l) ≡ are_closed_tags false l
within_tag [] l letters = refl
within_tag (b ∷ tag) l letters =
    let t = both (is_tag_byte b) (list_all is_tag_byte tag) letters in
    rw (no_colon b t.0, t.0) (within_tag tag l t.1)

one_tag : (tag l : List ℕ) → IsTag tag → are_closed_tags false (tag ++ 58 ∷ l) ≡ are_closed_tags false l
one_tag [] l is = absurd (omega (arith, is.some))
one_tag (b ∷ tag) l is =
    let t = both (is_tag_byte b) (list_all is_tag_byte tag) is.letters in
    rw (no_colon b t.0, t.0) (within_tag tag l t.1)

tags_closed : (tags : List (List ℕ)) → AllByRecursion IsTag tags → are_closed_tags false (closed tags) ≡ true
tags_closed [] all = refl
tags_closed (tag ∷ tags) all = rw append_assoc (one_tag tag (closed tags) all.0 ∙ tags_closed tags all.1)

closed_some : (tags : List (List ℕ)) → 0 < length tags → 0 < length (closed tags)
closed_some [] some = absurd (omega (arith, some))
closed_some (tag ∷ tags) some = omega (arith, length-append (tag ++ 58 ∷ []) (closed tags), length-append tag (58 ∷ []))

tags_pass : (l : List ℕ) → AreTags l → are_tags l ≡ true
tags_pass l h =
    let long : 0 < length (closed h.tags) = closed_some h.tags h.some in
    let some : ltb 0 (length (closed h.tags)) ≡ true = search rules in
    ap are_tags h.is ∙ rw (some, tags_closed h.tags h.each) refl

tag_solid : (tags : List (List ℕ)) → AllByRecursion IsTag tags → list_all is_solid (closed tags) ≡ true
tag_solid [] all = refl
tag_solid (tag ∷ tags) all =
    let first = all.0 in
    list_all-append is_solid (tag ++ 58 ∷ []) (closed tags)
    ∙ rw (list_all-append is_solid tag (58 ∷ []), solid is_tag_byte tag refl refl first.letters, tag_solid tags all.1) refl

tags_solid : (l : List ℕ) → AreTags l → list_all is_solid l ≡ true
tags_solid l h = ap (list_all is_solid) h.is ∙ tag_solid h.tags h.each

some_tag : (tags : List (List ℕ)) (l : List ℕ) → l ≡ closed tags → ltb 0 (length l) ≡ true → 0 < length tags
some_tag [] l e some = absurd (let no : ltb 0 (length {A = ℕ} []) ≡ true = ap (λ m. ltb 0 (length m)) (sym e) ∙ some in cc)
some_tag (tag ∷ tags) l e some = omega arith

letters_more : (b : ℕ) (tag : List ℕ) → is_tag_byte b ≡ true → list_all is_tag_byte tag ≡ true → list_all is_tag_byte (b ∷ tag) ≡ true
letters_more b tag first later = rw (first, later) refl

-- within a tag its rest stands first
abbrev Closes : Bool → List ℕ → Type 0
Closes true l = (tag : List ℕ) × (tags : List (List ℕ)) × (list_all is_tag_byte tag ≡ true) × AllByRecursion IsTag tags × (l ≡ tag ++ 58 ∷ closed tags)
Closes false l = (tags : List (List ℕ)) × AllByRecursion IsTag tags × (l ≡ closed tags)

tags_from : (inside : Bool) (l : List ℕ) → are_closed_tags inside l ≡ true → Closes inside l
tags_from true [] e = absurd cc
tags_from false [] e = ([], tt, refl)
tags_from true (b ∷ l) e =
    elim (cases_Bool (eqb b 58)) [
      | inl colon ↦
          let later = tags_from false l (rw colon at e) in
          ([], later.0, refl, later.1, ap (λ c. c ∷ l) (eqb-true b 58 colon) ∙ ap (λ t. 58 ∷ t) later.2)
      | inr other ↦
          let t = both (is_tag_byte b) (are_closed_tags true l) (rw other at e) in
          let later = tags_from true l t.1 in
          (b ∷ later.0, later.1, letters_more b later.0 t.0 later.2, later.3, ap (λ t. b ∷ t) later.4)
    ]
tags_from false (b ∷ l) e =
    elim (cases_Bool (eqb b 58)) [
      | inl colon ↦ absurd (let no : false ≡ true = rw colon at e in cc)
      | inr other ↦
          let t = both (is_tag_byte b) (are_closed_tags true l) (rw other at e) in
          let later = tags_from true l t.1 in
          let tag : IsTag (b ∷ later.0) = record { some = omega arith; letters = letters_more b later.0 t.0 later.2 } in
          ((b ∷ later.0) ∷ later.1, (tag, later.3), ap (λ t. b ∷ t) later.4 ∙ sym (append_assoc (b ∷ later.0) (58 ∷ []) (closed later.1)))
    ]

tags_are : (l : List ℕ) → are_tags l ≡ true → AreTags l
tags_are [] e = absurd cc
tags_are (b ∷ l) e =
    let u = both (eqb b 58 && ltb 0 (length l)) (are_closed_tags false l) e in
    let v = both (eqb b 58) (ltb 0 (length l)) u.0 in
    let tags = tags_from false l u.1 in
    record { tags = tags.0; some = some_tag tags.0 l tags.2 v.1; each = tags.1; is = ap (λ c. c ∷ l) (eqb-true b 58 v.0) ∙ ap (λ t. 58 ∷ t) tags.2 }

abbrev Tags : List ℕ → List ℕ → List ℕ → Type 0
Tags l tags before = Takes (EndsWithTags l) l tags before

tags_read : (l tags before : List ℕ) → Tags l tags before → tags_of l ≡ tags
tags_read l tags before (inl h) =
    let run : end_of is_solid l ≡ tags = ap (end_of is_solid) h.is ∙ end_of_is is_solid before tags (tags_solid tags h.well_formed) h.word in
    let pass : are_tags (end_of is_solid l) ≡ true = ap are_tags run ∙ tags_pass tags h.well_formed in
    rw pass run
tags_read l tags before (inr h) =
    elim (cases_Bool (are_tags (end_of is_solid l))) [
      | inl e ↦ absurd (h.2 (end_of is_solid l) (without_end is_solid l) (record { is = kept_end is_solid l; well_formed = tags_are (end_of is_solid l) e; word = ends_before is_solid l }))
      | inr e ↦ rw e (sym h.0)
    ]

tags_taken : (l : List ℕ) → (before : List ℕ) × Tags l (tags_of l) before
tags_taken l =
    elim (cases_Bool (are_tags (end_of is_solid l))) [
      | inl e ↦ rw e (without_end is_solid l, inl (record { is = kept_end is_solid l; well_formed = tags_are (end_of is_solid l) e; word = ends_before is_solid l }))
      | inr e ↦
          rw e (
            l,
            inr (
              refl,
              refl,
              λ t o h.
                  let run : end_of is_solid l ≡ t = ap (end_of is_solid) h.is ∙ end_of_is is_solid o t (tags_solid t h.well_formed) h.word in
                  absurd (let no : true ≡ false = sym (ap are_tags run ∙ tags_pass t h.well_formed) ∙ e in cc),
            ),
          )
    ]

-- ---- the title

begins_more : (p : ℕ → Bool) (b : ℕ) (l more : List ℕ) → BeginsWithNo p (b ∷ l) → BeginsWithNo p (b ∷ (l ++ more))
begins_more p b l more none =
    elim (cases_Bool (p b)) [
      | inl e ↦ absurd (omega (arith, rw e at none))
      | inr e ↦ rw e refl
    ]

unblanked : (second title third : List ℕ) → list_all is_blank second ≡ true → list_all is_blank third ≡ true → BeginsWithNo is_blank title → EndsWithNo is_blank title → without_blanks (second ++ (title ++ third)) ≡ title
unblanked second [] third before after begins ends =
    let all : list_all is_blank (second ++ third) ≡ true = list_all-append is_blank second third ∙ rw (before, after) refl in
    let none : behind is_blank (second ++ third) ≡ [] = ap (behind is_blank) (sym (append-nil (second ++ third))) ∙ behind_is is_blank (second ++ third) [] all refl in
    ap (without_end is_blank) none
unblanked second (b ∷ l) third before after begins ends =
    ap (without_end is_blank) (behind_is is_blank second (b ∷ (l ++ third)) before (begins_more is_blank b l third begins))
    ∙ without_end_is is_blank (b ∷ l) third after ends

abbrev title_in : List ℕ → List ℕ → List ℕ
title_in left tags = without_blanks (take (length left - length tags) left)

title_read : (second title third tags : List ℕ) → list_all is_blank second ≡ true → list_all is_blank third ≡ true → BeginsWithNo is_blank title → EndsWithNo is_blank title → title_in (second ++ (title ++ (third ++ tags))) tags ≡ title
title_read second title third tags before after begins ends =
    let front = second ++ (title ++ third) in
    let whole : second ++ (title ++ (third ++ tags)) ≡ front ++ tags = simp append_assoc in
    let cut : take (length (front ++ tags) - length tags) (front ++ tags) ≡ front = take_at front tags (length (front ++ tags) - length tags) (omega (arith, length-append front tags)) in
    ap (λ left. title_in left tags) whole ∙ ap without_blanks cut ∙ unblanked second title third before after begins ends

-- ---- all parts

same_parts : (a b : Parts) → a.gap ≡ b.gap → a.keyword ≡ b.keyword → a.priority ≡ b.priority → a.title ≡ b.title → a.tags ≡ b.tags → a ≡ b
same_parts a b e1 e2 e3 e4 e5 =
    ap (λ l. record a { gap = l }) e1 ∙ ap (λ l. record a { gap = b.gap; keyword = l }) e2 ∙ ap (λ l. record b { priority = l; title = a.title; tags = a.tags }) e3
    ∙ ap (λ l. record b { title = l; tags = a.tags }) e4 ∙ ap (λ l. record b { tags = l }) e5

pub only_parts : (states : Keywords) (rest : List ℕ) (parts : Parts) → IsTrue (are_states states) → HasParts states rest parts → parts ≡ parts_of states rest
only_parts states rest parts ok h =
    let c = content_of rest in
    let after : behind is_blank rest ≡ h.content ++ h.last = ap (behind is_blank) h.whole ∙ behind_is is_blank parts.gap (h.content ++ h.last) h.gap_blank h.gap_whole in
    let content : c ≡ h.content = ap trimmed_end after ∙ without_end_is is_trailing h.content h.last h.last_blank h.last_whole in
    let k = keyword_read states h.content parts.keyword h.behind_keyword ok h.keyword in
    let p = priority_read h.marked parts.priority h.behind_priority h.priority in
    let dropped : drop (length (keyword_of states h.content)) h.content ≡ h.behind_keyword =
    ap (λ w. drop (length w) h.content) k.0 ∙ ap (drop (length parts.keyword)) k.1 ∙ drop_at parts.keyword h.behind_keyword (length parts.keyword) refl in
    let marked : after_keyword states c ≡ h.marked = ap (after_keyword states) content ∙ ap (behind is_blank) (dropped ∙ h.first_is) ∙ behind_is is_blank h.first h.marked h.first_blank h.first_whole in
    let left : after_priority (after_keyword states c) ≡ h.behind_priority =
    ap after_priority marked ∙ ap (λ w. drop (length w) h.marked) p.0 ∙ ap (drop (length parts.priority)) p.1 ∙ drop_at parts.priority h.behind_priority (length parts.priority) refl in
    let tags : tags_of c ≡ parts.tags = ap tags_of content ∙ tags_read h.content parts.tags h.before_tags h.tags in
    let title : title_in (after_priority (after_keyword states c)) (tags_of c) ≡ parts.title =
    ap (λ l. title_in l (tags_of c)) (left ∙ h.title_is) ∙ ap (title_in (h.second ++ (parts.title ++ (h.third ++ parts.tags)))) tags
    ∙ title_read h.second parts.title h.third parts.tags h.second_blank h.third_blank h.title_begins h.title_ends in
    same_parts parts (parts_of states rest) (sym (ap (front is_blank) h.whole ∙ front_is is_blank parts.gap (h.content ++ h.last) h.gap_blank h.gap_whole)) (sym (ap (keyword_of states) content ∙ k.0))
    (sym (ap priority_of marked ∙ p.0)) (sym title) (sym tags)

pub has_parts : (states : Keywords) (rest : List ℕ) → IsTrue (are_states states) → HasParts states rest (parts_of states rest)
has_parts states rest ok =
    let after = behind is_blank rest in
    let content = content_of rest in
    let d = drop (length (keyword_of states content)) content in
    let marked = after_keyword states content in
    let tail = tags_behind states content ok in
    let more = tail.0 in
    let tags = tags_of content in
    let y = behind is_blank more in
    let left = after_priority marked in
    let cut : take (length left - length tags) left ≡ more = ap (λ l. take (length l - length tags) l) tail.1 ∙ take_at more tags (length (more ++ tags) - length tags) (omega (arith, length-append more tags)) in
    let title : title_in left tags ≡ without_end is_blank y = ap without_blanks cut in
    let split : more ≡ front is_blank more ++ (title_in left tags ++ end_of is_blank y) =
    front_behind is_blank more ∙ ap (λ l. front is_blank more ++ l) (kept_end is_blank y ∙ ap (λ t. t ++ end_of is_blank y) (sym title)) in
    let taken = tags_taken content in
    record {
      content = content;
      last = end_of is_trailing after;
      whole = front_behind is_blank rest ∙ ap (λ l. front is_blank rest ++ l) (kept_end is_trailing after);
      gap_blank = front_passes is_blank rest;
      gap_whole = subst (BeginsWithNo is_blank) (kept_end is_trailing after) (begins_behind is_blank rest);
      last_blank = end_passes is_trailing after;
      last_whole = ends_before is_trailing after;
      behind_keyword = d;
      keyword = keyword_taken states content ok;
      first = front is_blank d;
      marked = marked;
      first_is = front_behind is_blank d;
      first_blank = front_passes is_blank d;
      first_whole = begins_behind is_blank d;
      behind_priority = left;
      priority = priority_taken marked;
      before_tags = taken.0;
      tags = taken.1;
      second = front is_blank more;
      third = end_of is_blank y;
      title_is = tail.1 ∙ ap (λ l. l ++ tags) split ∙ simp append_assoc;
      second_blank = front_passes is_blank more;
      third_blank = end_passes is_blank y;
      title_begins = rw title (begins_before is_blank y (begins_behind is_blank more));
      title_ends = rw title (ends_before is_blank y);
    }

pub keyword_found : (states : Keywords) (rest word tail : List ℕ) → IsTrue (are_states states) → BeginsWithState states (content_of rest) word tail → (parts_of states rest).keyword ≡ word
keyword_found states rest word tail ok h = (keyword_read states (content_of rest) word tail ok (inl h)).0

pub tags_found : (states : Keywords) (rest tags before : List ℕ) → EndsWithTags (content_of rest) tags before → (parts_of states rest).tags ≡ tags
tags_found states rest tags before h = tags_read (content_of rest) tags before (inl h)
