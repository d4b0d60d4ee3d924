-- Texts joined, and tags each once.
use Rattle.std.proofs.Common.{◌≡◌, ℕ, ◌+◌, ◌-◌, ◌<◌, ◌≤◌, true, false, Bool, eqb, ◌||◌, List, [], ◌∷◌, ◌++◌, length, take, get_or, map, append_assoc, refl, sym, ap, ◌∙◌, arith, inl, inr, length-append, Some}
use Rattle.std.proofs.lemmas.Grind.{common_steps}
use Rattle.std.specs.Borrow.{Bor}
use Rattle.std.specs.List.{flat_map, join_with_byte, list_any, slice_split}
use Rattle.std.specs.Str.{bytes_eq}
use Rattle.std.proofs.lemmas.Bool.{cases_Bool}
use Rattle.std.proofs.lemmas.List.{append-nil, map-append, take_all, take_at, take_more}
use Rattle.org_move.specs.Inherited.{first_ones, is_colon, nonempty_only, tag_list, with_first}
use Rattle.org_move.specs.Archive.{joined_if_any}

abbrev pub read : Bor (List ℕ) → List ℕ
read text = text.now

-- the first k texts
abbrev pub firsts : List (Bor (List ℕ)) → ℕ → List (List ℕ)
firsts texts k = map read (take k texts)

one_more : (texts : List (Bor (List ℕ))) (k : ℕ) (d : Bor (List ℕ)) → k < length texts → firsts texts (k + 1) ≡ firsts texts k ++ (get_or texts k d).now ∷ []
one_more texts k d lt = ap (map read) (take_more texts k d lt) ∙ map-append read (take k texts) (get_or texts k d ∷ [])

-- ---- joined

-- each with the byte after it
abbrev pub ended : ℕ → List (List ℕ) → List ℕ
ended b [] = []
ended b (x ∷ xs) = x ++ b ∷ ended b xs

ended-append : (b : ℕ) (xs : List (List ℕ)) (x : List ℕ) → ended b (xs ++ x ∷ []) ≡ ended b xs ++ (x ++ b ∷ [])
ended-append b [] x = refl
ended-append b (y ∷ xs) x = ap (λ (t : List ℕ). y ++ b ∷ t) (ended-append b xs x) ∙ sym (append_assoc y (b ∷ ended b xs) (x ++ b ∷ []))

ended-joined : (b : ℕ) (x : List ℕ) (xs : List (List ℕ)) → ended b (x ∷ xs) ≡ join_with_byte b (x ∷ xs) ++ b ∷ []
ended-joined b x [] = refl
ended-joined b x (y ∷ xs) = ap (λ (t : List ℕ). x ++ b ∷ t) (ended-joined b y xs) ∙ sym (append_assoc x (b ∷ join_with_byte b (y ∷ xs)) (b ∷ []))

without_last : (b : ℕ) (xs : List (List ℕ)) → take (length (ended b xs) - 1) (ended b xs) ≡ join_with_byte b xs
without_last b [] = refl
without_last b (x ∷ xs) = grind (arith, common_steps, ended-joined, ended, length-append, take_at)

pub joined_more : (b : ℕ) (texts : List (Bor (List ℕ))) (k : ℕ) (d : Bor (List ℕ)) (made new more : List ℕ) → made ≡ ended b (firsts texts k) → k < length texts
    → new ≡ made ++ (get_or texts k d).now → more ≡ new ++ b ∷ [] → more ≡ ended b (firsts texts (k + 1))
joined_more b texts k d made new more made_is lt new_is more_is = grind (arith, common_steps, append_assoc, ended, ended-append, one_more)

pub joined_all : (b : ℕ) (texts : List (Bor (List ℕ))) (k size : ℕ) (made new : List ℕ) → made ≡ ended b (firsts texts k) → length texts ≤ k → length made ≡ size
    → new ≡ take (size - 1) made → new ≡ join_with_byte b (map read texts)
joined_all b texts k size made new made_is le size_is new_is = grind (arith, common_steps, read, take_all, ended, without_last)

pub some_joined : (b : ℕ) (texts : List (Bor (List ℕ))) (made : List ℕ) → eqb (length texts) 0 ≡ false → made ≡ join_with_byte b (map read texts) → Some made ≡ joined_if_any b (map read texts)
some_joined b [] made some is = absurd cc
some_joined b (text ∷ texts) made some is = ap (λ (m : List ℕ). Some m) is

-- ---- each once

first-append : (seen xs ys : List (List ℕ)) → first_ones seen (xs ++ ys) ≡ first_ones seen xs ++ first_ones (seen ++ first_ones seen xs) ys
first-append seen [] ys = ap (λ s. first_ones s ys) (sym (append-nil seen))
first-append seen (x ∷ xs) ys = grind (arith, common_steps, first-append seen xs ys, first-append (seen ++ x ∷ []) xs ys)

pub first_more : (seen xs ys old new : List (List ℕ)) → old ≡ with_first seen xs → new ≡ with_first old ys → new ≡ with_first seen (xs ++ ys)
first_more seen xs ys old new old_is new_is =
    new_is ∙ ap (λ old. with_first old ys) old_is ∙ append_assoc seen (first_ones seen xs) (first_ones (with_first seen xs) ys) ∙ ap (λ (zs : List (List ℕ)). seen ++ zs) (sym (first-append seen xs ys))

any_read : (found : List (Bor (List ℕ))) (x : List ℕ) → list_any (λ (y : Bor (List ℕ)). bytes_eq y.now x) found ≡ list_any (λ y. bytes_eq y x) (map read found)
any_read [] x = refl
any_read (y ∷ found) x = ap (λ b. bytes_eq y.now x || b) (any_read found x)

-- one tag, unless it is empty or is there
pub tag_empty : (old : List (List ℕ)) (tag : List ℕ) → eqb (length tag) 0 ≡ true → old ≡ with_first old (nonempty_only (tag ∷ []))
tag_empty old tag none = rw none (sym (append-nil old))

tag_there : (old : List (List ℕ)) (tag : List ℕ) → list_any (λ y. bytes_eq y tag) old ≡ true → old ≡ with_first old (nonempty_only (tag ∷ []))
tag_there old tag there = elim (cases_Bool (eqb (length tag) 0)) [ inl e ↦ tag_empty old tag e | inr e ↦ rw (e, there) (sym (append-nil old)) ]

tag_new : (old : List (List ℕ)) (tag : List ℕ) → eqb (length tag) 0 ≡ false → list_any (λ y. bytes_eq y tag) old ≡ false → old ++ tag ∷ [] ≡ with_first old (nonempty_only (tag ∷ []))
tag_new old tag some new = rw (some, new) refl

pub tag_passed : (found items : List (Bor (List ℕ))) (tag : List ℕ) (b : Bool) → items ≡ found → b ≡ list_any (λ (y : Bor (List ℕ)). bytes_eq y.now tag) items → b ≡ true
    → map read found ≡ with_first (map read found) (nonempty_only (tag ∷ []))
tag_passed found items tag b same is there =
    tag_there (map read found) tag (ap (λ is. list_any (λ y. bytes_eq y tag) (map read is)) (sym same) ∙ sym (any_read items tag) ∙ sym is ∙ there)

pub tag_pushed : (found items new : List (Bor (List ℕ))) (tag : Bor (List ℕ)) (b : Bool) → eqb (length tag.now) 0 ≡ false → items ≡ found → b ≡ list_any (λ (y : Bor (List ℕ)). bytes_eq y.now tag.now) items → b ≡ false
    → new ≡ found ++ tag ∷ [] → map read new ≡ with_first (map read found) (nonempty_only (tag.now ∷ []))
tag_pushed found items new tag b some same is absent new_is =
    ap (map read) new_is ∙ map-append read found (tag ∷ [])
    ∙ tag_new (map read found) tag.now some (ap (λ is. list_any (λ y. bytes_eq y tag.now) (map read is)) (sym same) ∙ sym (any_read items tag.now) ∙ sym is ∙ absent)

filter-one : (xs : List (List ℕ)) (x : List ℕ) → nonempty_only (xs ++ x ∷ []) ≡ nonempty_only xs ++ nonempty_only (x ∷ [])
filter-one [] x = refl
filter-one (y ∷ xs) x = elim (cases_Bool (eqb (length y) 0)) [ inl e ↦ rw e (filter-one xs x) | inr e ↦ rw e (ap (λ zs. y ∷ zs) (filter-one xs x)) ]

lists-one : (xs : List (List ℕ)) (x : List ℕ) → flat_map tag_list (xs ++ x ∷ []) ≡ flat_map tag_list xs ++ tag_list x
lists-one [] x = append-nil (tag_list x)
lists-one (y ∷ xs) x = ap (λ (zs : List (List ℕ)). tag_list y ++ zs) (lists-one xs x) ∙ sym (append_assoc (tag_list y) (flat_map tag_list xs) (tag_list x))

pub tags_more : (first old new seen : List (Bor (List ℕ))) (tag : Bor (List ℕ)) → map read old ≡ with_first (map read first) (nonempty_only (map read seen))
    → map read new ≡ with_first (map read old) (nonempty_only (tag.now ∷ [])) → map read new ≡ with_first (map read first) (nonempty_only (map read (seen ++ tag ∷ [])))
tags_more first old new seen tag w new_is = grind (arith, common_steps, first_more, read, filter-one, map-append)

pub tags_end : (first old seen : List (Bor (List ℕ))) (tags : List ℕ) → map read old ≡ with_first (map read first) (nonempty_only (map read seen))
    → map read seen ≡ slice_split is_colon tags → map read old ≡ with_first (map read first) (tag_list tags)
tags_end first old seen tags w is = w ∙ ap (λ ts. with_first (map read first) (nonempty_only ts)) is

-- and of all headings
pub lists_more : (old new all : List (Bor (List ℕ))) (k : ℕ) (d : Bor (List ℕ)) → map read old ≡ first_ones [] (flat_map tag_list (firsts all k)) → k < length all
    → map read new ≡ with_first (map read old) (tag_list (get_or all k d).now) → map read new ≡ first_ones [] (flat_map tag_list (firsts all (k + 1)))
lists_more old new all k d w lt new_is =
    let tags : List ℕ = (get_or all k d).now in
    first_more [] (flat_map tag_list (firsts all k)) (tag_list tags) (map read old) (map read new) w new_is
    ∙ ap (first_ones []) (sym (lists-one (firsts all k) tags) ∙ ap (flat_map tag_list) (sym (one_more all k d lt)))
