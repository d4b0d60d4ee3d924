-- Titles of a path, walked over from the last one.
use Rattle.std.proofs.Common.{◌≡◌, ℕ, zero, suc, ◌+◌, ◌-◌, ◌<◌, ◌≤◌, Bool, true, false, ◌&&◌, ◌==◌, nat_eq, nat_lt, List, [], ◌∷◌, length, take, get_or, reverse, Option, Some, None, Result, Ok, Err, IfOk, refl, sym, ap, ◌∙◌, arith}
use Rattle.std.specs.List.{starts_with}
use Rattle.std.specs.Str.{bytes_eq}
use Rattle.std.proofs.lemmas.List.{length-reverse, length-take-le, take_all}
use Rattle.std.proofs.lemmas.Bool.{and_right}
use Rattle.std.proofs.lemmas.Bool.Decides.{nat_tests}
use Rattle.org_outline.specs.States.{Keywords}
use Rattle.org_outline.specs.Tree.{Document, parent_of}
use Rattle.orgs_entries.proofs.Walks.{reverse_last}
use Rattle.orgs_names.specs.Ways.{ends_above, ends_path, folded_at}

nowhere : (s : Keywords) (d : Document) (titles : List (List ℕ)) → 0 < length titles → ends_above s d titles None ≡ false
nowhere s d [] lt = absurd (omega arith)
nowhere s d (title ∷ titles) lt = refl

-- a title before which others stand is the whole one
whole : (s : Keywords) (d : Document) (title : List ℕ) (before : List (List ℕ)) (i : ℕ) → 0 < length before
    → ends_above s d (title ∷ before) (Some i) ≡ (bytes_eq (folded_at s d i) title && ends_above s d before (parent_of d i))
whole s d title [] i lt = absurd (omega arith)
whole s d title (other ∷ before) i lt = refl

long : (titles : List (List ℕ)) (n : ℕ) → n ≤ length titles → length (reverse (take n titles)) ≡ n
long titles n within = length-reverse (take n titles) ∙ length-take-le n titles within

-- what isn't there has no title
pub title_missing : (s : Keywords) (d : Document) (titles : List (List ℕ)) (left : ℕ) (up : Option ℕ) → 0 < left → left ≤ length titles → up ≡ None → ends_above s d (reverse (take left titles)) up ≡ false
title_missing s d titles left up some within none =
    ap (λ (u : Option ℕ). ends_above s d (reverse (take left titles)) u) none ∙ nowhere s d (reverse (take left titles)) (omega (arith, long titles left within))

-- one title less, where the heading's is the same or isn't
title_step : (s : Keywords) (d : Document) (titles : List (List ℕ)) (left i : ℕ) (title : List ℕ) (up : Option ℕ) → 1 < left → left ≤ length titles → title ≡ get_or titles (left - 1) title → up ≡ Some i
    → ends_above s d (reverse (take left titles)) up ≡ (bytes_eq (folded_at s d i) title && ends_above s d (reverse (take (left - 1) titles)) (parent_of d i))
title_step s d titles left i title up some within read is =
    let before = reverse (take (left - 1) titles) in
    ap (λ (ts : List (List ℕ)). ends_above s d ts up) (reverse_last titles left title (omega arith) within read)
    ∙ ap (λ (u : Option ℕ). ends_above s d (title ∷ before) u) is
    ∙ whole s d title before i (omega (arith, long titles (left - 1) (omega arith)))

pub title_passed : (s : Keywords) (d : Document) (titles : List (List ℕ)) (left i : ℕ) (title : List ℕ) (up next : Option ℕ) → 1 < left → left ≤ length titles → title ≡ get_or titles (left - 1) title → up ≡ Some i
    → bytes_eq (folded_at s d i) title ≡ true → next ≡ parent_of d i → ends_above s d (reverse (take left titles)) up ≡ ends_above s d (reverse (take (left - 1) titles)) next
title_passed s d titles left i title up next some within read is same parent =
    title_step s d titles left i title up some within read is
    ∙ ap (λ b. b && ends_above s d (reverse (take (left - 1) titles)) (parent_of d i)) same
    ∙ ap (ends_above s d (reverse (take (left - 1) titles))) (sym parent)

pub title_other : (s : Keywords) (d : Document) (titles : List (List ℕ)) (left i : ℕ) (title : List ℕ) (up : Option ℕ) → 1 < left → left ≤ length titles → title ≡ get_or titles (left - 1) title → up ≡ Some i
    → bytes_eq (folded_at s d i) title ≡ false → ends_above s d (reverse (take left titles)) up ≡ false
title_other s d titles left i title up some within read is other =
    title_step s d titles left i title up some within read is
    ∙ ap (λ b. b && ends_above s d (reverse (take (left - 1) titles)) (parent_of d i)) other

-- ---- the whole path

short : (s : Keywords) (d : Document) (titles : List (List ℕ)) (i : ℕ) → length titles < 2 → ends_path s d titles i ≡ false
short s d [] i lt = refl
short s d (title ∷ []) i lt = refl
short s d (title ∷ (other ∷ titles)) i lt = absurd (omega arith)

pub path_short : (s : Keywords) (d : Document) (titles : List (List ℕ)) (i : ℕ) → length titles < 2 → ends_path s d (reverse titles) i ≡ false
path_short s d titles i lt = short s d (reverse titles) i (omega (arith, length-reverse titles))

begun : (s : Keywords) (d : Document) (title : List ℕ) (before : List (List ℕ)) (i : ℕ) → 0 < length before
    → ends_path s d (title ∷ before) i ≡ (nat_lt 0 (length title) && starts_with nat_eq (folded_at s d i) title && ends_above s d before (parent_of d i))
begun s d title [] i lt = absurd (omega arith)
begun s d title (other ∷ before) i lt = refl

pub path_is : (s : Keywords) (d : Document) (titles : List (List ℕ)) (i last : ℕ) (title : List ℕ) → 2 ≤ length titles → last ≡ length titles - 1 → title ≡ get_or titles last title
    → ends_path s d (reverse titles) i ≡ (nat_lt 0 (length title) && starts_with nat_eq (folded_at s d i) title && ends_above s d (reverse (take last titles)) (parent_of d i))
path_is s d titles i last title some at read =
    let n = length titles in
    let all : take n titles ≡ titles = take_all n titles (omega arith) in
    let own : title ≡ get_or titles (n - 1) title = read ∙ ap (λ k. get_or titles k title) at in
    ap (λ (ts : List (List ℕ)). ends_path s d (reverse ts) i) (sym all)
    ∙ ap (λ (ts : List (List ℕ)). ends_path s d ts i) (reverse_last titles n title (omega arith) (omega arith) own)
    ∙ ap (λ k. ends_path s d (title ∷ reverse (take k titles)) i) (sym at)
    ∙ begun s d title (reverse (take last titles)) i (omega (arith, long titles last (omega (arith, at)), at))

-- where the last title begins the heading's or doesn't
pub path_other : (s : Keywords) (d : Document) (titles : List (List ℕ)) (i last : ℕ) (title : List ℕ) → 2 ≤ length titles → last ≡ length titles - 1 → title ≡ get_or titles last title
    → starts_with nat_eq (folded_at s d i) title ≡ false → ends_path s d (reverse titles) i ≡ false
path_other s d titles i last title some at read other =
    path_is s d titles i last title some at read
    ∙ ap (λ b. nat_lt 0 (length title) && b && ends_above s d (reverse (take last titles)) (parent_of d i)) other
    ∙ ap (λ b. b && ends_above s d (reverse (take last titles)) (parent_of d i)) (and_right (nat_lt 0 (length title)) false refl)

pub path_goes_on : (s : Keywords) (d : Document) (titles : List (List ℕ)) (i last : ℕ) (title : List ℕ) → 2 ≤ length titles → last ≡ length titles - 1 → title ≡ get_or titles last title → 0 < length title
    → starts_with nat_eq (folded_at s d i) title ≡ true → ends_path s d (reverse titles) i ≡ ends_above s d (reverse (take last titles)) (parent_of d i)
path_goes_on s d titles i last title some at read full begins =
    let full_is : nat_lt 0 (length title) ≡ true = grind (arith, nat_tests) in
    path_is s d titles i last title some at read
    ∙ ap (λ b. b && starts_with nat_eq (folded_at s d i) title && ends_above s d (reverse (take last titles)) (parent_of d i)) full_is
    ∙ ap (λ b. b && ends_above s d (reverse (take last titles)) (parent_of d i)) begins

-- a text that isn't empty
pub not_empty : (text asked : List ℕ) → text ≡ asked → (empty : Bool) → empty ≡ (length text == 0) → empty ≡ false → 0 < length asked
not_empty text asked same empty is full = let no : (length text == 0) ≡ false = sym is ∙ full in grind (arith, nat_tests)

-- an answer, as it is answered
pub ends_result : {E : Type 0} (r : Result Bool E) (x y : Bool) → IfOk r (λ ends. ends ≡ x) → x ≡ y → IfOk r (λ ends. ends ≡ y)
ends_result (Ok ends) x y is same = is ∙ same
ends_result (Err e) x y is same = tt
