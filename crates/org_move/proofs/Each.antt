-- Properties put one after another.
use Rattle.std.proofs.Common.{◌≡◌, ℕ, zero, suc, ◌+◌, ◌<◌, List, [], ◌∷◌, ◌++◌, length, take, get_or, Option, Some, None, refl, ap, ◌∙◌, arith, ◌≤◌}
use Rattle.std.proofs.lemmas.Grind.{common_steps}
use Rattle.std.specs.Borrow.{Bor}
use Rattle.std.specs.List.{AllByRecursion}
use Rattle.std.proofs.lemmas.List.{take_more, take_all}
use Rattle.org_meta.specs.Sections.{NodeProperty, SectionParts, put}
use Rattle.org_move.specs.declared.properties.Property.{Property}
use Rattle.org_move.specs.Archive.{named, put_each}
use Rattle.org_move.specs.Given.{IsGood, given, with_given}

-- the properties that one of the code's is
abbrev pub alone : Property → List NodeProperty
alone p = with_given p.name.now p.value []

with-append : (n : List ℕ) (o : Option (Bor (List ℕ))) (xs ys : List NodeProperty) → with_given n o (xs ++ ys) ≡ with_given n o xs ++ ys
with-append n None xs ys = refl
with-append n (Some value) xs ys = refl

given-append : (xs ys : List Property) → given (xs ++ ys) ≡ given xs ++ given ys
given-append [] ys = refl
given-append (x ∷ xs) ys = ap (with_given x.name.now x.value) (given-append xs ys) ∙ with-append x.name.now x.value (given xs) (given ys)

each-append : (xs ys : List NodeProperty) (parts : SectionParts) → put_each (xs ++ ys) parts ≡ put_each ys (put_each xs parts)
each-append [] ys parts = refl
each-append (x ∷ xs) ys parts = each-append xs ys _

first_good : (n : List ℕ) (o : Option (Bor (List ℕ))) (xs : List NodeProperty) → AllByRecursion IsGood (with_given n o xs) → AllByRecursion IsGood (with_given n o []) × AllByRecursion IsGood xs
first_good n None xs all = (tt, all)
first_good n (Some value) xs all = ((all.0, tt), all.1)

pub good_at : (ps : List Property) (k : ℕ) (d : Property) → AllByRecursion IsGood (given ps) → k < length ps → AllByRecursion IsGood (alone (get_or ps k d))
good_at [] k d all lt = absurd (omega (arith, lt))
good_at (p ∷ ps) zero d all lt = (first_good p.name.now p.value (given ps) all).0
good_at (p ∷ ps) (suc k) d all lt = good_at ps k d (first_good p.name.now p.value (given ps) all).1 (omega (arith, lt))

-- one that has a value
pub good_value : (ps : List Property) (k : ℕ) (d : Property) (value : Bor (List ℕ)) → (get_or ps k d).value ≡ Some value → AllByRecursion IsGood (given ps) → k < length ps → IsGood (named (get_or ps k d).name.now value.now)
good_value ps k d value is all lt = (rw is at (good_at ps k d all lt)).0

pub each_more : (ps : List Property) (k : ℕ) (d : Property) (start old new : SectionParts) → old ≡ put_each (given (take k ps)) start → k < length ps
    → new ≡ put_each (alone (get_or ps k d)) old → new ≡ put_each (given (take (k + 1) ps)) start
each_more ps k d start old new old_is lt new_is = grind (arith, common_steps, alone, take_more, given-append, each-append)

-- the same where it has a value, and where it has none
pub value_more : (ps : List Property) (k : ℕ) (d : Property) (value : Bor (List ℕ)) (start old new : SectionParts) → old ≡ put_each (given (take k ps)) start → k < length ps → (get_or ps k d).value ≡ Some value
    → new ≡ put (get_or ps k d).name.now value.now old → new ≡ put_each (given (take (k + 1) ps)) start
value_more ps k d value start old new old_is lt is new_is = each_more ps k d start old new old_is lt (rw is new_is)

pub none_more : (ps : List Property) (k : ℕ) (d : Property) (start old : SectionParts) → old ≡ put_each (given (take k ps)) start → k < length ps → (get_or ps k d).value ≡ None
    → old ≡ put_each (given (take (k + 1) ps)) start
none_more ps k d start old old_is lt is = each_more ps k d start old old old_is lt (rw is refl)

pub each_all : (ps : List Property) (k : ℕ) (start old : SectionParts) → old ≡ put_each (given (take k ps)) start → length ps ≤ k → old ≡ put_each (given ps) start
each_all ps k start old old_is le = old_is ∙ ap (λ qs. put_each (given qs) start) (take_all k ps le)
