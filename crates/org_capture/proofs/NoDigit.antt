-- A title that doesn't begin with a digit has no key.
use Rattle.std.proofs.Common.{rules, arith, ◌≡◌, Bool, true, false, ◌&&◌, eqb, List, ℕ, [], ◌∷◌, length, take, drop, None, refl}
use Rattle.std.specs.Prelude.{slice_index}
use Rattle.std.specs.Char.{is_ascii_digit}
use Rattle.std.specs.declared.cmp.Ordering.{Ordering}
use Rattle.std.proofs.lemmas.Bool.{cases_Bool, eqb-true}
use Rattle.org_outline.specs.States.{Keywords}
use Rattle.org_outline.specs.Tree.{Node}
use Rattle.org_outline.specs.Paths.{title_of}
use Rattle.org_capture.specs.declared.dates.DateKind.{DateKind}
use Rattle.org_capture.specs.declared.dates.DateKind.TheVariants.{Year, Month, Day}
use Rattle.org_capture.specs.Dates.{key_of, is_key_from, may_follow, is_dated}

not_key : (b : ℕ) (bs : List ℕ) → is_ascii_digit b ≡ false → is_key_from 0 (b ∷ bs) ≡ false
not_key b bs plain = rw plain refl

no_third : (a b c : Bool) → b ≡ false → (a && b && c) ≡ false
no_third true true c e = absurd cc
no_third true false c e = refl
no_third false b c e = refl

no_key : (kind : DateKind) (title : List ℕ) → is_ascii_digit (slice_index title 0) ≡ false → key_of kind title ≡ None
no_key Year [] plain = refl
no_key Month [] plain = refl
no_key Day [] plain = refl
no_key Year (b ∷ t) plain = rw (no_third (eqb (length (take 4 (b ∷ t))) 4) (is_key_from 0 (take 4 (b ∷ t))) (may_follow Year (drop 4 (b ∷ t))) (not_key b (take 3 t) plain)) refl
no_key Month (b ∷ t) plain = rw (no_third (eqb (length (take 7 (b ∷ t))) 7) (is_key_from 0 (take 7 (b ∷ t))) (may_follow Month (drop 7 (b ∷ t))) (not_key b (take 6 t) plain)) refl
no_key Day (b ∷ t) plain = rw (no_third (eqb (length (take 10 (b ∷ t))) 10) (is_key_from 0 (take 10 (b ∷ t))) (may_follow Day (drop 10 (b ∷ t))) (not_key b (take 9 t) plain)) refl

pub not_dated : (states : Keywords) (level : ℕ) (kind : DateKind) (key : List ℕ) (wanted : Ordering) (node : Node) → (node.level ≡ level → is_ascii_digit (slice_index (title_of states node.rest) 0) ≡ false)
    → is_dated states level kind key wanted node ≡ false
not_dated states level kind key wanted node plain = search (rules, arith, cases_Bool, no_key, eqb-true)
