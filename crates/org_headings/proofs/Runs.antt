-- Lines that are asked together whether they may have a title.
use Rattle.std.proofs.Common.{◌≡◌, ℕ, ◌+◌, ◌<◌, ◌≤◌, Bool, true, false, not, ◌||◌, List, ◌++◌, length, drop, take, get_or, refl, sym, ap, ◌∙◌, arith}
use Rattle.std.proofs.lemmas.Grind.{common_steps}
use Rattle.std.specs.List.{prefix_len}
use Rattle.std.proofs.lemmas.List.{take_more, take-append-drop, drop-drop, length-take, length-drop}
use Rattle.std.proofs.lemmas.List.Folds.{prefix_len-append}
use Rattle.org_headings.specs.declared.beginnings.Beginnings.{Beginnings}
use Rattle.org_headings.specs.declared.beginnings.Sought.{Sought}
use Rattle.org_headings.specs.Beginnings.{may_have}

abbrev pub cannot : Sought → Beginnings → Bool
cannot title line = not (may_have title line)

neither : (a b : Bool) → (a || b) ≡ false → (a ≡ false) × (b ≡ false)
neither true b e = absurd cc
neither false b e = (refl, e)

all_then : (p : Beginnings → Bool) (xs ys : List Beginnings) → prefix_len p xs ≡ length xs → prefix_len p (xs ++ ys) ≡ length xs + prefix_len p ys
all_then p xs ys all = grind (arith, common_steps, prefix_len-append)

pub one_more_passed : (title : Sought) (lines : List Beginnings) (i : ℕ) (d : Beginnings) (any r : Bool) → (any ≡ false → prefix_len (cannot title) (take i lines) ≡ i) → i < length lines
    → r ≡ may_have title (get_or lines i d) → (any || r) ≡ false → prefix_len (cannot title) (take (i + 1) lines) ≡ i + 1
one_more_passed title lines i d any r before lt re fails = grind (arith, common_steps, neither, length-take, may_have, all_then, take_more)

-- the code asks the `m` lines from `count` on, which are n
pub run_passed : (title : Sought) (lines : List Beginnings) (count n m : ℕ) (any : Bool) → count + prefix_len (cannot title) (drop count lines) ≡ prefix_len (cannot title) lines → count + n ≤ length lines
    → m ≡ n → any ≡ false → (any ≡ false → prefix_len (cannot title) (take m (drop count lines)) ≡ length (take m (drop count lines)))
    → count + n + prefix_len (cannot title) (drop (count + n) lines) ≡ prefix_len (cannot title) lines
run_passed title lines count n m any before within me none asked =
    let p = cannot title in
    let left = drop count lines in
    let run : prefix_len p (take n left) ≡ length (take n left) = rw me at asked none in
    let size : length (take n left) ≡ n = omega (arith, within, length-take n left, length-drop count lines) in
    let split : prefix_len p left ≡ n + prefix_len p (drop n left) = ap (prefix_len p) (sym (take-append-drop n left)) ∙ all_then p (take n left) (drop n left) run ∙ ap (λ k. k + prefix_len p (drop n left)) size in
    let there : prefix_len p (drop n left) ≡ prefix_len p (drop (count + n) lines) = ap (prefix_len p) (drop-drop n count lines) in
    omega (arith, before, split, there)
