-- Tags on the way from a heading upward.
use Rattle.std.proofs.Common.{◌≡◌, ℕ, suc, ◌+◌, ◌<◌, ◌≤◌, Bool, true, false, ◌||◌, List, [], ◌∷◌, ◌++◌, Option, Some, None, IfSome, refl, sym, ap, ◌∙◌, arith}
use Rattle.std.specs.List.{list_any}
use Rattle.std.specs.Option.{option_map_or}
use Rattle.std.proofs.lemmas.Bool.{or_from, or_left, or_right}
use Rattle.std.proofs.lemmas.List.Folds.{list_any-append}
use Rattle.org_outline.specs.Numbers.{ancestors_of}
use Rattle.org_outline.specs.Tree.{Document, node_count, parent_of}
use Rattle.org_outline.proofs.Family.{parent_before}
use Rattle.org_move.proofs.Above.{ancestors_are, way_over}

or_none : (b : Bool) → (b || false) ≡ b
or_none true = refl
or_none false = refl

-- one of a heading and those above it passes, where it does itself
pub own_passes : (p : ℕ → Bool) (d : Document) (at : ℕ) (next : Option ℕ) → next ≡ Some at → p at ≡ true → list_any p (way_over d next) ≡ true
own_passes p d at next is passes =
    ap (λ (o : Option ℕ). list_any p (way_over d o)) is
    ∙ list_any-append p (ancestors_of d at) (at ∷ [])
    ∙ or_right (list_any p (ancestors_of d at)) (p at || false) (or_left (p at) false passes)

-- else it is asked of those above it
pub others_pass : (p : ℕ → Bool) (d : Document) (at : ℕ) (next up : Option ℕ) → next ≡ Some at → p at ≡ false → at < node_count d → up ≡ parent_of d at
    → list_any p (way_over d next) ≡ list_any p (way_over d up)
others_pass p d at next up is fails lt parent =
    ap (λ (o : Option ℕ). list_any p (way_over d o)) is
    ∙ list_any-append p (ancestors_of d at) (at ∷ [])
    ∙ ap (λ b. list_any p (ancestors_of d at) || (b || false)) fails
    ∙ or_none (list_any p (ancestors_of d at))
    ∙ ap (list_any p) (ancestors_are d at up lt parent)

-- above the top level there is none
pub none_passes : (p : ℕ → Bool) (d : Document) (next : Option ℕ) → next ≡ None → list_any p (way_over d next) ≡ false
none_passes p d next is = ap (λ (o : Option ℕ). list_any p (way_over d o)) is

-- the way up gets shorter
pub nearer : (d : Document) (at : ℕ) (next up : Option ℕ) → next ≡ Some at → up ≡ parent_of d at → option_map_or suc up 0 < option_map_or suc next 0
nearer d at None up is parent = absurd cc
nearer d at (Some k) None is parent = omega arith
nearer d at (Some k) (Some p) is parent = let same : k ≡ at = cc in omega (arith, parent_before at p d (sym parent), same)
