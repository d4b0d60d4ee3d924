-- Steps of a path, walked over from the last one.
use Rattle.std.proofs.Common.{◌≡◌, ℕ, ◌+◌, ◌-◌, ◌<◌, ◌≤◌, true, false, ◌&&◌, List, [], ◌∷◌, ◌++◌, length, take, get_or, reverse, Option, Some, None, refl, sym, ap, ◌∙◌, arith}
use Rattle.std.proofs.lemmas.Grind.{common_steps}
use Rattle.std.proofs.lemmas.List.{length-reverse, length-take-le, reverse-append, take_more}
use Rattle.org_outline.specs.declared.steps.Step.{Step}
use Rattle.org_outline.specs.States.{Keywords}
use Rattle.org_outline.specs.Tree.{Document, parent_of}
use Rattle.orgs_entries.specs.Paths.{has_step, leads}

-- the first items and one more, from the end
reverse_more : {X : Type 0} (xs : List X) (i : ℕ) (x : X) → i < length xs → x ≡ get_or xs i x → reverse (take (i + 1) xs) ≡ x ∷ reverse (take i xs)
reverse_more xs i x lt e = grind (arith, common_steps, reverse-append, take_more)

pub reverse_last : {X : Type 0} (xs : List X) (left : ℕ) (x : X) → 0 < left → left ≤ length xs → x ≡ get_or xs (left - 1) x → reverse (take left xs) ≡ x ∷ reverse (take (left - 1) xs)
reverse_last xs left x some within e =
    let next : left ≡ left - 1 + 1 = omega arith in
    ap (λ n. reverse (take n xs)) next ∙ reverse_more xs (left - 1) x (omega arith) e

nowhere : (s : Keywords) (d : Document) (steps : List Step) → 0 < length steps → leads s d steps None ≡ false
nowhere s d [] lt = absurd (omega arith)
nowhere s d (step ∷ steps) lt = refl

-- no step leads to what isn't there
pub step_missing : (s : Keywords) (d : Document) (path : List Step) (left : ℕ) (at : Option ℕ) → 0 < left → left ≤ length path → at ≡ None → leads s d (reverse (take left path)) at ≡ false
step_missing s d path left at some within none =
    let long : length (reverse (take left path)) ≡ left = length-reverse (take left path) ∙ length-take-le left path within in
    ap (λ (a : Option ℕ). leads s d (reverse (take left path)) a) none ∙ nowhere s d (reverse (take left path)) (omega (arith, long))

-- a step that a heading has leads on to the heading's parent
pub step_passed : (s : Keywords) (d : Document) (path : List Step) (left i : ℕ) (step : Step) (at up : Option ℕ) → 0 < left → left ≤ length path → step ≡ get_or path (left - 1) step → at ≡ Some i
    → has_step s d step i ≡ true → up ≡ parent_of d i → leads s d (reverse (take left path)) at ≡ leads s d (reverse (take (left - 1) path)) up
step_passed s d path left i step at up some within read is has parent =
    let before = reverse (take (left - 1) path) in
    ap (λ (steps : List Step). leads s d steps at) (reverse_last path left step some within read)
    ∙ ap (λ (a : Option ℕ). leads s d (step ∷ before) a) is
    ∙ ap (λ b. b && leads s d before (parent_of d i)) has
    ∙ ap (leads s d before) (sym parent)
