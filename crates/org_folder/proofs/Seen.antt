-- Looks at names, one after another, and what they found.
use Rattle.std.proofs.Common.{◌≡◌, ◌<◌, ◌+◌, ◌⊎◌, inl, inr, ⊎_elim, ℕ, List, [], ◌∷◌, ◌++◌, length, get_or, Option, Some, None, sym, ◌∙◌, ap, subst, arith}
use Rattle.std.specs.List.{Contains}
use Rattle.std.proofs.Math.Nat.{eq-or-lt_of_le}
use Rattle.std.proofs.lemmas.List.{get_or_append_left, get_or_push, length-append}
use Rattle.std.proofs.lemmas.List.Elements.{Contains-append_right}
use Rattle.org_folder.specs.Aliases.{AreSeen, IsSeen}
use Rattle.org_folder.specs.Calls.{Event, OnlyLooks}
use Rattle.org_folder.specs.Calls.Event.{Absent, There}
use Rattle.org_folder.specs.declared.aliases.Node.{Node}

seen_on : (old new : List Event) → OnlyLooks old new → (name : List ℕ) (node : Option Node) → IsSeen old name node → IsSeen new name node
seen_on old new looks name None seen =
    subst (λ (l : List Event). Contains l (Absent name)) (sym looks.after) (Contains-append_right looks.calls old (Absent name) seen)
seen_on old new looks name (Some node) seen = (
  seen.0,
  seen.1,
  subst (λ (l : List Event). Contains l (There name node.device node.number seen.0 seen.1)) (sym looks.after) (Contains-append_right looks.calls old (There name node.device node.number seen.0 seen.1) seen.2),
)

before_or_last : (i n m : ℕ) → i < m → m ≡ n + 1 → (i < n) ⊎ (n ≡ i)
before_or_last i n m within is = ⊎_elim (λ same. inr (sym same)) (λ less. inl less) (eq-or-lt_of_le (omega (arith, within, is)))

pub seen_more : (old new : List Event) (names : List (List ℕ)) (nodes : List (Option Node)) (name : List ℕ) (node : Option Node) → AreSeen old names nodes → OnlyLooks old new
    → get_or names (length nodes) [] ≡ name → IsSeen new name node → AreSeen new names (nodes ++ node ∷ [])
seen_more old new names nodes name node seen looks is found i within = ⊎_elim
    (λ before. subst (IsSeen new (get_or names i [])) (sym (get_or_append_left nodes (node ∷ []) None i before)) (seen_on old new looks (get_or names i []) (get_or nodes i None) (seen i before)))
    (λ last. subst (IsSeen new (get_or names i [])) (sym (get_or_push nodes node None i last))
    (subst (λ (n : List ℕ). IsSeen new n node) (sym is ∙ ap (λ k. get_or names k []) last) found))
    (before_or_last i (length nodes) (length (nodes ++ node ∷ [])) within (length-append nodes (node ∷ [])))
