-- A node's ancestors, and the values of properties on the way to it.
use Rattle.std.proofs.Common.{◌≡◌, ℕ, zero, suc, ◌+◌, ◌-◌, ◌<◌, ◌≤◌, ltb, List, [], ◌∷◌, ◌++◌, map, reverse, append_assoc, Option, Some, None, refl, sym, ap, ◌∙◌, arith, inl, inr}
use Rattle.std.proofs.lemmas.Grind.{common_steps}
use Rattle.std.specs.Borrow.{Bor}
use Rattle.std.proofs.lemmas.List.{append-nil, map-append, reverse-append}
use Rattle.std.specs.Option.{ForSome, IfSome, option_or}
use Rattle.std.proofs.lemmas.Bool.{cases_Bool, ltb-false, ltb-true}
use Rattle.org_outline.specs.Tree.{Forest, Empty, Tree, Document, node_count, parent_of, total}
use Rattle.org_outline.specs.Numbers.{ancestors_of, way_to}
use Rattle.org_outline.proofs.ByNumber.{count-is, parent-is, up_of}
use Rattle.org_outline.proofs.Family.{way_step}
use Rattle.org_outline.proofs.Found.{some_holds}
use Rattle.org_move.specs.Inherited.{last_value, nearest, own_value}

-- ---- the way

-- a node's ancestors, and the node
abbrev pub way_over : Document → Option ℕ → List ℕ
way_over d None = []
way_over d (Some i) = ancestors_of d i ++ i ∷ []

-- below a node each has a parent
has_parent : (u k i : ℕ) (f : Forest) → i < total f → up_of (Some u) k i f ≡ None → ⊥
has_parent u k i Empty lt none = absurd (omega arith)
has_parent u k zero (Tree n r s kids later) lt none = absurd cc
has_parent u k (suc i) (Tree n r s kids later) lt none =
    elim (cases_Bool (ltb i (total kids))) [
      | inl e ↦ let inside : i < total kids = ltb-true _ _ e in has_parent k (suc k) i kids inside (rw e at none)
      | inr e ↦ let past : total kids ≤ i = ltb-false _ _ e in has_parent u (suc k + total kids) (i - total kids) later (omega (arith, lt, past)) (rw e at none)
    ]

root_way : (k i : ℕ) (f : Forest) → i < total f → up_of None k i f ≡ None → way_to i k f ≡ []
root_way k i Empty lt none = refl
root_way k zero (Tree n r s kids later) lt none = refl
root_way k (suc i) (Tree n r s kids later) lt none =
    elim (cases_Bool (ltb i (total kids))) [
      | inl e ↦ let inside : i < total kids = ltb-true _ _ e in absurd (has_parent k (suc k) i kids inside (rw e at none))
      | inr e ↦
          let past : total kids ≤ i = ltb-false _ _ e in
          rw e (root_way (suc k + total kids) (i - total kids) later (omega (arith, lt, past)) (rw e at none))
    ]

-- the ancestors of a node are the way to its parent
pub ancestors_are : (d : Document) (i : ℕ) (up : Option ℕ) → i < node_count d → up ≡ parent_of d i → ancestors_of d i ≡ way_over d up
ancestors_are d i None lt is = root_way 0 i d.forest (omega (arith, count-is d)) (sym (parent-is d i) ∙ sym is)
ancestors_are d i (Some p) lt is = way_step i p d (sym is)

pub for_some : (P : ℕ → Type 0) (o : Option ℕ) → IfSome o P → ForSome o P
for_some P None holds = λ i is. absurd cc
for_some P (Some k) holds = some_holds P k holds

-- ---- values on it

or_none : {X : Type 0} (o : Option X) → option_or o None ≡ o
or_none None = refl
or_none (Some x) = refl

or_or : {X : Type 0} (a b c : Option X) → option_or (option_or a b) c ≡ option_or a (option_or b c)
or_or None b c = refl
or_or (Some x) b c = refl

pub last_value-behind : (name : List ℕ) (d : Document) (is : List ℕ) (i : ℕ) → last_value name d (is ++ i ∷ []) ≡ option_or (own_value name d i) (last_value name d is)
last_value-behind name d [] i = sym (or_none (own_value name d i))
last_value-behind name d (j ∷ is) i =
    ap (λ o. option_or o (own_value name d j)) (last_value-behind name d is i) ∙ or_or (own_value name d i) (last_value name d is) (own_value name d j)

-- a walk from a node up that has come to `next` and found no value
pub record Walk (d : Document) (name : List ℕ) (node : ℕ) (next : Option ℕ) : Type 0 where
  pub within : ForSome next (λ i. i < node_count d)
  pub value : nearest name d node ≡ last_value name d (way_over d next)

pub walk_start : (d : Document) (name : List ℕ) (node : ℕ) → node < node_count d → Walk d name node (Some node)
walk_start d name node lt = record { within = λ i is. let same : node ≡ i = cc in omega (arith, same, lt); value = refl }

pub walk_found : (d : Document) (name value : List ℕ) (node at : ℕ) (next : Option ℕ) → Walk d name node next → next ≡ Some at → Some value ≡ own_value name d at → Some value ≡ nearest name d node
walk_found d name value node at next w is found = grind (arith, common_steps, last_value-behind)

pub walk_next : (d : Document) (name : List ℕ) (node at : ℕ) (next up : Option ℕ) → Walk d name node next → next ≡ Some at → None ≡ own_value name d at
    → up ≡ parent_of d at → IfSome up (λ i. i < node_count d) → Walk d name node up
walk_next d name node at next up w is none parent in_d = grind (arith, common_steps, last_value-behind, for_some, ancestors_are)

pub walk_end : (d : Document) (name : List ℕ) (node : ℕ) (next : Option ℕ) → Walk d name node next → next ≡ None → None ≡ nearest name d node
walk_end d name node next w is = sym (w.value ∙ ap (λ o. last_value name d (way_over d o)) is)

-- ---- what the ancestors have

-- a walk from a node up that has come to `next`, and has read `found` of the ancestors below it,
-- the lowest first
pub record Climb (d : Document) (f : ℕ → List ℕ) (node : ℕ) (next : Option ℕ) (found : List (Bor (List ℕ))) : Type 0 where
  pub within : ForSome next (λ i. i < node_count d)
  pub same : map f (ancestors_of d node) ≡ map f (way_over d next) ++ map (λ (text : Bor (List ℕ)). text.now) (reverse found)

pub climb_start : (d : Document) (f : ℕ → List ℕ) (node : ℕ) (next : Option ℕ) (found : List (Bor (List ℕ))) → node < node_count d → next ≡ parent_of d node → IfSome next (λ i. i < node_count d)
    → found ≡ [] → Climb d f node next found
climb_start d f node next found lt parent in_d none = grind (arith, common_steps, for_some, ancestors_are, append-nil)

pub climb_next : (d : Document) (f : ℕ → List ℕ) (node at : ℕ) (next up : Option ℕ) (found new : List (Bor (List ℕ))) (text : Bor (List ℕ)) → Climb d f node next found → next ≡ Some at
    → text.now ≡ f at → new ≡ found ++ text ∷ [] → up ≡ parent_of d at → IfSome up (λ i. i < node_count d) → Climb d f node up new
climb_next d f node at next up found new text c is read new_is parent in_d = grind (arith, common_steps, reverse-append, map-append, ancestors_are, for_some, append_assoc)
