-- The walk over all headings finds the one of a level and a title.
use Rattle.std.proofs.Common.{◌≡◌, ℕ, ◌+◌, ◌<◌, ◌≤◌, Bool, true, false, cond, ◌&&◌, List, [], ◌∷◌, drop, Option, Some, None, Ok, refl, sym, ap, subst, ◌∙◌, arith, inl, inr, add-one}
use Rattle.std.proofs.lemmas.Grind.{common_steps}
use Rattle.std.specs.Prelude.{◌==◌, filter}
use Rattle.std.specs.Option.{IfSome, is_some}
use Rattle.std.specs.Str.{bytes_eq}
use Rattle.std.proofs.lemmas.Bool.{cases_Bool}
use Rattle.std.proofs.lemmas.List.{drop_more}
use Rattle.org_outline.specs.States.{Keywords}
use Rattle.org_outline.specs.Tree.{Document, Placed, no_node, node_at, node_count, nodes}
use Rattle.org_outline.specs.Paths.{or_more, the_only, title_of, titled_nodes}
use Rattle.org_move.specs.Archive.{target_heading}
use Rattle.org_move.specs.Location.{Destination}

-- the numbers from `index` on of headings at the place
abbrev at_level : Destination → Document → ℕ → Bool
at_level to d i = (node_at d i).node.level == to.level

abbrev left : Keywords → Destination → Document → ℕ → List Placed → List ℕ
left states to d index ps = filter (at_level to d) (titled_nodes states to.title index ps)

abbrev pub tested : Keywords → Destination → Document → ℕ → Bool
tested states to d i = (node_at d i).node.level == to.level && bytes_eq (title_of states (node_at d i).node.rest) to.title

-- a walk that has come to `index` and to `found`
pub record Walk (states : Keywords) (to : Destination) (d : Document) (index : ℕ) (found : Option ℕ) : Type 0 where
  pub answer : or_more found (left states to d index (drop index (nodes d))) ≡ the_only (left states to d 0 (nodes d))
  pub within : IfSome found (λ i. i < node_count d)

pub walk_start : (states : Keywords) (to : Destination) (d : Document) → Walk states to d 0 None
walk_start states to d = record { answer = refl; within = tt }

filtered : (p : ℕ → Bool) (b : Bool) (i : ℕ) (is : List ℕ) → filter p (cond b (i ∷ is) is) ≡ cond (p i && b) (i ∷ filter p is) (filter p is)
filtered p true i is = elim (cases_Bool (p i)) [ inl e ↦ rw e refl | inr e ↦ rw e refl ]
filtered p false i is = elim (cases_Bool (p i)) [ inl e ↦ rw e refl | inr e ↦ rw e refl ]

-- one step of the definition
step : (states : Keywords) (to : Destination) (d : Document) (index : ℕ) → index < node_count d
    → left states to d index (drop index (nodes d))
    ≡ cond (tested states to d index) (index ∷ left states to d (index + 1) (drop (index + 1) (nodes d))) (left states to d (index + 1) (drop (index + 1) (nodes d)))
step states to d index lt =
    let more : List Placed = drop (index + 1) (nodes d) in
    let b : Bool = bytes_eq (title_of states (node_at d index).node.rest) to.title in
    ap (left states to d index) (drop_more (nodes d) index no_node lt)
    ∙ ap (λ k. filter (at_level to d) (cond b (index ∷ titled_nodes states to.title k more) (titled_nodes states to.title k more))) (sym (add-one index))
    ∙ filtered (at_level to d) b index (titled_nodes states to.title (index + 1) more)

first_found : (i : ℕ) (more : List ℕ) → the_only (i ∷ more) ≡ or_more (Some i) more
first_found i [] = refl
first_found i (j ∷ more) = refl

none_left : (found : Option ℕ) → or_more found [] ≡ Ok found
none_left None = refl
none_left (Some i) = refl

walk_first : (states : Keywords) (to : Destination) (d : Document) (index n : ℕ) (found : Option ℕ) (r b : Bool) → Walk states to d index found
    → index < n → n ≡ node_count d → r ≡ tested states to d index → r ≡ true → b ≡ is_some found → b ≡ false → Walk states to d (index + 1) (Some index)
walk_first states to d index n (Some i) r b w lt many re is be none = absurd cc
walk_first states to d index n None r b w lt many re is be none = grind (arith, common_steps, left, first_found, step)

pub walk_other : (states : Keywords) (to : Destination) (d : Document) (index n : ℕ) (found : Option ℕ) (r : Bool) → Walk states to d index found
    → index < n → n ≡ node_count d → r ≡ tested states to d index → r ≡ false → Walk states to d (index + 1) found
walk_other states to d index n found r w lt many re is = grind (arith, common_steps, left, or_more, step)

pub walk_end : (states : Keywords) (to : Destination) (d : Document) (index n : ℕ) (found : Option ℕ) → Walk states to d index found → n ≤ index → n ≡ node_count d → (to.level == 0) ≡ false → Ok found ≡ target_heading states to d
walk_end states to d index n found w le many deep = grind (arith, common_steps)

-- the same, as the code says it: i is the number of the heading that it tests
pub test_is : (states : Keywords) (to : Destination) (d : Document) (index i : ℕ) (r : Bool) → i ≡ index → r ≡ tested states to d i → r ≡ tested states to d index
test_is states to d index i r same re = re ∙ ap (tested states to d) same

pub walk_found : (states : Keywords) (to : Destination) (d : Document) (index i n : ℕ) (found : Option ℕ) (r b : Bool) → Walk states to d index found
    → index < n → n ≡ node_count d → i ≡ index → r ≡ tested states to d i → r ≡ true → b ≡ is_some found → b ≡ false → Walk states to d (index + 1) (Some i)
walk_found states to d index i n found r b w lt many same re is be none =
    subst (λ k. Walk states to d (index + 1) (Some k)) (sym same) (walk_first states to d index n found r b w lt many (test_is states to d index i r same re) is be none)
