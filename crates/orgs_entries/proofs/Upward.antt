-- The last heading with a lower level, found by going upward over the parents of those before.
use Rattle.std.proofs.Common.{◌≡◌, ℕ, zero, suc, ◌+◌, ◌<◌, ◌≤◌, true, false, ltb, List, length, take, get_or, Option, Some, None, IfSome, refl, sym, ap, ◌∙◌, arith, inl, inr}
use Rattle.std.specs.List.{range_with_len}
use Rattle.std.specs.Prelude.{map}
use Rattle.std.proofs.lemmas.Grind.{common_steps}
use Rattle.std.proofs.lemmas.Bool.{cases_Bool}
use Rattle.std.proofs.lemmas.Bool.Decides.{nat_tests}
use Rattle.std.proofs.lemmas.List.{get_or_default}
use Rattle.std.proofs.lemmas.List.FromFn.{get_or-map-range_with_len}
use Rattle.org_headings.specs.declared.heads.Heading.{Heading}
use Rattle.org_headings.specs.Headings.{last_above}
use Rattle.org_headings.proofs.Levels.{last_above-more}
use Rattle.org_outline.specs.Outline.{heading_of, node_headings}
use Rattle.org_outline.specs.Tree.{node_at, node_count, parent_of, tree}
use Rattle.org_outline.proofs.Nodes.{heading_is, headings_many}
use Rattle.org_outline.proofs.Family.{parent_before}
use Rattle.org_outline.proofs.Parents.{parent_at}
use Rattle.orgs_entries.specs.Twins.{parents_below}

-- how many headings there are up to one, itself counted
abbrev pub through : Option ℕ → ℕ
through None = 0
through (Some k) = k + 1

-- the last of the first k headings that has a level lower than n
abbrev pub above : ℕ → ℕ → List Heading → Option ℕ
above n k hs = last_above n 0 None (take k hs)

-- one heading more
above-more : (n k : ℕ) (hs : List Heading) (d : Heading) → k < length hs → (ltb (get_or hs k d).level n ≡ true → above n (k + 1) hs ≡ Some k) × (ltb (get_or hs k d).level n ≡ false → above n (k + 1) hs ≡ above n k hs)
above-more n k hs d lt = last_above-more n k hs (get_or hs k d) lt (get_or_default hs k d (get_or hs k d) lt)

-- what is passed on the way to the last heading above a level isn't above a lower one
pub skips : (n m k : ℕ) (hs : List Heading) (d : Heading) → n ≤ m → k ≤ length hs → above n k hs ≡ above n (through (above m k hs)) hs
skips n m zero hs d le within = refl
skips n m (suc k) hs d le within =
    let h = get_or hs k d in
    let lt : k < length hs = omega arith in
    let next : suc k ≡ k + 1 = omega arith in
    elim (cases_Bool (ltb h.level m)) [
      | inl is_so ↦
          let is : above m (suc k) hs ≡ Some k = ap (λ j. above m j hs) next ∙ (above-more m k hs d lt).0 is_so in
          ap (λ j. above n j hs) next ∙ ap (λ r. above n (through r) hs) (sym is)
      | inr isnt ↦
          let low : m ≤ h.level = grind (arith, nat_tests) in
          let other : ltb h.level n ≡ false = grind (arith, nat_tests) in
          let deep : above m (suc k) hs ≡ above m k hs = ap (λ j. above m j hs) next ∙ (above-more m k hs d lt).1 isnt in
          let high : above n (suc k) hs ≡ above n k hs = ap (λ j. above n j hs) next ∙ (above-more n k hs d lt).1 other in
          high ∙ skips n m k hs d le (omega arith) ∙ ap (λ r. above n (through r) hs) (sym deep)
    ]

-- the headings of a text and their levels
level_is : (t : List ℕ) (i : ℕ) (d : Heading) → i < node_count (tree t) → (get_or (node_headings t) i d).level ≡ (node_at (tree t) i).node.level
level_is t i d lt =
    let h = get_or (node_headings t) i d in
    let within : i < length (node_headings t) = omega (arith, headings_many t) in
    ap (λ (g : Heading). g.level) (heading_is t i h lt (get_or_default (node_headings t) i d h within))

-- the parent of a heading, by its level
pub parent-is : (t : List ℕ) (i : ℕ) → i < node_count (tree t) → above (node_at (tree t) i).node.level i (node_headings t) ≡ parent_of (tree t) i
parent-is t i lt =
    let d : Heading = heading_of (node_at (tree t) i) in
    let hs = node_headings t in
    parent_at t i i hs d (above (node_at (tree t) i).node.level i hs) refl refl lt (ap (λ n. above n i hs) (sym (level_is t i d lt)))

-- a heading that has a lower level ends the way up
pub way_ends : (t : List ℕ) (n k : ℕ) → k < node_count (tree t) → (node_at (tree t) k).node.level < n → above n (k + 1) (node_headings t) ≡ Some k
way_ends t n k lt less =
    let d : Heading = heading_of (node_at (tree t) k) in
    let within : k < length (node_headings t) = omega (arith, headings_many t) in
    let low : (get_or (node_headings t) k d).level < n = omega (arith, level_is t k d lt, less) in
    (above-more n k (node_headings t) d within).0 (grind (arith, nat_tests))

-- another one is passed, and all up to its parent with it
pub way_goes_on : (t : List ℕ) (n k : ℕ) → k < node_count (tree t) → n ≤ (node_at (tree t) k).node.level
    → above n (k + 1) (node_headings t) ≡ above n (through (parent_of (tree t) k)) (node_headings t)
way_goes_on t n k lt le =
    let hs = node_headings t in
    let d : Heading = heading_of (node_at (tree t) k) in
    let m = (node_at (tree t) k).node.level in
    let within : k < length hs = omega (arith, headings_many t) in
    let low : n ≤ (get_or hs k d).level = omega (arith, level_is t k d lt, le) in
    (above-more n k hs d within).1 (grind (arith, nat_tests))
    ∙ skips n m k hs d le (omega (arith, within))
    ∙ ap (λ r. above n (through r) hs) (parent-is t k lt)

-- the parent of one of the first headings, as it is kept
pub kept_parent : (t : List ℕ) (n k : ℕ) (d : Option ℕ) → k < n → get_or (parents_below (tree t) n) k d ≡ parent_of (tree t) k
kept_parent t n k d lt = get_or-map-range_with_len (parent_of (tree t)) 0 n k k d lt (omega arith)

-- a parent is a heading too
pub parent_within : (t : List ℕ) (i : ℕ) (up : Option ℕ) → i < node_count (tree t) → up ≡ parent_of (tree t) i → IfSome up (λ p. p < node_count (tree t))
parent_within t i None lt is = tt
parent_within t i (Some p) lt is = omega (arith, parent_before i p (tree t) (sym is), lt)

pub some_parent : (up : Option ℕ) (n : ℕ) → IfSome up (λ p. p < n) → (x : ℕ) → up ≡ Some x → x < n
some_parent None n within x is = absurd cc
some_parent (Some p) n within x is = let same : p ≡ x = cc in omega (arith, within, same)

-- the way up from a heading, at the one that is looked at next: it is the parent, where it has a
-- lower level
pub way_found : (t : List ℕ) (i k n : ℕ) (up : Option ℕ) → i < node_count (tree t) → k < i → up ≡ Some k → n ≡ (node_at (tree t) i).node.level → (node_at (tree t) k).node.level < n
    → above n i (node_headings t) ≡ above n (through up) (node_headings t) → Some k ≡ parent_of (tree t) i
way_found t i k n up lt less is level low passed =
    let hs = node_headings t in
    let here : above n (through up) hs ≡ Some k = ap (λ (u : Option ℕ). above n (through u) hs) is ∙ way_ends t n k (omega (arith, lt, less)) low in
    sym (passed ∙ here) ∙ ap (λ m. above m i hs) level ∙ parent-is t i lt

-- else the way goes on to its parent
pub way_next : (t : List ℕ) (i k n : ℕ) (up next : Option ℕ) → i < node_count (tree t) → k < i → up ≡ Some k → n ≤ (node_at (tree t) k).node.level → next ≡ parent_of (tree t) k
    → above n i (node_headings t) ≡ above n (through up) (node_headings t) → above n i (node_headings t) ≡ above n (through next) (node_headings t)
way_next t i k n up next lt less is high parent passed =
    let hs = node_headings t in
    passed ∙ ap (λ (u : Option ℕ). above n (through u) hs) is ∙ way_goes_on t n k (omega (arith, lt, less)) high ∙ ap (λ (u : Option ℕ). above n (through u) hs) (sym parent)

-- at its end there is no parent
pub way_nowhere : (t : List ℕ) (i n : ℕ) (up : Option ℕ) → i < node_count (tree t) → up ≡ None → n ≡ (node_at (tree t) i).node.level
    → above n i (node_headings t) ≡ above n (through up) (node_headings t) → None ≡ parent_of (tree t) i
way_nowhere t i n up lt none level passed =
    let hs = node_headings t in
    let here : above n (through up) hs ≡ None = ap (λ (u : Option ℕ). above n (through u) hs) none in
    sym (passed ∙ here) ∙ ap (λ m. above m i hs) level ∙ parent-is t i lt

-- a parent stands before its heading
pub next_before : (t : List ℕ) (k i : ℕ) (next : Option ℕ) → k < i → next ≡ parent_of (tree t) k → IfSome next (λ p. p < i)
next_before t k i None less is = tt
next_before t k i (Some p) less is = omega (arith, parent_before k p (tree t) (sym is), less)

-- and is nearer to the front
pub next_nearer : (t : List ℕ) (k : ℕ) (up next : Option ℕ) → up ≡ Some k → next ≡ parent_of (tree t) k → through next < through up
next_nearer t k None next is parent = absurd cc
next_nearer t k (Some j) None is parent = omega arith
next_nearer t k (Some j) (Some p) is parent = let same : j ≡ k = cc in omega (arith, parent_before k p (tree t) (sym parent), same)
