-- The nodes below a heading, one after the other: those of the next level are its children.
use Rattle.std.proofs.Common.{◌≡◌, ℕ, zero, suc, ◌+◌, ◌-◌, ◌<◌, ◌≤◌, Bool, true, false, cond, ltb, find, Option, Some, None, refl, sym, ap, ◌∙◌, arith, inl, inr}
use Rattle.std.proofs.lemmas.Grind.{common_steps}
use Rattle.std.specs.Option.{ForSome}
use Rattle.std.proofs.lemmas.Bool.{cases_Bool}
use Rattle.std.proofs.lemmas.Bool.Decides.{nat_tests}
use Rattle.org_outline.specs.Tree.{Forest, Empty, Tree, Node, Document, AllRoots, IsForest, IsValid, total, node_at, node_count}
use Rattle.org_outline.specs.Moves.{IsNode, level_below}
use Rattle.org_outline.specs.Numbers.{roots_from, children_of}
use Rattle.org_outline.proofs.Trees.{AllRoots-mono}
use Rattle.org_outline.proofs.Placing.{roots-positive}
use Rattle.org_outline.proofs.Sections.{valid_node}
use Rattle.org_outline.proofs.ByNumber.{nth, node-is, count-is}
use Rattle.org_outline.proofs.Children.{StandsAt, nth-below, stands_behind, stands_below}
use Rattle.org_outline.proofs.Family.{all_deep}
use Rattle.org_capture.specs.Dates.{span_below}

-- the first of `count` numbers from k on that passes the test
abbrev pub first_from : (ℕ → Bool) → ℕ → ℕ → Option ℕ
first_from test zero k = None
first_from test (suc count) k = cond (test k) (Some k) (first_from test count (suc k))

-- what passes the test has this level
abbrev pub OfLevel : Document → (ℕ → Bool) → ℕ → Type 0
OfLevel d test level = (i : ℕ) → test i ≡ true → (node_at d i).node.level ≡ level

-- ---- what lies deeper

stand_deep : (d : Document) (m k i : ℕ) (f : Forest) → StandsAt d k f → IsForest f → AllRoots (λ n. m < n) f → k ≤ i → i < k + total f → m < (node_at d i).node.level
stand_deep d m k i f stands valid deep low high =
    let j : ℕ = i - k in
    let lt : j < total f = omega (arith, low, high) in
    let level : (node_at d i).node.level ≡ (nth j f).level = ap (λ (n : Node). n.level) (stands j i (omega (arith, low)) lt) in
    omega (arith, level, all_deep m j f valid deep lt)

children_stand : (d : Document) (i : ℕ) → i < node_count d → StandsAt d (suc i) (node_at d i).node.children
children_stand d i inside = grind (arith, common_steps, count-is, nth, node-is, nth-below)

-- ---- a pass over trees that stand in a document

fails : (d : Document) (test : ℕ → Bool) (level i : ℕ) → OfLevel d test level → level < (node_at d i).node.level → test i ≡ false
fails d test level i of deep = grind (arith, common_steps)

-- none of n nodes is found
passes : (test : ℕ → Bool) (n count k : ℕ) → ((i : ℕ) → k ≤ i → i < k + n → test i ≡ false) → first_from test (n + count) k ≡ first_from test count (k + n)
passes test zero count k fail = grind (arith, common_steps)
passes test (suc n) count k fail =
    let all : suc n + count ≡ suc (n + count) = omega arith in
    let end : suc k + n ≡ k + suc n = omega arith in
    let e : test k ≡ false = fail k (omega arith) (omega arith) in
    let next : first_from test (suc (n + count)) k ≡ first_from test (n + count) (suc k) = rw e refl in
    ap (λ c. first_from test c k) all
    ∙ next
    ∙ passes test n count (suc k) (λ i low high. fail i (omega (arith, low)) (omega (arith, high)))
    ∙ ap (first_from test count) end

-- the first that is found is a root
finds_root : (d : Document) (test : ℕ → Bool) (level k : ℕ) (f : Forest) → OfLevel d test level → StandsAt d k f → IsForest f → AllRoots (λ m. level ≤ m) f
    → first_from test (total f) k ≡ find test (roots_from k f)
finds_root d test level k Empty of stands valid low = refl
finds_root d test level k (Tree n r s kids later) of stands valid low =
    let kids_deep : AllRoots (λ m. level < m) kids = AllRoots-mono (λ m. n < m) (λ m. level < m) kids (λ m less. omega (arith, less, low.0)) valid.1 in
    let below : StandsAt d (suc k) kids = stands_below d k n r s kids later stands in
    elim (cases_Bool (test k)) [
      | inl e ↦ rw e refl
      | inr e ↦ rw e (
          passes test (total kids) (total later) (suc k) (λ i first last. fails d test level i of (stand_deep d level (suc k) i kids below valid.2 kids_deep first last))
          ∙ finds_root d test level (suc k + total kids) later of (stands_behind d k n r s kids later stands) valid.4 low.1)
    ]

-- ---- the walk

-- the first node from `index` on that passes the test is the first child that does
pub record Walk (d : Document) (up : Option ℕ) (test : ℕ → Bool) (end index : ℕ) : Type 0 where
  pub rest : first_from test (end - index) index ≡ find test (children_of d up)

begins : (d : Document) (up : Option ℕ) (test : ℕ → Bool) → IsValid d → OfLevel d test (level_below up d) → ForSome up (λ i. i < node_count d) → Walk d up test (span_below d up).1 (span_below d up).0
begins d None test valid of within =
    let all : node_count d - 0 ≡ total d.forest = omega (arith, count-is d) in
    let stands : StandsAt d 0 d.forest = λ j q is lt. let same : q ≡ j = omega (arith, is) in node-is d q ∙ ap (λ i. nth i d.forest) same in
    let low : AllRoots (λ m. 1 ≤ m) d.forest = AllRoots-mono (λ m. 0 < m) (λ m. 1 ≤ m) d.forest (λ m less. omega (arith, less)) (roots-positive d.forest valid.forest) in
    record { rest = ap (λ c. first_from test c 0) all ∙ finds_root d test 1 0 d.forest of stands valid.forest low }
begins d (Some i) test valid of within =
    let inside : i < node_count d = within i refl in
    let node : Node = (node_at d i).node in
    let proper : IsNode node = valid_node d i valid inside in
    let all : i + suc (total node.children) - (i + 1) ≡ total node.children = omega arith in
    let next : i + 1 ≡ suc i = omega arith in
    let deep : AllRoots (λ m. node.level + 1 ≤ m) node.children = AllRoots-mono (λ m. node.level < m) (λ m. node.level + 1 ≤ m) node.children (λ m less. omega (arith, less)) proper.deep in
    record {
      rest = ap (λ c. first_from test c (i + 1)) all ∙ ap (first_from test (total node.children)) next ∙ finds_root d test (node.level + 1) (suc i) node.children of (children_stand d i inside) proper.children deep;
    }

pub walk_start : (d : Document) (up : Option ℕ) (test : ℕ → Bool) (span : ℕ × ℕ) → IsValid d → OfLevel d test (level_below up d) → ForSome up (λ i. i < node_count d) → span ≡ span_below d up → Walk d up test span.1 span.0
walk_start d up test span valid of within is = grind (arith, common_steps, begins)

more : (end index : ℕ) → index < end → end - index ≡ suc (end - (index + 1))
more end index lt = omega (arith, lt)

pub walk_hit : (d : Document) (up : Option ℕ) (test : ℕ → Bool) (end index : ℕ) → Walk d up test end index → index < end → test index ≡ true → Some index ≡ find test (children_of d up)
walk_hit d up test end index w lt e = grind (arith, common_steps)

-- nodes that fail the test are passed
pub walk_over : (d : Document) (up : Option ℕ) (test : ℕ → Bool) (end index next : ℕ) → Walk d up test end index → index ≤ next → next ≤ end → ((i : ℕ) → index ≤ i → i < next → test i ≡ false)
    → Walk d up test end next
walk_over d up test end index next w le fits fail =
    let n : ℕ = next - index in
    let there : index + n ≡ next = omega (arith, le) in
    let all : n + (end - next) ≡ end - index = omega (arith, le, fits) in
    record {
      rest = ap (first_from test (end - next)) (sym there)
          ∙ sym (passes test n (end - next) index (λ i low high. fail i low (omega (arith, high, there))))
          ∙ ap (λ c. first_from test c index) all ∙ w.rest;
    }

-- a node that fails the test, and others after it
pub walk_on : (d : Document) (up : Option ℕ) (test : ℕ → Bool) (end index next : ℕ) → Walk d up test end index → index < next → next ≤ end → test index ≡ false
    → ((i : ℕ) → index + 1 ≤ i → i < next → test i ≡ false) → Walk d up test end next
walk_on d up test end index next w lt fits here fail =
    walk_over d up test end index next w (omega (arith, lt)) fits (λ i low high.
    elim (cases_Bool (ltb index i)) [
      | inl g ↦ let later : index < i = grind (arith, nat_tests) in fail i (omega (arith, later)) high
      | inr g ↦ let same : index ≡ i = (let no : i ≤ index = grind (arith, nat_tests) in omega (arith, low, no)) in ap test (sym same) ∙ here
    ])

pub walk_end : (d : Document) (up : Option ℕ) (test : ℕ → Bool) (end index : ℕ) → Walk d up test end index → end ≤ index → None ≡ find test (children_of d up)
walk_end d up test end index w le = grind (arith, common_steps)
