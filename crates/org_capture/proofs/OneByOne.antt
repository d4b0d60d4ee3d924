-- Date headings made one at a time.
use Rattle.std.proofs.Common.{rules, ◌≡◌, ℕ, zero, suc, ◌+◌, ◌-◌, ◌<◌, ◌≤◌, true, false, ltb, find, List, [], ◌∷◌, Option, Some, None, refl, sym, ap, ◌∙◌, arith, inl, inr}
use Rattle.std.proofs.lemmas.Grind.{common_steps}
use Rattle.std.specs.Option.{ForSome}
use Rattle.std.specs.declared.cmp.Ordering.{Ordering}
use Rattle.std.specs.declared.cmp.Ordering.TheVariants.{Equal, Greater}
use Rattle.std.proofs.lemmas.Bool.{cases_Bool}
use Rattle.std.proofs.lemmas.Bool.Decides.{nat_tests}
use Rattle.org_outline.specs.States.{Keywords}
use Rattle.org_outline.specs.declared.moves.Place.{Place}
use Rattle.org_outline.specs.declared.moves.Place.TheVariants.{Last}
use Rattle.org_outline.specs.Tree.{Forest, Empty, Tree, Node, Document, total, node_at, node_count}
use Rattle.org_outline.specs.Moves.{joined, put_below, insert, from_node, put_before, insert_before, heading_alone, level_below, shift_node}
use Rattle.org_outline.specs.Numbers.{heading_over, number_last, size_of, roots_from}
use Rattle.org_outline.proofs.ByNumber.{nth, node-is, count-is, size_room}
use Rattle.org_outline.proofs.Found.{some_holds}
use Rattle.org_outline.proofs.Making.{made_last, made_before}
use Rattle.org_outline.proofs.Taking.{size_of-room}
use Rattle.org_outline.proofs.Weights.{weigh-put_below, weigh-before, insert-weight, beside-weight, one_each}
use Rattle.org_stamp.specs.Calendar.{CivilDay}
use Rattle.org_capture.specs.declared.dates.DateKind.{DateKind}
use Rattle.org_capture.specs.Dates.{key_on, made_over, first_dated, is_dated, put_dated, found_or_made, dated}
use Rattle.org_capture.specs.Made.{date_rest, number_put, dated_one_by_one}
use Rattle.org_capture.proofs.DateTrees.{found_level, made_shift}
use Rattle.org_capture.proofs.Numbers.{dated_in}

-- ---- a heading put among the trees

nth_behind : (a : ℕ) (rest : List ℕ) (f : Forest) → nth (total f) (joined f (Tree a rest [] Empty Empty)) ≡ heading_alone a rest
nth_behind a rest Empty = refl
nth_behind a rest (Tree m r s kids later) = grind (arith, common_steps, nth_behind a rest later)

nth_below : (i j size l : ℕ) (rest : List ℕ) (f : Forest) → i < total f → suc (total (nth i f).children) ≡ size → j ≡ i + size
    → nth j (put_below i Last (heading_alone l rest) f) ≡ heading_alone ((nth i f).level + 1) rest
nth_below i j size l rest Empty lt long is = absurd (omega arith)
nth_below zero j size l rest (Tree m r s kids later) lt long is =
    let alone = Tree (m + 1) rest [] Empty Empty in
    let next : j ≡ suc (total kids) = omega (arith, long, is) in
    let more : total (put_below 0 Last (heading_alone l rest) (Tree m r s kids later)) ≡ suc (total kids + total later) + 1 =
    omega (arith, one_each (put_below 0 Last (heading_alone l rest) (Tree m r s kids later)), one_each (Tree m r s kids later), weigh-put_below (λ r s. 1) 0 Last (heading_alone l rest) (Tree m r s kids later) lt) in
    let fits : total kids < total (joined kids alone) = omega (arith, more) in
    let e : ltb (total kids) (total (joined kids alone)) ≡ true = grind (arith, nat_tests) in
    rw (next, e) (nth_behind (m + 1) rest kids)
nth_below (suc i) zero size l rest (Tree m r s kids later) lt long is = absurd (omega (arith, is))
nth_below (suc i) (suc j) size l rest (Tree m r s kids later) lt long is =
    elim (cases_Bool (ltb i (total kids))) [
      | inl e ↦
          let inside : i < total kids = grind (arith, nat_tests) in
          let size_is : suc (total (nth i kids).children) ≡ size = rw e at long in
          let kids2 = put_below i Last (heading_alone l rest) kids in
          let more : total kids2 ≡ total kids + 1 = omega (arith, one_each kids2, one_each kids, weigh-put_below (λ r s. 1) i Last (heading_alone l rest) kids inside) in
          let fits : j < total kids2 = omega (arith, more, size_room i kids inside, size_is, is) in
          let g : ltb j (total kids2) ≡ true = grind (arith, nat_tests) in
          rw (e, g) (nth_below i j size l rest kids inside size_is (omega (arith, is)))
      | inr e ↦
          let past : total kids ≤ i = grind (arith, nat_tests) in
          let size_is : suc (total (nth (i - total kids) later).children) ≡ size = rw e at long in
          let behind : total kids ≤ j = omega (arith, past, is) in
          let g : ltb j (total kids) ≡ false = grind (arith, nat_tests) in
          rw (e, g) (nth_below (i - total kids) (j - total kids) size l rest later (omega (arith, lt, past)) size_is (omega (arith, is, past)))
    ]

nth_beside : (j l : ℕ) (rest : List ℕ) (f : Forest) → j < total f → nth j (from_node (put_before (heading_alone l rest)) j f) ≡ heading_alone (nth j f).level rest
nth_beside j l rest Empty lt = absurd (omega arith)
nth_beside zero l rest (Tree m r s kids later) lt = refl
nth_beside (suc j) l rest (Tree m r s kids later) lt =
    elim (cases_Bool (ltb j (total kids))) [
      | inl e ↦
          let inside : j < total kids = grind (arith, nat_tests) in
          let kids2 = from_node (put_before (heading_alone l rest)) j kids in
          let more : total kids2 ≡ total kids + 1 = omega (arith, one_each kids2, one_each kids, weigh-before (λ r s. 1) j (heading_alone l rest) kids inside) in
          let fits : j < total kids2 = omega (arith, more, inside) in
          let g : ltb j (total kids2) ≡ true = grind (arith, nat_tests) in
          rw (e, g) (nth_beside j l rest kids inside)
      | inr e ↦
          let past : total kids ≤ j = grind (arith, nat_tests) in
          rw (e, e) (nth_beside (j - total kids) l rest later (omega (arith, lt, past)))
    ]

-- ---- a heading put into a document

-- where there is a later heading, it is a node one level below the parent
abbrev Later : Option ℕ → Option ℕ → Document → Type 0
Later later up d = (i : ℕ) → later ≡ Some i → (i < node_count d) × ((node_at d i).node.level ≡ level_below up d)

later_is : (states : Keywords) (d : Document) (up : Option ℕ) (kind : DateKind) (key : List ℕ) → ForSome up (λ i. i < node_count d) → Later (first_dated states d up kind key Greater) up d
later_is states d up kind key within i is = (dated_in states d up kind key Greater i within is, found_level states d up kind key Greater i is)

put_alone : (later up : Option ℕ) (l : ℕ) (rest : List ℕ) (d : Document) → ForSome up (λ i. i < node_count d) → Later later up d
    → (node_at (put_dated later up (heading_alone l rest) d) (number_put later up d)).node ≡ heading_alone (level_below up d) rest
put_alone (Some j) up l rest d within later =
    let H : ℕ → Node = λ n. heading_alone n rest in
    let here = later j refl in
    node-is (insert_before j (heading_alone l rest) d) j ∙ nth_beside j l rest d.forest (omega (arith, here.0, count-is d))
    ∙ ap (λ (n : Node). H n.level) (sym (node-is d j)) ∙ ap H here.1
put_alone None None l rest d within later = search (rules, arith, node-is, nth, joined, count-is, nth_behind)
put_alone None (Some i) l rest d within later =
    let H : ℕ → Node = λ n. heading_alone n rest in
    let long : suc (total (nth i d.forest).children) ≡ size_of d i = ap (λ (n : Node). suc (total n.children)) (sym (node-is d i)) in
    node-is (insert (Some i) Last (heading_alone l rest) d) (i + size_of d i)
    ∙ nth_below i (i + size_of d i) (size_of d i) l rest d.forest (omega (arith, within i refl, count-is d)) long refl
    ∙ ap (λ (n : Node). H (n.level + 1)) (sym (node-is d i))

put_counts : (later up : Option ℕ) (l : ℕ) (rest : List ℕ) (d : Document) → ForSome up (λ i. i < node_count d) → Later later up d
    → node_count (put_dated later up (heading_alone l rest) d) ≡ node_count d + 1
put_counts (Some j) up l rest d within later =
    let new = insert_before j (heading_alone l rest) d in
    omega (arith, count-is new, count-is d, one_each new.forest, one_each d.forest, beside-weight (λ r s. 1) j (heading_alone l rest) d (later j refl).0)
put_counts None up l rest d within later =
    let new = insert up Last (heading_alone l rest) d in
    omega (arith, count-is new, count-is d, one_each new.forest, one_each d.forest, insert-weight (λ r s. 1) up Last (heading_alone l rest) d within)

put_in : (later up : Option ℕ) (l : ℕ) (rest : List ℕ) (d : Document) → ForSome up (λ i. i < node_count d) → Later later up d
    → number_put later up d < node_count (put_dated later up (heading_alone l rest) d)
put_in (Some j) up l rest d within later = omega (arith, put_counts (Some j) up l rest d within later, (later j refl).0)
put_in None None l rest d within later = omega (arith, put_counts None None l rest d within later)
put_in None (Some i) l rest d within later = omega (arith, put_counts None (Some i) l rest d within later, size_of-room d i (within i refl))

pub stands_alone : (states : Keywords) (kind : DateKind) (key rest : List ℕ) (l : ℕ) (up : Option ℕ) (d : Document) → ForSome up (λ i. i < node_count d)
    → (node_at (put_dated (first_dated states d up kind key Greater) up (heading_alone l rest) d) (number_put (first_dated states d up kind key Greater) up d)).node ≡ heading_alone (level_below up d) rest
stands_alone states kind key rest l up d within = put_alone (first_dated states d up kind key Greater) up l rest d within (later_is states d up kind key within)

-- ---- what is made below a heading that stands alone

none_below : (states : Keywords) (d : Document) (j n : ℕ) (rest : List ℕ) (kind : DateKind) (key : List ℕ) (wanted : Ordering) → (node_at d j).node ≡ heading_alone n rest
    → first_dated states d (Some j) kind key wanted ≡ None
none_below states d j n rest kind key wanted is =
    ap (λ (f : Forest). find (λ i. is_dated states (level_below (Some j) d) kind key wanted (node_at d i).node) (roots_from (suc j) f)) (ap (λ (n : Node). n.children) is)

-- one node put below the heading, which is what the chain of the next headings is one level below
-- it
record Chain (states : Keywords) (place : Place) (day : CivilDay) (entry : Node) (d : Document) (kinds : List DateKind) (j l : ℕ) : Type 0 where
  place_of : Place
  node : Node
  shifts : shift_node (l + 1) node ≡ made_over (l + 1) kinds day entry
  is : dated_one_by_one states place day entry d kinds (Some j) ≡ insert (Some j) place_of node d

chain : (states : Keywords) (place : Place) (day : CivilDay) (entry : Node) (kinds : List DateKind) (d : Document) (j l : ℕ) (rest : List ℕ) → j < node_count d → (node_at d j).node ≡ heading_alone l rest
    → Chain states place day entry d kinds j l
chain states place day entry [] d j l rest lt alone = record { place_of = place; node = entry; shifts = refl; is = refl }
chain states place day entry (kind ∷ kinds) d j l rest lt alone =
    let within = some_holds (λ i. i < node_count d) j lt in
    let no_later = none_below states d j l rest kind (key_on kind day) Greater alone in
    let missing = none_below states d j l rest kind (key_on kind day) Equal alone in
    let deep : level_below (Some j) d ≡ l + 1 = ap (λ (n : Node). n.level + 1) alone in
    let none : Later None (Some j) d = λ i is. absurd cc in
    let title = date_rest day kind in
    let made = insert (Some j) Last (heading_alone (level_below (Some j) d) title) d in
    let next = number_last (Some j) d in
    let stands = put_alone None (Some j) (level_below (Some j) d) title d within none ∙ ap (λ n. heading_alone n title) deep in
    let more = chain states place day entry kinds made next (l + 1) title (put_in None (Some j) (level_below (Some j) d) title d within none) stands in
    let M : Option ℕ → Document = λ later. dated_one_by_one states place day entry (put_dated later (Some j) (heading_alone (level_below (Some j) d) title) d) kinds (Some (number_put later (Some j) d)) in
    let F : Option ℕ → Document = λ found. found_or_made found (λ i. dated_one_by_one states place day entry d kinds (Some i)) (M (first_dated states d (Some j) kind (key_on kind day) Greater)) in
    let filled : ℕ → Node = λ n. heading_over n title (shift_node (n + 1) more.node) in
    record {
      place_of = Last;
      node = made_over (l + 1) (kind ∷ kinds) day entry;
      shifts = made_shift (l + 1) kind kinds day entry;
      is = ap F missing ∙ ap M no_later ∙ more.is
          ∙ made_last (Some j) more.place_of (level_below (Some j) d) title more.node d within
          ∙ ap (λ n. insert (Some j) Last (filled n) d) deep
          ∙ ap (λ (n : Node). insert (Some j) Last (heading_over (l + 1) title n) d) more.shifts;
    }

-- the heading that is made among a parent's children, with the chain below it
chained : (later up : Option ℕ) (place : Place) (n : ℕ) (rest : List ℕ) (node : Node) (d : Document) → ForSome up (λ i. i < node_count d) → Later later up d
    → insert (Some (number_put later up d)) place node (put_dated later up (heading_alone n rest) d) ≡ put_dated later up (heading_over n rest (shift_node (n + 1) node)) d
chained (Some j) up place n rest node d within later = made_before j place n rest node d (later j refl).0
chained None up place n rest node d within later = made_last up place n rest node d within

found_too : (found : Option ℕ) (f g : ℕ → Document) (made chain : Document) → ((i : ℕ) → found ≡ Some i → f i ≡ g i) → made ≡ chain → found_or_made found f made ≡ found_or_made found g chain
found_too (Some i) f g made chain each same = each i refl
found_too None f g made chain each same = same

pub one_by_one : (states : Keywords) (place : Place) (day : CivilDay) (entry : Node) (d : Document) (kinds : List DateKind) (up : Option ℕ) → ForSome up (λ i. i < node_count d)
    → dated_one_by_one states place day entry d kinds up ≡ dated states place day entry d kinds up
one_by_one states place day entry d [] up within = refl
one_by_one states place day entry d (kind ∷ kinds) up within =
    let later = first_dated states d up kind (key_on kind day) Greater in
    let after = later_is states d up kind (key_on kind day) within in
    let n = level_below up d in
    let title = date_rest day kind in
    let made = put_dated later up (heading_alone n title) d in
    let c = chain states place day entry kinds made (number_put later up d) n title (put_in later up n title d within after) (put_alone later up n title d within after) in
    found_too (first_dated states d up kind (key_on kind day) Equal) _ _ _ _
    (λ i is. one_by_one states place day entry d kinds (Some i) (some_holds (λ i. i < node_count d) i (dated_in states d up kind (key_on kind day) Equal i within is)))
    (c.is ∙ chained later up c.place_of n title c.node d within after ∙ ap (λ (node : Node). put_dated later up (heading_over n title node) d) c.shifts)
