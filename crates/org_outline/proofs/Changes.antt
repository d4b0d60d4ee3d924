-- Edits of a document at one node: they keep it valid, and change its print at one place.
use Rattle.std.proofs.Common.{◌≡◌, ℕ, zero, suc, ◌+◌, ◌-◌, ◌<◌, ◌≤◌, ltb, List, [], ◌∷◌, ◌++◌, length, get_or, refl, sym, ap, subst, ◌∙◌, append_assoc, arith, inl, inr}
use Rattle.std.proofs.lemmas.Grind.{common_steps}
use Rattle.std.specs.Prelude.{IsTrue}
use Rattle.std.specs.List.{AllByRecursion}
use Rattle.std.proofs.lemmas.Bool.{cases_Bool}
use Rattle.std.proofs.lemmas.Bool.Decides.{nat_tests}
use Rattle.std.proofs.lemmas.List.{append-nil, get_or_append_left, get_or-append_right}
use Rattle.org_splice.specs.Lines.{print_lines, IsLine}
use Rattle.org_splice.proofs.Lines.{print_lines-append, size, size-append}
use Rattle.org_headings.specs.Text.{heading_line, begins_with_space}
use Rattle.org_outline.specs.Tree.{Forest, Empty, Tree, Node, Placed, total, Document, print, lines, own_lines, print_node, AllRoots, IsPlain, IsHeading, IsForest, IsValid, nodes_from, node_at, node_count, no_node}
use Rattle.org_outline.specs.Moves.{IsNode, shift_node, from_node, later_trees, take, put_before, insert_before, with_own, with_own_lines, heading_alone, heading_behind, append_heading, Inserts, Replaces}
use Rattle.org_outline.proofs.Nodes.{node_of}
use Rattle.org_outline.proofs.Placing.{total-nodes, node_lines}
use Rattle.org_outline.proofs.Valid.{IsNode-shift_node}

-- ---- lines with some replaced

pub record Swaps (old new : List (List ℕ)) (k : ℕ) (x y : List (List ℕ)) : Type 0 where
  front : List (List ℕ)
  back : List (List ℕ)
  at : size front ≡ k
  was : old ≡ front ++ (x ++ back)
  is : new ≡ front ++ (y ++ back)

around : (p a q front x back : List (List ℕ)) → a ≡ front ++ (x ++ back) → p ++ (a ++ q) ≡ (p ++ front) ++ (x ++ (back ++ q))
around p a q front x back e =
    ap (λ l. p ++ (l ++ q)) e ∙ ap (λ l. p ++ l) (append_assoc front (x ++ back) q ∙ ap (λ l. front ++ l) (append_assoc x back q)) ∙ sym (append_assoc p front (x ++ (back ++ q)))

swaps_in : (p q a b : List (List ℕ)) (k : ℕ) (x y : List (List ℕ)) → Swaps a b k x y → Swaps (p ++ (a ++ q)) (p ++ (b ++ q)) (size p + k) x y
swaps_in p q a b k x y s = record {
  front = p ++ s.front;
  back = s.back ++ q;
  at = size-append p s.front ∙ ap (λ n. size p + n) s.at;
  was = around p a q s.front x s.back s.was;
  is = around p b q s.front y s.back s.is;
}

swaps_same : (a b c d : List (List ℕ)) (k : ℕ) (x y : List (List ℕ)) → a ≡ c → b ≡ d → Swaps a b k x y → Swaps c d k x y
swaps_same a b c d k x y ac bd s = record { front = s.front; back = s.back; at = s.at; was = sym ac ∙ s.was; is = sym bd ∙ s.is }

printed : (a front x back : List (List ℕ)) → a ≡ front ++ (x ++ back) → print_lines a ≡ print_lines front ++ (print_lines x ++ print_lines back)
printed a front x back e = ap print_lines e ∙ print_lines-append front (x ++ back) ∙ ap (λ t. print_lines front ++ t) (print_lines-append x back)

pub replaces : (a b : List (List ℕ)) (k : ℕ) (x y : List (List ℕ)) → Swaps a b k x y → Replaces (print_lines a) (print_lines b) k (print_lines x) (print_lines y)
replaces a b k x y s = record { front = print_lines s.front; back = print_lines s.back; at = s.at; was = printed a s.front x s.back s.was; is = printed b s.front y s.back s.is }

-- ---- at a node

-- what a change does to the lines of the trees from a node on
pub record Changes (change : Forest → Forest) (x y : Node → List (List ℕ)) (f : Forest) (node : Node) : Type 0 where
  pub rest : List (List ℕ)
  pub was : lines f ≡ x node ++ rest
  pub is : lines (change f) ≡ y node ++ rest

record ChangedAt (change : Forest → Forest) (x y : Node → List (List ℕ)) (at i : ℕ) (f : Forest) : Type 0 where
  k : ℕ
  there : at + k ≡ (get_or (nodes_from at f) i no_node).at
  swaps : Swaps (lines f) (lines (from_node change i f)) k (x (get_or (nodes_from at f) i no_node).node) (y (get_or (nodes_from at f) i no_node).node)

changed_at : (change : Forest → Forest) (x y : Node → List (List ℕ)) → ((m : ℕ) (r : List ℕ) (s : List (List ℕ)) (kids later : Forest) → Changes change x y (Tree m r s kids later) (node_of m r s kids))
    → (at i : ℕ) (f : Forest) → i < total f → ChangedAt change x y at i f
changed_at change x y h at i Empty lt = absurd (omega arith)
changed_at change x y h at zero (Tree m r s kids later) lt =
    let c = h m r s kids later in
    record { k = 0; there = omega arith; swaps = record { front = []; back = c.rest; at = refl; was = c.was; is = c.is } }
changed_at change x y h at (suc i) (Tree m r s kids later) lt =
    let own = heading_line m r ∷ s in
    let here = node_of m r s kids in
    let below = nodes_from (at + size own) kids in
    let after = nodes_from (at + length (print_node here)) later in
    let many : length below ≡ total kids = total-nodes (at + size own) kids in
    elim (cases_Bool (ltb i (total kids))) [
      | inl e ↦
          let less : i < total kids = grind (arith, nat_tests) in
          let more = changed_at change x y h (at + size own) i kids less in
          let same : get_or below i no_node ≡ get_or (below ++ after) i no_node = sym (get_or_append_left below after no_node i (omega (arith, many))) in
          let P : Placed → Type 0 = λ p. Swaps (lines kids) (lines (from_node change i kids)) more.k (x p.node) (y p.node) in
          let n = (get_or (below ++ after) i no_node).node in
          let e1 : at + (size own + more.k) ≡ at + size own + more.k = omega arith in
          record {
            k = size own + more.k;
            there = e1 ∙ more.there ∙ ap (λ (p : Placed). p.at) same;
            swaps = rw e (swaps_in own (lines later) (lines kids) (lines (from_node change i kids)) more.k (x n) (y n) (subst P same more.swaps));
          }
      | inr e ↦
          let past : total kids ≤ i = grind (arith, nat_tests) in
          let j = i - total kids in
          let more = changed_at change x y h (at + length (print_node here)) j later (omega arith) in
          let same : get_or after j no_node ≡ get_or (below ++ after) i no_node = sym (get_or-append_right below after (total kids) i no_node many past) in
          let P : Placed → Type 0 = λ p. Swaps (lines later) (lines (from_node change j later)) more.k (x p.node) (y p.node) in
          let n = (get_or (below ++ after) i no_node).node in
          let regroup : (ls : List (List ℕ)) → node_lines here ++ (ls ++ []) ≡ heading_line m r ∷ s ++ (lines kids ++ ls) =
          λ ls. ap (λ x. node_lines here ++ x) (append-nil ls) ∙ append_assoc own (lines kids) ls in
          let e1 : at + (length (print_node here) + more.k) ≡ at + length (print_node here) + more.k = omega arith in
          record {
            k = length (print_node here) + more.k;
            there = e1 ∙ more.there ∙ ap (λ (p : Placed). p.at) same;
            swaps = rw e (swaps_same _ _ _ _ _ (x n) (y n) (regroup (lines later)) (regroup (lines (from_node change j later)))
                (swaps_in (node_lines here) [] (lines later) (lines (from_node change j later)) more.k (x n) (y n) (subst P same more.swaps)));
          }
    ]

-- the same in the print of a document
pub changed : (change : Forest → Forest) (x y : Node → List (List ℕ)) → ((m : ℕ) (r : List ℕ) (s : List (List ℕ)) (kids later : Forest) → Changes change x y (Tree m r s kids later) (node_of m r s kids))
    → (i : ℕ) (d : Document) → i < node_count d
    → Replaces (print d) (print_lines (d.preamble ++ lines (from_node change i d.forest))) (node_at d i).at (print_lines (x (node_at d i).node)) (print_lines (y (node_at d i).node))
changed change x y h i d lt =
    let start = size d.preamble in
    let c = changed_at change x y h start i d.forest (omega (arith, lt, total-nodes start d.forest)) in
    let n = (node_at d i).node in
    let f = lines d.forest in
    let g = lines (from_node change i d.forest) in
    let s : Swaps (d.preamble ++ (f ++ [])) (d.preamble ++ (g ++ [])) (start + c.k) (x n) (y n) = swaps_in d.preamble [] f g c.k (x n) (y n) c.swaps in
    let K : ℕ → Type 0 = λ k. Replaces (print d) (print_lines (d.preamble ++ g)) k (print_lines (x n)) (print_lines (y n)) in
    subst K c.there (replaces (d.preamble ++ f) (d.preamble ++ g) (start + c.k) (x n) (y n)
    (swaps_same _ _ _ _ (start + c.k) (x n) (y n) (ap (λ l. d.preamble ++ l) (append-nil f)) (ap (λ l. d.preamble ++ l) (append-nil g)) s))

-- ---- taking out, putting before, other own lines

pub take_local : (i : ℕ) (d : Document) → i < node_count d → Inserts (print (take i d)) (print d) (node_at d i).at (print_node (node_at d i).node)
take_local i d lt =
    let r = changed later_trees node_lines (λ n. []) (λ m r s kids later. record { rest = lines later; was = sym (append_assoc (heading_line m r ∷ s) (lines kids) (lines later)); is = refl }) i d lt in
    record { front = r.front; back = r.back; at = r.at; was = r.is; is = r.was }

pub insert_before_local : (i : ℕ) (node : Node) (d : Document) → i < node_count d
    → Inserts (print d) (print (insert_before i node d)) (node_at d i).at (print_node (shift_node (node_at d i).node.level node))
insert_before_local i node d lt =
    let r = changed (put_before node) (λ n. []) (λ n. node_lines (shift_node n.level node))
    (λ m r s kids later. record {
      rest = lines (Tree m r s kids later);
      was = refl;
      is = sym (append_assoc (own_lines (shift_node m node)) (lines (shift_node m node).children) (lines (Tree m r s kids later)));
    }) i d lt in
    record { front = r.front; back = r.back; at = r.at; was = r.was; is = r.is }

pub own_lines_local : (i : ℕ) (rest : List ℕ) (section : List (List ℕ)) (d : Document) → i < node_count d
    → Replaces (print d) (print (with_own_lines i rest section d)) (node_at d i).at (print_lines (own_lines (node_at d i).node)) (print_lines (heading_line (node_at d i).node.level rest ∷ section))
own_lines_local i rest section d lt =
    changed (with_own rest section) own_lines (λ n. heading_line n.level rest ∷ section)
    (λ m r s kids later. record { rest = lines kids ++ lines later; was = refl; is = refl }) i d lt

-- ---- validity

record Keeps (change : Forest → Forest) : Type 1 where
  valid : (m : ℕ) (r : List ℕ) (s : List (List ℕ)) (kids later : Forest) → IsForest (Tree m r s kids later) → IsForest (change (Tree m r s kids later))
  roots : (P : ℕ → Type 0) (m : ℕ) (r : List ℕ) (s : List (List ℕ)) (kids later : Forest) → AllRoots P (Tree m r s kids later) → AllRoots P (change (Tree m r s kids later))

AllRoots-from_node : (change : Forest → Forest) → Keeps change → (P : ℕ → Type 0) (i : ℕ) (f : Forest) → AllRoots P f → AllRoots P (from_node change i f)
AllRoots-from_node change k P i Empty p = tt
AllRoots-from_node change k P zero (Tree m r s kids later) p = k.roots P m r s kids later p
AllRoots-from_node change k P (suc i) (Tree m r s kids later) p = grind (arith, common_steps, AllRoots-from_node change k P (i - total kids) later p.1)

IsForest-from_node : (change : Forest → Forest) → Keeps change → (i : ℕ) (f : Forest) → IsForest f → IsForest (from_node change i f)
IsForest-from_node change k i Empty v = tt
IsForest-from_node change k zero (Tree m r s kids later) v = k.valid m r s kids later v
IsForest-from_node change k (suc i) (Tree m r s kids later) v = grind (arith, common_steps, cases_Bool, AllRoots-from_node, IsForest-from_node change k i kids v.2, IsForest-from_node change k (i - total kids) later v.4)

pub take_valid : (i : ℕ) (d : Document) → IsValid d → IsValid (take i d)
take_valid i d v =
    record { preamble = v.preamble; forest = IsForest-from_node later_trees (record { valid = λ m r s kids later v. v.4; roots = λ P m r s kids later p. p.1 }) i d.forest v.forest }

pub insert_before_valid : (i : ℕ) (node : Node) (d : Document) → IsNode node → IsValid d → IsValid (insert_before i node d)
insert_before_valid i node d w v = grind (arith, common_steps, IsForest-from_node, IsNode-shift_node)

pub own_lines_valid : (i : ℕ) (rest : List ℕ) (section : List (List ℕ)) (d : Document) → IsTrue (begins_with_space rest) → IsLine rest → AllByRecursion IsPlain section → IsValid d
    → IsValid (with_own_lines i rest section d)
own_lines_valid i rest section d space line plain v = grind (arith, common_steps, IsForest-from_node)

-- ---- a heading at the end

lines-behind : (n : ℕ) (rest : List ℕ) (f : Forest) → lines (heading_behind n rest f) ≡ lines f ++ (heading_line n rest ∷ [])
lines-behind n rest Empty = refl
lines-behind n rest (Tree m r s kids Empty) = grind (arith, common_steps, lines-behind n rest kids)
lines-behind n rest (Tree m r s kids (Tree m2 r2 s2 kids2 later)) = grind (arith, common_steps, lines-behind n rest (Tree m2 r2 s2 kids2 later))

pub append_heading_local : (level : ℕ) (rest : List ℕ) (d : Document) → print (append_heading level rest d) ≡ print d ++ print_node (heading_alone level rest)
append_heading_local level rest d = grind (arith, common_steps, heading_line, lines-behind, append_assoc, lines, print_lines-append)

AllRoots-behind : (P : ℕ → Type 0) (n : ℕ) (rest : List ℕ) (f : Forest) → P n → AllRoots P f → AllRoots P (heading_behind n rest f)
AllRoots-behind P n rest Empty q p = (q, tt)
AllRoots-behind P n rest (Tree m r s kids Empty) q p = grind (arith, common_steps)
AllRoots-behind P n rest (Tree m r s kids (Tree m2 r2 s2 kids2 later)) q p = (p.0, AllRoots-behind P n rest (Tree m2 r2 s2 kids2 later) q p.1)

-- the roots stay at most as deep as the first one
behind_low : (k n : ℕ) (rest : List ℕ) (m : ℕ) (r : List ℕ) (s : List (List ℕ)) (kids later : Forest) → IsForest (Tree m r s kids later) → m ≤ k → AllRoots (λ j. j ≤ k) (Tree m r s kids later)
    → AllRoots (λ j. j ≤ k) (heading_behind n rest (Tree m r s kids later))
behind_low k n rest m r s kids Empty v le p = grind (arith, common_steps)
behind_low k n rest m r s kids (Tree m2 r2 s2 kids2 later) v le p = (p.0, behind_low k n rest m2 r2 s2 kids2 later v.4 p.1.0 p.1)

IsForest-behind : (n : ℕ) (rest : List ℕ) (f : Forest) → IsHeading n rest [] → IsForest f → IsForest (heading_behind n rest f)
IsForest-behind n rest Empty h v = (h, tt, tt, tt, tt)
IsForest-behind n rest (Tree m r s kids Empty) h v = grind (arith, common_steps, cases_Bool, nat_tests, AllRoots-behind, IsForest-behind n rest kids h v.2)
IsForest-behind n rest (Tree m r s kids (Tree m2 r2 s2 kids2 later)) h v =
    (v.0, v.1, v.2, behind_low m n rest m2 r2 s2 kids2 later v.4 v.3.0 v.3, IsForest-behind n rest (Tree m2 r2 s2 kids2 later) h v.4)

pub append_heading_valid : (level : ℕ) (rest : List ℕ) (d : Document) → 0 < level → IsTrue (begins_with_space rest) → IsLine rest → IsValid d → IsValid (append_heading level rest d)
append_heading_valid level rest d pos space line v =
    record { preamble = v.preamble; forest = IsForest-behind level rest d.forest (record { level = pos; space = space; rest = line; section = tt }) v.forest }
