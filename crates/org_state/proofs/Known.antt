-- A search of a part of a text's headings, and what is known of its clocks.
use Rattle.std.proofs.Common.{◌≡◌, ℕ, zero, suc, ◌+◌, ◌-◌, ◌<◌, ◌≤◌, true, false, Bool, ◌||◌, ltb, Option, Some, None, List, [], ◌∷◌, ◌++◌, length, get_or, refl, sym, ap, subst, ◌∙◌, arith, inl, inr}
use Rattle.std.specs.Prelude.{is_some, map}
use Rattle.std.specs.List.{AllByRecursion, position, prefix_len}
use Rattle.std.specs.Option.{option_map}
use Rattle.std.proofs.lemmas.Bool.{cases_Bool, false≢true}
use Rattle.std.proofs.lemmas.Bool.Decides.{nat_tests}
use Rattle.std.proofs.lemmas.List.{length-append, get_or-map, get_or_append_left, get_or-append_right}
use Rattle.std.proofs.lemmas.List.Quantifiers.{position-Some}
use Rattle.std.proofs.lemmas.List.Sums.{prefix_len_passes, prefix_len_stops}
use Rattle.org_splice.specs.declared.Span.{Span}
use Rattle.org_splice.specs.Lines.{terminated, print_lines, IsLine, lines_of}
use Rattle.org_splice.specs.Searched.{IsFrontWithout, IsBackWithout, StandsInLines}
use Rattle.org_splice.proofs.Searches.{front_of, lines_of-both}
use Rattle.org_splice.proofs.Lines.{size, size-cons, print_lines-lines_of, lines_of-lines, lines_of-print_lines, print_lines-append, terminated-print_lines}
use Rattle.org_stamp.specs.Parts.{◌>>=◌}
use Rattle.org_headings.specs.Text.{level_of}
use Rattle.org_outline.specs.Tree.{Document, Placed, nodes, node_at, node_count, no_node, tree, tree_of_lines, with_line}
use Rattle.org_outline.proofs.Nodes.{nodes_at, nodes_at-start, nodes-with_line, with_node}
use Rattle.org_splice.proofs.AllLines.{AllByRecursion-at}
use Rattle.org_meta.specs.Clocks.{is_open, open_line, line_span}
use Rattle.org_state.specs.declared.run.Running.{Running}
use Rattle.org_state.specs.Clock.{has_clock, runs_at, running_heading, running_at, running_in, span_from}
use Rattle.org_state.specs.Edits.{section_start}
use Rattle.org_state.proofs.Searches.{position_here, position_later, running_none}

-- ---- no clock runs at these headings

abbrev pub NoneOpen : List (List ℕ) → Type 0
NoneOpen ls = AllByRecursion (λ l. is_open l ≡ false) ls

abbrev pub NoneRuns : List Placed → Type 0
NoneRuns ps = AllByRecursion (λ p. runs_at p ≡ false) ps

some_mapped : {X Y : Type 0} (f : X → Y) (o : Option X) → is_some (option_map f o) ≡ is_some o
some_mapped f None = refl
some_mapped f (Some x) = refl

none_open : (s : List (List ℕ)) → NoneOpen s → position is_open s ≡ None
none_open [] q = refl
none_open (l ∷ s) q = position_later is_open l s q.0 ∙ ap (option_map suc) (none_open s q.1)

open_none : (s : List (List ℕ)) → is_some (position is_open s) ≡ false → NoneOpen s
open_none [] e = tt
open_none (l ∷ s) e =
    elim (cases_Bool (is_open l)) [
      | inl t ↦ absurd (false≢true (sym e ∙ ap is_some (position_here is_open l s t)))
      | inr f ↦ (f, open_none s (sym (some_mapped suc (position is_open s)) ∙ ap is_some (sym (position_later is_open l s f)) ∙ e))
    ]

runs_unless : (s : List (List ℕ)) → NoneOpen s → is_some (open_line s) ≡ false
runs_unless s q = some_mapped (line_span s) (position is_open s) ∙ ap is_some (none_open s q)

unless_runs : (s : List (List ℕ)) → is_some (open_line s) ≡ false → NoneOpen s
unless_runs s e = open_none s (sym (some_mapped (line_span s) (position is_open s)) ∙ e)

none_runs : (d : Document) → NoneRuns (nodes d) → running_in d ≡ None
none_runs d q = sym (running_none d (node_count d) refl (λ k less. AllByRecursion-at (λ (p : Placed). runs_at p ≡ false) (nodes d) k no_node q less))

-- the heading of a clock that runs is the first that has one
pub record First (d : Document) (i : ℕ) : Type 0 where
  pub within : i < node_count d
  pub runs : runs_at (node_at d i) ≡ true
  pub before : (k : ℕ) → k < i → runs_at (node_at d k) ≡ false

first_at : (d : Document) (i : ℕ) → running_heading d ≡ Some i → First d i
first_at d i is = let p = position-Some runs_at (nodes d) i no_node is in record { within = p.0; runs = p.1; before = p.2 }

heading_of_found : (d : Document) (i : ℕ) (r : Running) → running_at d i ≡ Some r → r.heading ≡ i
heading_of_found d i r is = go (open_line (node_at d i).node.section) is
  where
    go : (o : Option Span) → option_map (λ (span : Span). record { heading = i; line = span_from (section_start d i) span }) o ≡ Some r → r.heading ≡ i
    go None e = absurd (cc)
    go (Some span) e = cc

none_found : (d : Document) (i : ℕ) → runs_at (node_at d i) ≡ true → running_at d i ≡ None → ⊥
none_found d i runs none = false≢true (sym (sym runs ∙ sym (some_mapped _ (open_line (node_at d i).node.section)) ∙ ap is_some none))

pub first_running : (d : Document) (r : Running) → running_in d ≡ Some r → First d r.heading
first_running d r is = by_heading (running_heading d) refl
  where
    by_heading : (o : Option ℕ) → running_heading d ≡ o → First d r.heading
    by_heading None none = absurd (let gone : None ≡ Some r = sym (ap (λ (o : Option ℕ). o >>= running_at d) none) ∙ is in cc)
    by_heading (Some i) some =
        let here : running_at d i ≡ Some r = sym (ap (λ (o : Option ℕ). o >>= running_at d) some) ∙ is in
        subst (First d) (sym (heading_of_found d i r here)) (first_at d i some)

runs_none : (d : Document) → running_in d ≡ None → NoneRuns (nodes d)
runs_none d is = by_heading (running_heading d) refl
  where
    by_heading : (o : Option ℕ) → running_heading d ≡ o → NoneRuns (nodes d)
    by_heading None none = all_none (nodes d) none
      where
        all_none : (ps : List Placed) → position runs_at ps ≡ None → NoneRuns ps
        all_none [] e = tt
        all_none (p ∷ ps) e =
            elim (cases_Bool (runs_at p)) [
              | inl t ↦ absurd (let found : Some 0 ≡ None = sym (position_here runs_at p ps t) ∙ e in cc)
              | inr f ↦ (f, all_none ps (later (position runs_at ps) (sym (position_later runs_at p ps f) ∙ e)))
            ]
          where
            later : (o : Option ℕ) → option_map suc o ≡ None → o ≡ None
            later None e = refl
            later (Some k) e = absurd (cc)
    by_heading (Some i) some =
        let none : running_at d i ≡ None = sym (ap (λ (o : Option ℕ). o >>= running_at d) some) ∙ is in
        absurd (none_found d i (first_at d i some).runs none)

-- ---- the same by lines: none below a heading is open, where `below` says so of the first

abbrev pub IsQuiet : Bool → List (List ℕ) → Type 0
IsQuiet below [] = Unit {0}
IsQuiet below (l ∷ ls) = (below ≡ true → level_of l ≡ None → is_open l ≡ false) × IsQuiet (below || is_some (level_of l)) ls

quiet_front : (below : Bool) (xs ys : List (List ℕ)) → IsQuiet below (xs ++ ys) → IsQuiet below xs
quiet_front below [] ys q = tt
quiet_front below (l ∷ xs) ys q = (q.0, quiet_front (below || is_some (level_of l)) xs ys q.1)

or_more : (f g h : Bool) → (f ≡ true → g ≡ true) → (f || h) ≡ true → (g || h) ≡ true
or_more true g h more e = ap (λ b. b || h) (more refl)
or_more false true h more e = refl
or_more false false h more e = e

quiet_less : (f g : Bool) (ls : List (List ℕ)) → (f ≡ true → g ≡ true) → IsQuiet g ls → IsQuiet f ls
quiet_less f g [] more q = tt
quiet_less f g (l ∷ ls) more q =
    let h = is_some (level_of l) in
    (λ below. q.0 (more below), quiet_less (f || h) (g || h) ls (or_more f g h more) q.1)

quiet_back : (below : Bool) (xs ys : List (List ℕ)) → IsQuiet below (xs ++ ys) → IsQuiet false ys
quiet_back below [] ys q = quiet_less false below ys (λ e. absurd (false≢true e)) q
quiet_back below (l ∷ xs) ys q = quiet_back (below || is_some (level_of l)) xs ys q.1

-- what stands before the first heading of a document, where that is below one, and its headings
record Quiet (below : Bool) (at : ℕ) (d : Document) : Type 0 where
  preamble : below ≡ true → NoneOpen d.preamble
  nodes : NoneRuns (nodes_at at d)

or_false : (b : Bool) → (b || false) ≡ b
or_false true = refl
or_false false = refl

or_true : (b : Bool) → (b || true) ≡ true
or_true true = refl
or_true false = refl

quiet_with : (o : Option ℕ) (below : Bool) (at : ℕ) (l : List ℕ) (d : Document) → level_of l ≡ o → (below ≡ true → o ≡ None → is_open l ≡ false) → Quiet (below || is_some o) (at + length l + 1) d → Quiet below at (with_line o l d)
quiet_with None below at l d e own q = record {
  preamble = λ is. (own is refl, q.preamble (or_false below ∙ is));
  nodes = subst NoneRuns (sym (nodes-with_line None at l d e)) q.nodes;
}
quiet_with (Some n) below at l d e own q = record {
  preamble = λ is. tt;
  nodes = subst NoneRuns (sym (nodes-with_line (Some n) at l d e)) (runs_unless d.preamble (q.preamble (or_true below)), q.nodes);
}

quiet_tree : (below : Bool) (at : ℕ) (ls : List (List ℕ)) → IsQuiet below ls → Quiet below at (tree_of_lines ls)
quiet_tree below at [] q = record { preamble = λ is. tt; nodes = tt }
quiet_tree below at (l ∷ ls) q =
    quiet_with (level_of l) below at l (tree_of_lines ls) refl q.0 (quiet_tree (below || is_some (level_of l)) (at + length l + 1) ls q.1)

quiet_without : (o : Option ℕ) (below : Bool) (at : ℕ) (l : List ℕ) (d : Document) → level_of l ≡ o → Quiet below at (with_line o l d) → (below ≡ true → o ≡ None → is_open l ≡ false) × Quiet (below || is_some o) (at + length l + 1) d
quiet_without None below at l d e q = (
  λ is none. (q.preamble is).0,
  record {
    preamble = λ is. (q.preamble (sym (or_false below) ∙ is)).1;
    nodes = subst NoneRuns (nodes-with_line None at l d e) q.nodes;
  },
)
quiet_without (Some n) below at l d e q =
    let all : NoneRuns (with_node (Some n) at l d (nodes_at (at + length l + 1) d)) = subst NoneRuns (nodes-with_line (Some n) at l d e) q.nodes in (
      λ is none. absurd (cc),
      record { preamble = λ is. unless_runs d.preamble all.0; nodes = all.1 },
    )

tree_quiet : (below : Bool) (at : ℕ) (ls : List (List ℕ)) → Quiet below at (tree_of_lines ls) → IsQuiet below ls
tree_quiet below at [] q = tt
tree_quiet below at (l ∷ ls) q =
    let parts = quiet_without (level_of l) below at l (tree_of_lines ls) refl q in
    (parts.0, tree_quiet (below || is_some (level_of l)) (at + length l + 1) ls parts.1)

-- of a text
quiet_text : (t : List ℕ) → running_in (tree t) ≡ None → IsQuiet false (lines_of t)
quiet_text t is = tree_quiet false 0 (lines_of t) (record { preamble = λ e. absurd (false≢true e); nodes = subst NoneRuns (sym (nodes_at-start t)) (runs_none (tree t) is) })

text_quiet : (t : List ℕ) → IsQuiet false (lines_of t) → running_in (tree t) ≡ None
text_quiet t q = none_runs (tree t) (subst NoneRuns (nodes_at-start t) (quiet_tree false 0 (lines_of t) q).nodes)

-- ---- texts put together

clockless_parts : (a b : List ℕ) → terminated a ≡ a → running_in (tree (a ++ b)) ≡ None → (running_in (tree a) ≡ None) × (running_in (tree b) ≡ None)
clockless_parts a b whole is =
    let q = subst (IsQuiet false) (lines_of-both a b whole) (quiet_text (a ++ b) is) in
    (text_quiet a (quiet_front false (lines_of a) (lines_of b) q), text_quiet b (quiet_back false (lines_of a) (lines_of b) q))

is_none : {X : Type 0} (o : Option X) → is_some o ≡ false → o ≡ None
is_none None e = refl
is_none (Some x) e = absurd (false≢true (sym e))

pub no_clock : (t : List ℕ) → has_clock t ≡ false → running_in (tree t) ≡ None
no_clock t none = is_none (running_in (tree t)) none

-- a clock that runs stands in whole lines
pub clocks_stand : StandsInLines has_clock
clocks_stand = record {
  none = refl;
  front = λ a b whole none. ap is_some (clockless_parts a b whole (no_clock (a ++ b) none)).0;
  back = λ a b whole none. ap is_some (clockless_parts a b whole (no_clock (a ++ b) none)).1;
}

-- ---- headings

abbrev marks : ℕ → List (List ℕ) → List Bool
marks at ls = map runs_at (nodes_at at (tree_of_lines ls))

abbrev with_mark : Option ℕ → List (List ℕ) → List Bool → List Bool
with_mark None section ms = ms
with_mark (Some n) section ms = is_some (open_line section) ∷ ms

marks-with_line : (o : Option ℕ) (at : ℕ) (l : List ℕ) (d : Document) → level_of l ≡ o → map runs_at (nodes_at at (with_line o l d)) ≡ with_mark o d.preamble (map runs_at (nodes_at (at + length l + 1) d))
marks-with_line None at l d e = ap (map runs_at) (nodes-with_line None at l d e)
marks-with_line (Some n) at l d e = ap (map runs_at) (nodes-with_line (Some n) at l d e)

-- lines cut before the heading of this number
record Cut (at : ℕ) (ls : List (List ℕ)) (k : ℕ) : Type 0 where
  xs : List (List ℕ)
  ys : List (List ℕ)
  lines : ls ≡ xs ++ ys
  place : (get_or (nodes_at at (tree_of_lines ls)) k no_node).at ≡ at + size xs
  runs : marks at ls ≡ marks at xs ++ marks (at + size xs) ys
  count : length (marks at xs) ≡ k
  preamble : (tree_of_lines ls).preamble ≡ (tree_of_lines xs).preamble

cut_with : (o : Option ℕ) (at k : ℕ) (l : List ℕ) (ls : List (List ℕ)) → level_of l ≡ o → k < length (nodes_at at (with_line o l (tree_of_lines ls)))
    → ((j : ℕ) → j < length (nodes_at (at + length l + 1) (tree_of_lines ls)) → Cut (at + length l + 1) ls j) → Cut at (l ∷ ls) k
cut_with None at k l ls e less cut =
    let d = tree_of_lines ls in
    let next = at + length l + 1 in
    let whole : tree_of_lines (l ∷ ls) ≡ with_line None l d = ap (λ (o : Option ℕ). with_line o l d) e in
    let all : nodes_at at (tree_of_lines (l ∷ ls)) ≡ nodes_at next d = ap (nodes_at at) whole ∙ nodes-with_line None at l d e in
    let c = cut k (omega (arith, less, ap length (nodes-with_line None at l d e))) in
    let part : tree_of_lines (l ∷ c.xs) ≡ with_line None l (tree_of_lines c.xs) = ap (λ (o : Option ℕ). with_line o l (tree_of_lines c.xs)) e in
    let own : marks at (l ∷ c.xs) ≡ marks next c.xs = ap (λ (x : Document). map runs_at (nodes_at at x)) part ∙ marks-with_line None at l (tree_of_lines c.xs) e in
    let there : next + size c.xs ≡ at + size (l ∷ c.xs) = omega (arith, size-cons l c.xs) in
    record {
      xs = l ∷ c.xs;
      ys = c.ys;
      lines = ap (λ (x : List (List ℕ)). l ∷ x) c.lines;
      place = ap (λ (ps : List Placed). (get_or ps k no_node).at) all ∙ c.place ∙ there;
      runs = ap (map runs_at) all ∙ c.runs ∙ ap (λ (n : ℕ). marks next c.xs ++ marks n c.ys) there ∙ ap (λ (ms : List Bool). ms ++ marks (at + size (l ∷ c.xs)) c.ys) (sym own);
      count = ap length own ∙ c.count;
      preamble = ap (λ (x : Document). x.preamble) whole ∙ ap (λ (x : List (List ℕ)). l ∷ x) c.preamble ∙ ap (λ (x : Document). x.preamble) (sym part);
    }
cut_with (Some n) at zero l ls e less cut =
    let d = tree_of_lines ls in
    let whole : tree_of_lines (l ∷ ls) ≡ with_line (Some n) l d = ap (λ (o : Option ℕ). with_line o l d) e in
    let all = ap (nodes_at at) whole ∙ nodes-with_line (Some n) at l d e in
    let none : at ≡ at + 0 = omega arith in
    record {
      xs = [];
      ys = l ∷ ls;
      lines = refl;
      place = ap (λ (ps : List Placed). (get_or ps 0 no_node).at) all ∙ none;
      runs = ap (λ (n : ℕ). marks n (l ∷ ls)) none;
      count = refl;
      preamble = ap (λ (x : Document). x.preamble) whole;
    }
cut_with (Some n) at (suc k) l ls e less cut =
    let d = tree_of_lines ls in
    let next = at + length l + 1 in
    let whole : tree_of_lines (l ∷ ls) ≡ with_line (Some n) l d = ap (λ (o : Option ℕ). with_line o l d) e in
    let all : nodes_at at (tree_of_lines (l ∷ ls)) ≡ with_node (Some n) at l d (nodes_at next d) = ap (nodes_at at) whole ∙ nodes-with_line (Some n) at l d e in
    let c = cut k (omega (arith, less, ap length (nodes-with_line (Some n) at l d e))) in
    let part : tree_of_lines (l ∷ c.xs) ≡ with_line (Some n) l (tree_of_lines c.xs) = ap (λ (o : Option ℕ). with_line o l (tree_of_lines c.xs)) e in
    let own : marks at (l ∷ c.xs) ≡ with_mark (Some n) (tree_of_lines c.xs).preamble (marks next c.xs) = ap (λ (x : Document). map runs_at (nodes_at at x)) part ∙ marks-with_line (Some n) at l (tree_of_lines c.xs) e in
    let there : next + size c.xs ≡ at + size (l ∷ c.xs) = omega (arith, size-cons l c.xs) in
    record {
      xs = l ∷ c.xs;
      ys = c.ys;
      lines = ap (λ (x : List (List ℕ)). l ∷ x) c.lines;
      place = ap (λ (ps : List Placed). (get_or ps (suc k) no_node).at) all ∙ c.place ∙ there;
      runs = ap (map runs_at) all
          ∙ ap (λ (ms : List Bool). is_some (open_line d.preamble) ∷ ms) (c.runs ∙ ap (λ (n : ℕ). marks next c.xs ++ marks n c.ys) there)
          ∙ ap (λ (s : List (List ℕ)). is_some (open_line s) ∷ (marks next c.xs ++ marks (at + size (l ∷ c.xs)) c.ys)) c.preamble
          ∙ ap (λ (ms : List Bool). ms ++ marks (at + size (l ∷ c.xs)) c.ys) (sym own);
      count = ap length own ∙ ap suc c.count;
      preamble = ap (λ (x : Document). x.preamble) whole ∙ ap (λ (x : Document). x.preamble) (sym part);
    }

cut_at : (at : ℕ) (ls : List (List ℕ)) (k : ℕ) → k < length (nodes_at at (tree_of_lines ls)) → Cut at ls k
cut_at at [] k less = absurd (omega (arith, less))
cut_at at (l ∷ ls) k less = cut_with (level_of l) at k l ls refl less (λ j small. cut_at (at + length l + 1) ls j small)

-- a text cut there
record TextCut (t : List ℕ) (k : ℕ) : Type 0 where
  a : List ℕ
  b : List ℕ
  parts : t ≡ a ++ b
  whole : terminated a ≡ a
  long : (node_at (tree t) k).at ≡ length a
  runs : map runs_at (nodes (tree t)) ≡ marks 0 (lines_of a) ++ marks (length a) (lines_of b)
  count : length (marks 0 (lines_of a)) ≡ k

lines_front : (xs ys : List (List ℕ)) → AllByRecursion IsLine (xs ++ ys) → AllByRecursion IsLine xs
lines_front [] ys all = tt
lines_front (l ∷ xs) ys all = (all.0, lines_front xs ys all.1)

lines_back : (xs ys : List (List ℕ)) → AllByRecursion IsLine (xs ++ ys) → AllByRecursion IsLine ys
lines_back [] ys all = all
lines_back (l ∷ xs) ys all = lines_back xs ys all.1

cut_text : (t : List ℕ) (k : ℕ) → terminated t ≡ t → k < node_count (tree t) → TextCut t k
cut_text t k whole less =
    let c = cut_at 0 (lines_of t) k (omega (arith, less, ap length (nodes_at-start t))) in
    let lines : AllByRecursion IsLine (c.xs ++ c.ys) = subst (AllByRecursion IsLine) c.lines (lines_of-lines t) in
    let a = print_lines c.xs in
    let b = print_lines c.ys in
    let xs : lines_of a ≡ c.xs = lines_of-print_lines c.xs (lines_front c.xs c.ys lines) in
    let ys : lines_of b ≡ c.ys = lines_of-print_lines c.ys (lines_back c.xs c.ys lines) in
    let none : 0 + length a ≡ length a = omega arith in
    record {
      a = a;
      b = b;
      parts = sym (print_lines-lines_of t ∙ whole) ∙ ap print_lines c.lines ∙ print_lines-append c.xs c.ys;
      whole = terminated-print_lines c.xs;
      long = ap (λ (ps : List Placed). (get_or ps k no_node).at) (sym (nodes_at-start t)) ∙ c.place ∙ none;
      runs = ap (map runs_at) (sym (nodes_at-start t)) ∙ c.runs ∙ ap (λ (n : ℕ). marks 0 c.xs ++ marks n c.ys) none
          ∙ ap (λ (ls : List (List ℕ)). marks 0 ls ++ marks (length a) c.ys) (sym xs) ∙ ap (λ (ls : List (List ℕ)). marks 0 (lines_of a) ++ marks (length a) ls) (sym ys);
      count = ap (λ (ls : List (List ℕ)). length (marks 0 ls)) xs ∙ c.count;
    }

-- the mark of a heading
mark_at : (t : List ℕ) (k : ℕ) → k < node_count (tree t) → get_or (map runs_at (nodes (tree t))) k false ≡ runs_at (node_at (tree t) k)
mark_at t k less = get_or-map runs_at (nodes (tree t)) k no_node false less

quiet_marks : (at j : ℕ) (t : List ℕ) → running_in (tree t) ≡ None → get_or (marks at (lines_of t)) j false ≡ false
quiet_marks at j t is = all_false (nodes_at at (tree t)) j (quiet_tree false at (lines_of t) (quiet_text t is)).nodes
  where
    all_false : (ps : List Placed) (j : ℕ) → NoneRuns ps → get_or (map runs_at ps) j false ≡ false
    all_false [] j q = refl
    all_false (p ∷ ps) zero q = q.0
    all_false (p ∷ ps) (suc j) q = all_false ps j q.1

pub front_runs_not : (t : List ℕ) (front k : ℕ) → terminated t ≡ t → IsFrontWithout has_clock front t → k < node_count (tree t) → (node_at (tree t) k).at ≤ front → (j : ℕ) → j < k → runs_at (node_at (tree t) j) ≡ false
front_runs_not t front k whole known less le j before =
    let c = cut_text t k whole less in
    let none = no_clock c.a (known c.a c.b c.parts c.whole (omega (arith, le, c.long))) in
    sym (mark_at t j (omega (arith, before, less))) ∙ ap (λ (ms : List Bool). get_or ms j false) c.runs
    ∙ get_or_append_left (marks 0 (lines_of c.a)) (marks (length c.a) (lines_of c.b)) false j (omega (arith, before, c.count)) ∙ quiet_marks 0 j c.a none

pub back_runs_not : (t : List ℕ) (back k : ℕ) → terminated t ≡ t → IsBackWithout has_clock back t → k < node_count (tree t) → length t < back + (node_at (tree t) k).at → (j : ℕ) → k ≤ j → j < node_count (tree t) → runs_at (node_at (tree t) j) ≡ false
back_runs_not t back k whole known less near j behind within =
    let c = cut_text t k whole less in
    let none = no_clock c.b (known c.a c.b c.parts c.whole (omega (arith, near, c.long, ap length c.parts, length-append c.a c.b))) in
    sym (mark_at t j within) ∙ ap (λ (ms : List Bool). get_or ms j false) c.runs
    ∙ get_or-append_right (marks 0 (lines_of c.a)) (marks (length c.a) (lines_of c.b)) k j false c.count behind
    ∙ quiet_marks (length c.a) (j - k) c.b none

-- none runs before the heading where the first one does
pub found_front : (t : List ℕ) (i : ℕ) → terminated t ≡ t → First (tree t) i → IsFrontWithout has_clock (node_at (tree t) i).at t
found_front t i whole first =
    let c = cut_text t i whole first.within in
    let quiet : NoneRuns (nodes_at 0 (tree c.a)) = from_marks (nodes_at 0 (tree c.a)) (λ k less.
    sym (get_or_append_left (marks 0 (lines_of c.a)) (marks (length c.a) (lines_of c.b)) false k less) ∙ ap (λ (ms : List Bool). get_or ms k false) (sym c.runs)
    ∙ mark_at t k (let w = first.within in omega (arith, less, c.count, w)) ∙ first.before k (omega (arith, less, c.count))) in
    let none : running_in (tree c.a) ≡ None = none_runs (tree c.a) (subst NoneRuns (nodes_at-start c.a) quiet) in
    subst (λ (n : ℕ). IsFrontWithout has_clock n t) (sym c.long) (front_of has_clock clocks_stand t c.a c.b c.parts (ap is_some none))
  where
    from_marks : (ps : List Placed) → ((k : ℕ) → k < length (map runs_at ps) → get_or (map runs_at ps) k false ≡ false) → NoneRuns ps
    from_marks [] each = tt
    from_marks (p ∷ ps) each = (each 0 (omega arith), from_marks ps (λ k less. each (suc k) (omega (arith, less))))

-- ---- the search

-- the headings that begin before a byte
pub before_place : (t : List ℕ) (front n first : ℕ) → terminated t ≡ t → IsFrontWithout has_clock front t → n ≡ prefix_len (λ (p : Placed). ltb p.at front) (nodes (tree t)) → n ≤ node_count (tree t) → first ≡ n - 1
    → (k : ℕ) → k < first → runs_at (node_at (tree t) k) ≡ false
before_place t front n first whole known count within is k less =
    let passes : ltb (node_at (tree t) first).at front ≡ true = prefix_len_passes (λ (p : Placed). ltb p.at front) (nodes (tree t)) first no_node (omega (arith, count, is, less)) in
    let near : (node_at (tree t) first).at ≤ front = grind (arith, nat_tests) in
    front_runs_not t front first whole known (omega (arith, is, within, less)) near k less

pub behind_place : (t : List ℕ) (back place last : ℕ) → terminated t ≡ t → IsBackWithout has_clock back t → place ≡ length t + 1 - back → last ≡ prefix_len (λ (p : Placed). ltb p.at place) (nodes (tree t))
    → (k : ℕ) → last ≤ k → k < node_count (tree t) → runs_at (node_at (tree t) k) ≡ false
behind_place t back place last whole known is count k behind within =
    let less : last < node_count (tree t) = omega (arith, behind, within) in
    let stops : ltb (get_or (nodes (tree t)) (prefix_len (λ (p : Placed). ltb p.at place) (nodes (tree t))) no_node).at place ≡ false = prefix_len_stops (λ (p : Placed). ltb p.at place) (nodes (tree t)) no_node (omega (arith, count, less)) in
    let here : ltb (node_at (tree t) last).at place ≡ false = ap (λ (n : ℕ). ltb (node_at (tree t) n).at place) count ∙ stops in
    let far : place ≤ (node_at (tree t) last).at = grind (arith, nat_tests) in
    back_runs_not t back last whole known less (omega (arith, is, far)) k behind within
