-- What clocking makes is valid, and what is closed counts.
use Rattle.std.proofs.Common.{◌≡◌, ℕ, ◌+◌, ◌<◌, true, false, Some, None, Ok, List, [], ◌∷◌, filter, min, refl, sym, ap, subst, ◌∙◌, arith, inl, inr}
use Rattle.std.specs.Prelude.{codes}
use Rattle.std.specs.List.{AllByRecursion, sum_by}
use Rattle.std.proofs.lemmas.Bool.{cases_Bool}
use Rattle.std.proofs.lemmas.List.Quantifiers.{position-Some}
use Rattle.std.proofs.lemmas.List.Sums.{sum_by-cons}
use Rattle.org_splice.specs.Lines.{IsLine}
use Rattle.org_stamp.specs.Calendar.{Moment, IsDay}
use Rattle.org_headings.specs.Text.{level_of}
use Rattle.org_outline.specs.Tree.{Document, IsPlain, IsValid, Node, node_at, node_count, nodes, no_node, print, tree}
use Rattle.org_outline.specs.Moves.{IsNode}
use Rattle.org_outline.specs.Numbers.{weigh_node}
use Rattle.org_outline.proofs.Changes.{own_lines_valid}
use Rattle.org_outline.proofs.Rewriting.{node-rewritten}
use Rattle.org_outline.proofs.Sections.{valid_node}
use Rattle.org_outline.proofs.Trees.{tree-is}
use Rattle.org_outline.proofs.Valid.{tree-print}
use Rattle.org_fault.specs.declared.refusal.Refusal.{Refusal}
use Rattle.org_meta.specs.Clocks.{is_open, minutes_in}
use Rattle.org_meta.specs.Clocking.{clock_line, closed_line, minutes_run}
use Rattle.org_meta.proofs.ClosedClocks.{NoStar, opened_is_line, closed_is_line, closed_begins, closed_says, open_says, not_run}
use Rattle.org_meta.proofs.Flat.{tested}
use Rattle.org_meta.proofs.Keeping.{keeps_opened}
use Rattle.org_state.specs.Clock.{runs_at, running_heading, with_section_at, opened_section, with_opened, closed_first, with_closed, switched, clocked_minutes}
use Rattle.org_state.specs.Open.{open_clocks}
use Rattle.org_state.proofs.Opens.{map_ok, switched_by, closed_count, clock_runs, first_line}

-- ---- valid

pub no_star : (l : List ℕ) → NoStar l → level_of l ≡ None
no_star l s = ap level_of s.is ∙ rw s.other refl

mark_plain : (l : List ℕ) → IsLine l → level_of l ≡ None → IsPlain l
mark_plain l line none = (line, none)

closed_plain : (now : Moment) (l new : List ℕ) → closed_line now l ≡ Ok new → IsPlain l → IsPlain new
closed_plain now l new e plain =
    elim (cases_Bool (is_open l)) [
      | inl runs ↦ (closed_is_line now l new e plain.0, no_star new (closed_begins now l new runs e))
      | inr other ↦ subst IsPlain (not_run now l new other e) plain
    ]

first_plain : (now : Moment) (ls new : List (List ℕ)) → closed_first now ls ≡ Ok new → AllByRecursion IsPlain ls → AllByRecursion IsPlain new
first_plain now [] new e all = let same : [] ≡ new = cc in subst (AllByRecursion IsPlain) same all
first_plain now (l ∷ ls) new e all =
    elim (cases_Bool (is_open l)) [
      | inl runs ↦
          let c = map_ok (λ closed. closed ∷ ls) (λ (why : Refusal). why) (closed_line now l) new (rw runs at e) in
          subst (AllByRecursion IsPlain) c.2 (closed_plain now l c.0 c.1 all.0, all.1)
      | inr other ↦
          let more = map_ok (λ more. l ∷ more) (λ (why : Refusal). why) (closed_first now ls) new (rw other at e) in
          subst (AllByRecursion IsPlain) more.2 (all.0, first_plain now ls more.0 more.1 all.1)
    ]

section_valid : (i : ℕ) (d : Document) (section : List (List ℕ)) → i < node_count d → IsValid d → (AllByRecursion IsPlain (node_at d i).node.section → AllByRecursion IsPlain section) → IsValid (with_section_at i d section)
section_valid i d section lt valid plain =
    let own : IsNode (node_at d i).node = valid_node d i valid lt in
    own_lines_valid i (node_at d i).node.rest section d own.heading.space own.heading.rest (plain own.heading.section) valid

pub opened_valid : (now : Moment) (i : ℕ) (d : Document) → i < node_count d → IsValid d → IsValid (with_opened now i d)
opened_valid now i d lt valid =
    section_valid i d (opened_section now d i) lt valid (λ plain. keeps_opened IsPlain now (node_at d i).node.section
    (mark_plain (clock_line now) (opened_is_line now) refl) (mark_plain (codes ":LOGBOOK:") (tested (codes ":LOGBOOK:") refl).flat refl) (mark_plain (codes ":END:") (tested (codes ":END:") refl).flat refl) plain)

pub closed_valid : (now : Moment) (i : ℕ) (d new : Document) → i < node_count d → with_closed now i d ≡ Ok new → IsValid d → IsValid new
closed_valid now i d new lt e valid =
    let c = map_ok (with_section_at i d) (λ (why : Refusal). why) (closed_first now (node_at d i).node.section) new e in
    subst IsValid c.2 (section_valid i d c.0 lt valid (first_plain now (node_at d i).node.section c.0 c.1))

pub switched_valid : (now : Moment) (from i : ℕ) (d new : Document) → from < node_count d → i < node_count d → switched now from d i ≡ Ok (Some new) → IsValid d → IsValid new
switched_valid now from i d new there lt e valid =
    let s = switched_by now from i d new e in
    let count : i < node_count s.middle = omega (arith, lt, closed_count now from d s.middle s.closed) in
    subst IsValid s.opened (opened_valid now i s.middle count (closed_valid now from d s.middle there s.closed valid))

-- ---- so the tree of the new text is what was made

pub opened_reads_back : (now : Moment) (i : ℕ) (t : List ℕ) → i < node_count (tree t) → tree (print (with_opened now i (tree t))) ≡ with_opened now i (tree t)
opened_reads_back now i t lt = tree-print _ (opened_valid now i (tree t) lt (tree-is t).valid)

pub closed_reads_back : (now : Moment) (i : ℕ) (t : List ℕ) (new : Document) → i < node_count (tree t) → with_closed now i (tree t) ≡ Ok new → tree (print new) ≡ new
closed_reads_back now i t new lt e = tree-print new (closed_valid now i (tree t) new lt e (tree-is t).valid)

pub switched_reads_back : (now : Moment) (from i : ℕ) (t : List ℕ) (new : Document) → from < node_count (tree t) → i < node_count (tree t) → switched now from (tree t) i ≡ Ok (Some new) → tree (print new) ≡ new
switched_reads_back now from i t new there lt e = tree-print new (switched_valid now from i (tree t) new there lt e (tree-is t).valid)

-- ---- the minutes

line_opens : (line : List ℕ) (ls : List (List ℕ)) → is_open line ≡ true → filter is_open (line ∷ ls) ≡ line ∷ filter is_open ls
line_opens line ls runs = rw runs refl

line_closes : (l : List ℕ) (ls : List (List ℕ)) → is_open l ≡ false → filter is_open (l ∷ ls) ≡ filter is_open ls
line_closes l ls other = rw other refl

first_counts : (now : Moment) (ls new : List (List ℕ)) (line : List ℕ) (more : List (List ℕ)) (minutes : ℕ) → IsDay now.day → now.minute < 1440 → filter is_open ls ≡ line ∷ more → minutes_run now line ≡ Some minutes
    → closed_first now ls ≡ Ok new → sum_by minutes_in new ≡ sum_by minutes_in ls + minutes
first_counts now [] new line more minutes day minute opens run e = absurd cc
first_counts now (l ∷ ls) new line more minutes day minute opens run e =
    elim (cases_Bool (is_open l)) [
      | inl runs ↦
          let c = map_ok (λ closed. closed ∷ ls) (λ (why : Refusal). why) (closed_line now l) new (rw runs at e) in
          let same : l ≡ line = (let both : l ∷ filter is_open ls ≡ line ∷ more = sym (line_opens l ls runs) ∙ opens in cc) in
          let says : minutes_in c.0 ≡ minutes = closed_says now l c.0 minutes day minute (ap (minutes_run now) same ∙ run) c.1 in
          ap (sum_by minutes_in) (sym c.2) ∙ sum_by-cons minutes_in c.0 ls ∙ omega (arith, says, open_says l runs, sum_by-cons minutes_in l ls)
      | inr other ↦
          let later = map_ok (λ more. l ∷ more) (λ (why : Refusal). why) (closed_first now ls) new (rw other at e) in
          let rest = first_counts now ls later.0 line more minutes day minute (sym (line_closes l ls other) ∙ opens) run later.1 in
          ap (sum_by minutes_in) (sym later.2) ∙ sum_by-cons minutes_in l later.0 ∙ omega (arith, rest, sum_by-cons minutes_in l ls)
    ]

pub closing_adds : (now : Moment) (i : ℕ) (line : List ℕ) (more : List (ℕ × List ℕ)) (minutes : ℕ) (d new : Document) → IsDay now.day → now.minute < 1440
    → open_clocks d ≡ (i, line) ∷ more → minutes_run now line ≡ Some minutes → with_closed now i d ≡ Ok new
    → clocked_minutes new i ≡ min (clocked_minutes d i + minutes) 18_446_744_073_709_551_615
closing_adds now i line more minutes d new day minute opens run e =
    let cap : ℕ = 18_446_744_073_709_551_615 in
    let own : Node = (node_at d i).node in
    let weight : Node → ℕ = weigh_node (λ rest section. sum_by minutes_in section) in
    let runs : running_heading d ≡ Some i = clock_runs i line more d opens in
    let lt : i < node_count d = (position-Some runs_at (nodes d) i no_node runs).0 in
    let c = map_ok (with_section_at i d) (λ (why : Refusal). why) (closed_first now own.section) new e in
    let first = first_line 0 i i (nodes d) line more runs opens in
    let counts : sum_by minutes_in c.0 ≡ sum_by minutes_in own.section + minutes = first_counts now own.section c.0 line first.0 minutes day minute first.1 run c.1 in
    let there : (node_at new i).node ≡ record own { section = c.0 } = ap (λ d. (node_at d i).node) (sym c.2) ∙ (node-rewritten i own.rest c.0 d lt).1 in
    let whole : weight (record own { section = c.0 }) ≡ weight own + minutes = omega (arith, counts) in
    ap (λ n. min (weight n) cap) there ∙ ap (λ n. min n cap) whole ∙ capped (weight own) minutes cap
  where
    capped : (a b cap : ℕ) → min (a + b) cap ≡ min (min a cap + b) cap
    capped a b cap = omega arith
