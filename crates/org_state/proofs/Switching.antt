-- Clocks opened and closed, as edits of their texts.
use Rattle.std.proofs.Common.{rules, ◌≡◌, ℕ, suc, ◌+◌, ◌-◌, ◌<◌, ◌≤◌, true, false, Option, Some, None, Result, Ok, Err, List, [], ◌∷◌, ◌++◌, length, take, drop, refl, sym, ap, subst, ◌∙◌, arith, inl, inr, append_assoc, length-append}
use Rattle.std.proofs.lemmas.Grind.{common_steps}
use Rattle.std.specs.Prelude.{MatchResult}
use Rattle.std.specs.List.{position, AllByRecursion}
use Rattle.std.specs.Option.{option_map}
use Rattle.std.specs.Result.{result_map_both}
use Rattle.std.proofs.lemmas.Bool.{cases_Bool}
use Rattle.std.proofs.lemmas.List.{take_at, drop_at}
use Rattle.std.proofs.lemmas.List.Quantifiers.{position-Some}
use Rattle.org_splice.specs.Lines.{terminated, print_lines, lines_of, IsLine}
use Rattle.org_splice.specs.declared.Span.{Span}
use Rattle.org_splice.specs.declared.edit.Edit.{Edit}
use Rattle.org_splice.specs.Edits.{edited, AreEdits}
use Rattle.org_splice.proofs.Lines.{print_lines-append, lines_of-append, terminated-print_lines}
use Rattle.org_splice.proofs.Places.{edits_in_place}
use Rattle.org_stamp.specs.Calendar.{Moment}
use Rattle.org_stamp.proofs.Found.{bind_ok}
use Rattle.org_headings.specs.Text.{heading_line}
use Rattle.org_outline.specs.Tree.{Document, Node, print, tree, nodes, node_at, node_count, no_node}
use Rattle.org_outline.proofs.Changes.{own_lines_local}
use Rattle.org_outline.proofs.Rewriting.{same-rewritten}
use Rattle.org_fault.specs.declared.refusal.Refusal.{Refusal}
use Rattle.org_fault.specs.declared.fault.Fault.{Fault}
use Rattle.org_fault.specs.declared.fault.Fault.TheVariants.{OutOfMemory, Refused}
use Rattle.org_meta.specs.Clocks.{is_open, open_line, line_span, IsOpenAt, HasOpenAt}
use Rattle.org_meta.specs.Clocking.{opened, closed_line, Closes, ClosesNot}
use Rattle.org_meta.specs.Edits.{Rewrites, RewritesParts}
use Rattle.org_meta.specs.Sections.{parts_of}
use Rattle.org_state.specs.declared.run.Running.{Running}
use Rattle.org_state.specs.Edits.{section_start, moved, EditsSection}
use Rattle.org_state.specs.Clock.{runs_at, running_heading, span_from, running_at, running_in, with_section_at, opened_section, closed_first, AnswersClosing, ClosesSection}
use Rattle.org_state.proofs.Steps.{prints, section_step, section_is_lines}
use Rattle.org_state.proofs.Searches.{position_here, position_later}

-- ---- a section edited

pub section_made_in : (d : Document) (i : ℕ) (e : Edit) (new : List (List ℕ)) → i < node_count d → EditsSection e d i new → AreEdits (e ∷ []) (print d) (print (with_section_at i d new))
section_made_in d i e new lt edits =
    let n : Node = (node_at d i).node in
    let step = section_step i n.rest n.section d lt edits.own new refl edits.gives in
    subst (λ (e : Edit). AreEdits (e ∷ []) (print d) (print (with_section_at i d new))) (sym edits.is)
    (subst (λ (u : List ℕ). AreEdits (moved (section_start d i) edits.own ∷ []) u (print (with_section_at i d new))) (ap print (same-rewritten i d)) step)

pub section_made : (t : List ℕ) (i : ℕ) (e : Edit) (new : List (List ℕ)) → terminated t ≡ t → i < node_count (tree t) → EditsSection e (tree t) i new
    → AreEdits (e ∷ []) t (print (with_section_at i (tree t) new))
section_made t i e new stays_terminated lt edits =
    subst (λ (u : List ℕ). AreEdits (e ∷ []) u (print (with_section_at i (tree t) new))) (prints t stays_terminated) (section_made_in (tree t) i e new lt edits)

pub opening_edits : (d : Document) (i : ℕ) (now : Moment) (section : List ℕ) (e e2 : Edit)
    → section ≡ print_lines (node_at d i).node.section → lines_of section ≡ (node_at d i).node.section
    → RewritesParts e section (opened now (parts_of section)) → e2 ≡ moved (section_start d i) e → EditsSection e2 d i (opened_section now d i)
opening_edits d i now section e e2 bytes lines gives at = grind (arith, common_steps)

-- ---- the first open clock line

pub record FirstOpen (section : List (List ℕ)) (span : Span) : Type 0 where
  pub before : List (List ℕ)
  pub line : List ℕ
  pub after : List (List ℕ)
  pub is : section ≡ before ++ (line ∷ after)
  pub start : span.start ≡ length (print_lines before)
  pub end : span.end ≡ length (print_lines before) + length line + 1
  pub runs : is_open line ≡ true
  pub closes : (now : Moment) (terminated : List ℕ) → closed_line now line ≡ Ok terminated → closed_first now section ≡ Ok (before ++ (terminated ∷ after))
  pub refuses : (now : Moment) (why : Refusal) → closed_line now line ≡ Err why → closed_first now section ≡ Err why

map_some : {A B : Type 0} (f : A → B) (o : Option A) (y : B) → option_map f o ≡ Some y → (x : A) × (o ≡ Some x) × (f x ≡ y)
map_some f None y e = absurd cc
map_some f (Some x) y e = (x, refl, cc)

first_closes : (now : Moment) (l : List ℕ) (ls : List (List ℕ)) (r : Result (List ℕ) Refusal) → is_open l ≡ true → closed_line now l ≡ r
    → closed_first now (l ∷ ls) ≡ result_map_both (λ terminated. terminated ∷ ls) (λ why. why) r
first_closes now l ls r runs is = rw runs (ap (result_map_both (λ terminated. terminated ∷ ls) (λ why. why)) is)

later_closes : (now : Moment) (l : List ℕ) (ls : List (List ℕ)) (r : Result (List (List ℕ)) Refusal) → is_open l ≡ false → closed_first now ls ≡ r
    → closed_first now (l ∷ ls) ≡ result_map_both (λ more. l ∷ more) (λ why. why) r
later_closes now l ls r other is = rw other (ap (result_map_both (λ more. l ∷ more) (λ why. why)) is)

open_here : (l : List ℕ) (ls : List (List ℕ)) (span : Span) → is_open l ≡ true → open_line (l ∷ ls) ≡ Some span → FirstOpen (l ∷ ls) span
open_here l ls span runs e =
    let place : open_line (l ∷ ls) ≡ Some (line_span (l ∷ ls) 0) = ap (option_map (line_span (l ∷ ls))) (position_here is_open l ls runs) in
    let same : line_span (l ∷ ls) 0 ≡ span = let both : Some (line_span (l ∷ ls) 0) ≡ Some span = sym place ∙ e in cc in
    record {
      before = [];
      line = l;
      after = ls;
      is = refl;
      start = ap (λ (s : Span). s.start) (sym same);
      end = ap (λ (s : Span). s.end) (sym same) ∙ length-append l (10 ∷ []) ∙ (let n : length l + 1 ≡ 0 + length l + 1 = omega arith in n);
      runs = runs;
      closes = λ now terminated is. first_closes now l ls (Ok terminated) runs is;
      refuses = λ now fault is. first_closes now l ls (Err fault) runs is;
    }

later_span : (l : List ℕ) (ls : List (List ℕ)) (k : ℕ) → ((line_span (l ∷ ls) (suc k)).start ≡ length l + 1 + (line_span ls k).start) × ((line_span (l ∷ ls) (suc k)).end ≡ length l + 1 + (line_span ls k).end)
later_span l ls k = search (rules, arith, length-append)

open_later : (l : List ℕ) (ls : List (List ℕ)) (k : ℕ) (span : Span) → is_open l ≡ false → line_span (l ∷ ls) (suc k) ≡ span → FirstOpen ls (line_span ls k) → FirstOpen (l ∷ ls) span
open_later l ls k span other same f =
    let at = later_span l ls k in
    let long : length (print_lines (l ∷ f.before)) ≡ length l + 1 + length (print_lines f.before) = length-append l (10 ∷ print_lines f.before) ∙ omega arith in
    record {
      before = l ∷ f.before;
      line = f.line;
      after = f.after;
      is = ap (λ (ls : List (List ℕ)). l ∷ ls) f.is;
      start = ap (λ (s : Span). s.start) (sym same) ∙ at.0 ∙ ap (λ n. length l + 1 + n) f.start ∙ sym long;
      end = ap (λ (s : Span). s.end) (sym same) ∙ at.1 ∙ ap (λ n. length l + 1 + n) f.end ∙ omega (arith, long);
      runs = f.runs;
      closes = λ now terminated is. later_closes now l ls (Ok (f.before ++ (terminated ∷ f.after))) other (f.closes now terminated is);
      refuses = λ now fault is. later_closes now l ls (Err fault) other (f.refuses now fault is);
    }

pub first_open : (section : List (List ℕ)) (span : Span) → open_line section ≡ Some span → FirstOpen section span
first_open [] span e = absurd cc
first_open (l ∷ ls) span e =
    elim (cases_Bool (is_open l)) [
      | inl runs ↦ open_here l ls span runs e
      | inr other ↦
          let later = map_some (line_span (l ∷ ls)) (option_map suc (position is_open ls)) span (sym (ap (option_map (line_span (l ∷ ls))) (position_later is_open l ls other)) ∙ e) in
          let found = map_some suc (position is_open ls) later.0 later.1 in
          let same : line_span (l ∷ ls) (suc found.0) ≡ span = ap (line_span (l ∷ ls)) found.2 ∙ later.2 in
          open_later l ls found.0 span other same (first_open ls (line_span ls found.0) (ap (option_map (line_span ls)) found.1))
    ]

-- ---- the running clock's line

-- the line in the text
abbrev pub part : List ℕ → Span → List ℕ
part t span = take (span.end - span.start) (drop span.start t)

pub record Stands (t : List ℕ) (r : Running) : Type 0 where
  pub span : Span
  pub first : FirstOpen (node_at (tree t) r.heading).node.section span
  pub heading : r.heading < node_count (tree t)
  pub place : r.line ≡ span_from (section_start (tree t) r.heading) span
  pub low : r.line.start ≤ r.line.end
  pub high : r.line.end ≤ length t
  pub bytes : part t r.line ≡ first.line ++ 10 ∷ []
  pub line : IsLine first.line

one_of : (a : List (List ℕ)) (l : List ℕ) (b : List (List ℕ)) → AllByRecursion IsLine (a ++ (l ∷ b)) → IsLine l
one_of [] l b p = p.0
one_of (x ∷ a) l b p = one_of a l b p.1

stands_at : (t : List ℕ) (i : ℕ) (span : Span) → terminated t ≡ t → i < node_count (tree t) → open_line (node_at (tree t) i).node.section ≡ Some span
    → Stands t (record { heading = i; line = span_from (section_start (tree t) i) span })
stands_at t i span stays_terminated lt e =
    let d : Document = tree t in
    let n : Node = (node_at d i).node in
    let f : FirstOpen n.section span = first_open n.section span e in
    let local = own_lines_local i n.rest n.section d lt in
    let h : List ℕ = heading_line n.level n.rest in
    let own : List ℕ = f.line ++ 10 ∷ [] in
    let front : List ℕ = local.front ++ (h ++ (10 ∷ print_lines f.before)) in
    let back : List ℕ = print_lines f.after ++ local.back in
    let shape : local.front ++ ((h ++ 10 ∷ (print_lines f.before ++ (f.line ++ 10 ∷ print_lines f.after))) ++ local.back) ≡ front ++ (own ++ back) = simp append_assoc in
    let whole : t ≡ front ++ (own ++ back) =
    sym (prints t stays_terminated) ∙ local.was
    ∙ ap (λ (s : List ℕ). local.front ++ ((h ++ 10 ∷ s) ++ local.back)) (ap print_lines f.is ∙ print_lines-append f.before (f.line ∷ f.after)) ∙ shape in
    let long : length front ≡ section_start d i + span.start =
    length-append local.front (h ++ (10 ∷ print_lines f.before)) ∙ omega (arith, local.at, f.start, length-append h (10 ∷ print_lines f.before)) in
    let size : length own ≡ span.end - span.start = omega (arith, f.start, f.end, length-append f.line (10 ∷ [])) in
    let count : (section_start d i + span.end) - (section_start d i + span.start) ≡ length own = omega (arith, size) in
    record {
      span = span;
      first = f;
      heading = lt;
      place = refl;
      low = omega (arith, f.start, f.end);
      high = omega (arith, ap length whole, long, f.start, f.end, length-append front (own ++ back), length-append own back, length-append f.line (10 ∷ []));
      bytes =
          ap (λ k. take k (drop (section_start d i + span.start) t)) count
          ∙ ap (λ (u : List ℕ). take (length own) (drop (section_start d i + span.start) u)) whole
          ∙ ap (take (length own)) (drop_at front (own ++ back) (section_start d i + span.start) long)
          ∙ take_at own back (length own) refl;
      line = one_of f.before f.line f.after (subst (AllByRecursion IsLine) f.is (section_is_lines t i lt));
    }

pub stands : (t : List ℕ) (r : Running) → terminated t ≡ t → running_in (tree t) ≡ Some r → Stands t r
stands t r stays_terminated runs =
    let d : Document = tree t in
    let found = bind_ok (running_heading d) (running_at d) r runs in
    let R : Span → Running = λ span. record { heading = found.0; line = span_from (section_start d found.0) span } in
    let line = map_some R (open_line (node_at d found.0).node.section) r found.2 in
    let first = position-Some runs_at (nodes d) found.0 no_node found.1 in
    subst (Stands t) line.2 (stands_at t found.0 line.0 stays_terminated first.0 line.1)

-- ---- the line alone

module _ (t : List ℕ) (r : Running) (s : Stands t r) where
  pub line_terminated : terminated (part t r.line) ≡ part t r.line
  line_terminated = ap terminated s.bytes ∙ terminated-print_lines (s.first.line ∷ []) ∙ sym s.bytes

  pub line_alone : IsOpenAt (part t r.line) (record { start = 0; end = length (part t r.line) }) [] s.first.line []
  line_alone = record {
    lines = ap lines_of s.bytes ∙ lines_of-append s.first.line [] s.line;
    start = refl;
    end = ap length s.bytes ∙ length-append s.first.line (10 ∷ []) ∙ (let n : length s.first.line + 1 ≡ 0 + length s.first.line + 1 = omega arith in n);
    runs = s.first.runs;
  }

  pub line_open : HasOpenAt (part t r.line) (record { start = 0; end = length (part t r.line) })
  line_open = record { before = []; line = s.first.line; after = []; is = line_alone }

  pub line_low : r.line.start ≤ r.line.end
  line_low = s.low

  pub line_high : r.line.end ≤ length t
  line_high = s.high

  -- an edit of the line is one of its section
  in_lines : (e : Edit) (new : List ℕ) → Rewrites e (part t r.line) (new ∷ [])
      → Rewrites (moved (length (print_lines s.first.before)) e) (print_lines (node_at (tree t) r.heading).node.section) (s.first.before ++ (new ∷ s.first.after))
  in_lines e new g =
      let a : List ℕ = print_lines s.first.before in
      let c : List ℕ = print_lines s.first.after in
      let own : List ℕ = s.first.line ++ 10 ∷ [] in
      let size : length (part t r.line) ≡ length own = ap length s.bytes in
      let within : e.at + e.removed ≤ length own = omega (arith, g.within, size) in
      let whole : print_lines (node_at (tree t) r.heading).node.section ≡ a ++ (own ++ c) =
      ap print_lines s.first.is ∙ print_lines-append s.first.before (s.first.line ∷ s.first.after) ∙ ap (λ (u : List ℕ). a ++ u) (sym (append_assoc s.first.line (10 ∷ []) c)) in
      let made : edited e.at e.removed e.bytes own ≡ new ++ 10 ∷ [] = ap (edited e.at e.removed e.bytes) (sym s.bytes) ∙ g.gives in
      record {
        within = omega (arith, within, ap length whole, length-append a (own ++ c), length-append own c);
        gives =
            ap (edited (length a + e.at) e.removed e.bytes) whole ∙ edits_in_place a own c e.at e.removed e.bytes within
            ∙ ap (λ (u : List ℕ). a ++ (u ++ c)) made ∙ ap (λ (u : List ℕ). a ++ u) (append_assoc new (10 ∷ []) c)
            ∙ sym (print_lines-append s.first.before (new ∷ s.first.after));
      }

  ok_line : (e : Edit) (q : Result (List ℕ) Refusal) → MatchResult q (λ terminated. Rewrites e (part t r.line) (terminated ∷ [])) (λ fault. ⊥)
      → (terminated : List ℕ) × (q ≡ Ok terminated) × Rewrites e (part t r.line) (terminated ∷ [])
  ok_line e (Ok new) g = (new, refl, g)
  ok_line e (Err fault) g = absurd g

  pub closing_edits : (now : Moment) (e e2 : Edit) → Closes now (part t r.line) (record { start = 0; end = length (part t r.line) }) e
      → e2 ≡ moved r.line.start e
      → (new : List (List ℕ)) × (closed_first now (node_at (tree t) r.heading).node.section ≡ Ok new) × EditsSection e2 (tree t) r.heading new
  closing_edits now e e2 closes at =
      let d : Document = tree t in
      let ok = ok_line e (closed_line now s.first.line) (closes [] s.first.line [] line_alone) in
      let start : r.line.start ≡ section_start d r.heading + length (print_lines s.first.before) = ap (λ (p : Span). p.start) s.place ∙ ap (λ n. section_start d r.heading + n) s.first.start in
      let same : r.line.start + e.at ≡ section_start d r.heading + (length (print_lines s.first.before) + e.at) = omega (arith, start) in
      let E : ℕ → Edit = λ n. record { at = n; removed = e.removed; bytes = e.bytes } in (
        s.first.before ++ (ok.0 ∷ s.first.after),
        s.first.closes now ok.0 ok.1,
        record { own = moved (length (print_lines s.first.before)) e; is = at ∙ ap E same; gives = in_lines e ok.0 ok.2 },
      )

  -- it lies in the text
  pub closing_in : (e2 : Edit) (new : List (List ℕ)) → terminated t ≡ t → EditsSection e2 (tree t) r.heading new → e2.at + e2.removed ≤ length t
  closing_in e2 new stays_terminated edits = (section_made t r.heading e2 new stays_terminated s.heading edits).0

  pub closing_refused : (now : Moment) (fault : Fault Refusal) → ClosesNot now (part t r.line) (record { start = 0; end = length (part t r.line) }) fault
      → ClosesSection now (tree t) r.heading (Err fault)
  closing_refused now (Refused why) not = s.first.refuses now why (not [] s.first.line [] line_alone)
  closing_refused now OutOfMemory not =
      let can = not [] s.first.line [] line_alone in (s.first.before ++ (can.0 ∷ s.first.after), s.first.closes now can.0 can.1)

  pub closing_answers : (now : Moment) (result : Result Edit (Fault Refusal)) → terminated t ≡ t → ClosesSection now (tree t) r.heading result → AnswersClosing now t r.heading result
  closing_answers now (Ok e) stays_terminated a =
      let d : Document = tree t in
      (with_section_at r.heading d a.0, ap (result_map_both (with_section_at r.heading d) (λ why. why)) a.1, section_made t r.heading e a.0 stays_terminated s.heading a.2)
  closing_answers now (Err (Refused why)) stays_terminated a = ap (result_map_both (with_section_at r.heading (tree t)) (λ why. why)) a
  closing_answers now (Err OutOfMemory) stays_terminated a = (with_section_at r.heading (tree t) a.0, ap (result_map_both (with_section_at r.heading (tree t)) (λ why. why)) a.1)
