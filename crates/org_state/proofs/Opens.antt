-- The open clocks of a document: the first runs, one more is opened, the first is closed.
use Rattle.std.proofs.Common.{rules, ◌≡◌, ℕ, zero, suc, ◌+◌, ◌<◌, Bool, true, false, ◌&&◌, Option, Some, None, Result, Ok, Err, List, [], ◌∷◌, ◌++◌, length, drop, map, filter, get_or, refl, sym, ap, subst, ◌∙◌, arith, inl, inr, append_assoc}
use Rattle.std.proofs.lemmas.Grind.{common_steps}
use Rattle.std.specs.Prelude.{◌≢◌, codes, is_some, slice_get}
use Rattle.std.specs.List.{list_any, position}
use Rattle.std.specs.Option.{option_map, unwrap_or}
use Rattle.std.specs.Result.{result_map_both}
use Rattle.std.proofs.lemmas.Bool.{cases_Bool, false≢true}
use Rattle.std.proofs.lemmas.List.Elements.{filter-append}
use Rattle.std.proofs.lemmas.List.Quantifiers.{position-Some}
use Rattle.org_stamp.specs.Calendar.{Moment, IsDay}
use Rattle.org_outline.specs.Tree.{Document, Placed, nodes, node_at, node_count, no_node}
use Rattle.org_outline.proofs.Rewriting.{count-rewritten, node-rewritten}
use Rattle.org_fault.specs.declared.refusal.Refusal.{Refusal}
use Rattle.org_meta.specs.Clocks.{is_open, line_span}
use Rattle.org_meta.specs.Clocking.{clock_line, closed_line, is_logbook, in_logbook, logged, opened}
use Rattle.org_meta.specs.Sections.{is_end, split, joined}
use Rattle.org_meta.proofs.ClosedClocks.{opened_is_open, closed_is_not_open}
use Rattle.org_meta.proofs.Puts.{joined_split}
use Rattle.org_state.specs.Clock.{runs_at, running_heading, with_section_at, opened_section, with_opened, closed_first, with_closed, switched}
use Rattle.org_state.specs.Open.{clocks_from, open_clocks}
use Rattle.org_state.proofs.Both.{own_section}
use Rattle.org_state.proofs.Searches.{position_here, position_later}

-- ---- results, and lists

pub map_ok : {A B E F : Type 0} (f : A → B) (g : E → F) (r : Result A E) (y : B) → result_map_both f g r ≡ Ok y → (x : A) × (r ≡ Ok x) × (f x ≡ y)
map_ok f g (Ok x) y e = (x, refl, cc)
map_ok f g (Err e₁) y e = absurd cc

-- the new list is the old one with x put in
pub record Adds {X : Type 0} (x : X) (old new : List X) : Type 0 where
  pub before : List X
  pub after : List X
  pub was : old ≡ before ++ after
  pub is : new ≡ before ++ (x ∷ after)

adds_behind : {X : Type 0} (x : X) (front old new : List X) → Adds x old new → Adds x (front ++ old) (front ++ new)
adds_behind x front old new a = record {
  before = front ++ a.before;
  after = a.after;
  was = ap (λ l. front ++ l) a.was ∙ sym (append_assoc front a.before a.after);
  is = ap (λ l. front ++ l) a.is ∙ sym (append_assoc front a.before (x ∷ a.after));
}

adds_before : {X : Type 0} (x : X) (old new back : List X) → Adds x old new → Adds x (old ++ back) (new ++ back)
adds_before x old new back a = grind (arith, common_steps)

adds_mapped : {X Y : Type 0} (f : X → Y) (x : X) (old new : List X) → Adds x old new → Adds (f x) (map f old) (map f new)
adds_mapped f x old new a = grind (arith, common_steps)

pub adds_alone : {X : Type 0} (x : X) (old new : List X) → Adds x old new → old ≡ [] → new ≡ x ∷ []
adds_alone {X = X} x old new a none = by_parts a.before a.after a.is (sym none ∙ a.was)
  where
    by_parts : (before after : List X) → new ≡ before ++ (x ∷ after) → [] ≡ before ++ after → new ≡ x ∷ []
    by_parts [] [] is none = is
    by_parts [] (y ∷ after) is none = absurd cc
    by_parts (y ∷ before) after is none = absurd cc

-- ---- open lines of a section

none_pass : {X : Type 0} (test : X → Bool) (xs : List X) → position test xs ≡ None → filter test xs ≡ []
none_pass test [] e = refl
none_pass test (x ∷ xs) e =
    elim (cases_Bool (test x)) [
      | inl holds ↦ absurd (let found : Some 0 ≡ None = sym (position_here test x xs holds) ∙ e in cc)
      | inr fails ↦ rw fails (none_pass test xs (later (position test xs) (sym (position_later test x xs fails) ∙ e)))
    ]
  where
    later : (o : Option ℕ) → option_map suc o ≡ None → o ≡ None
    later None e = refl
    later (Some k) e = absurd cc

-- the first element, and the others
record First {X : Type 0} (l : List X) : Type 0 where
  first : X
  others : List X
  is : l ≡ first ∷ others

one_passes : {X : Type 0} (test : X → Bool) (xs : List X) (k : ℕ) → position test xs ≡ Some k → First (filter test xs)
one_passes test [] k e = absurd cc
one_passes test (x ∷ xs) k e =
    elim (cases_Bool (test x)) [
      | inl holds ↦ record { first = x; others = filter test xs; is = rw holds refl }
      | inr fails ↦
          let next = later (position test xs) k (sym (position_later test x xs fails) ∙ e) in
          let f = one_passes test xs next.0 next.1 in
          let same : filter test (x ∷ xs) ≡ filter test xs = rw fails refl in
          record { first = f.first; others = f.others; is = same ∙ f.is }
    ]
  where
    later : (o : Option ℕ) (k : ℕ) → option_map suc o ≡ Some k → (n : ℕ) × (o ≡ Some n)
    later None k e = absurd cc
    later (Some n) k e = (n, refl)

runs_none : (p : Placed) → runs_at p ≡ false → filter is_open p.node.section ≡ []
runs_none p e = none_pass is_open p.node.section (by_place (position is_open p.node.section) e)
  where
    by_place : (o : Option ℕ) → is_some (option_map (line_span p.node.section) o) ≡ false → o ≡ None
    by_place None e = refl
    by_place (Some k) e = absurd (false≢true (sym e))

runs_first : (p : Placed) → runs_at p ≡ true → First (filter is_open p.node.section)
runs_first p e = let k = by_place (position is_open p.node.section) e in one_passes is_open p.node.section k.0 k.1
  where
    by_place : (o : Option ℕ) → is_some (option_map (line_span p.node.section) o) ≡ true → (k : ℕ) × (o ≡ Some k)
    by_place None e = absurd (false≢true e)
    by_place (Some k) e = (k, refl)

-- ---- the first open clock runs

first_of : (k : ℕ) (ps : List Placed) → option_map (λ (c : ℕ × List ℕ). c.0) (slice_get (clocks_from k ps) 0) ≡ option_map (λ i. k + i) (position runs_at ps)
first_of k [] = refl
first_of k (p ∷ ps) =
    elim (cases_Bool (runs_at p)) [
      | inl holds ↦
          let f = runs_first p holds in
          let same : k ≡ k + 0 = omega arith in
          ap (λ ls. option_map (λ (c : ℕ × List ℕ). c.0) (slice_get (map (λ line. (k, line)) ls ++ clocks_from (suc k) ps) 0)) f.is
          ∙ ap (λ (n : ℕ). Some n) same ∙ ap (option_map (λ i. k + i)) (sym (position_here runs_at p ps holds))
      | inr fails ↦
          ap (λ ls. option_map (λ (c : ℕ × List ℕ). c.0) (slice_get (map (λ line. (k, line)) ls ++ clocks_from (suc k) ps) 0)) (runs_none p fails)
          ∙ first_of (suc k) ps ∙ one_on (position runs_at ps) ∙ ap (option_map (λ i. k + i)) (sym (position_later runs_at p ps fails))
    ]
  where
    one_on : (o : Option ℕ) → option_map (λ i. suc k + i) o ≡ option_map (λ i. k + i) (option_map suc o)
    one_on None = refl
    one_on (Some i) = let same : suc k + i ≡ k + suc i = omega arith in ap (λ (n : ℕ). Some n) same

from_zero : (o : Option ℕ) → option_map (λ i. 0 + i) o ≡ o
from_zero None = refl
from_zero (Some i) = let same : 0 + i ≡ i = omega arith in ap (λ (n : ℕ). Some n) same

pub first_runs : (d : Document) → running_heading d ≡ option_map (λ (clock : ℕ × List ℕ). clock.0) (slice_get (open_clocks d) 0)
first_runs d = sym (first_of 0 (nodes d) ∙ from_zero (position runs_at (nodes d)))

-- ---- other headings keep theirs

abbrev section_in : List Placed → ℕ → List (List ℕ)
section_in ps j = (get_or ps j no_node).node.section

same_clocks : (k : ℕ) (ps qs : List Placed) → length qs ≡ length ps → ((j : ℕ) → section_in qs j ≡ section_in ps j) → clocks_from k qs ≡ clocks_from k ps
same_clocks k [] [] long same = refl
same_clocks k [] (q ∷ qs) long same = absurd (omega (arith, long))
same_clocks k (p ∷ ps) [] long same = absurd (omega (arith, long))
same_clocks k (p ∷ ps) (q ∷ qs) long same =
    ap (λ (ls : List (List ℕ)). map (λ line. (k, line)) (filter is_open ls) ++ clocks_from (suc k) qs) (same 0)
    ∙ ap (λ (cs : List (ℕ × List ℕ)). map (λ line. (k, line)) (filter is_open p.node.section) ++ cs) (same_clocks (suc k) ps qs (omega (arith, long)) (λ j. same (suc j)))

clocks_more : (k i n : ℕ) (line : List ℕ) (ps qs : List Placed) → n ≡ k + i → length qs ≡ length ps → i < length ps → ((j : ℕ) → i ≢ j → section_in qs j ≡ section_in ps j)
    → Adds line (filter is_open (section_in ps i)) (filter is_open (section_in qs i)) → Adds (n, line) (clocks_from k ps) (clocks_from k qs)
clocks_more k i n line [] qs at long lt same adds = absurd (omega (arith, lt))
clocks_more k i n line (p ∷ ps) [] at long lt same adds = absurd (omega (arith, long))
clocks_more k zero n line (p ∷ ps) (q ∷ qs) at long lt same adds =
    let here : k ≡ n = omega (arith, at) in
    let later : clocks_from (suc k) qs ≡ clocks_from (suc k) ps = same_clocks (suc k) ps qs (omega (arith, long)) (λ j. same (suc j) (λ e. absurd (omega (arith, e)))) in
    let own = adds_mapped (λ (line : List ℕ). (k, line)) line (filter is_open p.node.section) (filter is_open q.node.section) adds in
    let all = adds_before (k, line) (map (λ line. (k, line)) (filter is_open p.node.section)) (map (λ line. (k, line)) (filter is_open q.node.section)) (clocks_from (suc k) ps) own in
    subst (λ (n : ℕ). Adds (n, line) (clocks_from k (p ∷ ps)) (clocks_from k (q ∷ qs))) here
    (subst (λ (cs : List (ℕ × List ℕ)). Adds (k, line) (clocks_from k (p ∷ ps)) (map (λ line. (k, line)) (filter is_open q.node.section) ++ cs)) (sym later) all)
clocks_more k (suc i) n line (p ∷ ps) (q ∷ qs) at long lt same adds =
    let own : q.node.section ≡ p.node.section = same 0 (λ e. absurd (omega (arith, e))) in
    let later = clocks_more (suc k) i n line ps qs (omega (arith, at)) (omega (arith, long)) (omega (arith, lt)) (λ j ne. same (suc j) (λ e. ne (omega (arith, e)))) adds in
    let front : List (ℕ × List ℕ) = map (λ line. (k, line)) (filter is_open p.node.section) in
    subst (λ (ls : List (List ℕ)). Adds (n, line) (clocks_from k (p ∷ ps)) (map (λ line. (k, line)) (filter is_open ls) ++ clocks_from (suc k) qs)) (sym own)
    (adds_behind (n, line) front (clocks_from (suc k) ps) (clocks_from (suc k) qs) later)

clocks_less : (k i : ℕ) (ps qs : List Placed) → length qs ≡ length ps → position runs_at ps ≡ Some i → ((j : ℕ) → i ≢ j → section_in qs j ≡ section_in ps j)
    → filter is_open (section_in qs i) ≡ drop 1 (filter is_open (section_in ps i)) → clocks_from k qs ≡ drop 1 (clocks_from k ps)
clocks_less k i [] qs long at same less = absurd cc
clocks_less k i (p ∷ ps) [] long at same less = absurd (omega (arith, long))
clocks_less k i (p ∷ ps) (q ∷ qs) long at same less =
    let pair : List (List ℕ) → List (ℕ × List ℕ) = λ ls. map (λ line. (k, line)) ls in
    elim (cases_Bool (runs_at p)) [
      | inl holds ↦
          let zero_is : i ≡ 0 = (let both : Some 0 ≡ Some i = sym (position_here runs_at p ps holds) ∙ at in cc) in
          let f = runs_first p holds in
          let others : (j : ℕ) → 0 ≢ j → section_in (q ∷ qs) j ≡ section_in (p ∷ ps) j = λ j ne. same j (λ e. ne (sym zero_is ∙ e)) in
          let own : filter is_open q.node.section ≡ drop 1 (filter is_open p.node.section) = subst (λ (i : ℕ). filter is_open (section_in (q ∷ qs) i) ≡ drop 1 (filter is_open (section_in (p ∷ ps) i))) zero_is less in
          let later : clocks_from (suc k) qs ≡ clocks_from (suc k) ps = same_clocks (suc k) ps qs (omega (arith, long)) (λ j. others (suc j) (λ e. absurd (omega (arith, e)))) in
          ap (λ ls. pair ls ++ clocks_from (suc k) qs) (own ∙ ap (λ (ls : List (List ℕ)). drop 1 ls) f.is) ∙ ap (λ (cs : List (ℕ × List ℕ)). pair f.others ++ cs) later
          ∙ ap (λ ls. drop 1 (pair ls ++ clocks_from (suc k) ps)) (sym f.is)
      | inr fails ↦
          let next = step (position runs_at ps) i (sym (position_later runs_at p ps fails) ∙ at) in
          let zero_not : i ≢ 0 = λ e. absurd (omega (arith, e, next.2)) in
          let own : q.node.section ≡ p.node.section = same 0 zero_not in
          let Less : ℕ → Type 0 = λ i. filter is_open (section_in (q ∷ qs) i) ≡ drop 1 (filter is_open (section_in (p ∷ ps) i)) in
          let later = clocks_less (suc k) next.0 ps qs (omega (arith, long)) next.1 (λ j ne. same (suc j) (λ e. ne (omega (arith, e, next.2)))) (subst Less next.2 less) in
          ap (λ (ls : List (List ℕ)). pair (filter is_open ls) ++ clocks_from (suc k) qs) own ∙ ap (λ ls. pair ls ++ clocks_from (suc k) qs) (runs_none p fails)
          ∙ later ∙ ap (λ ls. drop 1 (pair ls ++ clocks_from (suc k) ps)) (sym (runs_none p fails))
    ]
  where
    step : (o : Option ℕ) (i : ℕ) → option_map suc o ≡ Some i → (n : ℕ) × (o ≡ Some n) × (i ≡ suc n)
    step None i e = absurd cc
    step (Some n) i e = (n, refl, cc)

-- ---- opened, in its section

line_first : (l : List ℕ) (ls : List (List ℕ)) → filter is_open (l ∷ ls) ≡ filter is_open (l ∷ []) ++ filter is_open ls
line_first l ls = filter-append is_open (l ∷ []) ls

line_opens : (line : List ℕ) (ls : List (List ℕ)) → is_open line ≡ true → filter is_open (line ∷ ls) ≡ line ∷ filter is_open ls
line_opens line ls runs = rw runs refl

line_in : (line l : List ℕ) (ls : List (List ℕ)) → is_open line ≡ true → Adds line (filter is_open (l ∷ ls)) (filter is_open (l ∷ line ∷ ls))
line_in line l ls runs = search (rules, arith, line_first, line_opens)

AddsIn : List ℕ → List (List ℕ) → Option (List (List ℕ)) → Type 0
AddsIn line ls None = Unit {0}
AddsIn line ls (Some new) = Adds line (filter is_open ls) (filter is_open new)

in_log : (line : List ℕ) (ls : List (List ℕ)) → is_open line ≡ true → AddsIn line ls (in_logbook line ls)
unfolding AddsIn
in_log line [] runs = tt
in_log line (l ∷ ls) runs =
    elim (cases_Bool (is_logbook l && list_any is_end ls)) [
      | inl here ↦ subst (AddsIn line (l ∷ ls)) (log_here here) (line_in line l ls runs)
      | inr other ↦ subst (AddsIn line (l ∷ ls)) (log_later other) (behind (in_logbook line ls) (in_log line ls runs))
    ]
  where
    log_here : (is_logbook l && list_any is_end ls) ≡ true → Some (l ∷ line ∷ ls) ≡ in_logbook line (l ∷ ls)
    log_here here = rw here refl

    log_later : (is_logbook l && list_any is_end ls) ≡ false → option_map (λ ms. l ∷ ms) (in_logbook line ls) ≡ in_logbook line (l ∷ ls)
    log_later other = rw other refl

    behind : (o : Option (List (List ℕ))) → AddsIn line ls o → AddsIn line (l ∷ ls) (option_map (λ ms. l ∷ ms) o)
    behind None a = tt
    behind (Some new) a = grind (arith, common_steps, line_first, adds_behind)

logged_adds : (line : List ℕ) (ls : List (List ℕ)) → is_open line ≡ true → Adds line (filter is_open ls) (filter is_open (logged line ls))
unfolding AddsIn
logged_adds line ls runs = by_log (in_logbook line ls) (in_log line ls runs)
  where
    by_log : (o : Option (List (List ℕ))) → AddsIn line ls o → Adds line (filter is_open ls) (filter is_open (unwrap_or o (codes ":LOGBOOK:" ∷ line ∷ codes ":END:" ∷ ls)))
    by_log None a = record { before = []; after = filter is_open ls; was = refl; is = line_opens line (codes ":END:" ∷ ls) runs }
    by_log (Some new) a = a

section_adds : (now : Moment) (ls : List (List ℕ)) → is_open (clock_line now) ≡ true → Adds (clock_line now) (filter is_open ls) (filter is_open (joined (opened now (split ls))))
section_adds now ls runs =
    let line : List ℕ = clock_line now in
    let a : List (List ℕ) = (split ls).planning in
    let b : List (List ℕ) = (split ls).drawer in
    let rest : List (List ℕ) = (split ls).rest in
    let F : List (List ℕ) → List (List ℕ) = λ ls. filter is_open ls in
    let parts : (c : List (List ℕ)) → F (a ++ (b ++ c)) ≡ F a ++ (F b ++ F c) = λ c. filter-append is_open a (b ++ c) ∙ ap (λ (t : List (List ℕ)). F a ++ t) (filter-append is_open b c) in
    let adds = adds_behind line (F a) (F b ++ F rest) (F b ++ F (logged line rest)) (adds_behind line (F b) (F rest) (F (logged line rest)) (logged_adds line rest runs)) in
    subst (λ (old : List (List ℕ)). Adds line old (F (joined (opened now (split ls))))) (sym (ap F (sym (joined_split ls)) ∙ parts rest))
    (subst (λ (made : List (List ℕ)). Adds line (F a ++ (F b ++ F rest)) made) (sym (parts (logged line rest))) adds)

-- ---- closed, in its section

line_closes : (l : List ℕ) (ls : List (List ℕ)) → is_open l ≡ false → filter is_open (l ∷ ls) ≡ filter is_open ls
line_closes l ls other = rw other refl

pub section_loses : (now : Moment) (ls new : List (List ℕ)) → closed_first now ls ≡ Ok new → filter is_open new ≡ drop 1 (filter is_open ls)
section_loses now [] new e = let same : [] ≡ new = cc in ap (λ (ls : List (List ℕ)). filter is_open ls) (sym same)
section_loses now (l ∷ ls) new e =
    elim (cases_Bool (is_open l)) [
      | inl runs ↦
          let c = map_ok (λ closed. closed ∷ ls) (λ (why : Refusal). why) (closed_line now l) new (rw runs at e) in
          ap (λ (ls : List (List ℕ)). filter is_open ls) (sym c.2) ∙ line_closes c.0 ls (closed_is_not_open now l c.0 c.1)
          ∙ ap (λ (t : List (List ℕ)). drop 1 t) (sym (line_opens l ls runs))
      | inr other ↦
          let more = map_ok (λ more. l ∷ more) (λ (why : Refusal). why) (closed_first now ls) new (rw other at e) in
          ap (λ (ls : List (List ℕ)). filter is_open ls) (sym more.2) ∙ line_closes l more.0 other ∙ section_loses now ls more.0 more.1
          ∙ ap (λ (t : List (List ℕ)). drop 1 t) (sym (line_closes l ls other))
    ]

-- ---- in a document

section_there : (i : ℕ) (d : Document) (section : List (List ℕ)) → i < node_count d → (node_at (with_section_at i d section) i).node.section ≡ section
section_there i d section lt = ap (λ n. n.section) (node-rewritten i (node_at d i).node.rest section d lt).1

pub opened_adds : (now : Moment) (i : ℕ) (d : Document) → IsDay now.day → now.minute < 1440 → i < node_count d → Adds (i, clock_line now) (open_clocks d) (open_clocks (with_opened now i d))
opened_adds now i d day minute lt =
    let line : List ℕ = clock_line now in
    let rest : List ℕ = (node_at d i).node.rest in
    let section : List (List ℕ) = opened_section now d i in
    let here : i ≡ 0 + i = omega arith in
    clocks_more 0 i i line (nodes d) (nodes (with_opened now i d)) here (count-rewritten i rest section d) lt (own_section d i rest section)
    (subst (λ (ls : List (List ℕ)). Adds line (filter is_open (node_at d i).node.section) (filter is_open ls)) (sym (section_there i d section lt))
    (section_adds now (node_at d i).node.section (opened_is_open now day minute)))

pub closed_loses : (now : Moment) (i : ℕ) (d new : Document) → running_heading d ≡ Some i → with_closed now i d ≡ Ok new → open_clocks new ≡ drop 1 (open_clocks d)
closed_loses now i d new runs e =
    let c = map_ok (with_section_at i d) (λ (why : Refusal). why) (closed_first now (node_at d i).node.section) new e in
    let rest : List ℕ = (node_at d i).node.rest in
    let lt : i < node_count d = (position-Some runs_at (nodes d) i no_node runs).0 in
    let less : filter is_open (node_at (with_section_at i d c.0) i).node.section ≡ drop 1 (filter is_open (node_at d i).node.section) =
    ap (λ (ls : List (List ℕ)). filter is_open ls) (section_there i d c.0 lt) ∙ section_loses now (node_at d i).node.section c.0 c.1 in
    ap open_clocks (sym c.2) ∙ clocks_less 0 i (nodes d) (nodes (with_section_at i d c.0)) (count-rewritten i rest c.0 d) runs (own_section d i rest c.0) less

-- ---- from one heading to another

pub record Switched (now : Moment) (from i : ℕ) (d new : Document) : Type 0 where
  pub middle : Document
  pub closed : with_closed now from d ≡ Ok middle
  pub opened : with_opened now i middle ≡ new

pub switched_by : (now : Moment) (from i : ℕ) (d new : Document) → switched now from d i ≡ Ok (Some new) → Switched now from i d new
switched_by now from i d new e = grind (arith, common_steps)

pub closed_count : (now : Moment) (i : ℕ) (d new : Document) → with_closed now i d ≡ Ok new → node_count new ≡ node_count d
closed_count now i d new e =
    let c = map_ok (with_section_at i d) (λ (why : Refusal). why) (closed_first now (node_at d i).node.section) new e in
    ap node_count (sym c.2) ∙ count-rewritten i (node_at d i).node.rest c.0 d

-- the first open clock runs
pub clock_runs : (i : ℕ) (line : List ℕ) (more : List (ℕ × List ℕ)) (d : Document) → open_clocks d ≡ (i, line) ∷ more → running_heading d ≡ Some i
clock_runs i line more d one = first_runs d ∙ ap (λ (cs : List (ℕ × List ℕ)). option_map (λ (c : ℕ × List ℕ). c.0) (slice_get cs 0)) one

-- the one open clock runs
one_runs : (i : ℕ) (line : List ℕ) (d : Document) → open_clocks d ≡ (i, line) ∷ [] → running_heading d ≡ Some i
one_runs i line d one = clock_runs i line [] d one

pub one_opened : (now : Moment) (i : ℕ) (d : Document) → IsDay now.day → now.minute < 1440 → i < node_count d → open_clocks d ≡ [] → open_clocks (with_opened now i d) ≡ (i, clock_line now) ∷ []
one_opened now i d day minute lt none = adds_alone (i, clock_line now) (open_clocks d) (open_clocks (with_opened now i d)) (opened_adds now i d day minute lt) none

pub one_closed : (now : Moment) (i : ℕ) (line : List ℕ) (d new : Document) → open_clocks d ≡ (i, line) ∷ [] → with_closed now i d ≡ Ok new → open_clocks new ≡ []
one_closed now i line d new one e = closed_loses now i d new (one_runs i line d one) e ∙ ap (λ (cs : List (ℕ × List ℕ)). drop 1 cs) one

pub one_stays_one : (now : Moment) (from i : ℕ) (line : List ℕ) (d new : Document) → IsDay now.day → now.minute < 1440 → i < node_count d
    → open_clocks d ≡ (from, line) ∷ [] → switched now from d i ≡ Ok (Some new) → open_clocks new ≡ (i, clock_line now) ∷ []
one_stays_one now from i line d new day minute lt one e =
    let s = switched_by now from i d new e in
    let count : i < node_count s.middle = omega (arith, lt, closed_count now from d s.middle s.closed) in
    ap open_clocks (sym s.opened) ∙ one_opened now i s.middle day minute count (one_closed now from line d s.middle one s.closed)

-- the line of the clock that runs is the first open one of its section
pub first_line : (k i n : ℕ) (ps : List Placed) (line : List ℕ) (more : List (ℕ × List ℕ)) → position runs_at ps ≡ Some i → clocks_from k ps ≡ (n, line) ∷ more
    → (rest : List (List ℕ)) × (filter is_open (section_in ps i) ≡ line ∷ rest)
first_line k i n [] line more at is = absurd cc
first_line k i n (p ∷ ps) line more at is =
    elim (cases_Bool (runs_at p)) [
      | inl holds ↦
          let zero_is : i ≡ 0 = (let both : Some 0 ≡ Some i = sym (position_here runs_at p ps holds) ∙ at in cc) in
          let f = runs_first p holds in
          let whole : (k, f.first) ∷ (map (λ line. (k, line)) f.others ++ clocks_from (suc k) ps) ≡ (n, line) ∷ more =
          sym (ap (λ ls. map (λ line. (k, line)) ls ++ clocks_from (suc k) ps) f.is) ∙ is in
          let same : f.first ≡ line = ap line_of whole in
          let own : filter is_open p.node.section ≡ line ∷ f.others = f.is ∙ ap (λ (l : List ℕ). l ∷ f.others) same in
          (f.others, ap (λ i. filter is_open (section_in (p ∷ ps) i)) zero_is ∙ own)
      | inr fails ↦
          let next = step (position runs_at ps) i (sym (position_later runs_at p ps fails) ∙ at) in
          let later : clocks_from (suc k) ps ≡ (n, line) ∷ more = sym (ap (λ ls. map (λ line. (k, line)) ls ++ clocks_from (suc k) ps) (runs_none p fails)) ∙ is in
          let found = first_line (suc k) next.0 n ps line more next.1 later in
          (found.0, ap (λ i. filter is_open (section_in (p ∷ ps) i)) next.2 ∙ found.1)
    ]
  where
    line_of : List (ℕ × List ℕ) → List ℕ
    line_of [] = []
    line_of (c ∷ cs) = c.1

    step : (o : Option ℕ) (i : ℕ) → option_map suc o ≡ Some i → (n : ℕ) × (o ≡ Some n) × (i ≡ suc n)
    step None i e = absurd cc
    step (Some n) i e = (n, refl, cc)
