-- What a change of a state makes is valid.
use Rattle.std.proofs.Common.{rules, ◌≡◌, ℕ, suc, ◌<◌, Bool, true, false, Option, Some, None, Ok, Err, List, [], ◌∷◌, ◌++◌, length, take, drop, refl, sym, ap, subst, ◌∙◌, arith}
use Rattle.std.proofs.lemmas.Grind.{common_steps}
use Rattle.std.specs.Prelude.{◌≢◌, if◌then◌else◌, IsTrue, Result, slice_index_or}
use Rattle.std.specs.List.{AllByRecursion, list_all, prefix_len}
use Rattle.std.specs.Result.{result_map_both}
use Rattle.std.specs.Str.{bytes_eq}
use Rattle.std.proofs.Math.Dec.{eqb-suc-zero}
use Rattle.std.proofs.lemmas.Bool.{eqb-true, false≢true}
use Rattle.org_splice.specs.Blanks.{is_blank, behind, front}
use Rattle.org_splice.proofs.Ends.{both}
use Rattle.org_stamp.specs.Calendar.{Moment}
use Rattle.org_outline.specs.declared.steps.Step.{Step}
use Rattle.org_outline.specs.declared.paths.PathFault.{PathFault}
use Rattle.org_outline.specs.Paths.{find_path}
use Rattle.org_outline.specs.States.{Keywords, are_states, is_state_byte, is_state_word}
use Rattle.org_headings.specs.Text.{begins_with_space}
use Rattle.org_outline.specs.Tree.{Document, IsPlain, IsValid, node_at, node_count, print, tree}
use Rattle.org_outline.proofs.Changes.{own_lines_valid}
use Rattle.org_outline.proofs.Found.{found_in}
use Rattle.org_outline.proofs.Sections.{valid_node}
use Rattle.org_outline.proofs.Splitting.{state_word}
use Rattle.org_outline.proofs.Trees.{tree-is}
use Rattle.org_outline.proofs.Valid.{tree-print}
use Rattle.org_fault.specs.declared.refusal.Refusal.{Refusal}
use Rattle.org_meta.specs.Planning.{PlanningLine, clear_closed, has_repeater, planning_of, repeated_entries, set_closed}
use Rattle.org_meta.specs.Sections.{SectionParts, joined, split}
use Rattle.org_splice.proofs.AllLines.{AllByRecursion-take, AllByRecursion-drop}
use Rattle.org_meta.proofs.ClosedClocks.{moment_line}
use Rattle.org_meta.proofs.Flat.{Flat, both_lines, empty_line, tested, with_first_byte}
use Rattle.org_meta.proofs.Keeping.{All-drawer, AllParts, all_joined, all_split}
use Rattle.org_meta.proofs.PlannedLines.{SectionLine, cleared_parts, closed_parts, note_is_line, property_is_line, repeated_is_line, tested_line}
use Rattle.org_fault.specs.declared.refusal.Refusal.TheVariants.{UnknownState}
use Rattle.org_state.specs.Keyword.{is_state, keyword_in, with_keyword, with_word}
use Rattle.org_state.specs.Todo.{Own, changed, first_active, heading_asked, heading_to_change, if_repeating, in_state, is_done, own_at, repeated_parts, repeating, todo, todo_at, turned, turned_done, with_lines, with_own_at}
use Rattle.org_state.proofs.ClocksKept.{no_star}
use Rattle.org_state.proofs.Opens.{map_ok}

-- ---- words

bytes_line : (l : List ℕ) → list_all is_state_byte l ≡ true → Flat l
bytes_line [] all = empty_line
bytes_line (b ∷ l) all =
    let parts = both (is_state_byte b) (list_all is_state_byte l) all in
    record { flat = (λ e. let none : is_state_byte b ≡ false = rw e refl in absurd (false≢true (sym none ∙ parts.0)), (bytes_line l parts.1).flat) }

word_line : (word : List ℕ) → is_state_word word ≡ true → Flat word
word_line word is = bytes_line word (both _ (list_all is_state_byte word) is).1

state_line : (states : Keywords) (word : List ℕ) → IsTrue (are_states states) → is_state states word ≡ true → Flat word
state_line states [] are is = empty_line
state_line states (b ∷ word) are is = word_line (b ∷ word) (state_word states (b ∷ word) are (rw (eqb-suc-zero (length word)) at is))

first_word : (words : List (List ℕ)) → list_all is_state_word words ≡ true → Flat (slice_index_or words 0 [])
first_word [] all = empty_line
first_word (word ∷ words) all = word_line word (both (is_state_word word) (list_all is_state_word words) all).0

first_active_line : (states : Keywords) → IsTrue (are_states states) → Flat (first_active states)
first_active_line states are = grind (arith, common_steps, both, first_word)

-- ---- the heading line

first_bytes : (n : ℕ) (l : List ℕ) → Flat l → Flat (take n l)
first_bytes n l p = record { flat = AllByRecursion-take (λ b. b ≢ 10) n l p.flat }

last_bytes : (n : ℕ) (l : List ℕ) → Flat l → Flat (drop n l)
last_bytes n l p = record { flat = AllByRecursion-drop (λ b. b ≢ 10) n l p.flat }

keyword_line : (states : Keywords) (rest : List ℕ) → Flat rest → Flat (keyword_in states rest)
keyword_line states rest p = grind (arith, common_steps)

with_word_line : (old new text : List ℕ) → Flat new → Flat text → Flat (with_word old new text)
with_word_line old [] text is p = last_bytes _ (drop (length old) text) (last_bytes (length old) text p)
with_word_line [] (b ∷ new) text is p = both_lines (b ∷ new) (32 ∷ text) is (with_first_byte 32 text refl p)
with_word_line (a ∷ old) (b ∷ new) text is p = both_lines (b ∷ new) _ is (last_bytes (length (a ∷ old)) text p)

with_keyword_line : (states : Keywords) (word rest : List ℕ) → Flat word → Flat rest → Flat (with_keyword states word rest)
with_keyword_line states word rest is p =
    both_lines (front is_blank rest) _ (first_bytes _ rest p) (with_word_line (keyword_in states rest) word (behind is_blank rest) is (last_bytes _ rest p))

with_keyword_space : (states : Keywords) (word rest : List ℕ) → IsTrue (begins_with_space rest) → IsTrue (begins_with_space (with_keyword states word rest))
with_keyword_space states word [] space = absurd cc
with_keyword_space states word (b ∷ l) space =
    subst (λ b. IsTrue (begins_with_space (with_keyword states word (b ∷ l)))) (sym (eqb-true b 32 space)) (ap (λ (t : List ℕ). begins_with_space (t ++ behind_gap)) gap)
  where
    behind_gap : List ℕ
    behind_gap = with_word (keyword_in states (32 ∷ l)) word (behind is_blank (32 ∷ l))

    size : prefix_len is_blank (32 ∷ l) ≡ suc (prefix_len is_blank l)
    size = omega arith

    gap : front is_blank (32 ∷ l) ≡ 32 ∷ front is_blank l
    gap = ap (λ n. take n (32 ∷ l)) size

-- ---- the section

own_plain : (l : List ℕ) → SectionLine l → IsPlain l
own_plain l s = (s.flat.flat, no_star l s.begins)

plain_flat : (l : List ℕ) → IsPlain l → Flat l
plain_flat l plain = record { flat = plain.0 }

-- what a valid node has of its own
record IsOwn (own : Own) : Type 0 where
  space : IsTrue (begins_with_space own.rest)
  rest : Flat own.rest
  section : AllByRecursion IsPlain own.section

lines_kept : (states : Keywords) (word : List ℕ) (own : Own) (section : List (List ℕ)) → Flat word → IsOwn own → AllByRecursion IsPlain section → IsOwn (with_lines states word own section)
lines_kept states word own section is o plain =
    record { space = with_keyword_space states word own.rest o.space; rest = with_keyword_line states word own.rest is o.rest; section = plain }

changed_kept : (states : Keywords) (word : List ℕ) (own new : Own) (parts : Result SectionParts Refusal) → Flat word → IsOwn own → ((q : SectionParts) → parts ≡ Ok q → AllParts IsPlain q)
    → changed states word own parts ≡ Ok new → IsOwn new
changed_kept states word own new parts is o each e =
    let q = map_ok (λ parts. with_lines states word own (joined parts)) (λ (why : Refusal). why) parts new e in
    subst IsOwn q.2 (lines_kept states word own (joined q.0) is o (all_joined IsPlain q.0 (each q.0 q.1)))

-- the first line of the planning, where it repeats
record RepeatingLine (p : PlanningLine) : Type 0 where
  line : List ℕ
  plain : IsPlain line
  is : planning_of line ≡ Some p
  some : has_repeater p.entries ≡ true

repeating_line : (ls : List (List ℕ)) (p : PlanningLine) → AllByRecursion IsPlain ls → repeating ls ≡ Some p → RepeatingLine p
repeating_line [] p all e = absurd cc
repeating_line (l ∷ ls) p all e = by_plan (planning_of l) refl e
  where
    by_test : (q : PlanningLine) (b : Bool) → planning_of l ≡ Some q → has_repeater q.entries ≡ b → ◌≡◌ {A = Option PlanningLine} (if b then Some q else None) (Some p) → RepeatingLine p
    by_test q true is some e =
        let same : q ≡ p = cc in
        subst RepeatingLine same (record { line = l; plain = all.0; is = is; some = some })
    by_test q false is some e = absurd cc

    by_plan : (o : Option PlanningLine) → planning_of l ≡ o → if_repeating o ≡ Some p → RepeatingLine p
    by_plan None is e = absurd cc
    by_plan (Some q) is e = by_test q (has_repeater q.entries) is refl e

repeated_kept : (new old : List ℕ) (now : Moment) (p : PlanningLine) (parts : SectionParts) (text : List ℕ) → Flat new → Flat old → RepeatingLine p → repeated_entries now p.entries ≡ Ok text
    → AllParts IsPlain parts → AllParts IsPlain (repeated_parts new old now p parts text)
repeated_kept new old now p parts text is was r made a = search (rules, arith, own_plain, repeated_is_line, plain_flat, All-drawer, property_is_line, tested, moment_line, tested_line, note_is_line)

-- ---- own lines in another state

module _ (states : Keywords) (state : List ℕ) (now : Moment) (own new : Own) (are : IsTrue (are_states states)) (known : is_state states state ≡ true) (o : IsOwn own) where
  parts_plain : AllParts IsPlain (split own.section)
  parts_plain = all_split IsPlain own.section o.section

  done_kept : (plan : Option PlanningLine) → repeating (split own.section).planning ≡ plan → turned_done states state now own plan ≡ Ok new → IsOwn new
  done_kept None is e =
      changed_kept states state own new (set_closed now (split own.section)) (state_line states state are known) o
      (λ q set. closed_parts IsPlain plain_flat own_plain now (split own.section) q parts_plain set) e
  done_kept (Some p) is e =
      let old : List ℕ = keyword_in states own.rest in
      let make : List ℕ → SectionParts = repeated_parts state old now p (split own.section) in
      let r = repeating_line (split own.section).planning p parts_plain.planning is in
      changed_kept states (first_active states) own new (result_map_both make (λ (why : Refusal). why) (repeated_entries now p.entries)) (first_active_line states are) o
      (λ q made.
      let text = map_ok make (λ (why : Refusal). why) (repeated_entries now p.entries) q made in
      subst (AllParts IsPlain) text.2
      (repeated_kept state old now p (split own.section) text.0 (state_line states state are known) (keyword_line states own.rest o.rest) r text.1 parts_plain)) e

  turned_kept : (was is : Bool) → turned was is states state now own ≡ Ok new → IsOwn new
  turned_kept true false e =
      changed_kept states state own new (clear_closed (split own.section)) (state_line states state are known) o
      (λ q cleared. cleared_parts IsPlain plain_flat own_plain (split own.section) q parts_plain cleared) e
  turned_kept false true e = done_kept (repeating (split own.section).planning) refl e
  turned_kept true true e = let same : with_lines states state own own.section ≡ new = cc in subst IsOwn same (lines_kept states state own own.section (state_line states state are known) o o.section)
  turned_kept false false e = let same : with_lines states state own own.section ≡ new = cc in subst IsOwn same (lines_kept states state own own.section (state_line states state are known) o o.section)

-- ---- the document

-- the heading that changes
record Asked (states : Keywords) (state : List ℕ) (i : ℕ) (found : Result ℕ PathFault) : Type 0 where
  found_is : found ≡ Ok i
  known : is_state states state ≡ true

asked : (states : Keywords) (state : List ℕ) (d : Document) (i : ℕ) (found : Result ℕ PathFault) → heading_asked states state d found ≡ Ok (Some i) → Asked states state i found
asked states state d i (Err fault) e = absurd cc
asked states state d i (Ok k) e = by_tests (is_state states state) (bytes_eq (keyword_in states (node_at d k).node.rest) state) refl e
  where
    by_tests : (a b : Bool) → is_state states state ≡ a → ◌≡◌ {A = Result (Option ℕ) Refusal} (if a then (if b then Ok None else Ok (Some k)) else Err UnknownState) (Ok (Some i)) → Asked states state i (Ok k)
    by_tests true true known e = absurd cc
    by_tests true false known e = let same : k ≡ i = cc in record { found_is = ap (λ i. Ok i) same; known = known }
    by_tests false b known e = absurd cc

own_valid : (i : ℕ) (d : Document) → i < node_count d → IsValid d → IsOwn (own_at d i)
own_valid i d lt valid = grind (arith, common_steps, valid_node)

at_heading : (states : Keywords) (path : List Step) (state : List ℕ) (now : Moment) (d new : Document) (asked_is : Result (Option ℕ) Refusal) → IsTrue (are_states states)
    → heading_to_change states path state d ≡ asked_is → todo_at states state now d asked_is ≡ Ok (Some new) → IsValid d → IsValid new
at_heading states path state now d new (Err fault) are is e valid = absurd cc
at_heading states path state now d new (Ok None) are is e valid = absurd cc
at_heading states path state now d new (Ok (Some i)) are is e valid =
    let found = asked states state d i (find_path states d path) is in
    let made = map_ok (λ own. Some (with_own_at i d own)) (λ (why : Refusal). why) (in_state states state now (own_at d i)) (Some new) e in
    let same : with_own_at i d made.0 ≡ new = (let both : Some (with_own_at i d made.0) ≡ Some new = made.2 in cc) in
    let own = own_valid i d (found_in states d path i found.found_is) valid in
    let kept = turned_kept states state now (own_at d i) made.0 are found.known own (is_done states (keyword_in states (node_at d i).node.rest)) (is_done states state) made.1 in
    subst IsValid same (own_lines_valid i made.0.rest made.0.section d kept.space kept.rest.flat kept.section valid)

pub todo_valid : (states : Keywords) (path : List Step) (state : List ℕ) (now : Moment) (d new : Document) → IsTrue (are_states states) → todo states path state now d ≡ Ok (Some new) → IsValid d → IsValid new
todo_valid states path state now d new are e valid = at_heading states path state now d new (heading_to_change states path state d) are refl e valid

-- so the tree of the new text is what was made
pub todo_reads_back : (states : Keywords) (path : List Step) (state : List ℕ) (now : Moment) (t : List ℕ) (new : Document) → IsTrue (are_states states) → todo states path state now (tree t) ≡ Ok (Some new) → tree (print new) ≡ new
todo_reads_back states path state now t new are e = tree-print new (todo_valid states path state now (tree t) new are e (tree-is t).valid)
