-- What the edits of a change make is what is defined.
use Rattle.std.proofs.Common.{◌≡◌, ℕ, ◌+◌, ◌<◌, ◌≤◌, Bool, true, false, true≢false, append_assoc, Option, Some, None, Ok, Err, List, [], ◌∷◌, ◌++◌, length, refl, sym, ap, subst, ◌∙◌, arith, codes, inl, inr}
use Rattle.std.specs.Prelude.{◌≢◌, IfOk, IfErr, Result, Vec}
use Rattle.std.specs.Result.{result_map_both}
use Rattle.std.specs.Str.{bytes_eq}
use Rattle.std.specs.Global.{Global}
use Rattle.std.proofs.lemmas.List.{append-nil}
use Rattle.org_splice.specs.Lines.{terminated, lines_of, print_lines, IsLine}
use Rattle.org_splice.specs.Edits.{AreEdits}
use Rattle.org_splice.specs.declared.edit.Edit.{Edit}
use Rattle.org_splice.proofs.Lines.{lines_of-print_lines}
use Rattle.org_stamp.specs.Calendar.{Moment}
use Rattle.std.specs.List.{AllByRecursion}
use Rattle.org_outline.specs.declared.steps.Step.{Step}
use Rattle.org_outline.specs.States.{Keywords}
use Rattle.org_outline.specs.Paths.{find_path}
use Rattle.org_outline.specs.Tree.{Document, print, tree, node_at, node_count}
use Rattle.org_fault.specs.declared.refusal.Refusal.{Refusal}
use Rattle.org_fault.specs.declared.refusal.Refusal.TheVariants.{OddPlanning}
use Rattle.org_fault.specs.declared.fault.Fault.{Fault}
use Rattle.org_fault.specs.declared.fault.Fault.TheVariants.{OutOfMemory, Refused}
use Rattle.org_fault.specs.Faults.{IfRefusal}
use Rattle.org_fault.proofs.Faults.{refused_as, no_memory}
use Rattle.org_meta.specs.Edits.{Rewrites, RewritesParts}
use Rattle.org_meta.specs.Moments.{moment_text}
use Rattle.org_meta.specs.Notes.{note_line, with_note}
use Rattle.org_meta.specs.Planning.{PlanningLine, planning_of, has_repeater, AreRepeated, set_closed}
use Rattle.org_meta.specs.Replans.{RewritesOk, HasNoRepeater, RewritesRepeated, RewritesRepeatedIn, IsRefusedRepeat, repeated_line}
use Rattle.org_meta.specs.Sections.{SectionParts, split, joined, parts_of, put, planning_size}
use Rattle.org_meta.proofs.Puts.{joined_split}
use Rattle.org_splice.proofs.AllLines.{AllByRecursion-take}
use Rattle.org_meta.proofs.Resplit.{split_planning, split_front}
use Rattle.org_state.specs.Keyword.{is_state, keyword_in, with_keyword}
use Rattle.org_state.specs.Edits.{section_start, moved, EditsRest}
use Rattle.org_state.specs.Todo.{Own, own_at, with_own_at, with_lines, changed, first_active, if_repeating, repeating, repeated_parts, TurnsDone, Turns, IsChanged, is_done, IsTodo, IsTodoAt, heading_asked, heading_to_change}
use Rattle.org_state.specs.Answers.{AnswersOwn, AnswersTodo}
use Rattle.org_state.proofs.Fronts.{front_short, planning_short}
use Rattle.org_state.proofs.Steps.{repeat_lines, four_made, section_is_lines}

-- ---- faults

pub handed : (IsDefined : Result Own Refusal → Type 0) (t : List ℕ) (i : ℕ) (result : Result (Vec Edit Global) (Fault Refusal))
    → IfOk result (λ edits. (own : Own) × IsDefined (Ok own) × ((edits.items ≢ []) × AreEdits edits.items t (print (with_own_at i (tree t) own)))) → IfErr result (λ fault. fault ≡ OutOfMemory)
    → AnswersOwn IsDefined t i result
handed IsDefined t i (Ok edits) ok err = ok
handed IsDefined t i (Err fault) ok err = no_memory fault (λ why. IsDefined (Err why)) err

-- ---- a section that was replanned

ok_parts : (r : Result SectionParts Refusal) (section : List ℕ) (e : Edit) → RewritesOk r section e → (p : SectionParts) × (r ≡ Ok p) × RewritesParts e section p
ok_parts (Ok p) section e g = (p, refl, g)
ok_parts (Err fault) section e g = absurd g

pub replanned_within : (r : Result SectionParts Refusal) (section bytes : List ℕ) (e : Edit) → section ≡ bytes → RewritesOk r section e → e.at + e.removed ≤ length bytes
replanned_within r section bytes e is g = let parts = ok_parts r section e g in omega (arith, parts.2.within, ap length is)

pub replanned_refused : (plan : SectionParts → Result SectionParts Refusal) (states : Keywords) (word : List ℕ) (own : Own) (section : List ℕ) (fault : Fault Refusal) → lines_of section ≡ own.section
    → IfRefusal fault (λ why. plan (parts_of section) ≡ Err why) → IfRefusal fault (λ why. Err why ≡ changed states word own (plan (split own.section)))
replanned_refused plan states word own section fault lines =
    refused_as fault _ _ (λ why is. sym (ap (changed states word own) (ap (λ (ls : List (List ℕ)). plan (split ls)) (sym lines) ∙ is)))

pub replanned_answers : (plan : SectionParts → Result SectionParts Refusal) (states : Keywords) (word t : List ℕ) (i : ℕ) (section : List ℕ) (e : Edit) (result : Result (Vec Edit Global) (Fault Refusal))
    → section ≡ print_lines (node_at (tree t) i).node.section → lines_of section ≡ (node_at (tree t) i).node.section → RewritesOk (plan (parts_of section)) section e
    → ((new : List (List ℕ)) → Rewrites e (print_lines (own_at (tree t) i).section) new → AnswersOwn (λ r. r ≡ Ok (with_lines states word (own_at (tree t) i) new)) t i result)
    → AnswersOwn (λ r. r ≡ changed states word (own_at (tree t) i) (plan (split (own_at (tree t) i).section))) t i result
replanned_answers plan states word t i section e result bytes lines g made =
    let own : Own = own_at (tree t) i in
    let parts = ok_parts (plan (parts_of section)) section e g in
    let is : plan (split own.section) ≡ Ok parts.0 = ap (λ (ls : List (List ℕ)). plan (split ls)) (sym lines) ∙ parts.1 in
    let gives : Rewrites e (print_lines own.section) (joined parts.0) = subst (λ (s : List ℕ). Rewrites e s (joined parts.0)) bytes parts.2 in
    subst (λ (x : Result Own Refusal). AnswersOwn (λ r. r ≡ x) t i result) (sym (ap (changed states word own) is)) (made (joined parts.0) gives)

-- ---- repetition

-- no planning line repeats
pub none_repeats : (ls : List (List ℕ)) → HasNoRepeater ls → repeating ls ≡ None
none_repeats [] none = refl
none_repeats (l ∷ ls) none = ap if_repeating none.1 ∙ (let no : if_repeating (Some none.0) ≡ None = rw none.2 refl in no)

-- the planning of a section, alone
pub planning_alone : (ls : List (List ℕ)) (line : List ℕ) → AllByRecursion IsLine ls → line ≡ print_lines (split ls).planning
    → parts_of line ≡ record { planning = (split ls).planning; drawer = []; rest = [] }
planning_alone ls line all is =
    let lines : lines_of line ≡ (split ls).planning =
    ap lines_of is ∙ lines_of-print_lines (split ls).planning (AllByRecursion-take IsLine (planning_size ls) ls all) in
    ap split lines ∙ split_planning ls

-- a planning line that was repeated, and what it was
pub record IsRepeating (now : Moment) (ls : List (List ℕ)) (e : Edit) : Type 0 where
  pub line : PlanningLine
  pub text : List ℕ
  pub is : repeating ls ≡ Some line
  pub are : AreRepeated line.entries now (Ok text)
  pub gives : Rewrites e (print_lines ls) (repeated_line line text ∷ [])

repeating_some : (l : List ℕ) (ls : List (List ℕ)) (p : PlanningLine) → planning_of l ≡ Some p → has_repeater p.entries ≡ true → repeating (l ∷ ls) ≡ Some p
repeating_some l ls p is some = ap if_repeating is ∙ (let yes : if_repeating (Some p) ≡ Some p = rw some refl in yes)

repeated_in : (now : Moment) (ls all : List (List ℕ)) (e : Edit) → RewritesRepeatedIn now (record { planning = all; drawer = []; rest = [] }) (print_lines ls) e ls → IsRepeating now ls e
repeated_in now [] all e g = absurd g
repeated_in now (l ∷ ls) all e g = record {
  line = g.planning;
  text = g.text;
  is = repeating_some l ls g.planning g.well_formed g.repeats;
  are = g.are;
  gives = g.gives;
}

pub repeated_alone : (now : Moment) (ls : List (List ℕ)) (e : Edit) → AllByRecursion IsLine ls
    → RewritesRepeated now (parts_of (print_lines (split ls).planning)) (print_lines (split ls).planning) (Some e) → IsRepeating now (split ls).planning e
repeated_alone now ls e all g =
    let P : SectionParts → Type 0 = λ parts. RewritesRepeated now parts (print_lines (split ls).planning) (Some e) in
    repeated_in now (split ls).planning (split ls).planning e (subst P (planning_alone ls (print_lines (split ls).planning) all refl) g)

-- why a planning line can't be repeated
repeat_faults : (states : Keywords) (state : List ℕ) (now : Moment) (own : Own) (parts : SectionParts) (ls : List (List ℕ)) (why : Refusal)
    → split own.section ≡ record parts { planning = ls } → IsRefusedRepeat now ls why → TurnsDone states state now own (repeating ls) (Err why)
repeat_faults states state now own parts [] why is wrong = absurd wrong
repeat_faults states state now own parts (l ∷ ls) why is (inl odd) =
    let none : repeating (l ∷ ls) ≡ None = ap if_repeating odd.1 in
    let P : Option PlanningLine → Type 0 = λ o. TurnsDone states state now own o (Err why) in
    let refused : set_closed now (split own.section) ≡ Err OddPlanning = ap (set_closed now) is ∙ rw odd.1 refl in
    subst P (sym none) (ap (λ (f : Refusal). changed states state own (Err f)) odd.0 ∙ sym (ap (changed states state own) refused))
repeat_faults states state now own parts (l ∷ ls) why is (inr wrong) =
    let P : Option PlanningLine → Type 0 = λ o. TurnsDone states state now own o (Err why) in
    subst P (sym (repeating_some l ls wrong.0 wrong.1 wrong.2)) (Err why, wrong.3, refl)

-- the planning line that the code asks is that of the section
planning_is : (ls : List (List ℕ)) (line : List ℕ) → AllByRecursion IsLine ls → line ≡ print_lines (split ls).planning → (parts_of line).planning ≡ (split ls).planning
planning_is ls line all is = ap (λ (p : SectionParts). p.planning) (planning_alone ls line all is)

pub repeat_refused : (states : Keywords) (state : List ℕ) (now : Moment) (own : Own) (line : List ℕ) (fault : Fault Refusal) → AllByRecursion IsLine own.section → line ≡ print_lines (split own.section).planning
    → IfRefusal fault (IsRefusedRepeat now (parts_of line).planning)
    → IfRefusal fault (λ why. TurnsDone states state now own (repeating (split own.section).planning) (Err why))
repeat_refused states state now own line fault all is = refused_as fault _ _ (λ why wrong.
    let P : List (List ℕ) → Type 0 = λ ls. IsRefusedRepeat now ls why in
    repeat_faults states state now own (split own.section) (split own.section).planning why refl (subst P (planning_is own.section line all is) wrong))

-- where nothing repeats, the entry is closed
pub nothing_repeats : (now : Moment) (ls : List (List ℕ)) (line : List ℕ) (made : Option Edit) → AllByRecursion IsLine ls → line ≡ print_lines (split ls).planning
    → RewritesRepeated now (parts_of line) line made → made ≡ None → repeating (split ls).planning ≡ None
nothing_repeats now ls line made all is gives none =
    let P : Option Edit → Type 0 = λ made. RewritesRepeated now (parts_of line) line made in
    let Q : List (List ℕ) → Type 0 = HasNoRepeater in
    none_repeats (split ls).planning (subst Q (planning_is ls line all is) (subst P none gives))

-- the property is put before the rest, and the planning line before that
pub property_within : (ls : List (List ℕ)) (front bytes : List ℕ) (p : SectionParts) (e : Edit) → front ≡ print_lines (joined (record (split ls) { rest = [] })) → bytes ≡ print_lines ls
    → RewritesParts e front p → e.at + e.removed ≤ length bytes
property_within ls front bytes p e is whole g =
    let all : front ≡ print_lines ((split ls).planning ++ (split ls).drawer) = is ∙ ap (λ (d : List (List ℕ)). print_lines ((split ls).planning ++ d)) (append-nil (split ls).drawer) in
    omega (arith, g.within, front_short ls, ap length all, ap length whole)

pub planning_within : (now : Moment) (ls : List (List ℕ)) (e : Edit) → AllByRecursion IsLine ls
    → RewritesRepeated now (parts_of (print_lines (split ls).planning)) (print_lines (split ls).planning) (Some e) → e.at + e.removed ≤ length (print_lines ls)
planning_within now ls e all g = let r = repeated_alone now ls e all g in omega (arith, r.gives.within, planning_short ls)

-- a property put above the rest
property_put : (ls : List (List ℕ)) (front name value stamp : List ℕ) (e : Edit) → AllByRecursion IsLine ls → front ≡ print_lines (joined (record (split ls) { rest = [] })) → stamp ≡ value
    → RewritesParts e front (put name stamp (parts_of front)) → Rewrites e (print_lines ((split ls).planning ++ (split ls).drawer)) (joined (put name value (record (split ls) { rest = [] })))
property_put ls front name value stamp e all is same g =
    let above : List (List ℕ) = (split ls).planning ++ (split ls).drawer in
    let lines : joined (record (split ls) { rest = [] }) ≡ above = ap (λ (d : List (List ℕ)). (split ls).planning ++ d) (append-nil (split ls).drawer) in
    let bytes : front ≡ print_lines above = is ∙ ap print_lines lines in
    let whole : AllByRecursion IsLine (above ++ (split ls).rest) =
    subst (AllByRecursion IsLine) (sym (joined_split ls) ∙ sym (append_assoc (split ls).planning (split ls).drawer (split ls).rest)) all in
    let own : AllByRecursion IsLine above = all_front above (split ls).rest whole in
    let parts : parts_of front ≡ record (split ls) { rest = [] } = ap split (ap lines_of bytes ∙ lines_of-print_lines above own) ∙ split_front ls in
    subst (λ (b : List ℕ). Rewrites e b (joined (put name value (record (split ls) { rest = [] })))) bytes
    (subst (λ (p : SectionParts). Rewrites e front (joined (put name value p))) parts
    (subst (λ (v : List ℕ). Rewrites e front (joined (put name v (parts_of front)))) same g))
  where
    all_front : (a b : List (List ℕ)) → AllByRecursion IsLine (a ++ b) → AllByRecursion IsLine a
    all_front [] b p = tt
    all_front (l ∷ a) b p = (p.0, all_front a b p.1)

-- The edits of a repeated task: a note, a property, a planning line and a keyword.
pub repeat_made : (states : Keywords) (state : List ℕ) (now : Moment) (t : List ℕ) (i : ℕ) (section front old stamp active : List ℕ) (a b c a2 b2 c2 k : Edit) (items : List Edit)
    → terminated t ≡ t → i < node_count (tree t)
    → section ≡ print_lines (node_at (tree t) i).node.section → lines_of section ≡ (node_at (tree t) i).node.section
    → front ≡ print_lines (joined (record (split (node_at (tree t) i).node.section) { rest = [] }))
    → old ≡ keyword_in states (node_at (tree t) i).node.rest → stamp ≡ moment_text now → active ≡ first_active states
    → RewritesParts a section (with_note (note_line state old now) (parts_of section))
    → RewritesParts b front (put (codes "LAST_REPEAT") stamp (parts_of front))
    → RewritesRepeated now (parts_of (print_lines (split (node_at (tree t) i).node.section).planning)) (print_lines (split (node_at (tree t) i).node.section).planning) (Some c)
    → a2 ≡ moved (section_start (tree t) i) a → b2 ≡ moved (section_start (tree t) i) b → c2 ≡ moved (section_start (tree t) i) c
    → EditsRest k (tree t) i (with_keyword states active (node_at (tree t) i).node.rest)
    → items ≡ a2 ∷ b2 ∷ c2 ∷ k ∷ []
    → (own : Own) × TurnsDone states state now (own_at (tree t) i) (repeating (split (own_at (tree t) i).section).planning) (Ok own)
    × ((items ≢ []) × AreEdits items t (print (with_own_at i (tree t) own)))
repeat_made states state now t i section front old stamp active a b c a2 b2 c2 k items stays_terminated lt bytes lines front_is old_is stamp_is active_is note property plan at_a at_b at_c rest is =
    let own : Own = own_at (tree t) i in
    let ls : List (List ℕ) = own.section in
    let all : AllByRecursion IsLine ls = section_is_lines t i lt in
    let word : List ℕ = keyword_in states own.rest in
    let r = repeated_alone now ls c all plan in
    let n : List ℕ = note_line state word now in
    let noted : Rewrites a (print_lines ls) (joined (with_note n (split ls))) =
    subst (λ (s : List ℕ). Rewrites a s (joined (with_note n (split ls)))) bytes
    (subst (λ (ls : List (List ℕ)). Rewrites a section (joined (with_note n (split ls)))) lines
    (subst (λ (w : List ℕ). Rewrites a section (joined (with_note (note_line state w now) (parts_of section)))) old_is note)) in
    let put_in = property_put ls front (codes "LAST_REPEAT") (moment_text now) stamp b all front_is stamp_is property in
    let final : SectionParts = repeated_parts state word now r.line (split ls) r.text in
    let new : Own = with_lines states (first_active states) own (joined final) in
    let line : List ℕ = repeated_line r.line r.text in
    let steps = repeat_lines ls a b c n (codes "LAST_REPEAT") (moment_text now) line noted put_in r.gives in
    let keyword : EditsRest k (tree t) i (with_keyword states (first_active states) own.rest) = subst (λ (w : List ℕ). EditsRest k (tree t) i (with_keyword states w own.rest)) active_is rest in
    let P : Option PlanningLine → Type 0 = λ o. TurnsDone states state now own o (Ok new) in
    (new, subst P (sym r.is) (Ok r.text, r.are, refl), four_made t i a b c a2 b2 c2 k (joined final) (with_keyword states (first_active states) own.rest) items stays_terminated lt at_a at_b at_c steps keyword is)

-- ---- the keyword alone

pub kept : (was is : Bool) (states : Keywords) (state : List ℕ) (now : Moment) (own : Own) (t : List ℕ) (i : ℕ) (result : Result (Vec Edit Global) (Fault Refusal))
    → was ≡ is → AnswersOwn (λ r. r ≡ Ok (with_lines states state own own.section)) t i result → AnswersOwn (Turns was is states state now own) t i result
kept true true states state now own t i result e answers = answers
kept false false states state now own t i result e answers = answers
kept true false states state now own t i result e answers = absurd (true≢false e)
kept false true states state now own t i result e answers = absurd (true≢false (sym e))

-- ---- an entry that turns

-- the change of an entry that was done, or not, and is to be, or not
pub turned : (was is : Bool) (states : Keywords) (state : List ℕ) (now : Moment) (own : Own) (t : List ℕ) (i : ℕ) (result : Result (Vec Edit Global) (Fault Refusal))
    → is_done states (keyword_in states own.rest) ≡ was → is_done states state ≡ is → AnswersOwn (Turns was is states state now own) t i result
    → AnswersOwn (IsChanged states state now own) t i result
turned was is states state now own t i result was_is is_is answers =
    let P : Bool → Bool → Type 0 = λ w s. AnswersOwn (Turns w s states state now own) t i result in
    subst (λ (w : Bool). P w (is_done states state)) (sym was_is) (subst (P was) (sym is_is) answers)

-- ---- a document

pub todo_answers : (states : Keywords) (path : List Step) (state : List ℕ) (now : Moment) (t : List ℕ) (i : ℕ) (result : Result (Vec Edit Global) (Fault Refusal))
    → find_path states (tree t) path ≡ Ok i → is_state states state ≡ true → bytes_eq (keyword_in states (node_at (tree t) i).node.rest) state ≡ false
    → AnswersOwn (IsChanged states state now (own_at (tree t) i)) t i result → AnswersTodo states path state now t result
todo_answers states path state now t i result found known other answers = by_result result answers
  where
    d : Document
    d = tree t

    asked : heading_to_change states path state (tree t) ≡ Ok (Some i)
    asked = ap (heading_asked states state (tree t)) found ∙ rw (known, other) refl

    todo_is : (r : Result Own Refusal) → IsChanged states state now (own_at (tree t) i) r
        → IsTodo states path state now (tree t) (result_map_both (λ own. Some (with_own_at i (tree t) own)) (λ why. why) r)
    todo_is r is =
        let P : Result (Option ℕ) Refusal → Type 0 = λ a. IsTodoAt states state now (tree t) a (result_map_both (λ own. Some (with_own_at i (tree t) own)) (λ why. why) r) in
        subst P (sym asked) (r, is, refl)

    by_result : (result : Result (Vec Edit Global) (Fault Refusal)) → AnswersOwn (IsChanged states state now (own_at (tree t) i)) t i result → AnswersTodo states path state now t result
    by_result (Ok edits) a = (Some (with_own_at i (tree t) a.0), todo_is (Ok a.0) a.1, a.2)
    by_result (Err (Refused why)) a = todo_is (Err why) a
    by_result (Err OutOfMemory) a = (i, asked)
