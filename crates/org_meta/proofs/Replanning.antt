-- Other planning lines in a section.
use Rattle.std.proofs.Common.{◌≡◌, ℕ, true, false, Some, None, Result, Ok, Err, List, [], ◌∷◌, ◌++◌, length, take, refl, sym, ap, subst, ◌∙◌, inl, inr, arith, append_assoc}
use Rattle.std.proofs.lemmas.Grind.{common_steps}
use Rattle.std.proofs.lemmas.Bool.{cases_Bool}
use Rattle.org_splice.specs.Lines.{terminated, print_lines, IsLine, lines_of}
use Rattle.org_splice.specs.declared.edit.Edit.{Edit}
use Rattle.org_stamp.specs.Calendar.{Moment}
use Rattle.org_meta.specs.declared.parts.Sections.{Sections}
use Rattle.org_fault.specs.declared.refusal.Refusal.{Refusal}
use Rattle.org_fault.specs.declared.refusal.Refusal.TheVariants.{OddPlanning}
use Rattle.org_fault.specs.declared.fault.Fault.{Fault}
use Rattle.org_fault.specs.Faults.{IfRefusal}
use Rattle.org_fault.proofs.Faults.{refused_as}
use Rattle.org_meta.specs.Lines.{BeginsWith}
use Rattle.org_meta.specs.Edits.{Rewrites, ChangesNothing}
use Rattle.org_meta.specs.Sections.{SectionParts, AreSections, split, joined, is_planning, planning_size}
use Rattle.org_meta.specs.Planning.{PlanningEntry, PlanningLine, planning_of, has_repeater, AreRepeated, replanned, replanned_line, has_closed, has_closed_entry, without_closed, clear_closed, closed_text, kept_text, has_others, with_closed}
use Rattle.org_meta.specs.Replans.{RewritesOk, HasNoRepeater, IsRefusedRepeat, RewritesRepeated, RewritesRepeatedIn, repeated_line, PutsAllRepeated}
use Rattle.org_splice.proofs.Lines.{print_lines-append, lines_of-lines}
use Rattle.org_splice.proofs.AllLines.{AllByRecursion-take}
use Rattle.org_meta.proofs.Drawers.{part_lines}
use Rattle.org_meta.proofs.Walk.{print_lines-terminated}
use Rattle.org_meta.proofs.PlanningText.{nothing_goes}
use Rattle.org_meta.proofs.Puts.{gives_at, section_bytes, joined_split}

planning_is : (section : List ℕ) (slices : Sections) → AreSections slices (split (lines_of section)) → lines_of slices.planning.bytes.now ≡ (split (lines_of section)).planning
planning_is section slices are = part_lines (split (lines_of section)).planning slices.planning.bytes.now (AllByRecursion-take IsLine (planning_size (lines_of section)) (lines_of section) (lines_of-lines section)) are.planning

-- other lines in the place of the planning
planning_gives : (e : Edit) (section : List ℕ) (slices : Sections) (new : List (List ℕ)) → terminated section ≡ section → AreSections slices (split (lines_of section)) → e.at ≡ 0 → e.removed ≡ length slices.planning.bytes.now → e.bytes ≡ print_lines new
    → Rewrites e section (joined (record (split (lines_of section)) { planning = new }))
planning_gives e section slices new whole are at removed bytes =
    let p = split (lines_of section) in
    let c = slices.drawer.bytes.now ++ slices.rest.bytes.now in
    let print : print_lines (new ++ (p.drawer ++ p.rest)) ≡ [] ++ (print_lines new ++ c) =
    print_lines-append new (p.drawer ++ p.rest) ∙ ap (λ (t : List ℕ). print_lines new ++ t) (print_lines-append p.drawer p.rest)
    ∙ ap (λ (t : List ℕ). print_lines new ++ (t ++ print_lines p.rest)) (sym are.drawer)
    ∙ ap (λ (t : List ℕ). print_lines new ++ (slices.drawer.bytes.now ++ t)) (sym are.rest) in
    gives_at e section [] slices.planning.bytes.now c (print_lines new) (new ++ (p.drawer ++ p.rest)) (section_bytes section slices whole are) at removed bytes print

with_gives : (section : List ℕ) (e : Edit) (r : Result SectionParts Refusal) (parts : SectionParts) → r ≡ Ok parts → Rewrites e section (joined parts) → RewritesOk r section e
with_gives section e r parts is gives = let P : Result SectionParts Refusal → Type 0 = λ r. RewritesOk r section e in subst P (sym is) gives

module _ (section : List ℕ) (slices : Sections) (whole : terminated section ≡ section) (are : AreSections slices (split (lines_of section))) (none : List (List ℕ)) (some : PlanningLine → List (List ℕ)) where
  pub plan_none : (e : Edit) → slices.planning.bytes.now ≡ [] → e.at ≡ 0 → e.removed ≡ 0 → e.bytes ≡ print_lines none → RewritesOk (replanned none some (split (lines_of section)) (split (lines_of section)).planning) section e
  plan_none e empty at removed bytes =
      let p = split (lines_of section) in
      let no : p.planning ≡ [] = sym (planning_is section slices are) ∙ ap lines_of empty in
      with_gives section e _ (record p { planning = none }) (ap (replanned none some p) no) (planning_gives e section slices none whole are at (removed ∙ sym (ap length empty)) bytes)

  pub plan_line : (e : Edit) (line rest : List ℕ) (plan : PlanningLine) → BeginsWith slices.planning.bytes.now line rest → planning_of line ≡ Some plan → e.at ≡ 0 → e.removed ≡ length slices.planning.bytes.now → e.bytes ≡ print_lines (some plan)
      → RewritesOk (replanned none some (split (lines_of section)) (split (lines_of section)).planning) section e
  plan_line e line rest plan b is at removed bytes = grind (arith, common_steps, split, planning_is, with_gives, planning_gives)

  pub plan_odd : (line rest : List ℕ) → BeginsWith slices.planning.bytes.now line rest → planning_of line ≡ None → replanned none some (split (lines_of section)) (split (lines_of section)).planning ≡ Err OddPlanning
  plan_odd line rest b is = grind (arith, common_steps, split, planning_is)

  pub plan_fault : (line rest : List ℕ) (fault : Fault Refusal) → BeginsWith slices.planning.bytes.now line rest → IfRefusal fault (λ why. (why ≡ OddPlanning) × (planning_of line ≡ None))
      → IfRefusal fault (λ why. replanned none some (split (lines_of section)) (split (lines_of section)).planning ≡ Err why)
  plan_fault line rest fault b = refused_as fault _ _ (λ why is. plan_odd line rest b is.1 ∙ ap (λ f. Err f) (sym is.0))

-- ---- a planning line without a CLOSED entry

nothing_there : {l : List ℕ} {ls : List (List ℕ)} → [] ≡ l ∷ ls → ⊥
nothing_there e = cc

planning_one : (l : List ℕ) (ls : List (List ℕ)) → is_planning l ≡ true → planning_size (l ∷ ls) ≡ 1
planning_one l ls here = rw here refl

planning_none : (l : List ℕ) (ls : List (List ℕ)) → is_planning l ≡ false → planning_size (l ∷ ls) ≡ 0
planning_none l ls other = rw other refl

first_same : (line : List ℕ) (more : List (List ℕ)) (l : List ℕ) → line ∷ more ≡ l ∷ [] → l ≡ line
first_same line more l e = cc

rest_none : (line : List ℕ) (more : List (List ℕ)) (l : List ℕ) → line ∷ more ≡ l ∷ [] → more ≡ []
rest_none line more l e = cc

-- the planning of a section is one planning line, if any
pub planning_alone : (ls : List (List ℕ)) (line : List ℕ) (more : List (List ℕ)) → take (planning_size ls) ls ≡ line ∷ more → (is_planning line ≡ true) × (more ≡ [])
planning_alone [] line more e = absurd (nothing_there e)
planning_alone (l ∷ ls) line more e =
    elim (cases_Bool (is_planning l)) [
      | inl here ↦
          let only : line ∷ more ≡ l ∷ [] = sym e ∙ ap (λ n. take n (l ∷ ls)) (planning_one l ls here) in
          (sym (ap is_planning (first_same line more l only)) ∙ here, rest_none line more l only)
      | inr other ↦ absurd (nothing_there (sym (ap (λ n. take n (l ∷ ls)) (planning_none l ls other)) ∙ e))
    ]

-- the edit that changes nothing gives the lines that there are
nothing_gives : (e : Edit) (section : List ℕ) → terminated section ≡ section → ChangesNothing e → Rewrites e section (lines_of section)
nothing_gives e section whole same = grind (arith, common_steps, print_lines-terminated)

module _ (section : List ℕ) (slices : Sections) (whole : terminated section ≡ section) (are : AreSections slices (split (lines_of section))) where
  pub none_cleared : (e : Edit) → slices.planning.bytes.now ≡ [] → ChangesNothing e → RewritesOk (clear_closed (split (lines_of section))) section e
  none_cleared e empty same = plan_none section slices whole are [] without_closed e empty same.at same.removed same.bytes

  pub nothing_cleared : (e : Edit) (line rest : List ℕ) (plan : PlanningLine) → BeginsWith slices.planning.bytes.now line rest → planning_of line ≡ Some plan → has_closed plan.entries ≡ false → ChangesNothing e
      → RewritesOk (clear_closed (split (lines_of section))) section e
  nothing_cleared e line rest plan b is none same =
      let p = split (lines_of section) in
      let first : p.planning ≡ line ∷ lines_of rest = sym (planning_is section slices are) ∙ b.lines in
      let alone = planning_alone (lines_of section) line (lines_of rest) first in
      let stays : without_closed plan ≡ p.planning = nothing_goes line plan alone.0 is none ∙ sym (first ∙ ap (λ (ls : List (List ℕ)). line ∷ ls) alone.1) in
      let all : lines_of section ≡ joined (record p { planning = without_closed plan }) =
      sym (joined_split (lines_of section)) ∙ ap (λ (ls : List (List ℕ)). ls ++ (p.drawer ++ p.rest)) (sym stays) in
      let P : List (List ℕ) → Type 0 = λ ls. Rewrites e section ls in
      with_gives section e _ (record p { planning = without_closed plan }) (ap (replanned [] without_closed p) first ∙ ap (replanned_line without_closed p) is) (subst P all (nothing_gives e section whole same))

  -- where the line has a CLOSED entry, the planning has
  pub closed_there : (line rest : List ℕ) (plan : PlanningLine) → BeginsWith slices.planning.bytes.now line rest → planning_of line ≡ Some plan → has_closed_entry (split (lines_of section)).planning ≡ has_closed plan.entries
  closed_there line rest plan b is = grind (arith, common_steps, split, planning_is)

-- ---- repetition

line_shape : (i c k t : List ℕ) → i ++ (c ++ 32 ∷ []) ++ (k ++ (t ++ 10 ∷ [])) ≡ (i ++ (c ++ (32 ∷ (k ++ t)))) ++ 10 ∷ []
line_shape i c k t = simp append_assoc

pub with_closed_bytes : (o0 o1 o2 : List ℕ) (now : Moment) (p : PlanningLine) → o0 ≡ p.indentation → o1 ≡ o0 ++ (closed_text now ++ 32 ∷ []) → o2 ≡ o1 ++ (kept_text p.entries ++ (p.tail ++ 10 ∷ [])) → has_others p.entries ≡ true
    → o2 ≡ with_closed now p ++ 10 ∷ []
with_closed_bytes o0 o1 o2 now p e0 e1 e2 others =
    let more = kept_text p.entries ++ (p.tail ++ 10 ∷ []) in
    let line : with_closed now p ≡ p.indentation ++ (closed_text now ++ (32 ∷ (kept_text p.entries ++ p.tail))) = rw others refl in
    e2 ∙ ap (λ (t : List ℕ). t ++ more) (e1 ∙ ap (λ (t : List ℕ). t ++ (closed_text now ++ 32 ∷ [])) e0) ∙ line_shape p.indentation (closed_text now) (kept_text p.entries) p.tail ∙ ap (λ (t : List ℕ). t ++ 10 ∷ []) (sym line)

repeated_shape : (i r t : List ℕ) → (i ++ r) ++ (t ++ 10 ∷ []) ≡ (i ++ (r ++ t)) ++ 10 ∷ []
repeated_shape i r t = simp append_assoc

pub same_fault : (now : Moment) (es fs : List PlanningEntry) (fault : Fault Refusal) → es ≡ fs → IfRefusal fault (λ why. AreRepeated es now (Err why)) → IfRefusal fault (λ why. AreRepeated fs now (Err why))
same_fault now es fs fault same wrong = let P : List PlanningEntry → Type 0 = λ es. IfRefusal fault (λ why. AreRepeated es now (Err why)) in subst P same wrong

pub repeated_bytes : (now : Moment) (p : PlanningLine) (es : List PlanningEntry) (o0 o1 o2 : List ℕ) → es ≡ p.entries → o0 ≡ p.indentation → PutsAllRepeated es now o0 o1 → o2 ≡ o1 ++ (p.tail ++ 10 ∷ [])
    → (text : List ℕ) × AreRepeated p.entries now (Ok text) × (o2 ≡ repeated_line p text ++ 10 ∷ [])
repeated_bytes now p es o0 o1 o2 same e0 puts e2 =
    let Q : List PlanningEntry → Type 0 = λ es. AreRepeated es now (Ok puts.text) in
    (puts.text, subst Q same puts.are, e2 ∙ ap (λ (t : List ℕ). t ++ (p.tail ++ 10 ∷ [])) (puts.bytes ∙ ap (λ (t : List ℕ). t ++ puts.text) e0) ∙ repeated_shape p.indentation puts.text p.tail)

module _ (section : List ℕ) (slices : Sections) (whole : terminated section ≡ section) (are : AreSections slices (split (lines_of section))) (now : Moment) where
  pub repeat_none : slices.planning.bytes.now ≡ [] → HasNoRepeater (split (lines_of section)).planning
  repeat_none empty = subst HasNoRepeater (sym (sym (planning_is section slices are) ∙ ap lines_of empty)) tt

  pub repeat_odd : (line rest : List ℕ) (fault : Fault Refusal) → BeginsWith slices.planning.bytes.now line rest → IfRefusal fault (λ why. (why ≡ OddPlanning) × (planning_of line ≡ None))
      → IfRefusal fault (IsRefusedRepeat now (split (lines_of section)).planning)
  repeat_odd line rest fault b = grind (arith, common_steps, refused_as, planning_is)

  pub repeat_nothing : (line rest : List ℕ) (plan : PlanningLine) → BeginsWith slices.planning.bytes.now line rest → planning_of line ≡ Some plan → has_repeater plan.entries ≡ false → HasNoRepeater (split (lines_of section)).planning
  repeat_nothing line rest plan b is none = subst HasNoRepeater (sym b.lines ∙ planning_is section slices are) (plan, is, none)

  pub repeat_fault : (line rest : List ℕ) (plan : PlanningLine) (fault : Fault Refusal) → BeginsWith slices.planning.bytes.now line rest → planning_of line ≡ Some plan → has_repeater plan.entries ≡ true
      → IfRefusal fault (λ why. AreRepeated plan.entries now (Err why)) → IfRefusal fault (IsRefusedRepeat now (split (lines_of section)).planning)
  repeat_fault line rest plan fault b is some = grind (arith, common_steps, refused_as, planning_is)

  pub repeat_gives : (e : Edit) (line rest : List ℕ) (plan : PlanningLine) (text : List ℕ) → BeginsWith slices.planning.bytes.now line rest → planning_of line ≡ Some plan → has_repeater plan.entries ≡ true → AreRepeated plan.entries now (Ok text)
      → e.at ≡ 0 → e.removed ≡ length slices.planning.bytes.now → e.bytes ≡ repeated_line plan text ++ 10 ∷ [] → RewritesRepeated now (split (lines_of section)) section (Some e)
  repeat_gives e line rest plan text b is some repeated at removed bytes =
      let p = split (lines_of section) in
      let P : List (List ℕ) → Type 0 = λ ls. RewritesRepeatedIn now p section e ls in
      subst P (sym b.lines ∙ planning_is section slices are) (record {
        planning = plan;
        text = text;
        well_formed = is;
        repeats = some;
        are = repeated;
        gives = planning_gives e section slices (repeated_line plan text ∷ []) whole are at removed bytes;
      })
