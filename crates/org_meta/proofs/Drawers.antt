-- Walks over the lines of a drawer.
use Rattle.std.proofs.Common.{◌≡◌, ℕ, suc, ◌+◌, true, false, Option, Some, None, List, [], ◌∷◌, ◌++◌, length, take, drop, ◌-◌, refl, sym, ap, ◌∙◌, arith, length-append}
use Rattle.std.proofs.lemmas.Grind.{common_steps}
use Rattle.std.specs.List.{AllByRecursion}
use Rattle.std.specs.Option.{option_map, option_map_or, unwrap_or}
use Rattle.org_splice.specs.Lines.{terminated, lines_of, print_lines, IsLine}
use Rattle.org_meta.specs.Lines.{BeginsWith, behind_lines}
use Rattle.org_meta.specs.declared.lines.Lines.{Lines}
use Rattle.org_meta.specs.declared.parts.Sections.{Sections}
use Rattle.org_meta.specs.Sections.{AreSections, split, is_planning, planning_size, is_drawer_start, drawer_size, is_end, NodeProperty, property_of, size_to_end, value_named, value_before_end}
use Rattle.org_splice.proofs.Lines.{terminated-print_lines, lines_of-lines, lines_of-print_lines}
use Rattle.org_splice.proofs.AllLines.{AllByRecursion-take, AllByRecursion-drop}
use Rattle.org_meta.proofs.Walk.{Passed, passed_none, passed_line, passed_rest, behind_none, front_lines, print_lines-terminated}

-- ---- the end of a drawer

-- the end of the whole is that of what is left, as many lines later as were passed
pub record EndsLater (whole text : List ℕ) : Type 0 where
  pub passed : Passed whole text
  pub size : size_to_end (lines_of whole) ≡ option_map (λ n. length passed.before + n) (size_to_end (lines_of text))

plus_none : (o : Option ℕ) → o ≡ option_map (λ n. 0 + n) o
plus_none None = refl
plus_none (Some n) = ap (λ n. Some n) (omega arith)

plus_one : (k : ℕ) (ls : List (List ℕ)) (l : List ℕ) (o : Option ℕ) → length ls ≡ k → option_map (λ n. k + n) (option_map suc o) ≡ option_map (λ n. length (ls ++ l ∷ []) + n) o
plus_one k ls l None long = refl
plus_one k ls l (Some n) long = ap (λ n. Some n) (omega (arith, length-append ls (l ∷ [])))

pub ends_none : (whole : List ℕ) → EndsLater whole whole
unfolding passed_none
ends_none whole = record { passed = passed_none whole; size = plus_none (size_to_end (lines_of whole)) }

pub ends_line : (whole text line rest : List ℕ) → EndsLater whole text → BeginsWith text line rest → is_end line ≡ false → (p : NodeProperty) → Some p ≡ property_of line → EndsLater whole rest
unfolding passed_line
ends_line whole text line rest e b other p property = record {
  passed = passed_line whole text line rest e.passed b;
  size =
      let next : size_to_end (lines_of text) ≡ option_map suc (size_to_end (lines_of rest)) = ap size_to_end b.lines ∙ rw (other, ← property) refl in
      e.size ∙ ap (option_map (λ n. length e.passed.before + n)) next
      ∙ plus_one (length e.passed.before) e.passed.before line (size_to_end (lines_of rest)) refl;
}

pub ends_found : (whole text line rest : List ℕ) → EndsLater whole text → terminated rest ≡ rest → BeginsWith text line rest → is_end line ≡ true → Some rest ≡ option_map (behind_lines whole) (size_to_end (lines_of whole))
unfolding passed_line
ends_found whole text line rest e is b found =
    let next : size_to_end (lines_of text) ≡ Some 1 = ap size_to_end b.lines ∙ rw found refl in
    let here : size_to_end (lines_of whole) ≡ Some (length e.passed.before + 1) = e.size ∙ ap (option_map (λ n. length e.passed.before + n)) next in
    let p = passed_line whole text line rest e.passed b in
    sym (ap (option_map (behind_lines whole)) here ∙ ap (λ (t : List ℕ). Some t) (passed_rest whole rest p (length e.passed.before + 1) is (length-append e.passed.before (line ∷ []))))

-- ---- a value

pub record ValueLater (name whole text : List ℕ) : Type 0 where
  pub value : value_before_end name (lines_of whole) ≡ value_before_end name (lines_of text)

pub value_line : (name whole text line rest : List ℕ) → ValueLater name whole text → BeginsWith text line rest → is_end line ≡ false → value_named name line ≡ None → ValueLater name whole rest
value_line name whole text line rest v b other none = record { value = v.value ∙ ap (value_before_end name) b.lines ∙ rw (other, none) refl }

pub value_found : (name whole text line rest value : List ℕ) → ValueLater name whole text → BeginsWith text line rest → is_end line ≡ false → Some value ≡ value_named name line → Some value ≡ value_before_end name (lines_of whole)
value_found name whole text line rest value v b other found =
    sym (v.value ∙ ap (value_before_end name) b.lines ∙ rw (other, ← found) refl)

pub value_end : (name whole text line rest : List ℕ) → ValueLater name whole text → BeginsWith text line rest → is_end line ≡ true → None ≡ value_before_end name (lines_of whole)
value_end name whole text line rest v b end = sym (v.value ∙ ap (value_before_end name) b.lines ∙ rw end refl)

pub value_nowhere : (name whole text : List ℕ) → ValueLater name whole text → text ≡ [] → None ≡ value_before_end name (lines_of whole)
value_nowhere name whole text v none = sym (v.value ∙ ap (λ (t : List ℕ). value_before_end name (lines_of t)) none)

-- ---- the parts

pub behind_other : (text line rest : List ℕ) → terminated text ≡ text → BeginsWith text line rest → is_drawer_start line ≡ false → text ≡ behind_lines text (drawer_size (lines_of text))
behind_other text line rest whole b other = grind (arith, common_steps, behind_none)

size_behind : (text line rest : List ℕ) (o : Option ℕ) (r : Option (List ℕ)) → terminated text ≡ text → BeginsWith text line rest → r ≡ option_map (behind_lines rest) o → unwrap_or r text ≡ behind_lines text (option_map_or suc o 0)
size_behind text line rest None r whole b is = rw is (behind_none text whole)
size_behind text line rest (Some n) r whole b is =
    rw is (sym (ap (λ (ls : List (List ℕ)). print_lines (drop (suc n) ls)) b.lines))

behind_drawer : (text line rest : List ℕ) (r : Option (List ℕ)) → terminated text ≡ text → BeginsWith text line rest → is_drawer_start line ≡ true → r ≡ option_map (behind_lines rest) (size_to_end (lines_of rest))
    → unwrap_or r text ≡ behind_lines text (drawer_size (lines_of text))
behind_drawer text line rest r whole b start is = grind (arith, common_steps, size_behind)

now_or : (r : Option Lines) (d : Lines) → (unwrap_or r d).bytes.now ≡ unwrap_or (option_map (λ x. x.bytes.now) r) d.bytes.now
now_or None d = refl
now_or (Some x) d = refl

pub behind_drawer_now : (text line rest : List ℕ) (found : Option Lines) (or answer : Lines) → or.bytes.now ≡ text → answer ≡ unwrap_or found or → terminated text ≡ text → BeginsWith text line rest → is_drawer_start line ≡ true
    → option_map (λ x. x.bytes.now) found ≡ option_map (behind_lines rest) (size_to_end (lines_of rest))
    → answer.bytes.now ≡ behind_lines text (drawer_size (lines_of text))
behind_drawer_now text line rest found or answer is_text is whole b start behind = grind (arith, common_steps, now_or, behind_drawer)

pub planning_here : (text line rest : List ℕ) → terminated rest ≡ rest → BeginsWith text line rest → is_planning line ≡ true → rest ≡ behind_lines text (planning_size (lines_of text))
planning_here text line rest is b here = grind (arith, common_steps, print_lines-terminated)

pub planning_other : (text line rest : List ℕ) → terminated text ≡ text → BeginsWith text line rest → is_planning line ≡ false → text ≡ behind_lines text (planning_size (lines_of text))
planning_other text line rest whole b other = grind (arith, common_steps, behind_none)

-- the lines of a part
pub part_lines : (ls : List (List ℕ)) (text : List ℕ) → AllByRecursion IsLine ls → text ≡ print_lines ls → lines_of text ≡ ls
part_lines ls text p is = ap lines_of is ∙ lines_of-print_lines ls p

-- the three slices of a section, from where the second and the third begin
pub are_sections : (section below rest : List ℕ) (slices : Sections) → terminated section ≡ section → below ≡ behind_lines section (planning_size (lines_of section))
    → rest ≡ behind_lines below (drawer_size (lines_of below))
    → slices.planning.bytes.now ≡ take (length section - length below) section → slices.drawer.bytes.now ≡ take (length below - length rest) below → slices.rest.bytes.now ≡ rest
    → AreSections slices (split (lines_of section))
are_sections section below rest slices whole is_below is_rest planning drawer last = grind (arith, common_steps, part_lines, AllByRecursion-drop, lines_of-lines, terminated-print_lines, front_lines)

pub drawer_lines : (section : List ℕ) → AllByRecursion IsLine (split (lines_of section)).drawer
drawer_lines section =
    AllByRecursion-take IsLine _ _ (AllByRecursion-drop IsLine (planning_size (lines_of section)) (lines_of section) (lines_of-lines section))

-- the lines after the drawer's first
pub property_lines : (section drawer line rest : List ℕ) → drawer ≡ print_lines (split (lines_of section)).drawer → BeginsWith drawer line rest → lines_of rest ≡ drop 1 (split (lines_of section)).drawer
property_lines section drawer line rest is b = grind (arith, common_steps, split, part_lines, drawer_lines)

pub no_drawer : (section drawer : List ℕ) → drawer ≡ print_lines (split (lines_of section)).drawer → drawer ≡ [] → (split (lines_of section)).drawer ≡ []
no_drawer section drawer is none = sym (part_lines (split (lines_of section)).drawer drawer (drawer_lines section) is) ∙ ap lines_of none

pub drawer_is : (section : List ℕ) (slices : Sections) → AreSections slices (split (lines_of section)) → lines_of slices.drawer.bytes.now ≡ (split (lines_of section)).drawer
drawer_is section slices are = part_lines (split (lines_of section)).drawer slices.drawer.bytes.now (drawer_lines section) are.drawer
