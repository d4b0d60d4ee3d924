-- Edits of a heading's own lines, one after another, are edits of its text.
use Rattle.std.proofs.Common.{◌≡◌, ℕ, ◌+◌, ◌-◌, ◌<◌, ◌≤◌, List, [], ◌∷◌, ◌++◌, length, map, refl, sym, ap, subst, ◌∙◌, arith, append_assoc, replicate, length-append}
use Rattle.std.proofs.lemmas.Grind.{common_steps}
use Rattle.std.specs.Prelude.{◌≢◌}
use Rattle.std.proofs.lemmas.List.{length-replicate, append-nil}
use Rattle.std.specs.List.{AllByRecursion}
use Rattle.org_splice.specs.Lines.{terminated, print_lines, lines_of, IsLine}
use Rattle.org_splice.specs.declared.Span.{Span}
use Rattle.org_splice.specs.Edits.{edited, applied, AreEdits}
use Rattle.org_splice.specs.declared.edit.Edit.{Edit}
use Rattle.org_splice.proofs.Lines.{print_lines-append, lines_of-print_lines}
use Rattle.org_splice.proofs.Places.{edits_in_place, AreEdits-join}
use Rattle.org_headings.specs.Text.{heading_line}
use Rattle.org_outline.specs.Tree.{Document, Node, print, tree, node_at, node_count}
use Rattle.org_outline.specs.Moves.{with_own_lines}
use Rattle.org_outline.proofs.Changes.{own_lines_local}
use Rattle.org_outline.proofs.Rewriting.{count-rewritten, node-rewritten, twice-rewritten, same-rewritten, rest_edited, section_edited}
use Rattle.org_outline.specs.Outline.{IsSection}
use Rattle.org_outline.proofs.Sections.{node-valid}
use Rattle.org_outline.proofs.Trees.{tree-is, IsPlain-lines}
use Rattle.org_outline.proofs.TwoEdits.{one_edit}
use Rattle.org_meta.specs.Edits.{Rewrites}
use Rattle.org_meta.specs.Notes.{with_note}
use Rattle.org_meta.specs.Sections.{SectionParts, split, joined, put, put_in_drawer, property_line}
use Rattle.org_state.specs.Edits.{rest_start, section_start, moved, RewritesRest, EditsRest}

pub prints : (t : List ℕ) → terminated t ≡ t → print (tree t) ≡ t
prints t stays_terminated = (tree-is t).prints ∙ stays_terminated

-- an edit of the first lines of a text leaves those after them as they are
pub gives_in_front : (e : Edit) (front new other : List (List ℕ)) → Rewrites e (print_lines front) new → Rewrites e (print_lines (front ++ other)) (new ++ other)
gives_in_front e front new other g = grind (arith, common_steps, print_lines-append, length-append, edits_in_place)

-- ---- one edit

module _ (i : ℕ) (r : List ℕ) (s : List (List ℕ)) (d : Document) (lt : i < node_count d) where
  still_there : i < node_count (with_own_lines i r s d)
  still_there = omega (arith, lt, count-rewritten i r s d)

  room : (node_at d i).at + ((node_at d i).node.level + (length r + (1 + length (print_lines s)))) ≤ length (print (with_own_lines i r s d))
  room =
      let n : Node = (node_at d i).node in
      let local = own_lines_local i r s d lt in
      let line = heading_line n.level r in
      let below = 10 ∷ print_lines s in
      let long : length (print (with_own_lines i r s d)) ≡ length local.front + (length (line ++ below) + length local.back) =
      ap length local.is ∙ length-append local.front ((line ++ below) ++ local.back) ∙ ap (λ k. length local.front + k) (length-append (line ++ below) local.back) in
      omega (arith, long, local.at, length-append line below, length-append (replicate n.level 42) r, length-replicate {A = ℕ} n.level 42)

  level_is : (node_at (with_own_lines i r s d) i).node.level ≡ (node_at d i).node.level
  level_is = ap (λ (n : Node). n.level) (node-rewritten i r s d lt).1

  rest_is : (node_at (with_own_lines i r s d) i).node.rest ≡ r
  rest_is = ap (λ (n : Node). n.rest) (node-rewritten i r s d lt).1

  section_is : (node_at (with_own_lines i r s d) i).node.section ≡ s
  section_is = ap (λ (n : Node). n.section) (node-rewritten i r s d lt).1

  at_is : (node_at (with_own_lines i r s d) i).at ≡ (node_at d i).at
  at_is = (node-rewritten i r s d lt).0

  pub section_step : (e : Edit) (new : List (List ℕ)) → r ≡ (node_at d i).node.rest → Rewrites e (print_lines s) new
      → AreEdits (moved (section_start d i) e ∷ []) (print (with_own_lines i r s d)) (print (with_own_lines i r new d))
  section_step e new same g =
      let n : Node = (node_at d i).node in
      let d2 : Document = with_own_lines i r s d in
      let start : section_start d2 i ≡ section_start d i =
      ap (λ k. k + length (heading_line (node_at d2 i).node.level (node_at d2 i).node.rest) + 1) at_is
      ∙ ap (λ k. (node_at d i).at + length (heading_line k (node_at d2 i).node.rest) + 1) level_is
      ∙ ap (λ t. (node_at d i).at + length (heading_line n.level t) + 1) (rest_is ∙ same) in
      let bytes = print_lines s in
      let within : e.at + e.removed ≤ length (print_lines (node_at d2 i).node.section) = subst (λ (ls : List (List ℕ)). e.at + e.removed ≤ length (print_lines ls)) (sym section_is) g.within in
      let gives : edited e.at e.removed e.bytes (print_lines (node_at d2 i).node.section) ≡ print_lines new = ap (λ (ls : List (List ℕ)). edited e.at e.removed e.bytes (print_lines ls)) section_is ∙ g.gives in
      let made : edited (section_start d2 i + e.at) e.removed e.bytes (print d2) ≡ print (with_own_lines i (node_at d2 i).node.rest new d2) =
      section_edited i e.at e.removed e.bytes new d2 still_there within gives in
      let is : print (with_own_lines i r new d) ≡ applied (moved (section_start d i) e) (print d2) =
      sym (ap (λ k. edited (k + e.at) e.removed e.bytes (print d2)) (sym start) ∙ made ∙ ap (λ t. print (with_own_lines i t new d2)) rest_is ∙ ap print (twice-rewritten i r r s new d)) in
      let long : length (heading_line n.level n.rest) ≡ n.level + length r = length-append (replicate n.level 42) n.rest ∙ omega (arith, ap length same, length-replicate {A = ℕ} n.level 42) in
      one_edit (moved (section_start d i) e) d2 (with_own_lines i r new d) (omega (arith, room, long, g.within)) is

  pub rest_step : (e : Edit) (new : List ℕ) → r ≡ (node_at d i).node.rest → RewritesRest e r new
      → AreEdits (moved (rest_start d i) e ∷ []) (print (with_own_lines i r s d)) (print (with_own_lines i new s d))
  rest_step e new same g =
      let d2 : Document = with_own_lines i r s d in
      let start : rest_start d2 i ≡ rest_start d i = ap (λ k. k + (node_at d2 i).node.level) at_is ∙ ap (λ k. (node_at d i).at + k) level_is in
      let within : e.at + e.removed ≤ length (node_at d2 i).node.rest = subst (λ (t : List ℕ). e.at + e.removed ≤ length t) (sym rest_is) g.within in
      let gives : edited e.at e.removed e.bytes (node_at d2 i).node.rest ≡ new = ap (edited e.at e.removed e.bytes) rest_is ∙ g.gives in
      let made : edited (rest_start d2 i + e.at) e.removed e.bytes (print d2) ≡ print (with_own_lines i new (node_at d2 i).node.section d2) =
      rest_edited i e.at e.removed e.bytes new d2 still_there within gives in
      let is : print (with_own_lines i new s d) ≡ applied (moved (rest_start d i) e) (print d2) =
      sym (ap (λ k. edited (k + e.at) e.removed e.bytes (print d2)) (sym start) ∙ made ∙ ap (λ ls. print (with_own_lines i new ls d2)) section_is ∙ ap print (twice-rewritten i r new s s d)) in
      one_edit (moved (rest_start d i) e) d2 (with_own_lines i new s d) (omega (arith, room, g.within)) is

-- where a section begins and ends
pub section_bounds : (t : List ℕ) (i : ℕ) (s : Span) → terminated t ≡ t → i < node_count (tree t) → IsSection t (node_at (tree t) i) s → (s.start ≤ s.end) × (s.end ≤ length t)
section_bounds t i s stays_terminated lt is =
    let d : Document = tree t in
    let n : Node = (node_at d i).node in
    let line : List ℕ = heading_line n.level n.rest in
    let whole : print (with_own_lines i n.rest n.section d) ≡ t = ap print (same-rewritten i d) ∙ prints t stays_terminated in
    let long : length line ≡ n.level + length n.rest = length-append (replicate n.level 42) n.rest ∙ omega (arith, length-replicate {A = ℕ} n.level 42) in
    let own : length (print_lines (line ∷ n.section)) ≡ length line + (1 + length (print_lines n.section)) = length-append line (10 ∷ print_lines n.section) ∙ omega arith in
    (omega (arith, is.start, is.end, own), omega (arith, is.end, own, long, room i n.rest n.section d lt, ap length whole))

-- how long a section is
pub section_long : (t : List ℕ) (i : ℕ) (s : Span) → IsSection t (node_at (tree t) i) s → s.end ≡ s.start + length (print_lines (node_at (tree t) i).node.section)
section_long t i s is =
    let n : Node = (node_at (tree t) i).node in
    let line : List ℕ = heading_line n.level n.rest in
    let own : length (print_lines (line ∷ n.section)) ≡ length line + (1 + length (print_lines n.section)) = length-append line (10 ∷ print_lines n.section) ∙ omega arith in
    omega (arith, is.start, is.end, own)

-- where the rest of the heading line stands before its section
pub record RestBefore (t : List ℕ) (i : ℕ) (s : Span) (rest : List ℕ) : Type 0 where
  pub some : 1 ≤ s.start
  pub room : length rest ≤ s.start - 1
  pub start : s.start - 1 - length rest ≡ rest_start (tree t) i

pub rest_before : (t : List ℕ) (i : ℕ) (s : Span) (rest : List ℕ) → IsSection t (node_at (tree t) i) s → rest ≡ (node_at (tree t) i).node.rest → RestBefore t i s rest
rest_before t i s rest is same = grind (arith, common_steps)

pub section_is_lines : (t : List ℕ) (i : ℕ) → i < node_count (tree t) → AllByRecursion IsLine (node_at (tree t) i).node.section
section_is_lines t i lt = IsPlain-lines (node_at (tree t) i).node.section (node-valid t i lt).heading.section

pub section_lines : (t : List ℕ) (i : ℕ) → i < node_count (tree t) → lines_of (print_lines (node_at (tree t) i).node.section) ≡ (node_at (tree t) i).node.section
section_lines t i lt = lines_of-print_lines (node_at (tree t) i).node.section (section_is_lines t i lt)

-- ---- several

-- edits of lines, one after another
abbrev pub EditLines : List Edit → List (List ℕ) → List (List ℕ) → Type 0
EditLines [] old new = old ≡ new
EditLines (e ∷ es) old new = (middle : List (List ℕ)) × Rewrites e (print_lines old) middle × EditLines es middle new

section_steps : (i : ℕ) (r : List ℕ) (es : List Edit) (s new : List (List ℕ)) (d : Document) → i < node_count d → r ≡ (node_at d i).node.rest → EditLines es s new
    → AreEdits (map (moved (section_start d i)) es) (print (with_own_lines i r s d)) (print (with_own_lines i r new d))
section_steps i r [] s new d lt same all = ap (λ ls. print (with_own_lines i r ls d)) all
section_steps i r (e ∷ es) s new d lt same all =
    AreEdits-join (moved (section_start d i) e ∷ []) (map (moved (section_start d i)) es)
    (print (with_own_lines i r s d)) (print (with_own_lines i r all.0 d)) (print (with_own_lines i r new d))
    (section_step i r s d lt e all.0 same all.1)
    (section_steps i r es all.0 new d lt same all.2)

-- edits of a section, and then one of the rest of the heading line
pub own_edits : (t : List ℕ) (i : ℕ) (es : List Edit) (k : Edit) (s : List (List ℕ)) (r : List ℕ) → terminated t ≡ t → i < node_count (tree t)
    → EditLines es (node_at (tree t) i).node.section s → EditsRest k (tree t) i r
    → AreEdits (map (moved (section_start (tree t) i)) es ++ k ∷ []) t (print (with_own_lines i r s (tree t)))
own_edits t i es k s r stays_terminated lt all rest =
    let d : Document = tree t in
    let n : Node = (node_at d i).node in
    let begin : print (with_own_lines i n.rest n.section d) ≡ t = ap print (same-rewritten i d) ∙ prints t stays_terminated in
    let keyword : AreEdits (k ∷ []) (print (with_own_lines i n.rest s d)) (print (with_own_lines i r s d)) =
    subst (λ (e : Edit). AreEdits (e ∷ []) (print (with_own_lines i n.rest s d)) (print (with_own_lines i r s d))) (sym rest.is) (rest_step i n.rest s d lt rest.own r refl rest.gives) in
    subst (λ (u : List ℕ). AreEdits (map (moved (section_start d i)) es ++ k ∷ []) u (print (with_own_lines i r s d))) begin
    (AreEdits-join (map (moved (section_start d i)) es) (k ∷ [])
    (print (with_own_lines i n.rest n.section d)) (print (with_own_lines i n.rest s d)) (print (with_own_lines i r s d))
    (section_steps i n.rest es n.section s d lt refl all) keyword)

-- ---- a changed section, and a changed keyword

pub one_made : (t : List ℕ) (i : ℕ) (k : Edit) (r : List ℕ) (edits : List Edit) → terminated t ≡ t → i < node_count (tree t)
    → EditsRest k (tree t) i r → edits ≡ k ∷ []
    → (edits ≢ []) × AreEdits edits t (print (with_own_lines i r (node_at (tree t) i).node.section (tree t)))
one_made t i k r edits stays_terminated lt rest is =
    let made = own_edits t i [] k (node_at (tree t) i).node.section r stays_terminated lt refl rest in
    (λ none. absurd (let no : k ∷ [] ≡ [] = sym is ∙ none in cc), subst (λ (es : List Edit). AreEdits es t (print (with_own_lines i r (node_at (tree t) i).node.section (tree t)))) (sym is) made)

pub two_made : (t : List ℕ) (i : ℕ) (e e2 k : Edit) (new : List (List ℕ)) (r : List ℕ) (edits : List Edit) → terminated t ≡ t → i < node_count (tree t)
    → e2 ≡ moved (section_start (tree t) i) e → Rewrites e (print_lines (node_at (tree t) i).node.section) new → EditsRest k (tree t) i r → edits ≡ e2 ∷ k ∷ []
    → (edits ≢ []) × AreEdits edits t (print (with_own_lines i r new (tree t)))
two_made t i e e2 k new r edits stays_terminated lt at gives rest is =
    let made = own_edits t i (e ∷ []) k new r stays_terminated lt (new, gives, refl) rest in
    let all : edits ≡ moved (section_start (tree t) i) e ∷ k ∷ [] = is ∙ ap (λ (e : Edit). e ∷ k ∷ []) at in
    (λ none. absurd (let no : e2 ∷ k ∷ [] ≡ [] = sym is ∙ none in cc), subst (λ (es : List Edit). AreEdits es t (print (with_own_lines i r new (tree t)))) (sym all) made)

-- ---- a repeated section

-- a note, a property and a planning line put into a section, each edit made for the section as it
-- was
pub repeat_lines : (ls : List (List ℕ)) (note property planning : Edit) (n name value line : List ℕ)
    → Rewrites note (print_lines ls) (joined (with_note n (split ls)))
    → Rewrites property (print_lines ((split ls).planning ++ (split ls).drawer)) (joined (put name value (record (split ls) { rest = [] })))
    → Rewrites planning (print_lines (split ls).planning) (line ∷ [])
    → EditLines (note ∷ property ∷ planning ∷ []) ls (joined (with_note n (put name value (record (split ls) { planning = line ∷ [] }))))
repeat_lines ls note property planning n name value line g1 g2 g3 =
    let p : SectionParts = split ls in
    let put_in : List (List ℕ) = put_in_drawer name (property_line name value) p.drawer in
    let below : List (List ℕ) = n ∷ p.rest in
    let s1 : List (List ℕ) = p.planning ++ (p.drawer ++ below) in
    let s2 : List (List ℕ) = p.planning ++ (put_in ++ below) in
    let old : (p.planning ++ p.drawer) ++ below ≡ s1 = append_assoc p.planning p.drawer below in
    let new : (p.planning ++ (put_in ++ [])) ++ below ≡ s2 = ap (λ (d : List (List ℕ)). (p.planning ++ d) ++ below) (append-nil put_in) ∙ append_assoc p.planning put_in below in
    let second : Rewrites property (print_lines s1) s2 =
    subst (λ (s : List (List ℕ)). Rewrites property (print_lines s) s2) old
    (subst (λ (s : List (List ℕ)). Rewrites property (print_lines ((p.planning ++ p.drawer) ++ below)) s) new
    (gives_in_front property (p.planning ++ p.drawer) (p.planning ++ (put_in ++ [])) below g2)) in
    (s1, g1, (s2, second, (line ∷ (put_in ++ below), gives_in_front planning p.planning (line ∷ []) (put_in ++ below) g3, refl)))

pub four_made : (t : List ℕ) (i : ℕ) (a b c a2 b2 c2 k : Edit) (new : List (List ℕ)) (r : List ℕ) (edits : List Edit) → terminated t ≡ t → i < node_count (tree t)
    → a2 ≡ moved (section_start (tree t) i) a → b2 ≡ moved (section_start (tree t) i) b → c2 ≡ moved (section_start (tree t) i) c
    → EditLines (a ∷ b ∷ c ∷ []) (node_at (tree t) i).node.section new → EditsRest k (tree t) i r → edits ≡ a2 ∷ b2 ∷ c2 ∷ k ∷ []
    → (edits ≢ []) × AreEdits edits t (print (with_own_lines i r new (tree t)))
four_made t i a b c a2 b2 c2 k new r edits stays_terminated lt at_a at_b at_c lines rest is =
    let start : ℕ = section_start (tree t) i in
    let made = own_edits t i (a ∷ b ∷ c ∷ []) k new r stays_terminated lt lines rest in
    let all : edits ≡ moved start a ∷ moved start b ∷ moved start c ∷ k ∷ [] =
    is ∙ ap (λ (e : Edit). e ∷ b2 ∷ c2 ∷ k ∷ []) at_a ∙ ap (λ (e : Edit). moved start a ∷ e ∷ c2 ∷ k ∷ []) at_b ∙ ap (λ (e : Edit). moved start a ∷ moved start b ∷ e ∷ k ∷ []) at_c in
    (λ none. absurd (let no : a2 ∷ b2 ∷ c2 ∷ k ∷ [] ≡ [] = sym is ∙ none in cc), subst (λ (es : List Edit). AreEdits es t (print (with_own_lines i r new (tree t)))) (sym all) made)
