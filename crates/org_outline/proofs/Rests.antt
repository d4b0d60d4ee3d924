-- What stands after the stars of a heading line.
use Rattle.std.proofs.Common.{◌≡◌, ℕ, suc, ◌+◌, ◌<◌, ◌≤◌, List, ◌∷◌, ◌++◌, length, drop, take, get_or, Option, Some, None, sym, ap, subst, ◌∙◌, append_assoc, arith, eq-eqb, refl}
use Rattle.std.proofs.lemmas.Grind.{common_steps}
use Rattle.std.specs.Prelude.{replicate}
use Rattle.std.proofs.lemmas.Bool.{eqb-true}
use Rattle.std.proofs.lemmas.List.{length-append, length-drop, length-replicate, take_at, drop_at, drop-drop, get_or_at, take_all}
use Rattle.memchr.specs.Find.{IsFirstByte, is_byte}
use Rattle.org_headings.specs.declared.heads.Heading.{Heading}
use Rattle.org_splice.specs.Lines.{terminated, print_lines, IsLine}
use Rattle.org_headings.specs.Text.{heading_line}
use Rattle.org_outline.specs.Tree.{lines, tree, node_at, node_count}
use Rattle.org_outline.specs.Outline.{node_headings}
use Rattle.org_splice.proofs.LineWalk.{line_of, cut_found}
use Rattle.org_outline.proofs.Nodes.{heading_read, heading_is}
use Rattle.org_outline.proofs.Sections.{node-valid, from_node}
use Rattle.org_splice.proofs.LineWalk.{first_newline}

-- the line after its stars
behind : (t : List ℕ) (start level : ℕ) (rest more : List ℕ) → drop start t ≡ heading_line level rest ++ 10 ∷ more → drop (start + level) t ≡ rest ++ 10 ∷ more
behind t start level rest more e =
    sym (drop-drop level start t) ∙ ap (drop level) (e ∙ append_assoc (replicate level 42) rest (10 ∷ more)) ∙ drop_at (replicate level 42) (rest ++ 10 ∷ more) level (length-replicate level 42)

pub record Looked (u : List ℕ) (r : Option ℕ) : Type 0 where
  pub first : IsFirstByte (is_byte 10) u r

pub rest_found : (t u s : List ℕ) (start level e : ℕ) (r : Option ℕ) → u ≡ drop (start + level) t → Looked u r → r ≡ Some e → s ≡ take e u
    → (rest more : List ℕ) → IsLine rest → drop start t ≡ heading_line level rest ++ 10 ∷ more → s ≡ rest
rest_found t u s start level e r ue h is se rest more p split =
    let P : Option ℕ → Type 0 = λ r. IsFirstByte (is_byte 10) u r in
    let Q : List ℕ → Type 0 = λ u. IsFirstByte (is_byte 10) u (Some e) in
    let here : u ≡ rest ++ 10 ∷ more = ue ∙ behind t start level rest more split in
    let g = subst Q here (subst P is h.first) in
    let same : e ≡ length rest = first_newline rest more e p (λ k lt e1. g.0.before k (omega arith) lt (eq-eqb (get_or (rest ++ 10 ∷ more) k 0) 10 e1)) (eqb-true (get_or (rest ++ 10 ∷ more) e 0) 10 g.1) in
    se ∙ ap (take e) here ∙ take_at rest (10 ∷ more) e (sym same)

pub rest_none : (t u : List ℕ) (start level : ℕ) (r : Option ℕ) → u ≡ drop (start + level) t → Looked u r → r ≡ None
    → (rest more : List ℕ) → IsLine rest → drop start t ≡ heading_line level rest ++ 10 ∷ more → ⊥
rest_none t u start level r ue h is rest more p split =
    let P : Option ℕ → Type 0 = λ r. IsFirstByte (is_byte 10) u r in
    let Q : List ℕ → Type 0 = λ u. IsFirstByte (is_byte 10) u None in
    let g = subst Q (ue ∙ behind t start level rest more split) (subst P is h.first) in
    g (length rest) (omega arith) (omega (arith, length-append rest (10 ∷ more))) (eq-eqb (get_or (rest ++ 10 ∷ more) (length rest) 0) 10 (get_or_at rest 10 more 0 (length rest) refl))

-- what was found is the line up to its newline
pub line_found : (u s : List ℕ) (e : ℕ) (r : Option ℕ) → Looked u r → r ≡ Some e → s ≡ take e u → IsLine s × ((more : List ℕ) × (u ≡ s ++ 10 ∷ more))
line_found u s e r h is se = grind (arith, common_steps, cut_found)

-- and where there is none, all
pub line_whole : (u : List ℕ) (r : Option ℕ) → Looked u r → r ≡ None → IsLine u
line_whole u r h is = grind (arith, common_steps, take_all, line_of, eq-eqb)

-- the same as the code says it
record Stands (t : List ℕ) (i : ℕ) (h : Heading) : Type 0 where
  more : List ℕ
  split : drop h.start t ≡ heading_line h.level (node_at (tree t) i).node.rest ++ 10 ∷ more
  room : h.start + h.level ≤ length t

stands : (t : List ℕ) (i j : ℕ) (hs : List Heading) (d : Heading) → terminated t ≡ t → j ≡ i → hs ≡ node_headings t → i < node_count (tree t) → Stands t i (get_or hs j d)
stands t i j hs d c je he lt =
    let h = get_or hs j d in
    let read = heading_read t i j hs d je he lt in
    let level : h.level ≡ (node_at (tree t) i).node.level = ap (λ (g : Heading). g.level) (heading_is t i h lt read) in
    let n = (node_at (tree t) i).node in
    let m = from_node t i h c lt read in
    let below = print_lines (n.section ++ lines n.children) in
    let l = heading_line h.level n.rest in
    let split : drop h.start t ≡ l ++ 10 ∷ (below ++ m.0) =
    m.1 ∙ append_assoc (heading_line n.level n.rest) (10 ∷ below) m.0 ∙ ap (λ k. heading_line k n.rest ++ 10 ∷ (below ++ m.0)) (sym level) in
    let long : length (drop h.start t) ≡ length l + suc (length (below ++ m.0)) = ap length split ∙ length-append l (10 ∷ (below ++ m.0)) in
    let stars : length l ≡ h.level + length n.rest = length-append (replicate h.level 42) n.rest ∙ ap (λ k. k + length n.rest) (length-replicate h.level 42) in
    record { more = below ++ m.0; split = split; room = omega (arith, long, stars, length-drop h.start t) }

pub rest_room : (t u : List ℕ) (i j : ℕ) (hs : List Heading) (d : Heading) → u ≡ t → terminated t ≡ t → j ≡ i → hs ≡ node_headings t → i < node_count (tree t) → (get_or hs j d).start + (get_or hs j d).level ≤ length u
rest_room t u i j hs d ue c je he lt = let s = stands t i j hs d c je he lt in let room = s.room in omega (arith, room, ap length ue)

pub rest_at : (t u s : List ℕ) (i j : ℕ) (hs : List Heading) (d : Heading) → u ≡ t → terminated t ≡ t → j ≡ i → hs ≡ node_headings t → i < node_count (tree t)
    → ((rest more : List ℕ) → IsLine rest → drop (get_or hs j d).start u ≡ heading_line (get_or hs j d).level rest ++ 10 ∷ more → s ≡ rest)
    → s ≡ (node_at (tree t) i).node.rest
rest_at t u s i j hs d ue c je he lt found =
    let st = stands t i j hs d c je he lt in
    found (node_at (tree t) i).node.rest st.more (node-valid t i lt).heading.rest (ap (drop (get_or hs j d).start) ue ∙ st.split)

pub tail_at : (t u s : List ℕ) (i j : ℕ) (hs : List Heading) (d : Heading) → u ≡ t → terminated t ≡ t → j ≡ i → hs ≡ node_headings t → i < node_count (tree t)
    → s ≡ drop ((get_or hs j d).start + (get_or hs j d).level) u
    → (more : List ℕ) × (s ≡ (node_at (tree t) i).node.rest ++ 10 ∷ more)
tail_at t u s i j hs d ue c je he lt se =
    let st = stands t i j hs d c je he lt in
    let h = get_or hs j d in
    (st.more, se ∙ ap (drop (h.start + h.level)) ue ∙ behind t h.start h.level (node_at (tree t) i).node.rest st.more st.split)
