-- What is put last below a heading, or at the end.
use Rattle.std.proofs.Common.{◌≡◌, ℕ, ◌+◌, ◌-◌, ◌<◌, List, [], ◌∷◌, ◌++◌, length, Option, None, refl, sym, ap, subst, ◌∙◌, arith, inl, inr, length-append}
use Rattle.std.proofs.lemmas.Grind.{common_steps}
use Rattle.std.specs.Prelude.{◌==◌}
use Rattle.std.specs.Option.{option_map}
use Rattle.std.proofs.lemmas.Bool.{cases_Bool}
use Rattle.std.proofs.lemmas.List.{append-nil}
use Rattle.org_outline.specs.declared.moves.Place.TheVariants.{Last}
use Rattle.org_outline.specs.Tree.{Document, IsValid, Node, node_at, node_count, print, print_node, tree}
use Rattle.org_outline.specs.Moves.{InsertsAt, shift_node, take}
use Rattle.org_outline.proofs.Changes.{take_local, take_valid}
use Rattle.org_outline.specs.Numbers.{heading_over, parent_without, size_of}
use Rattle.org_outline.specs.Outline.{IsSubtree}
use Rattle.org_splice.specs.declared.Span.{Span}
use Rattle.org_splice.specs.Lines.{terminated}
use Rattle.org_outline.proofs.Trees.{tree-is}
use Rattle.org_outline.proofs.Making.{made_end}
use Rattle.org_move.proofs.Made.{prints}
use Rattle.org_outline.proofs.Placing.{insert_local}
use Rattle.org_move.specs.Archive.{filled, put_last}
use Rattle.org_move.specs.Location.{Destination}

-- with no heading there, it goes to the end
pub at_the_end : (to : Destination) (node : Node) (d : Document) → IsValid d → InsertsAt (print d) (put_last to None node d) (length (print d)) (filled to None node)
at_the_end to node d valid =
    elim (cases_Bool (to.level == 0)) [
      | inl e ↦ rw e (insert_local None Last node d (λ i none. absurd cc) valid)
      | inr e ↦ rw e (record {
        front = print d;
        back = [];
        at = refl;
        was = sym (append-nil (print d));
        is =
            made_end Last to.level (32 ∷ to.title) node d
            ∙ ap (λ (added : List ℕ). print d ++ added) (sym (append-nil (print_node (heading_over to.level (32 ∷ to.title) (shift_node (to.level + 1) node)))));
      })
    ]

-- the level of the heading, if it is there
abbrev pub level_at : Option ℕ → Document → Option ℕ
level_at up d = option_map (λ i. (node_at d i).node.level) up

-- once a subtree is taken out, as the code counts
pub at_the_new_end : (to : Destination) (node : Node) (t u : List ℕ) (i : ℕ) (up : Option ℕ) (s : Span) → up ≡ None → u ≡ t → terminated t ≡ t → i < node_count (tree t) → IsSubtree t (node_at (tree t) i) s
    → InsertsAt (print (take i (tree t))) (put_last to (parent_without i (size_of (tree t) i) up) node (take i (tree t))) (s.start + (length u - s.end)) (filled to (level_at up (tree t)) node)
at_the_new_end to node t u i up s none same stays_terminated lt sub =
    let d : Document = tree t in
    let gone = take_local i d lt in
    let whole : length u ≡ length gone.front + (length (print_node (node_at d i).node) + length gone.back) =
    ap length (same ∙ sym (prints t stays_terminated)) ∙ ap length gone.is ∙ length-append gone.front (print_node (node_at d i).node ++ gone.back)
    ∙ ap (λ n. length gone.front + n) (length-append (print_node (node_at d i).node) gone.back) in
    let rest : length (print (take i d)) ≡ length gone.front + length gone.back = ap length gone.was ∙ length-append gone.front gone.back in
    let here : s.start + (length u - s.end) ≡ length (print (take i d)) = omega (arith, sub.start, sub.end, gone.at, whole, rest) in
    let P : Option ℕ → Type 0 = λ up. InsertsAt (print (take i d)) (put_last to (parent_without i (size_of d i) up) node (take i d)) (s.start + (length u - s.end)) (filled to (level_at up d) node) in
    let at : InsertsAt (print (take i d)) (put_last to None node (take i d)) (length (print (take i d))) (filled to None node) = at_the_end to node (take i d) (take_valid i d (tree-is t).valid) in
    subst P (sym none) (subst (λ k. InsertsAt (print (take i d)) (put_last to None node (take i d)) k (filled to None node)) (sym here) at)

pub end_of_text : (to : Destination) (node : Node) (t u : List ℕ) (up : Option ℕ) → up ≡ None → u ≡ t → terminated t ≡ t
    → InsertsAt t (put_last to up node (tree t)) (length u) (filled to (level_at up (tree t)) node)
end_of_text to node t u up none same stays_terminated = grind (arith, common_steps, prints, at_the_end, tree-is)
