-- Texts that are one heading with what lies below it.
use Rattle.std.proofs.Common.{◌≡◌, ℕ, suc, ◌<◌, ◌≤◌, ◌-◌, Bool, true, false, ltb, List, [], ◌∷◌, ◌++◌, length, drop, get_or, take, slice_index_or, Option, Some, None, Ok, Err, refl, sym, ◌∙◌, ap, subst, arith, drop-cons, eq-eqb, eqb, inl, inr}
use Rattle.std.proofs.lemmas.Grind.{common_steps}
use Rattle.std.specs.Option.{is_some, option_map_or}
use Rattle.std.proofs.lemmas.Bool.{cases_Bool}
use Rattle.std.proofs.lemmas.Bool.Decides.{nat_tests}
use Rattle.std.proofs.lemmas.List.{append-nil, drop-drop, drop_all, take-append-drop}
use Rattle.memchr.specs.Find.{IsFirstByte, is_byte}
use Rattle.std.specs.List.{list_any}
use Rattle.org_splice.specs.Lines.{IsLine, terminated, print_lines, lines_of}
use Rattle.org_splice.proofs.Lines.{terminated_twice, terminated-drop, lines_of-append, lines_of-terminated}
use Rattle.org_headings.specs.Text.{heading_line, level_of}
use Rattle.org_outline.specs.Tree.{Forest, Empty, Tree, Node, Document, tree, tree_of_lines, with_line, others, print_node, nodes_from, node_at, no_node, lines}
use Rattle.org_outline.specs.Moves.{IsPrinted}
use Rattle.org_splice.proofs.LineWalk.{cut_found, last-terminated, no_line}
use Rattle.org_outline.proofs.Trees.{tree-is}
use Rattle.org_fault.specs.declared.refusal.Refusal.TheVariants.{BadEntry}
use Rattle.org_capture.specs.Entry.{only_root, entry_in, terminated_if_one, entry_text, IsEntry}

root_prints : (pre : List (List ℕ)) (f : Forest) (k : ℕ) (node : Node) → only_root pre f ≡ Some node
    → (0 < length (nodes_from k f)) × (print_node (slice_index_or (nodes_from k f) 0 no_node).node ≡ print_lines (pre ++ lines f)) × (node ≡ (slice_index_or (nodes_from k f) 0 no_node).node)
root_prints [] Empty k node is = absurd (cc)
root_prints [] (Tree n r s kids Empty) k node is = (omega arith, ap (λ ls. print_lines (heading_line n r ∷ s ++ ls)) (sym (append-nil (lines kids))), cc)
root_prints [] (Tree n r s kids (Tree m q u more later)) k node is = absurd (cc)
root_prints (l ∷ ls) f k node is = absurd (cc)

pub entry_printed : (t : List ℕ) (node : Node) → IsEntry t node → IsPrinted t
entry_printed t node entry = grind (arith, common_steps, root_prints, tree-is)

-- the node that an entry is, is its first
pub entry_node : (t : List ℕ) (node : Node) → IsEntry t node → node ≡ (node_at (tree t) 0).node
entry_node t node entry = (root_prints (tree t).preamble (tree t).forest (length (print_lines (tree t).preamble)) node entry.one).2

-- ---- line by line

-- the first line of a text, and the text after its newline
pub first_line : (t line rest behind : List ℕ) (r : Option ℕ) (e : ℕ) → IsFirstByte (is_byte 10) t r → r ≡ Some e → line ≡ take e t → rest ≡ drop e t → behind ≡ drop 1 rest
    → lines_of t ≡ line ∷ lines_of behind
first_line t line rest behind r e found is is_line is_rest is_behind = grind (arith, common_steps, cut_found, drop-drop, lines_of-append)

-- a terminated text without a newline is empty
pub no_first_line : (t : List ℕ) (r : Option ℕ) → terminated t ≡ t → IsFirstByte (is_byte 10) t r → r ≡ None → t ≡ []
no_first_line t r stays_terminated found is =
    let Found : Option ℕ → Type 0 = λ r. IsFirstByte (is_byte 10) t r in
    let none = subst Found is found in
    no_line t (λ k lt same. none k (omega arith) lt (eq-eqb (get_or t k 0) 10 same)) stays_terminated

pub behind_terminated : (t rest behind : List ℕ) (e : ℕ) → terminated t ≡ t → rest ≡ drop e t → behind ≡ drop 1 rest → terminated behind ≡ behind
behind_terminated t rest behind e stays_terminated is_rest is_behind =
    let Shut : List ℕ → Type 0 = λ t. terminated t ≡ t in
    subst Shut (sym is_behind) (terminated-drop 1 rest (subst Shut (sym is_rest) (terminated-drop e t stays_terminated)))

-- trees that lie deeper than m lie deeper than n as well, so that leaving them out first changes
-- nothing
others_twice : (n m : ℕ) (f : Forest) → n < m → others n (others m f) ≡ others n f
others_twice n m Empty lt = refl
others_twice n m (Tree k r s kids later) lt = grind (arith, common_steps, others_twice n m later lt)

-- a line that is no heading line, or one of a deeper level, leaves no more of them
deeper_line : (n : ℕ) (o : Option ℕ) (l : List ℕ) (d : Document) → option_map_or (ltb n) o true ≡ true → others n (with_line o l d).forest ≡ others n d.forest
deeper_line n None l d deep = refl
deeper_line n (Some m) l d deep = let lt : n < m = grind (arith, nat_tests) in rw deep (others_twice n m d.forest lt)

-- a pass over the lines of a text that has come to `rest`, and has found deeper levels than n alone
pub record Deeper (n : ℕ) (t rest : List ℕ) : Type 0 where
  pub stays_terminated : terminated rest ≡ rest
  pub same : others n (tree rest).forest ≡ others n (tree t).forest

pub deeper_on : (n : ℕ) (t rest l behind : List ℕ) → Deeper n t rest → lines_of rest ≡ l ∷ lines_of behind → terminated behind ≡ behind → option_map_or (ltb n) (level_of l) true ≡ true → Deeper n t behind
deeper_on n t rest l behind so_far is stays_terminated deep = record {
  stays_terminated = stays_terminated;
  same = sym (ap (λ ls. others n (tree_of_lines ls).forest) is ∙ deeper_line n (level_of l) l (tree behind) deep) ∙ so_far.same;
}

-- a text whose first line is no heading line
pub no_root : (t l behind : List ℕ) → lines_of t ≡ l ∷ lines_of behind → level_of l ≡ None → is_some (entry_in t) ≡ false
no_root t l behind is none = grind (arith, common_steps)

-- one whose first line is a heading line is an entry where no other tree is left
pub one_if_none_left : (t l behind : List ℕ) (n : ℕ) (b : Bool) → lines_of t ≡ l ∷ lines_of behind → level_of l ≡ Some n
    → (b ≡ true → others n (tree behind).forest ≡ Empty) → (others n (tree behind).forest ≡ Empty → b ≡ true) → is_some (entry_in t) ≡ b
one_if_none_left t l behind n b is some to from = grind (arith, common_steps)

-- a line without a newline in it
line_if_none : (l : List ℕ) → list_any (λ b. eqb b 10) l ≡ false → IsLine l
line_if_none [] none = tt
line_if_none (b ∷ l) none =
    elim (cases_Bool (eqb b 10)) [
      | inl e ↦ absurd (let found = rw e at none in cc)
      | inr e ↦ (λ same. absurd (let ten : eqb b 10 ≡ true = eq-eqb b 10 same in cc), line_if_none l (rw e at none))
    ]

one_line_of : (o : Option ℕ) (t l : List ℕ) → lines_of t ≡ l ∷ lines_of [] → level_of l ≡ o → is_some o ≡ is_some (entry_in t)
one_line_of None t l is level = sym (no_root t l [] is level)
one_line_of (Some n) t l is level = sym (one_if_none_left t l [] n true is level (λ same. refl) (λ same. refl))

-- a terminated text is what stands before its last byte, and a newline
newline_last : (t : List ℕ) → terminated t ≡ t → 1 ≤ length t → t ≡ take (length t - 1) t ++ 10 ∷ []
newline_last t stays_terminated some =
    let k = length t - 1 in
    let within : k < length t = omega arith in
    let last : drop k t ≡ get_or t k 0 ∷ drop (suc k) t = drop-cons t k 0 within in
    let none : drop (suc k) t ≡ [] = drop_all (suc k) t (omega arith) in
    sym (take-append-drop k t) ∙ ap (λ (u : List ℕ). take k t ++ u) (last ∙ ap (λ (u : List ℕ). get_or t k 0 ∷ u) none ∙ ap (λ b. b ∷ []) (last-terminated t stays_terminated (omega arith)))

-- a text of one line is an entry where that is a heading line
pub one_line : (t l : List ℕ) → terminated t ≡ t → 1 ≤ length t → l ≡ take (length t - 1) t → list_any (λ b. eqb b 10) l ≡ false → is_some (level_of l) ≡ is_some (entry_in t)
one_line t l stays_terminated some is none =
    let parts : t ≡ l ++ 10 ∷ [] = newline_last t stays_terminated some ∙ ap (λ (u : List ℕ). u ++ 10 ∷ []) (sym is) in
    one_line_of (level_of l) t l (ap lines_of parts ∙ lines_of-append l [] (line_if_none l none)) refl

-- ---- the terminated text

terminated_same : (text : List ℕ) → entry_in (terminated text) ≡ entry_in text
terminated_same text = ap (λ ls. only_root (tree_of_lines ls).preamble (tree_of_lines ls).forest) (lines_of-terminated text)

not_one : (o : Option Node) (t : List ℕ) → is_some o ≡ false → terminated_if_one o t ≡ Err BadEntry
not_one None t none = refl
not_one (Some node) t none = absurd (cc)

some_node : (o : Option Node) → is_some o ≡ true → (node : Node) × (o ≡ Some node)
some_node None some = absurd (cc)
some_node (Some node) some = (node, refl)

pub entry_bad : (text stays_terminated : List ℕ) → stays_terminated ≡ terminated text → is_some (entry_in stays_terminated) ≡ false → entry_text text ≡ Err BadEntry
entry_bad text stays_terminated is none = not_one (entry_in text) text (ap is_some (sym (ap entry_in is ∙ terminated_same text)) ∙ none)

pub entry_good : (text stays_terminated : List ℕ) → stays_terminated ≡ terminated text → is_some (entry_in stays_terminated) ≡ true → (entry_text text ≡ Ok stays_terminated) × ((node : Node) × IsEntry stays_terminated node)
entry_good text stays_terminated is some = grind (arith, common_steps, some_node, terminated_same, terminated_twice)

-- a text that isn't terminated lacks a newline
pub terminated_ends : (t : List ℕ) → (terminated t ≡ t → ⊥) → terminated t ≡ t ++ 10 ∷ []
terminated_ends [] unshut = absurd (unshut refl)
terminated_ends (b ∷ []) unshut = grind (arith, common_steps)
terminated_ends (b ∷ c ∷ t) unshut = ap (λ (l : List ℕ). b ∷ l) (terminated_ends (c ∷ t) (λ stays_terminated. unshut (ap (λ (l : List ℕ). b ∷ l) stays_terminated)))
