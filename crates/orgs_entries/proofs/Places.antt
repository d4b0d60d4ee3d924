-- The places of headings in their text, and their lines.
use Rattle.std.proofs.Common.{◌≡◌, ℕ, ◌+◌, ◌-◌, ◌<◌, ◌≤◌, List, ◌++◌, length, take, drop, sym, ap, ◌∙◌, arith, count_by, cond, slice_range, length-append, sum_by}
use Rattle.std.proofs.lemmas.Grind.{common_steps}
use Rattle.std.proofs.lemmas.List.{drop-take, length-take-le, take-take}
use Rattle.std.proofs.lemmas.List.Sums.{sum_by-take-drop, count_by-le-length}
use Rattle.org_splice.specs.Lines.{terminated}
use Rattle.org_outline.specs.Tree.{node_at, node_count, print, print_node, tree}
use Rattle.org_outline.proofs.ByNumber.{positions_rise}
use Rattle.org_outline.proofs.Changes.{take_local}
use Rattle.org_outline.proofs.Trees.{tree-is}
use Rattle.orgs_entries.specs.Lines.{is_newline, line_at}

-- a heading stands in its text
pub at_within : (t : List ℕ) (i : ℕ) → terminated t ≡ t → i < node_count (tree t) → (node_at (tree t) i).at ≤ length t
at_within t i whole lt =
    let d = tree t in
    let r = take_local i d lt in
    let prints : print d ≡ t = (tree-is t).prints ∙ whole in
    omega (arith, r.at, ap length r.is, ap length prints, length-append r.front (print_node (node_at d i).node ++ r.back))

-- a later one doesn't stand before it
pub at_rises : (t : List ℕ) (i j : ℕ) → i ≤ j → j < node_count (tree t) → (node_at (tree t) i).at ≤ (node_at (tree t) j).at
at_rises t i j le lt =
    let d = tree t in
    grind (arith, positions_rise)

-- the line of a later place
pub line_later : (t : List ℕ) (a b : ℕ) → a ≤ b → b ≤ length t → line_at t b ≡ line_at t a + count_by is_newline (slice_range t a b)
line_later t a b le within =
    let f : ℕ → ℕ = λ x. cond (is_newline x) 1 0 in
    let n : a + (b - a) ≡ b = omega arith in
    let front : take a (take b t) ≡ take a t = take-take a b t le in
    let back : drop a (take b t) ≡ slice_range t a b = ap (λ k. drop a (take k t)) (sym n) ∙ drop-take a (b - a) t in
    omega (arith, sum_by-take-drop f (take b t) a, ap (sum_by f) front, ap (sum_by f) back)

-- no line has a greater number than its place has
pub line_within : (t : List ℕ) (a : ℕ) → a ≤ length t → line_at t a ≤ 1 + a
line_within t a within = omega (arith, count_by-le-length is_newline (take a t), length-take-le a t within)
