-- Headings that a walk passes, since none of them is a candidate for a date.
use Rattle.std.proofs.Common.{◌≡◌, ℕ, ◌+◌, ◌-◌, ◌<◌, ◌≤◌, Bool, true, false, not, ◌&&◌, ◌||◌, ◌==◌, List, length, drop, take, get_or, sym, ap, ◌∙◌, arith}
use Rattle.std.proofs.lemmas.Grind.{common_steps}
use Rattle.std.specs.Prelude.{slice_index}
use Rattle.std.specs.Char.{is_ascii_digit}
use Rattle.std.specs.List.{prefix_len}
use Rattle.std.proofs.lemmas.Bool.Decides.{nat_tests}
use Rattle.std.proofs.lemmas.List.{get_or-drop, get_or-map, get_or-take, length-take}
use Rattle.std.proofs.lemmas.List.Sums.{prefix_len_passes, prefix_len-le-length}
use Rattle.org_headings.specs.declared.heads.Heading.{Heading}
use Rattle.org_outline.specs.States.{Keywords}
use Rattle.org_outline.specs.Tree.{nodes_of, node_at, node_count, no_node, tree}
use Rattle.org_headings.specs.Beginnings.{beginnings_of, may_begin_date}
use Rattle.org_outline.specs.Outline.{heading_of, node_headings}
use Rattle.org_headings.specs.Headings.{can_be_dated}
use Rattle.org_outline.specs.Paths.{title_of}
use Rattle.org_outline.proofs.TitlePlaces.{no_date}

-- what fails of two that aren't both so, where one is
other_fails : (one other : Bool) → one ≡ true → not (one && other) ≡ true → other ≡ false
other_fails one other is fails = grind (arith, common_steps)

-- `few` are `count` headings from `first` on, and k of them are passed
pub passed_plain : (states : Keywords) (t : List ℕ) (first count level k i : ℕ) (later few : List Heading) → later ≡ drop first (node_headings t) → few ≡ take count later
    → k ≡ prefix_len (λ (h : Heading). not (can_be_dated level h)) few → first + count ≤ node_count (tree t) → first ≤ i → i < first + k → (node_at (tree t) i).node.level ≡ level
    → is_ascii_digit (slice_index (title_of states (node_at (tree t) i).node.rest) 0) ≡ false
passed_plain states t first count level k i later few later_is few_is k_is within low high same =
    let P : Heading → Bool = λ h. not (can_be_dated level h) in
    let d : Heading = heading_of no_node in
    let p = node_at (tree t) i in
    let j : ℕ = i - first in
    let before : j < prefix_len P few = omega (arith, k_is, low, high) in
    let short : length few ≤ count = omega (arith, ap length few_is, length-take count later) in
    let less : j < count = omega (arith, before, prefix_len-le-length P few, short) in
    let place : first + j ≡ i = omega (arith, low) in
    let inside : i < node_count (tree t) = omega (arith, place, less, within) in
    let here : get_or few j d ≡ heading_of p =
    ap (λ hs. get_or hs j d) few_is ∙ get_or-take count later j d less ∙ ap (λ hs. get_or hs j d) later_is ∙ get_or-drop first (node_headings t) j d
    ∙ ap (λ n. get_or (node_headings t) n d) place ∙ get_or-map heading_of (nodes_of t) i no_node d inside in
    let fails : P (heading_of p) ≡ true = ap P (sym here) ∙ prefix_len_passes P few j d before in
    let at_level : (p.node.level == level) ≡ true = grind (arith, nat_tests) in
    no_date states p.node.rest
    (other_fails (p.node.level == level) (may_begin_date (beginnings_of p.node.rest).first || may_begin_date (beginnings_of p.node.rest).second) at_level fails)
