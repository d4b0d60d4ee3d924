use Rattle.std.proofs.Common.{◌≡◌, ◌∙◌, ◌≤◌, ◌<◌, ℕ, Bool, Option, Some, List, false, sym, ap, arith}
use Rattle.std.specs.Prelude.{slice_index}
use Rattle.std.specs.Char.{is_ascii_digit}
use Rattle.std.specs.declared.cmp.Ordering.{Ordering}
use Rattle.org_outline.specs.States.{Keywords}
use Rattle.org_outline.specs.Tree.{Document, tree, node_at}
use Rattle.org_outline.specs.Moves.{level_below}
use Rattle.org_outline.specs.Paths.{title_of}
use Rattle.org_outline.proofs.Trees.{tree-is}
use Rattle.org_capture.specs.Dates.{is_dated}
use Rattle.org_capture.specs.declared.dates.DateKind.{DateKind}
use Rattle.org_capture.proofs.DateTrees.{dated_level}
use Rattle.org_capture.proofs.NoDigit.{not_dated}
use Rattle.org_capture.proofs.Walk.{walk_start, walk_hit, walk_over, walk_on}
use Rattle.org_capture.proofs.dates.first_dated.Goals as goal

-- nodes of a level that don't begin with a digit fail
plain_fail : (states : Keywords) (d : Document) (level n from next : ℕ) (kind : DateKind) (key : List ℕ) (wanted : Ordering) → n ≡ level
    → ((i : ℕ) → from ≤ i → i < next → (node_at d i).node.level ≡ n → is_ascii_digit (slice_index (title_of states (node_at d i).node.rest) 0) ≡ false)
    → (i : ℕ) → from ≤ i → i < next → is_dated states level kind key wanted (node_at d i).node ≡ false
plain_fail states d level n from next kind key wanted same plain i low high =
    not_dated states level kind key wanted (node_at d i).node (λ at. plain i low high (at ∙ sym same))

pub loop-index-init : goal.loop-index-init
loop-index-init c =
    let states : Keywords = c.args.outline.now.states in
    let d : Document = tree c.args.outline.now.text in
    let up : Option ℕ = c.args.parent.now in
    let test : ℕ → Bool = λ i. is_dated states (level_below up d) c.args.kind c.args.key.now c.args.wanted (node_at d i).node in
    walk_over d up test c.span_below-first.result.1 c.span_below-first.result.0 c.next_with_digit-index.result
    (walk_start d up test c.span_below-first.result (tree-is c.args.outline.now.text).valid (dated_level states d (level_below up d) c.args.kind c.args.key.now c.args.wanted) c.requires c.span_below-first.ensures.span)
    c.next_with_digit-index.ensures.from c.next_with_digit-index.ensures.within
    (plain_fail states d (level_below up d) _ _ _ c.args.kind c.args.key.now c.args.wanted c.level_below-level.ensures.value c.next_with_digit-index.ensures.passed)

pub returns-then-is_dated-clause-value : goal.returns-then-is_dated-clause-value
returns-then-is_dated-clause-value c =
    let states : Keywords = c.args.outline.now.states in
    let d : Document = tree c.args.outline.now.text in
    let up : Option ℕ = c.args.parent.now in
    let test : ℕ → Bool = λ i. is_dated states (level_below up d) c.args.kind c.args.key.now c.args.wanted (node_at d i).node in
    let tested : c.is_dated.result ≡ test c.loop-index.index = c.is_dated.ensures
    ∙ ap (λ l. is_dated states l c.args.kind c.args.key.now c.args.wanted (node_at d c.node-node.result).node) c.level_below-level.ensures.value ∙ ap test c.node-node.ensures in
    ap Some c.node-node.ensures ∙ walk_hit d up test c.span_below-first.result.1 c.loop-index.index c.loop-index.invariant c.loop-index-test.true (sym tested ∙ c.if-is_dated.true)

pub loop-index-preserved : goal.loop-index-preserved
loop-index-preserved c =
    let states : Keywords = c.args.outline.now.states in
    let d : Document = tree c.args.outline.now.text in
    let up : Option ℕ = c.args.parent.now in
    let test : ℕ → Bool = λ i. is_dated states (level_below up d) c.args.kind c.args.key.now c.args.wanted (node_at d i).node in
    let tested : c.is_dated.result ≡ test c.loop-index.index = c.is_dated.ensures
    ∙ ap (λ l. is_dated states l c.args.kind c.args.key.now c.args.wanted (node_at d c.node-node.result).node) c.level_below-level.ensures.value ∙ ap test c.node-node.ensures in
    walk_on d up test c.span_below-first.result.1 c.loop-index.index c.next_with_digit-index-in-loop-index.result c.loop-index.invariant (omega (arith, c.next_with_digit-index-in-loop-index.ensures.from))
    c.next_with_digit-index-in-loop-index.ensures.within (sym tested ∙ c.if-is_dated.false)
    (plain_fail states d (level_below up d) _ _ _ c.args.kind c.args.key.now c.args.wanted c.level_below-level.ensures.value c.next_with_digit-index-in-loop-index.ensures.passed)
