use Rattle.std.proofs.Common.{◌≡◌, ◌++◌, List, ℕ, refl}
use Rattle.std.specs.Prelude.{Vec, slice_range}
use Rattle.std.specs.Global.{Global}
use Rattle.std.proofs.lemmas.Result.{IfOk-weaker}
use Rattle.org_move.proofs.Subtrees.{other_section, section_ends}
use Rattle.org_move.proofs.subtree.with_section.Goals as goal

pub returns-clause-value : goal.returns-clause-value
returns-clause-value c =
    let text : List ℕ = c.text-text.result.now in
    let subtree = c.subtree-subtree.result in
    let old = c.section-old.result in
    IfOk-weaker c.between.result (λ (made : Vec ℕ Global). made.items ≡ (slice_range text subtree.start old.start ++ c.args.section.bytes.now) ++ slice_range text old.end subtree.end) _
    (λ made is. other_section c.args.outline.now.text text c.args.node subtree old c.args.section.bytes.now _ _ made.items c.text-text.ensures.value c.text-text.ensures.terminated c.requires
    c.subtree-subtree.ensures c.section-old.ensures c.args.section.whole refl refl is)
    c.between.ensures

pub slice_bounds-back-start : goal.slice_bounds-back-start
slice_bounds-back-start c = section_ends c.args.outline.now.text c.args.node _ _ c.subtree-subtree.ensures c.section-old.ensures

pub slice_bounds-back-count : goal.slice_bounds-back-count
slice_bounds-back-count c = section_ends c.args.outline.now.text c.args.node _ _ c.subtree-subtree.ensures c.section-old.ensures
