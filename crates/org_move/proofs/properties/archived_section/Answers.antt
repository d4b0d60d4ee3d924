use Rattle.std.proofs.Common.{◌≡◌, List, ℕ, ap, refl, ◌∙◌}
use Rattle.std.specs.Prelude.{Vec, slice_range}
use Rattle.std.specs.Global.{Global}
use Rattle.std.proofs.lemmas.Result.{IfOk-weaker}
use Rattle.org_outline.specs.Tree.{tree}
use Rattle.org_meta.specs.Sections.{parts_of}
use Rattle.org_move.specs.Archive.{category_of, put_each, without_org}
use Rattle.org_move.specs.Given.{given}
use Rattle.org_move.proofs.Own.{section_terminated, section_within}
use Rattle.org_move.proofs.Given.{all_good, category_is, section_made}
use Rattle.org_move.proofs.properties.archived_section.Goals as goal

pub slice_bounds-section-end : goal.slice_bounds-section-end
slice_bounds-section-end c =
    section_within c.args.outline.now.text _ c.args.node _ c.text.ensures.value c.text.ensures.terminated c.requires.node c.section-span.ensures

pub invariant_of-section : goal.invariant_of-section
invariant_of-section c = record { whole = section_terminated c.args.outline.now.text c.text.result.now c.args.node _ c.text.ensures.value c.section-span.ensures }

pub with_properties-requires : goal.with_properties-requires
with_properties-requires c =
    let d = tree c.args.outline.now.text in
    let category : c.unwrap_or-category.result.now ≡ category_of c.args.file.now d c.args.node =
    category_is c.args.file.now d c.args.node _ _ _ c.nearest.ensures (c.without_org.ensures ∙ ap without_org c.last_part.ensures) c.unwrap_or-category.ensures in
    all_good c.args.outline.now.states c.args.file.now c.args.now c.args.outline.now.text c.args.node _ c.requires.file
    (c.properties-properties.ensures c.args.outline.now.states d c.args.node c.args.now (c.deref.ensures.value ∙ c.in_ok-time.ensures) category c.parts.ensures.keyword c.in_ok-above.ensures.path c.in_ok-above.ensures.tags)

pub returns-clause-lines : goal.returns-clause-lines
returns-clause-lines c =
    let d = tree c.args.outline.now.text in
    let span = c.section-span.result in
    let category : c.unwrap_or-category.result.now ≡ category_of c.args.file.now d c.args.node =
    category_is c.args.file.now d c.args.node _ _ _ c.nearest.ensures (c.without_org.ensures ∙ ap without_org c.last_part.ensures) c.unwrap_or-category.ensures in
    let listed = c.properties-properties.ensures c.args.outline.now.states d c.args.node c.args.now (c.deref.ensures.value ∙ c.in_ok-time.ensures) category c.parts.ensures.keyword c.in_ok-above.ensures.path c.in_ok-above.ensures.tags in
    let section : List ℕ = slice_range c.text.result.now span.start span.end in
    IfOk-weaker c.with_properties.result (λ (new : Vec ℕ Global). parts_of new.items ≡ put_each (given c.properties-properties.result) (parts_of section)) _
    (λ new is. section_made c.args.outline.now.states c.args.file.now c.args.now c.args.outline.now.text c.text.result.now c.args.node span section new.items _ c.text.ensures.value c.requires.node c.section-span.ensures refl listed is)
    c.with_properties.ensures.parts
