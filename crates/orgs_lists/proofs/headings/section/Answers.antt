use Rattle.std.proofs.Common.{◌≡◌, ap, ◌∙◌}
use Rattle.org_outline.specs.Source.{Source}
use Rattle.org_move.proofs.Own.{section_bytes, section_terminated, section_within}
use Rattle.orgs_lists.proofs.Read.{section_of, whole_of}
use Rattle.orgs_lists.proofs.headings.section.Goals as goal

pub slice_bounds-bytes-end : goal.slice_bounds-bytes-end
slice_bounds-bytes-end c =
    let same = c.outline-outline.ensures in
    let text : c.text.result.now ≡ c.args.entries.now.text = c.text.ensures.value ∙ ap (λ (s : Source). s.text) same in
    let is = section_of c.outline-outline.result.now c.args.entries.now c.node.result c.args.index c.section-span.result same c.node.ensures c.section-span.ensures in
    section_within c.args.entries.now.text _ c.args.index _ text (whole_of c.outline-outline.result.now c.args.entries.now same c.text.ensures.terminated) c.requires is

pub invariant_of-result : goal.invariant_of-result
invariant_of-result c =
    let same = c.outline-outline.ensures in
    let text : c.text.result.now ≡ c.args.entries.now.text = c.text.ensures.value ∙ ap (λ (s : Source). s.text) same in
    let is = section_of c.outline-outline.result.now c.args.entries.now c.node.result c.args.index c.section-span.result same c.node.ensures c.section-span.ensures in
    record { whole = section_terminated c.args.entries.now.text _ c.args.index _ text is }

pub returns : goal.returns
returns c =
    let same = c.outline-outline.ensures in
    let text : c.text.result.now ≡ c.args.entries.now.text = c.text.ensures.value ∙ ap (λ (s : Source). s.text) same in
    let is = section_of c.outline-outline.result.now c.args.entries.now c.node.result c.args.index c.section-span.result same c.node.ensures c.section-span.ensures in
    section_bytes c.args.entries.now.text _ c.args.index _ text is
