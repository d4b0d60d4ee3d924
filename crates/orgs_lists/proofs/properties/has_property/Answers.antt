use Rattle.std.proofs.Common.{◌≡◌, ℕ, List, ap, ◌∙◌}
use Rattle.org_splice.proofs.Lines.{lines_of-print_lines}
use Rattle.org_meta.specs.Sections.{parts_of, property, split}
use Rattle.org_move.proofs.Own.{section_lines}
use Rattle.orgs_lists.specs.Filters.{is_value}
use Rattle.orgs_lists.proofs.properties.has_property.Goals as goal

pub returns : goal.returns
returns c =
    let asked = c.args.asked.now in
    let bytes = c.section.result.bytes.now in
    c.is_value.ensures
    ∙ ap (is_value asked.value)
    (c.property.ensures
    ∙ ap (λ (name : List ℕ). property name (parts_of bytes)) c.as_slice.ensures
    ∙ ap (λ (text : List ℕ). property asked.name (parts_of text)) c.section.ensures
    ∙ ap (λ (lines : List (List ℕ)). property asked.name (split lines)) (lines_of-print_lines _ (section_lines c.args.entries.now.text c.args.index c.requires)))
