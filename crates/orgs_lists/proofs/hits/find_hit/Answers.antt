use Rattle.std.proofs.Common.{◌≡◌, ℕ, List, Bool, true, false, is_some, sym, ap, ◌∙◌}
use Rattle.std.specs.List.{list_any}
use Rattle.org_splice.specs.Lines.{lines_of}
use Rattle.org_splice.proofs.Lines.{lines_of-print_lines}
use Rattle.org_outline.specs.Tree.{node_at, tree}
use Rattle.org_move.specs.Inherited.{tag_list}
use Rattle.org_move.proofs.Own.{section_lines}
use Rattle.orgs_lists.specs.Filters.{parts_at}
use Rattle.orgs_lists.specs.Hits.{has_in_line, has_text}
use Rattle.orgs_lists.proofs.Words.{last_of_three}
use Rattle.orgs_lists.proofs.hits.find_hit.Goals as goal

pub returns-in-Some : goal.returns-in-Some
returns-in-Some c =
    let part = c.args.part.now in
    let text = c.args.entries.now.text in
    let parts = parts_at c.args.entries.now.states (tree text) c.args.index in
    let section = (node_at (tree text) c.args.index).node.section in
    let title : has_text part parts.title ≡ false = ap (has_text part) (sym c.parts-parts.ensures.title) ∙ sym c.in_ok-has_text.ensures ∙ c.if-branch.false in
    let tags : list_any (has_text part) (tag_list parts.tags) ≡ false =
    ap (λ (t : List ℕ). list_any (has_text part) (tag_list t)) (sym c.parts-parts.ensures.tags) ∙ sym c.in_ok-has_in_tags.ensures ∙ c.if-branch-2.false in
    let lines : lines_of c.section.result.bytes.now ≡ section = ap lines_of c.section.ensures ∙ lines_of-print_lines section (section_lines text c.args.index c.requires) in
    let has : list_any (has_in_line part) section ≡ true = ap (list_any (has_in_line part)) (sym lines) ∙ sym c.in_ok-line.ensures ∙ ap is_some c.in-Some.is in
    sym (last_of_three (has_text part parts.title) (list_any (has_text part) (tag_list parts.tags)) (list_any (has_in_line part) section) title tags ∙ has)

pub returns-in-None : goal.returns-in-None
returns-in-None c =
    let part = c.args.part.now in
    let text = c.args.entries.now.text in
    let parts = parts_at c.args.entries.now.states (tree text) c.args.index in
    let section = (node_at (tree text) c.args.index).node.section in
    let title : has_text part parts.title ≡ false = ap (has_text part) (sym c.parts-parts.ensures.title) ∙ sym c.in_ok-has_text.ensures ∙ c.if-branch.false in
    let tags : list_any (has_text part) (tag_list parts.tags) ≡ false =
    ap (λ (t : List ℕ). list_any (has_text part) (tag_list t)) (sym c.parts-parts.ensures.tags) ∙ sym c.in_ok-has_in_tags.ensures ∙ c.if-branch-2.false in
    let lines : lines_of c.section.result.bytes.now ≡ section = ap lines_of c.section.ensures ∙ lines_of-print_lines section (section_lines text c.args.index c.requires) in
    let has : list_any (has_in_line part) section ≡ false = ap (list_any (has_in_line part)) (sym lines) ∙ sym c.in_ok-line.ensures ∙ ap is_some c.in-None.is in
    sym (last_of_three (has_text part parts.title) (list_any (has_text part) (tag_list parts.tags)) (list_any (has_in_line part) section) title tags ∙ has)
