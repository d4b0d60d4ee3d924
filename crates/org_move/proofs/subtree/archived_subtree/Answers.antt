use Rattle.std.proofs.Common.{◌≡◌, ℕ, List, ap, ◌∙◌}
use Rattle.org_splice.specs.Lines.{lines_of}
use Rattle.org_stamp.specs.Calendar.{Moment}
use Rattle.org_outline.specs.Moves.{IsPrinted}
use Rattle.org_outline.specs.States.{Keywords}
use Rattle.org_outline.specs.Tree.{Document, node_at, print_node, tree}
use Rattle.org_move.specs.Archive.{archived, archived_section}
use Rattle.org_move.proofs.Archived.{archived_lines, archived_printed, archived_root, if_ok}
use Rattle.org_move.proofs.subtree.archived_subtree.Goals as goal

-- the section that is made, with the name that it was made with
section_is : (states : Keywords) (now : Moment) (d : Document) (i : ℕ) {made section name file : List ℕ} → made ≡ section → lines_of section ≡ archived_section states name now d i → name ≡ file → lines_of made ≡ archived_section states file now d i
section_is states now d i same is named = ap lines_of same ∙ is ∙ ap (λ name. archived_section states name now d i) named

pub returns-clause-printed : goal.returns-clause-printed
returns-clause-printed c =
    let states = c.args.outline.now.states in
    let t = c.args.outline.now.text in
    let lines = section_is states c.args.now (tree t) c.args.node c.deref.ensures.value c.in_ok-section.ensures.lines (c.as_bytes-file.ensures.value ∙ c.as_str.ensures.value) in
    if_ok c.with_section.result (λ made. made.items ≡ print_node (record (node_at (tree t) c.args.node).node { section = lines_of c.deref.result.now })) (λ made. IsPrinted made.items) c.with_section.ensures.value
    (λ made is. archived_printed states c.args.name.now c.args.now t c.args.node made.items c.as_str.ensures.valid c.requires (archived_lines states c.args.name.now c.args.now (tree t) c.args.node c.deref.result.now made.items is lines))

pub returns-clause-root : goal.returns-clause-root
returns-clause-root c =
    let states = c.args.outline.now.states in
    let t = c.args.outline.now.text in
    let lines = section_is states c.args.now (tree t) c.args.node c.deref.ensures.value c.in_ok-section.ensures.lines (c.as_bytes-file.ensures.value ∙ c.as_str.ensures.value) in
    if_ok c.with_section.result (λ made. made.items ≡ print_node (record (node_at (tree t) c.args.node).node { section = lines_of c.deref.result.now }))
    (λ made. (node_at (tree made.items) 0).node ≡ archived states c.args.name.now c.args.now (tree t) c.args.node) c.with_section.ensures.value
    (λ made is. archived_root states c.args.name.now c.args.now t c.args.node made.items c.as_str.ensures.valid c.requires (archived_lines states c.args.name.now c.args.now (tree t) c.args.node c.deref.result.now made.items is lines))
