use Rattle.std.proofs.Common.{◌≡◌, ℕ, List, [], ◌∷◌, codes, refl, ap, ◌∙◌}
use Rattle.std.proofs.lemmas.Result.{IfOk-weaker}
use Rattle.org_splice.specs.Lines.{print_lines}
use Rattle.org_meta.specs.Moments.{moment_text}
use Rattle.org_meta.specs.Sections.{split, joined, parts_of, put}
use Rattle.org_outline.specs.Tree.{tree}
use Rattle.org_state.specs.Edits.{moved, section_start}
use Rattle.org_state.specs.Todo.{Own, own_at, first_active, repeating, TurnsDone}
use Rattle.org_state.proofs.Steps.{section_is_lines}
use Rattle.org_state.proofs.Turning.{handed, property_within, planning_within, repeat_made}
use Rattle.org_state.proofs.changing.Change.repeat.Goals as goal

pub last_first-requires-clause-property : goal.last_first-requires-clause-property
last_first-requires-clause-property c =
    let section : List ℕ = c.section-section.result.bytes.now in
    let above : List ℕ = print_lines (joined (record (parts_of section) { rest = [] })) in
    let front = ap (λ (ls : List (List ℕ)). print_lines (joined (record (split ls) { rest = [] }))) c.section-section.ensures.lines in
    property_within _ above _ (put (codes "LAST_REPEAT") (moment_text c.args.self.now.moment) (parts_of above)) c.in_ok-note.property front refl c.in_ok-note.ensures.1

pub last_first-requires-clause-planning : goal.last_first-requires-clause-planning
last_first-requires-clause-planning c = planning_within c.args.self.now.moment _ c.args.planning (section_is_lines c.args.self.now.own.outline.now.text c.args.self.now.own.node c.args.self.now.own.within) c.requires

pub returns : goal.returns
returns c =
    let own : Own = own_at (tree c.args.self.now.own.outline.now.text) c.args.self.now.own.node in
    let section : List ℕ = c.section-section.result.bytes.now in
    let above : List ℕ = print_lines (joined (record (parts_of section) { rest = [] })) in
    let front = ap (λ (ls : List (List ℕ)). print_lines (joined (record (split ls) { rest = [] }))) c.section-section.ensures.lines in
    let active = c.as_bytes-active.ensures.value ∙ c.first_active.ensures.value ∙ ap first_active c.states.ensures.value in
    let start : ℕ = section_start (tree c.args.self.now.own.outline.now.text) c.args.self.now.own.node in
    handed (TurnsDone c.args.self.now.own.outline.now.states c.args.self.now.state.now c.args.self.now.moment own (repeating (split own.section).planning)) c.args.self.now.own.outline.now.text c.args.self.now.own.node c.last_first.result
    (IfOk-weaker c.last_first.result
    (λ edits. edits.items ≡ moved start c.in_ok-note.note ∷ moved start c.in_ok-note.property ∷ moved start c.args.planning ∷ c.in_ok-keyword.keyword ∷ []) _
    (λ edits is.
    repeat_made c.args.self.now.own.outline.now.states c.args.self.now.state.now c.args.self.now.moment c.args.self.now.own.outline.now.text c.args.self.now.own.node section above c.parts.result.keyword.now (moment_text c.args.self.now.moment) c.as_bytes-active.result.now
    c.in_ok-note.note c.in_ok-note.property c.args.planning _ _ _ c.in_ok-keyword.keyword edits.items
    c.keyword_edit.ensures.terminated c.args.self.now.own.within c.section-section.ensures.bytes c.section-section.ensures.lines front c.parts.ensures.keyword refl active
    c.in_ok-note.ensures.0 c.in_ok-note.ensures.1 c.requires refl refl refl c.in_ok-keyword.ensures.edits is)
    c.last_first.ensures.ok)
    c.last_first.ensures.err
