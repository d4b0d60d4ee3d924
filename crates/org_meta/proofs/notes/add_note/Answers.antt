use Rattle.std.proofs.Common.{List, ℕ, ◌∷◌, [], ◌++◌, refl, ap, ◌∙◌}
use Rattle.org_meta.specs.Notes.{note_line}
use Rattle.org_meta.proofs.Puts.{note_gives, rest_below}
use Rattle.org_meta.proofs.notes.add_note.Goals as goal

pub overflow_sub-result : goal.overflow_sub-result
overflow_sub-result c = rest_below c.args.section.bytes.now c.sections.result c.args.section.whole c.sections.ensures

pub returns : goal.returns
returns c =
    let line = note_line c.args.new.now c.args.old.now c.args.now in
    note_gives _ c.args.section.bytes.now line c.sections.result c.args.section.whole c.sections.ensures refl refl
    (c.new.ensures ∙ c.in_ok-push_note.ensures ∙ ap (λ (t : List ℕ). t ++ (line ++ 10 ∷ [])) c.new-bytes.ensures.items)
