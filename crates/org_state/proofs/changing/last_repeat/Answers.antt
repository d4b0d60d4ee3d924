use Rattle.std.proofs.Common.{ℕ, List, codes, subst, ap, ◌∙◌}
use Rattle.org_stamp.specs.Stamp.{stamp_text}
use Rattle.org_splice.specs.declared.edit.Edit.{Edit}
use Rattle.std.specs.Prelude.{IfOk}
use Rattle.org_meta.specs.Edits.{RewritesParts}
use Rattle.org_meta.specs.Sections.{parts_of, put}
use Rattle.org_state.proofs.changing.last_repeat.Goals as goal

pub returns : goal.returns
returns c =
    let stamp = c.deref.ensures.value ∙ c.in_ok-stamp.ensures.value ∙ ap stamp_text c.at.ensures in
    subst (λ (s : List ℕ). IfOk c.put_property.result (λ (edit : Edit). RewritesParts edit c.args.section.bytes.now (put (codes "LAST_REPEAT") s (parts_of c.args.section.bytes.now)))) stamp c.put_property.ensures
