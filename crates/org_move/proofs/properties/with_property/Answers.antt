use Rattle.std.proofs.Common.{◌≡◌, ◌+◌, ◌++◌, List, ℕ, length, take, refl}
use Rattle.std.specs.Prelude.{IfOk, Result, Vec, slice_range}
use Rattle.std.specs.Global.{Global}
use Rattle.std.proofs.lemmas.Result.{IfOk-weaker}
use Rattle.org_splice.specs.declared.edit.Edit.{Edit}
use Rattle.org_splice.specs.Edits.{applied}
use Rattle.org_move.proofs.Puts.{put_split, put_terminated, put_together}
use Rattle.org_move.proofs.properties.with_property.Goals as goal

-- what is put together of the section and an edit is the edited section
put_whole : {E : Type 0} (Q : Vec ℕ Global → Type 0) (section bytes : List ℕ) (edit : Edit) (result : Result (Vec ℕ Global) E) → bytes ≡ edit.bytes
    → IfOk result (λ whole. whole.items ≡ (take edit.at section ++ bytes) ++ slice_range section (edit.at + edit.removed) (length section)) → ((whole : Vec ℕ Global) → whole.items ≡ applied edit section → Q whole) → IfOk result Q
put_whole Q section bytes edit result is made gives =
    IfOk-weaker result (λ (whole : Vec ℕ Global). whole.items ≡ (take edit.at section ++ bytes) ++ slice_range section (edit.at + edit.removed) (length section)) Q
    (λ whole so. gives whole (put_together section section section _ bytes _ whole.items edit refl refl refl is refl so)) made

pub returns-clause-parts : goal.returns-clause-parts
returns-clause-parts c =
    let edit : Edit = c.in_ok-edit.edit in
    put_whole _ c.args.section.bytes.now c.as_slice.result.now edit c.between.result c.as_slice.ensures c.between.ensures
    (λ whole is. put_split c.args.name.now c.args.value.now c.args.section.bytes.now whole.items edit c.requires.name c.requires.line c.in_ok-edit.ensures is)

pub returns-clause-terminated : goal.returns-clause-terminated
returns-clause-terminated c =
    let edit : Edit = c.in_ok-edit.edit in
    put_whole _ c.args.section.bytes.now c.as_slice.result.now edit c.between.result c.as_slice.ensures c.between.ensures
    (λ whole is. put_terminated c.args.name.now c.args.value.now c.args.section.bytes.now whole.items edit c.in_ok-edit.ensures is)
