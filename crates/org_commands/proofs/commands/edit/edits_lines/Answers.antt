use Rattle.std.proofs.Common.{◌≡◌, [], List, ℕ, subst}
use Rattle.std.specs.Prelude.{◌≢◌}
use Rattle.org_splice.specs.Lines.{terminated}
use Rattle.org_splice.proofs.Places.{edited_terminated-inside, edited_terminated-lines}
use Rattle.org_commands.proofs.commands.edit.edits_lines.Goals as goal

pub returns-then-edit-text-clause-behind : goal.returns-then-edit-text-clause-behind
returns-then-edit-text-clause-behind c so =
    let e = c.args.edit.now in
    edited_terminated-inside e.at e.removed e.bytes c.args.text.now (c.ends_line.ensures.terminated c.if-not-ends_line.false) c.if-edit-text.true

pub returns-else-edit-text-clause-behind : goal.returns-else-edit-text-clause-behind
returns-else-edit-text-clause-behind c so =
    let e = c.args.edit.now in
    edited_terminated-lines e.at e.removed e.bytes c.args.text.now (c.ends_line.ensures.terminated c.if-not-ends_line.false)
    (subst (λ (b : List ℕ). b ≢ []) c.as_slice.ensures (c.ends_line-else-edit-text.ensures.some so))
    (subst (λ (b : List ℕ). terminated b ≡ b) c.as_slice.ensures (c.ends_line-else-edit-text.ensures.terminated so))
