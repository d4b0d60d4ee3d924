use Rattle.std.proofs.Common.{arith, sym, subst, ◌∙◌}
use Rattle.org_serve.specs.Grammar.{Parses}
use Rattle.org_serve.proofs.Fields.{is_settle, is_show, is_clock_out, no_field, no_settle, no_show}
use Rattle.org_serve.proofs.reading.command.Goals as goal
use Rattle.org_serve.proofs.reading.command.Goals.{in_default-via-then-fields-lt1, in_default-via-in-len1+else-is, in_default-via-in-len2-2+else-is-3}

pub returns-in-len1 : goal.returns-in-len1
returns-in-len1 c = is_settle c.args.fields.now c.in-len1.len_at_least c.in-len1.len_below (sym c.is.ensures ∙ c.if-is.true)

pub returns-in-len2 : goal.returns-in-len2
returns-in-len2 c =
    subst (Parses c.show.result) (sym (is_show c.args.fields.now c.in-len2.len_at_least c.in-len2.len_below (sym c.is-then-fields-lt3.ensures ∙ c.if-is-2.true))) c.show.ensures

pub returns-in-len2-2 : goal.returns-in-len2-2
returns-in-len2-2 c =
    subst (Parses c.clock_out.result) (sym (is_clock_out c.args.fields.now c.in-len2.len_at_least c.in-len2.len_below (sym c.is-then-fields-lt3.ensures ∙ c.if-is-2.false) (sym c.is-then-fields-lt3-2.ensures ∙ c.if-is-3.true))) c.clock_out.ensures

pub returns-in_default : goal.returns-in_default
returns-in_default c =
    let fields = c.args.fields.now in
    elim c.in_default.branch [
      | in_default-via-then-fields-lt1 w ↦ no_field fields (grind arith)
      | in_default-via-in-len1+else-is w ↦ no_settle fields w.in-len1.len_at_least w.in-len1.len_below (sym w.is.ensures ∙ w.if-is.false)
      | in_default-via-in-len2-2+else-is-3 w ↦ no_show fields w.in-len2.len_at_least w.in-len2.len_below (sym w.is-then-fields-lt3.ensures ∙ w.if-is-2.false) (sym w.is-then-fields-lt3-2.ensures ∙ w.if-is-3.false)
    ]
