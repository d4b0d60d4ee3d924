use Rattle.std.proofs.Common.{◌≡◌, ◌∙◌, ◌+◌, ◌-◌, length, drop, take, None, sym, ap, arith}
use Rattle.std.specs.Option.{option_map}
use Rattle.std.proofs.lemmas.List.{length-drop, take_all}
use Rattle.org_serve.specs.Grammar.{number_of, step_at, step_of, unescaped}
use Rattle.org_serve.proofs.Nodes.{refused, behind, part_refused}
use Rattle.org_serve.proofs.field.step.Goals as goal

pub returns-in_err-number : goal.returns-in_err-number
unfolding step_of
returns-in_err-number c =
    let field = c.args.field.now in
    let at = c.in-Some.at in
    let none : number_of (drop (at + 1) field) ≡ None =
    ap number_of (sym (take_all (length field - (at + 1)) (drop (at + 1) field) (omega (arith, length-drop (at + 1) field)))) ∙ sym c.number.ensures ∙ refused _ _ _ c.in_err-number.ensures.value in
    part_refused c.from_residual-in_err-number.result (step_of field) c.from_residual-in_err-number.ensures.0
    (ap (step_at field) (sym c.in-Some.ensures.place) ∙ behind (unescaped (take (at - 1) field)) _ (λ _. ap (option_map _) none))
