use Rattle.std.proofs.Common.{◌∙◌, [], ◌∷◌, sym, rules, map, not, string_bytes}
use Rattle.std.proofs.lemmas.List.Elements.{All-push}
use Rattle.std.proofs.lemmas.Result.{err_from_is_err_and}
use Rattle.org_disk.specs.Names.{IsOrgFile}
use Rattle.org_folder.specs.OrgFiles.{is_org_file}
use Rattle.org_program.proofs.Causing.{of_all}
use Rattle.org_program.proofs.Firsts.{first_at, none_more, mapped_more}
use Rattle.org_program.proofs.names.org_names.Goals as goal

pub returns-in_err-org_name-clause-cause : goal.returns-in_err-org_name-clause-cause
returns-in_err-org_name-clause-cause c =
    let cause = of_all (c.deref.result.now ∷ []) (map string_bytes c.args.texts.now) (λ found at. first_at (λ name. not (is_org_file name)) string_bytes c.loop-text.text-index c.args.texts.now c.text-item.result found
    c.loop-text-test.true c.text-item.is c.loop-text.invariant.2 (rw (sym c.deref.ensures) at)) c.in_err-org_name.field-0.0 c.in_err-org_name.ensures.cause in
    let reported = err_from_is_err_and c.from_residual.result c.from_residual.ensures.1 in
    rw (reported.1, reported.2) cause

pub loop-text-preserved : goal.loop-text-preserved
loop-text-preserved c =
    let none = none_more (λ name. not (is_org_file name)) string_bytes c.loop-text.text-index c.args.texts.now c.text-item.result
    c.loop-text-test.true c.text-item.is c.loop-text.invariant.2 (search (rules, c.deref.ensures, c.in_ok-org_name.ensures.good)) in
    let names = mapped_more string_bytes c.loop-text.text-index c.args.texts.now c.text-item.result c.loop-text.names.items c.in_ok-org_name.field-0
    c.loop-text-test.true c.text-item.is c.loop-text.invariant.1 (c.in_ok-org_name.ensures.name ∙ c.deref.ensures) in
    rw c.in_ok-push.ensures.items (All-push IsOrgFile c.loop-text.names.items c.in_ok-org_name.field-0 c.loop-text.invariant.0 c.in_ok-org_name.ensures.openable, names, none)
