use Rattle.std.proofs.Common.{◌≡◌, ◌∙◌, ◌++◌, ap, sym, subst, ℕ, List, None, map, string_bytes}
use Rattle.std.specs.Prelude.{not}
use Rattle.std.proofs.lemmas.List.Elements.{All-append}
use Rattle.org_disk.specs.Names.{IsOrgFile}
use Rattle.org_folder.specs.OrgFiles.{is_org_file}
use Rattle.org_program.specs.Causes.{first_bad, IsCauseOfNames}
use Rattle.org_program.proofs.Causing.{of_all, passed_reported}
use Rattle.org_program.proofs.Firsts.{first_behind, first_of_front}
use Rattle.org_program.proofs.names.given_names.Goals as goal

pub returns-in_err-names-clause-cause : goal.returns-in_err-names-clause-cause
returns-in_err-names-clause-cause c =
    let new : List (List ℕ) = map string_bytes c.args.arguments.now.new.items in
    let only : List (List ℕ) = map string_bytes c.args.arguments.now.only.items in
    let cause = subst (λ (names : List (List ℕ)). IsCauseOfNames names c.in_err-names.field-0.0) (ap (map string_bytes) c.deref.ensures.value) c.in_err-names.ensures.cause in
    passed_reported _ _ c.from_residual.result c.from_residual.ensures.1
    (of_all new (new ++ only) (λ found at. first_of_front (λ name. not (is_org_file name)) new only found at) _ cause)

pub returns-in_err-org_names-clause-cause : goal.returns-in_err-org_names-clause-cause
returns-in_err-org_names-clause-cause c =
    let new : List (List ℕ) = map string_bytes c.args.arguments.now.new.items in
    let only : List (List ℕ) = map string_bytes c.args.arguments.now.only.items in
    let good : first_bad new ≡ None = ap first_bad (sym (ap (map string_bytes) c.deref.ensures.value)) ∙ c.in_ok-names.ensures.good in
    let cause = subst (λ (names : List (List ℕ)). IsCauseOfNames names c.in_err-org_names.field-0.0) (ap (map string_bytes) c.deref-2.ensures.value) c.in_err-org_names.ensures.cause in
    passed_reported _ _ c.from_residual-in_err-org_names.result c.from_residual-in_err-org_names.ensures.1
    (of_all only (new ++ only) (λ found at. first_behind (λ name. not (is_org_file name)) new only good ∙ at) _ cause)

pub returns-clause-openable : goal.returns-clause-openable
returns-clause-openable c =
    rw c.in_ok-append.ensures.items (All-append IsOrgFile _ _ c.in_ok-names.ensures.openable c.in_ok-org_names.ensures.openable)

pub returns-clause-good : goal.returns-clause-good
returns-clause-good c =
    let new : List (List ℕ) = map string_bytes c.args.arguments.now.new.items in
    let only : List (List ℕ) = map string_bytes c.args.arguments.now.only.items in
    let good : first_bad new ≡ None = ap first_bad (sym (ap (map string_bytes) c.deref.ensures.value)) ∙ c.in_ok-names.ensures.good in
    first_behind (λ name. not (is_org_file name)) new only good ∙ ap first_bad (sym (ap (map string_bytes) c.deref-2.ensures.value)) ∙ c.in_ok-org_names.ensures.good
