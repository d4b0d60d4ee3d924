use Rattle.std.proofs.Common.{List, ℕ, Ok, Err, ap, sym, subst, ◌∙◌}
use Rattle.org_disk.specs.Disk.{FileState, IsStable}
use Rattle.org_disk.specs.Names.{journal_name}
use Rattle.org_journal.proofs.Accounted.{accounts_after, accounts_passed}
use Rattle.org_journal.specs.Finding.{Finds}
use Rattle.org_journal.specs.Recovered.{contents}
use Rattle.org_fileset.specs.Looking.{IsLookedAt}
use Rattle.org_fileset.proofs.Accounted.{accounts_opened}
use Rattle.org_fileset.proofs.Sets.{passed_never}
use Rattle.org_fileset.proofs.Strange.{fault_passed, found_fault, strange_fault}
use Rattle.org_fileset.proofs.Reopening.{refused_reopens, looked_on, looked_then, reopens_as}
use Rattle.org_fileset.proofs.recover.recover_found.Given.{Over}
use Rattle.org_fileset.proofs.recover.recover_found.Goals as goal
use Rattle.org_fileset.proofs.recover.recover_found.Goals.{After-check_found}

-- the journal was looked at, and its record's files were
looked : (g : Over) (c : After-check_found g) → g.D.Disk.honest c.check_found.new.disk → IsLookedAt g.D.Disk c.args.disk.now c.check_found.new.disk
looked g c ended =
    let mid = c.check_found.ensures.accounts.was_honest ended in
    looked_on g.D.Disk c.args.disk.now c.look.new.disk c.check_found.new.disk (c.look.ensures.looked mid) (c.check_found.ensures.looks ended)

pub returns-in_err-found-clause-reopens : goal.returns-in_err-found-clause-reopens
returns-in_err-found-clause-reopens g c ended =
    let d = g.D.Disk in
    let old = c.args.disk.now in
    let honest = c.look.ensures.accounts.was_honest ended in
    refused_reopens d old (λ image left. g.met.D.Disk.only_now old image honest left) c.look.new.disk c.from_residual.result
    (c.look.ensures.looked ended) (passed_never _ _ c.from_residual.result c.from_residual.ensures.1)

pub returns-in_err-found-clause-fault : goal.returns-in_err-found-clause-fault
returns-in_err-found-clause-fault g c =
    fault_passed _ c.from_residual.result _ c.from_residual.ensures.1
    (found_fault (contents (g.D.Disk.files c.args.disk.now)) (contents (g.D.Disk.files c.look.new.disk)) c.in_err-found.field-0.0 (λ is h. c.look.ensures.bad (c.in_err-found.was ∙ ap (λ e. Err e) is) h))

pub returns-in_err-found-clause-accounts : goal.returns-in_err-found-clause-accounts
returns-in_err-found-clause-accounts g c = accounts_opened c.in_err-found.field-0.0 c.from_residual.ensures.1 c.in_err-found.ensures.accounts

pub returns-in_err-check_found-clause-reopens : goal.returns-in_err-check_found-clause-reopens
returns-in_err-check_found-clause-reopens g c ended =
    let d = g.D.Disk in
    let old = c.args.disk.now in
    let mid = c.check_found.ensures.accounts.was_honest ended in
    let honest = c.look.ensures.accounts.was_honest mid in
    refused_reopens d old (λ image left. g.met.D.Disk.only_now old image honest left) c.check_found.new.disk c.from_residual-in_err-check_found.result
    (looked g (goal.at.returns-in_err-check_found-clause-reopens g c).After-check_found ended) (passed_never _ _ c.from_residual-in_err-check_found.result c.from_residual-in_err-check_found.ensures.1)

pub returns-in_err-check_found-clause-fault : goal.returns-in_err-check_found-clause-fault
returns-in_err-check_found-clause-fault g c =
    let files = g.D.Disk.files in
    let back = c.check_found.ensures.accounts.was_honest in
    fault_passed _ c.from_residual-in_err-check_found.result _ c.from_residual-in_err-check_found.ensures.1
    (strange_fault (files c.args.disk.now) (files c.look.new.disk) (contents (files c.check_found.new.disk)) c.in_ok-found.found c.in_err-check_found.field-0.0
    (λ h. c.in_ok-found.ensures.found (back h)) (λ h. ap (λ (f : List ℕ → FileState). contents f) (c.check_found.ensures.looks h).same) c.in_err-check_found.ensures.strange)

pub returns-in_err-check_found-clause-accounts : goal.returns-in_err-check_found-clause-accounts
returns-in_err-check_found-clause-accounts g c =
    accounts_after c.in_ok-found.ensures.accounts (accounts_passed c.from_residual-in_err-check_found.ensures.1 c.in_err-check_found.ensures.accounts)

pub finish-requires-clause-stable : goal.finish-requires-clause-stable
finish-requires-clause-stable g c ended =
    let back = c.check_found.ensures.accounts.was_honest ended in
    subst (λ (f : List ℕ → FileState). IsStable (f journal_name)) (sym (c.check_found.ensures.looks ended).same) (c.in_ok-found.ensures.found back).stable

pub finish-requires-clause-found : goal.finish-requires-clause-found
finish-requires-clause-found g c ended =
    let back = c.check_found.ensures.accounts.was_honest ended in
    subst (λ (f : List ℕ → FileState). Finds (contents f) (Ok c.in_ok-found.found)) (sym (c.check_found.ensures.looks ended).same) (c.in_ok-found.ensures.found back).holds

pub returns-in_err-finish-clause-reopens : goal.returns-in_err-finish-clause-reopens
returns-in_err-finish-clause-reopens g c ended =
    let d = g.D.Disk in
    let old = c.args.disk.now in
    let last = c.finish.ensures.accounts.was_honest ended in
    let mid = c.check_found.ensures.accounts.was_honest last in
    let honest = c.look.ensures.accounts.was_honest mid in
    let same = ap (λ (f : List ℕ → FileState). contents f) (c.check_found.ensures.looks last).same ∙ (c.in_ok-found.ensures.found mid).same in
    reopens_as d old c.finish.new.disk c.finish.result c.from_residual-in_err-finish.result
    (looked_then d old (λ image left. g.met.D.Disk.only_now old image honest left) c.check_found.new.disk c.finish.new.disk c.finish.result
    (looked g (goal.at.returns-in_err-finish-clause-reopens g c).After-check_found last) same (c.finish.ensures.reopens ended))
    (passed_never _ _ c.from_residual-in_err-finish.result c.from_residual-in_err-finish.ensures.1)

pub returns-clause-reopens : goal.returns-clause-reopens
returns-clause-reopens g c ended =
    let d = g.D.Disk in
    let old = c.args.disk.now in
    let last = c.finish.ensures.accounts.was_honest ended in
    let mid = c.check_found.ensures.accounts.was_honest last in
    let honest = c.look.ensures.accounts.was_honest mid in
    let same = ap (λ (f : List ℕ → FileState). contents f) (c.check_found.ensures.looks last).same ∙ (c.in_ok-found.ensures.found mid).same in
    let made = looked_then d old (λ image left. g.met.D.Disk.only_now old image honest left) c.check_found.new.disk c.finish.new.disk (Ok tt)
    (looked g (goal.at.returns-clause-reopens g c).After-check_found last) same (c.in_ok-finish.ensures.reopens ended) in
    reopens_as d old c.finish.new.disk (Ok tt) (Ok tt) made made.done
