use Rattle.std.proofs.Common.{◌≡◌, ◌∙◌, ◌∷◌, ap, IsErr, IsFalse, IsTrue, is_ok, rules, subst, sym, false, true}
use Rattle.org_folder.specs.Calls.{has_failed}
use Rattle.org_folder.specs.Calls.Event.{Failed}
use Rattle.org_folder.proofs.Since.{enters_lost, enters_made, err_holds, on_err, on_ok}
use Rattle.org_folder.proofs.system.calls_system.CallsSystemSystem.sync_entry.Goals as goal

pub returns-in_err-noted-clause-entered : goal.returns-in_err-noted-clause-entered
returns-in_err-noted-clause-entered g c =
    let name = c.args.opened.now.name in
    let mid = c.enter_file-entered.new.self.log.events in
    let new = c.noted.new.self.log.events in
    let failed : IsErr c.from_residual.result = search rules in
    let said : is_ok c.enter_file-entered.result ≡ false = ap is_ok (sym c.noted.ensures.same ∙ c.in_err-noted.was) in
    enters_lost name c.from_residual.result c.enter_file-entered.result c.args.self.now.log.events mid new failed said c.enter_file-entered.ensures.entered
    (on_err (new ≡ Failed name ∷ mid) c.enter_file-entered.result c.noted.ensures.err said)

pub returns-in_err-noted-clause-failed : goal.returns-in_err-noted-clause-failed
returns-in_err-noted-clause-failed g c =
    let name = c.args.opened.now.name in
    let mid = c.enter_file-entered.new.self.log.events in
    let new = c.noted.new.self.log.events in
    let said : is_ok c.enter_file-entered.result ≡ false = ap is_ok (sym c.noted.ensures.same ∙ c.in_err-noted.was) in
    let noted : new ≡ Failed name ∷ mid = on_err (new ≡ Failed name ∷ mid) c.enter_file-entered.result c.noted.ensures.err said in
    let lost : IsTrue (has_failed mid) = on_err (IsTrue (has_failed mid)) c.enter_file-entered.result c.enter_file-entered.ensures.failed said in
    err_holds (IsTrue (has_failed new)) c.from_residual.result (ap has_failed noted ∙ lost)

pub returns-clause-entered : goal.returns-clause-entered
returns-clause-entered g c =
    let name = c.args.opened.now.name in
    let mid = c.enter_file-entered.new.self.log.events in
    let new = c.noted.new.self.log.events in
    let said : is_ok c.enter_file-entered.result ≡ true = ap is_ok (sym c.noted.ensures.same ∙ c.in_ok-noted.was) in
    enters_made name c.enter_file-entered.result c.args.self.now.log.events mid new said c.enter_file-entered.ensures.entered
    (ap (λ l. l.events) (on_ok (c.noted.new.self.log ≡ c.enter_file-entered.new.self.log) c.enter_file-entered.result c.noted.ensures.ok said))

pub returns-clause-once : goal.returns-clause-once
returns-clause-once g c =
    let old = c.args.self.now.log.events in
    let said : is_ok c.enter_file-entered.result ≡ true = ap is_ok (sym c.noted.ensures.same ∙ c.in_ok-noted.was) in
    on_ok (IsFalse (has_failed old)) c.enter_file-entered.result c.enter_file-entered.ensures.once said
