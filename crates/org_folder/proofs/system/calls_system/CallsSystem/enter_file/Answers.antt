use Rattle.std.proofs.Common.{◌≡◌, ◌∙◌, ◌∷◌, ap, ap₂, IsErr, is_ok, rules, subst, true, false, Bool, List, ℕ}
use Rattle.org_disk.specs.Names.{folder_of}
use Rattle.org_folder.specs.Calls.{EntersWay, Event}
use Rattle.org_folder.specs.Calls.Event.{Entered}
use Rattle.org_folder.proofs.Since.{entry_after_way, entry_lost, lost_as, way_lost}
use Rattle.org_folder.proofs.system.calls_system.CallsSystem.enter_file.Goals as goal

pub returns-in_err-enter_way-clause-entered : goal.returns-in_err-enter_way-clause-entered
returns-in_err-enter_way-clause-entered g c =
    let failed : IsErr c.from_residual.result = search rules in
    lost_as c.args.opened.now.name c.from_residual.result c.args.self.now.log.events c.enter_way.new.self.log.events failed
    (way_lost c.args.opened.now.name c.folder.result.now (is_ok c.enter_way.result) c.args.self.now.log.events c.enter_way.new.self.log.events c.folder.ensures.value c.enter_way.ensures.entered)

pub returns-in_err-enter-in-Ok-clause-entered : goal.returns-in_err-enter-in-Ok-clause-entered
returns-in_err-enter-in-Ok-clause-entered g c =
    let name = c.args.opened.now.name in
    let folder = c.deref.result.now in
    let old = c.args.self.now.log.events in
    let led = c.entry_folder.new.self.log.events in
    let new = c.enter.new.self.log.events in
    let noted : new ≡ Entered folder name false ∷ led =
    c.enter.ensures.entered ∙ ap₂ (λ (n : List ℕ) (ok : Bool). Entered folder n ok ∷ led) c.as_str.ensures.value (ap is_ok c.in_err-enter-in-Ok.was) in
    lost_as name c.from_residual-in_err-enter-in-Ok.result old new c.from_residual-in_err-enter-in-Ok.ensures.0
    (entry_lost name c.folder.result.now folder (is_ok c.enter_way.result) old c.enter_way.new.self.log.events led new c.folder.ensures.value c.enter_way.ensures.entered c.entry_folder.ensures.looks noted)

pub returns-in-Err-clause-entered : goal.returns-in-Err-clause-entered
returns-in-Err-clause-entered g c =
    let name = c.args.opened.now.name in
    entry_lost name c.folder.result.now (folder_of name) (is_ok c.enter_way.result) c.args.self.now.log.events c.enter_way.new.self.log.events c.entry_folder.new.self.log.events c.lose.new.self.log.events
    c.folder.ensures.value c.enter_way.ensures.entered c.entry_folder.ensures.looks c.lose.ensures

pub returns-clause-entered : goal.returns-clause-entered
returns-clause-entered g c =
    let name = c.args.opened.now.name in
    let path = c.folder.result.now in
    let folder = c.deref.result.now in
    let old = c.args.self.now.log.events in
    let mid = c.enter_way.new.self.log.events in
    let led = c.entry_folder.new.self.log.events in
    let new = c.enter.new.self.log.events in
    let noted : new ≡ Entered folder name true ∷ led =
    c.enter.ensures.entered ∙ ap₂ (λ (n : List ℕ) (ok : Bool). Entered folder n ok ∷ led) c.as_str.ensures.value (ap is_ok c.in_ok-enter-in-Ok.was) in
    entry_after_way name path folder old mid led new c.folder.ensures.value (subst (λ (ok : Bool). EntersWay path ok old mid) (ap is_ok c.in_ok-enter_way.was) c.enter_way.ensures.entered) c.entry_folder.ensures.looks noted
