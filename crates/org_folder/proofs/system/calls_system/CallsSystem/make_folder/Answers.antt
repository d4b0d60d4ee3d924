use Rattle.std.proofs.Common.{◌≡◌, ◌∙◌, ap, IsErr, IsTrue, is_ok, map, refl, rules, string_bytes, sym, true, false}
use Rattle.org_folder.specs.Calls.{StandsIn}
use Rattle.org_folder.proofs.Accounting.{asked, asked_modes, asked_synced, stands_on_way}
use Rattle.org_folder.proofs.Since.{err_false, folder_made, folder_unmade}
use Rattle.org_folder.proofs.system.calls_system.CallsSystem.make_folder.Goals as goal

pub returns-in_err-make_one : goal.returns-in_err-make_one
returns-in_err-make_one g c =
    let failed : IsErr c.from_residual.result = search rules in
    folder_unmade c.args.folder.now (is_ok c.make_one.result) (is_ok c.from_residual.result) c.args.self.now.log.events c.make_one.new.self.log.events c.make_one.ensures (err_false c.from_residual.result failed)

pub enter-requires : goal.enter-requires
enter-requires g c =
    let stands : StandsIn c.args.folder.now c.folder_of.result.now c.make_one.new.self.log.events = stands_on_way c.folder_of.result.now c.args.folder.now c.make_one.new.self.log.events c.folder_of.ensures in
    search rules

pub returns-in_err-enter : goal.returns-in_err-enter
returns-in_err-enter g c =
    let result = c.from_residual-in_err-enter.result in
    folder_made c.folder_of.result.now c.args.folder.now (is_ok c.make_one.result) (is_ok c.enter.result) (is_ok result) c.args.self.now.log.events c.make_one.new.self.log.events c.enter.new.self.log.events
    c.make_one.ensures c.enter.ensures.entered (λ done. let bad : true ≡ false = sym done ∙ err_false result c.from_residual-in_err-enter.ensures.0 in cc)

pub invariant_of-self-2 : goal.invariant_of-self-2
invariant_of-self-2 g c =
    let self = c.enter.new.self in
    let old = g.C.Calls.made self.calls in
    let new = g.C.Calls.made c.check_folder-2.new.calls in
    let asks = c.check_folder-2.ensures in
    record {
      failing = self.failing;
      accounts = asked self.log.events old new asks self.accounts;
      modes = asked_modes old new asks self.modes;
      folders = self.folders;
      are_synced = asked_synced (map string_bytes self.synced.keys) old new asks self.are_synced;
    }

pub returns : goal.returns
returns g c =
    folder_made c.folder_of.result.now c.args.folder.now (is_ok c.make_one.result) (is_ok c.enter.result) (is_ok c.answered-2.result) c.args.self.now.log.events c.make_one.new.self.log.events c.enter.new.self.log.events
    c.make_one.ensures c.enter.ensures.entered (λ done. ap is_ok c.in_ok-enter.was)
