use Rattle.std.proofs.Common.{ap, sym, subst, List, IsFalse, is_ok, map, string_bytes}
use Rattle.org_folder.specs.Calls.{AreOwnFolders, Event, has_failed}
use Rattle.org_folder.proofs.Accounting.{made_one, made_modes, none_synced}
use Rattle.org_folder.proofs.system.calls_system.CallsSystem.make_file.Goals as goal

pub invariant_of-self : goal.invariant_of-self
invariant_of-self g c =
    let self = c.args.self.now in
    let name = c.args.name.now in
    let old = g.C.Calls.made self.calls in
    let new = g.C.Calls.made c.made-answer.new.calls in
    let did = is_ok c.made-answer.result in
    record {
      failing = λ none. subst (λ (es : List Event). IsFalse (has_failed es)) (sym c.note_file.ensures) (self.failing none);
      accounts = made_one name c.is_ok.result did self.log.events c.note_file.new.self.events old new c.is_ok.ensures.value c.note_file.ensures c.made-answer.ensures.made self.accounts;
      modes = made_modes name did old new c.made-answer.ensures.made self.modes;
      folders = subst AreOwnFolders (sym c.note_file.ensures) self.folders;
      are_synced = none_synced (map string_bytes c.clear.new.self.keys) new (ap (map string_bytes) c.clear.ensures.empty);
    }
