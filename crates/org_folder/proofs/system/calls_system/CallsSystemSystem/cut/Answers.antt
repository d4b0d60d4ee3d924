use Rattle.std.proofs.Common.{◌∙◌, sym, subst, List, IsFalse, is_ok, map, string_bytes}
use Rattle.org_folder.specs.Calls.{AreOwnFolders, Event, has_failed}
use Rattle.org_folder.proofs.Accounting.{cut_off, cut_modes, cut_synced}
use Rattle.org_folder.proofs.system.calls_system.CallsSystemSystem.cut.Goals as goal

pub invariant_of-self : goal.invariant_of-self
invariant_of-self g c =
    let self = c.args.self.now in
    let name = c.args.opened.now.name in
    let old = g.C.Calls.made self.calls in
    let new = g.C.Calls.made c.cut_off.new.calls in
    let did = is_ok c.cut_off.result in
    record {
      failing = λ none. subst (λ (es : List Event). IsFalse (has_failed es)) (sym c.note_file.ensures) (self.failing none);
      accounts = cut_off name c.args.to c.is_ok.result did self.log.events c.note_file.new.self.events old new (c.is_ok.ensures.value ∙ c.answered-answer.ensures.ok) c.note_file.ensures c.cut_off.ensures self.accounts;
      modes = cut_modes name c.args.to did old new c.cut_off.ensures self.modes;
      folders = subst AreOwnFolders (sym c.note_file.ensures) self.folders;
      are_synced = cut_synced (map string_bytes self.synced.keys) name c.args.to did old new c.cut_off.ensures self.are_synced;
    }
