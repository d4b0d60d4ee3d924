use Rattle.std.proofs.Common.{sym, subst, is_ok, map, string_bytes}
use Rattle.org_folder.specs.Calls.{AreOwnFolders}
use Rattle.org_folder.proofs.Accounting.{synced, sync_modes, sync_synced, unfailed_sync}
use Rattle.org_folder.proofs.system.calls_system.CallsSystemSystem.sync.Goals as goal

pub invariant_of-self : goal.invariant_of-self
invariant_of-self g c =
    let self = c.args.self.now in
    let name = c.args.opened.now.name in
    let old = g.C.Calls.made self.calls in
    let new = g.C.Calls.made c.put_content-answer.new.calls in
    let answer = c.put_content-answer.result in
    let did = is_ok answer in
    let noted = c.note_file.new.self.events in
    record {
      failing = unfailed_sync name answer self.has_failed c.is_err-self.result c.is_ok.result self.log.events noted c.note_file.ensures c.is_ok.ensures.value c.is_err-self.ensures.value
          c.put_content-answer.ensures.once self.failing;
      accounts = synced name c.is_ok.result did self.log.events noted old new c.is_ok.ensures.value c.note_file.ensures c.put_content-answer.ensures.syncs self.accounts;
      modes = sync_modes did name old new c.put_content-answer.ensures.syncs self.modes;
      folders = subst AreOwnFolders (sym c.note_file.ensures) self.folders;
      are_synced = sync_synced (map string_bytes self.synced.keys) did name old new c.put_content-answer.ensures.syncs self.are_synced;
    }
