use Rattle.std.proofs.Common.{◌≡◌, ◌∙◌, ◌∷◌, ap₂, sym, subst, List, ℕ, IsFalse, is_ok}
use Rattle.org_folder.specs.Calls.{Event, has_failed}
use Rattle.org_folder.specs.Calls.Event.{Entered}
use Rattle.org_folder.proofs.Accounting.{entry_failing, entry_own, entry_put, put_modes}
use Rattle.org_folder.proofs.system.calls_system.CallsSystem.enter.Goals as goal

pub invariant_of-self : goal.invariant_of-self
invariant_of-self g c =
    let self = c.args.self.now in
    let folder = c.args.folder.now in
    let name = c.args.name.now in
    let old = g.C.Calls.made self.calls in
    let new = g.C.Calls.made c.put_entry-answer.new.calls in
    let did = is_ok c.put_entry-answer.result in
    let ok = c.is_ok.result in
    let noted : c.note.new.self.events ≡ Entered folder name ok ∷ self.log.events =
    c.note.ensures ∙ ap₂ (λ (f n : List ℕ). Entered f n ok ∷ self.log.events) c.as_bytes-2.ensures.value c.as_bytes.ensures.value in
    record {
      failing = λ none. entry_failing folder name ok c.is_err-self.result self.has_failed self.log.events c.note.new.self.events c.put_entry-answer.result c.is_err-self.ensures.value none c.put_entry-answer.ensures.once self.failing c.is_ok.ensures.value noted;
      accounts = entry_put folder name ok did self.log.events c.note.new.self.events old new c.is_ok.ensures.value noted c.put_entry-answer.ensures.puts self.accounts;
      modes = put_modes folder did old new c.put_entry-answer.ensures.puts self.modes;
      folders = entry_own folder name ok self.log.events c.note.new.self.events noted c.requires self.folders;
      are_synced = c.put_entry-answer.ensures.synced;
    }
