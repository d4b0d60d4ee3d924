use Rattle.std.proofs.Common.{◌≡◌, ◌∙◌, [], sym, subst, refl, List, IsFalse, is_ok, map, string_bytes, rules}
use Rattle.org_folder.specs.Calls.{AreOwnFolders, Event, has_failed}
use Rattle.org_folder.proofs.Accounting.{wrote, wrote_modes, wrote_synced}
use Rattle.org_folder.proofs.system.calls_system.CallsSystemSystem.write_at.Goals as goal

pub invariant_of-self-2 : goal.invariant_of-self-2
invariant_of-self-2 g c =
    let self = c.args.self.now in
    let opened = c.args.opened.now in
    let old = g.C.Calls.made self.calls in
    let mid = g.C.Calls.made c.narrow.new.self.calls in
    let new = g.C.Calls.made c.write.new.self in
    let did = is_ok c.write.result in
    let path = string_bytes opened.handle.path in
    let some : c.args.bytes.now ≡ [] → ⊥ = λ none. search rules in
    record {
      failing = λ none. subst (λ (es : List Event). IsFalse (has_failed es)) (sym c.note_file-2.ensures) (c.narrow.new.self.failing none);
      accounts = wrote opened.name path c.args.from c.args.bytes.now c.is_ok-3.result did c.narrow.new.self.log.events c.note_file-2.new.self.events mid mid new some opened.reached
          (c.is_ok-3.ensures.value ∙ c.answered-answer-2.ensures.ok) c.note_file-2.ensures c.write.ensures refl c.narrow.new.self.accounts;
      modes = wrote_modes c.args.from did path c.args.bytes.now mid new c.write.ensures c.narrow.new.self.modes;
      folders = subst AreOwnFolders (sym c.note_file-2.ensures) c.narrow.new.self.folders;
      are_synced = wrote_synced (map string_bytes c.narrow.new.self.synced.keys) c.args.from did path c.args.bytes.now mid new c.write.ensures c.narrow.new.self.are_synced;
    }
