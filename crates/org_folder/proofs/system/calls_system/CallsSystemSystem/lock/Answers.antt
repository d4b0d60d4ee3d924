use Rattle.std.proofs.Common.{◌≡◌, ◌∙◌, ◌∷◌, ap, sym, subst, List, ℕ, IsFalse, map, string_bytes}
use Rattle.org_folder.specs.Calls.{AreOwnFolders, Event, has_failed}
use Rattle.org_folder.specs.Calls.Event.{Locked}
use Rattle.org_folder.proofs.Accounting.{entered, entered_modes, entered_synced}
use Rattle.org_folder.proofs.system.calls_system.CallsSystemSystem.lock.Goals as goal

pub invariant_of-self-2 : goal.invariant_of-self-2
invariant_of-self-2 g c =
    let self = c.args.self.now in
    let path = c.args.path.now in
    let old = g.C.Calls.made self.calls in
    let mid = g.C.Calls.made c.locked.new.calls in
    let new = g.C.Calls.made c.enter.new.self in
    let asks = c.in_ok-folder.ensures.asks in
    let made = c.in_ok-enter.ensures.ok in
    let noted : c.note.new.self.events ≡ Locked path ∷ self.log.events = c.note.ensures ∙ ap (λ (p : List ℕ). Locked p ∷ self.log.events) c.as_bytes.ensures.value in
    record {
      failing = λ none. subst (λ (es : List Event). IsFalse (has_failed es)) (sym noted) (self.failing none);
      accounts = entered path self.log.events c.note.new.self.events old mid new noted made asks self.accounts;
      modes = entered_modes path old mid new made asks self.modes;
      folders = subst AreOwnFolders (sym noted) self.folders;
      are_synced = entered_synced (map string_bytes self.synced.keys) path old mid new made asks self.are_synced;
    }
