use Rattle.std.proofs.Common.{◌≡◌, ◌∙◌, ◌∷◌, ap, sym, subst, List, ℕ, IsFalse, is_ok, map, string_bytes}
use Rattle.org_folder.specs.Calls.{AreOwnFolders, Event, has_failed}
use Rattle.org_folder.specs.Calls.Event.{MadeFolder}
use Rattle.org_folder.specs.Raw.{AreOwnModes}
use Rattle.org_folder.proofs.Accounting.{made_folder, none_synced}
use Rattle.org_folder.proofs.system.calls_system.CallsSystem.make_one.Goals as goal

pub invariant_of-self : goal.invariant_of-self
invariant_of-self g c =
    let self = c.args.self.now in
    let folder = c.args.folder.now in
    let old = g.C.Calls.made self.calls in
    let new = g.C.Calls.made c.make_folder.new.self in
    let did = is_ok c.make_folder.result in
    let ok = c.is_ok.result in
    let noted : c.note.new.self.events ≡ MadeFolder folder ok ∷ self.log.events = c.note.ensures ∙ ap (λ (p : List ℕ). MadeFolder p ok ∷ self.log.events) c.as_bytes.ensures.value in
    record {
      failing = λ none. subst (λ (es : List Event). IsFalse (has_failed es)) (sym noted) (self.failing none);
      accounts = made_folder folder ok did self.log.events c.note.new.self.events old new (c.is_ok.ensures.value ∙ c.answered-made.ensures.ok) noted c.make_folder.ensures self.accounts;
      modes = subst AreOwnModes (sym c.make_folder.ensures) self.modes;
      folders = subst AreOwnFolders (sym noted) self.folders;
      are_synced = none_synced (map string_bytes c.clear.new.self.keys) new (ap (map string_bytes) c.clear.ensures.empty);
    }
