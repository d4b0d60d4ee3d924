use Rattle.std.proofs.Common.{◌≡◌, ◌∙◌, ◌∷◌, ap, false, true, inr, refl, sym, List, ℕ, map, string_bytes}
use Rattle.org_disk.specs.Names.{folder_of}
use Rattle.org_folder.specs.Calls.{Event}
use Rattle.org_folder.specs.Calls.Event.{Entered}
use Rattle.org_folder.proofs.Accounting.{entry_own, entry_put, stands_on_way}
use Rattle.org_folder.proofs.system.calls_system.CallsSystem.lose.Goals as goal

pub invariant_of-self : goal.invariant_of-self
invariant_of-self g c =
    let self = c.args.self.now in
    let name = c.args.name.now in
    let calls = g.C.Calls.made self.calls in
    let noted : c.note_file.new.self.events ≡ Entered (folder_of name) name false ∷ self.log.events =
    c.note_file.ensures ∙ ap (λ (f : List ℕ). Entered f name false ∷ self.log.events) (c.as_bytes.ensures.value ∙ c.folder.ensures.value) in
    record {
      failing = λ none. let bad : true ≡ false = none in cc;
      accounts = entry_put (folder_of name) name false false self.log.events c.note_file.new.self.events calls calls refl noted (inr refl) self.accounts;
      modes = self.modes;
      folders = entry_own (folder_of name) name false self.log.events c.note_file.new.self.events noted (stands_on_way (folder_of name) name self.log.events refl) self.folders;
      are_synced = self.are_synced;
    }
