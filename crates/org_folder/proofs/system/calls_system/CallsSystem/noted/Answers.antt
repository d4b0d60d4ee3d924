use Rattle.std.proofs.Common.{sym, subst, List, IsFalse}
use Rattle.org_folder.specs.Calls.{AreOwnFolders, Event, has_failed}
use Rattle.org_folder.specs.Raw.{GoesWith}
use Rattle.org_folder.proofs.system.calls_system.CallsSystem.noted.Goals as goal

pub invariant_of-self : goal.invariant_of-self
invariant_of-self g c =
    let self = c.args.self.now in
    record {
      failing = λ none. subst (λ (es : List Event). IsFalse (has_failed es)) (sym c.note_file.ensures) (self.failing none);
      accounts = subst (λ (es : List Event). GoesWith es (g.C.Calls.made self.calls)) (sym c.note_file.ensures) self.accounts;
      modes = self.modes;
      folders = subst AreOwnFolders (sym c.note_file.ensures) self.folders;
      are_synced = self.are_synced;
    }
