use Rattle.std.proofs.Common.{ap, sym, subst, List, IsFalse, map, string_bytes}
use Rattle.org_folder.specs.Calls.{Event, has_failed}
use Rattle.org_folder.specs.Raw.{OnlyAsks, effects}
use Rattle.org_folder.proofs.Accounting.{asked_modes, asked_synced, listed, listed_own, unfailed}
use Rattle.org_folder.proofs.system.calls_system.CallsSystemSystem.list.Goals as goal

pub invariant_of-self : goal.invariant_of-self
invariant_of-self g c =
    let self = c.args.self.now in
    let old = g.C.Calls.made self.calls in
    let new = g.C.Calls.made c.list.new.self in
    let asks : OnlyAsks old new = ap effects c.list.ensures in
    let names = map string_bytes c.deref.result.now in
    record {
      failing = λ none. subst (λ (es : List Event). IsFalse (has_failed es)) (sym c.note_entries.ensures) (unfailed names self.log.events (self.failing none));
      accounts = listed c.args.folder.now names self.log.events c.note_entries.new.log.events old new c.note_entries.ensures asks self.accounts;
      modes = asked_modes old new asks self.modes;
      folders = listed_own c.args.folder.now names self.log.events c.note_entries.new.log.events c.note_entries.ensures self.folders;
      are_synced = asked_synced (map string_bytes self.synced.keys) old new asks self.are_synced;
    }
