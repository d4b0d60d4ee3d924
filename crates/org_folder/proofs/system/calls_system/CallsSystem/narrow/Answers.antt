use Rattle.std.proofs.Common.{sym, subst, List, ℕ, IsFalse, map, string_bytes}
use Rattle.org_disk.specs.Names.{is_file_name}
use Rattle.org_folder.proofs.Accounting.{called, called_synced, unnamed}
use Rattle.org_folder.proofs.system.calls_system.CallsSystem.narrow.Goals as goal

pub invariant_of-self : goal.invariant_of-self
invariant_of-self g c =
    let self = c.args.self.now in
    let opened = c.args.opened.now in
    let old = g.C.Calls.made self.calls in
    let new = g.C.Calls.made c.narrow.new.calls in
    let journal : IsFalse (is_file_name opened.name) = unnamed (is_file_name opened.name) c.is_journal.result c.is_journal.ensures c.if-is_journal.true in
    let under : IsFalse (is_file_name (string_bytes opened.handle.path)) = subst (λ (p : List ℕ). IsFalse (is_file_name p)) (sym opened.reached) journal in
    record {
      failing = self.failing;
      accounts = called self.log.events old new c.narrow.ensures.called self.accounts;
      modes = c.narrow.ensures.modes under self.modes;
      folders = self.folders;
      are_synced = called_synced (map string_bytes self.synced.keys) old new c.narrow.ensures.called self.are_synced;
    }
