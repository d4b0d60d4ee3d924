use Rattle.std.proofs.Common.{ap, inr, is_ok, map, refl, string_bytes, sym, ◌∙◌}
use Rattle.org_folder.proofs.Accounting.{is_synced_in, sync_keeps, synced_now}
use Rattle.org_folder.proofs.system.calls_system.put_entry.Goals as goal

pub returns-then-contains-clause-puts : goal.returns-then-contains-clause-puts
returns-then-contains-clause-puts g c =
    inr (refl, is_synced_in c.args.synced.now.keys c.args.folder.now (g.C.Calls.made c.args.calls.now) (sym c.contains.ensures ∙ c.if-contains.true) c.requires)

pub returns-in_err-answered-clause-synced : goal.returns-in_err-answered-clause-synced
returns-in_err-answered-clause-synced g c =
    sync_keeps (map string_bytes c.args.synced.now.keys) c.args.folder.now (is_ok c.sync_folder.result) (g.C.Calls.made c.args.calls.now) (g.C.Calls.made c.sync_folder.new.calls) c.sync_folder.ensures c.requires

pub returns-clause-synced : goal.returns-clause-synced
returns-clause-synced g c =
    let old = g.C.Calls.made c.args.calls.now in
    let new = g.C.Calls.made c.sync_folder.new.calls in
    let ok = is_ok c.sync_folder.result in
    c.put.ensures new
    (synced_now c.args.folder.now ok old new (sym c.answered.ensures.ok ∙ ap is_ok c.in_ok-answered.was) c.sync_folder.ensures)
    (sync_keeps (map string_bytes c.args.synced.now.keys) c.args.folder.now ok old new c.sync_folder.ensures c.requires)
