use Rattle.std.proofs.Common.{◌≡◌, ◌∙◌, ap, IsErr, IsTrue, is_ok, rules, subst, sym, true, false, List, ℕ}
use Rattle.org_disk.specs.Disk.{sync}
use Rattle.org_folder.specs.Calls.{HasEntered}
use Rattle.org_folder.proofs.Recorded.{does_not_come, looks_does}
use Rattle.org_folder.proofs.Since.{counts_lost, counts_then, enters_absent, enters_count, enters_done, enters_entered, enters_held, enters_look, on_ok}
use Rattle.org_folder.proofs.folder.sync_opened.Goals as goal

pub returns-in_err-sync_entry-clause-synced : goal.returns-in_err-sync_entry-clause-synced
returns-in_err-sync_entry-clause-synced g c = λ right.
    let name = c.args.opened.now.name in
    let old = g.S.System.history c.args.system.now in
    let new = g.S.System.history c.sync_entry.new.self in
    let failed : IsErr c.from_residual.result = search rules in
    does_not_come g.S.System.world sync name old new c.from_residual.result failed (enters_look g.S.System.world name (is_ok c.sync_entry.result) old new c.sync_entry.ensures.entered right)

pub returns-in_err-sync_entry-clause-failures : goal.returns-in_err-sync_entry-clause-failures
returns-in_err-sync_entry-clause-failures g c =
    let name = c.args.opened.now.name in
    let old = g.S.System.history c.args.system.now in
    let new = g.S.System.history c.sync_entry.new.self in
    let failed : IsErr c.from_residual.result = search rules in
    counts_lost c.from_residual.result c.sync_entry.result old new failed (ap is_ok c.in_err-sync_entry.was) (enters_count name (is_ok c.sync_entry.result) old new c.sync_entry.ensures.entered)

pub returns-in_err-sync_entry-clause-others : goal.returns-in_err-sync_entry-clause-others
returns-in_err-sync_entry-clause-others g c =
    enters_entered c.args.opened.now.name (is_ok c.sync_entry.result) (g.S.System.history c.args.system.now) (g.S.System.history c.sync_entry.new.self) c.sync_entry.ensures.entered

pub returns-in_err-sync_entry-clause-absent : goal.returns-in_err-sync_entry-clause-absent
returns-in_err-sync_entry-clause-absent g c =
    enters_absent c.args.opened.now.name (is_ok c.sync_entry.result) (g.S.System.history c.args.system.now) (g.S.System.history c.sync_entry.new.self) c.sync_entry.ensures.entered

pub returns-in_err-sync_entry-clause-held : goal.returns-in_err-sync_entry-clause-held
returns-in_err-sync_entry-clause-held g c =
    enters_held c.args.opened.now.name (is_ok c.sync_entry.result) (g.S.System.history c.args.system.now) (g.S.System.history c.sync_entry.new.self) c.sync_entry.ensures.entered

pub sync_entered-requires-2-clause-named : goal.sync_entered-requires-2-clause-named
sync_entered-requires-2-clause-named g c =
    let name = c.args.opened.now.name in
    let old = g.S.System.history c.args.system.now in
    let new = g.S.System.history c.sync_entry.new.self in
    subst (λ (n : List ℕ). HasEntered n new) (sym c.sync_entry.ensures.name) (enters_done name (is_ok c.sync_entry.result) old new c.sync_entry.ensures.entered (ap is_ok c.in_ok-sync_entry.was))

pub returns-clause-synced : goal.returns-clause-synced
returns-clause-synced g c = λ right.
    let name = c.args.opened.now.name in
    let old = g.S.System.history c.args.system.now in
    let mid = g.S.System.history c.sync_entry.new.self in
    let new = g.S.System.history c.sync_entered-2.new.system in
    let last = rw c.sync_entry.ensures.name at (c.sync_entered-2.ensures.synced right) in
    let first = enters_look g.S.System.world name (is_ok c.sync_entry.result) old mid c.sync_entry.ensures.entered last.0 in
    (first.0, looks_does g.S.System.world sync name old mid new c.sync_entered-2.result first.1 last.1)

pub returns-clause-failures : goal.returns-clause-failures
returns-clause-failures g c =
    let name = c.args.opened.now.name in
    let old = g.S.System.history c.args.system.now in
    let mid = g.S.System.history c.sync_entry.new.self in
    counts_then c.sync_entered-2.result c.sync_entry.result old mid (g.S.System.history c.sync_entered-2.new.system) (ap is_ok c.in_ok-sync_entry.was)
    (enters_count name (is_ok c.sync_entry.result) old mid c.sync_entry.ensures.entered) c.sync_entered-2.ensures.failures

pub returns-clause-others : goal.returns-clause-others
returns-clause-others g c = λ name is.
    c.sync_entered-2.ensures.others name
    (enters_entered c.args.opened.now.name (is_ok c.sync_entry.result) (g.S.System.history c.args.system.now) (g.S.System.history c.sync_entry.new.self) c.sync_entry.ensures.entered name is)

pub returns-clause-absent : goal.returns-clause-absent
returns-clause-absent g c = λ name is.
    c.sync_entered-2.ensures.absent name
    (enters_absent c.args.opened.now.name (is_ok c.sync_entry.result) (g.S.System.history c.args.system.now) (g.S.System.history c.sync_entry.new.self) c.sync_entry.ensures.entered name is)

pub returns-clause-held : goal.returns-clause-held
returns-clause-held g c = λ is.
    c.sync_entered-2.ensures.held
    (enters_held c.args.opened.now.name (is_ok c.sync_entry.result) (g.S.System.history c.args.system.now) (g.S.System.history c.sync_entry.new.self) c.sync_entry.ensures.entered is)
