use Rattle.std.proofs.Common.{inl, inr, ℕ, List, length, refl, sym, ◌∙◌, ap, arith}
use Rattle.std.proofs.lemmas.Option.{slice_get_read}
use Rattle.org_disk.specs.Disk.{FileState}
use Rattle.org_disk.proofs.Accounting.{accounts_call, accounts_call_ok, accounts_then}
use Rattle.org_disk.proofs.Images.{is_stable}
use Rattle.org_disk.proofs.Names.{name_cases}
use Rattle.org_journal.proofs.Accounted.{accounts_failed, accounts_fine_test}
use Rattle.org_fileset.proofs.Going.{goes_none, calls_on, goes_on}
use Rattle.org_fileset.proofs.Replaying.{applies_sync, stable_more, all_stable}
use Rattle.org_fileset.proofs.Writes.{alone_called, alone_entry}
use Rattle.org_fileset.proofs.apply.sync_all.Goals as goal

pub loop-entry-init : goal.loop-entry-init
loop-entry-init g c = record {
  goes = goes_none g.D.Disk c.args.entries.now c.args.disk.now;
  contents = λ honest name. refl;
  stable = λ honest j entry none is. absurd (omega arith);
}

pub returns-in_err-sync-clause-replays : goal.returns-in_err-sync-clause-replays
returns-in_err-sync-clause-replays g c =
    let is = slice_get_read c.args.entries.now (length c.args.entries.now) c.loop-entry.entry-index c.entry-item.result refl c.loop-entry-test.true c.entry-item.is in
    (calls_on g.D.Disk c.args.entries.now _ is c.requires c.loop-entry.invariant.goes c.sync.new.self c.sync.ensures.accounts.was_honest
    (λ ended keep to takes. applies_sync c.sync.result takes (g.met.D.Disk.content_is_image c.loop-entry.disk c.entry-item.result.name (c.sync.ensures.accounts.was_honest ended)) (c.sync.ensures.effect ended) (c.sync.ensures.time ended))
    (λ ended. alone_called (c.sync.ensures.effect ended) (c.sync.ensures.time ended))).replays

pub returns-in_err-sync-clause-alone : goal.returns-in_err-sync-clause-alone
returns-in_err-sync-clause-alone g c ended =
    let is = slice_get_read c.args.entries.now (length c.args.entries.now) c.loop-entry.entry-index c.entry-item.result refl c.loop-entry-test.true c.entry-item.is in
    alone_entry g.D.Disk c.args.entries.now c.loop-entry.entry-index c.entry-item.result c.args.disk.now c.loop-entry.disk c.sync.new.self is
    (c.loop-entry.invariant.goes.calls.alone (c.sync.ensures.accounts.was_honest ended)) (alone_called (c.sync.ensures.effect ended) (c.sync.ensures.time ended))

pub returns-in_err-sync-clause-accounts : goal.returns-in_err-sync-clause-accounts
returns-in_err-sync-clause-accounts g c = accounts_then c.loop-entry.invariant.goes.accounts (accounts_failed c.from_residual.ensures.0 (accounts_call _ c.in_err-sync.ensures.accounts))

pub loop-entry-preserved : goal.loop-entry-preserved
loop-entry-preserved g c =
    let entry = c.entry-item.result in
    let mid = g.D.Disk.files c.loop-entry.disk in
    let back = c.sync.ensures.accounts.was_honest in
    let sofar = c.loop-entry.invariant in
    let is = slice_get_read c.args.entries.now (length c.args.entries.now) c.loop-entry.entry-index entry refl c.loop-entry-test.true c.entry-item.is in
    record {
      goes = goes_on g.D.Disk c.args.entries.now _ is c.requires sofar.goes c.sync.new.self (accounts_call_ok c.in_ok-sync.ensures.accounts)
          (λ ended keep to takes. applies_sync c.sync.result takes (g.met.D.Disk.content_is_image c.loop-entry.disk entry.name (back ended)) (c.sync.ensures.effect ended) (c.sync.ensures.time ended))
          (λ ended. alone_called (c.sync.ensures.effect ended) (c.sync.ensures.time ended));
      contents = λ ended name.
          elim (name_cases name entry.name) [
            | inl same ↦ ap (λ (x : List ℕ). (g.D.Disk.files c.sync.new.self x).content) same.0 ∙ ap (λ (f : FileState). f.content) (c.in_ok-sync.ensures.effect ended).ok
                ∙ ap (λ (x : List ℕ). (mid x).content) (sym same.0) ∙ sofar.contents (back ended) name
            | inr other ↦ ap (λ (f : FileState). f.content) ((c.sync.ensures.effect ended).others name other.0) ∙ sofar.contents (back ended) name
          ];
      stable = λ ended.
          stable_more c.args.entries.now c.loop-entry.entry-index entry mid (g.D.Disk.files c.sync.new.self) is (is_stable _ (mid entry.name).content (c.in_ok-sync.ensures.effect ended).ok)
          (c.sync.ensures.effect ended).others (sofar.stable (back ended));
    }

pub returns : goal.returns
returns g c = record {
  replays = c.loop-entry.invariant.goes.calls.replays;
  contents = c.loop-entry.invariant.contents;
  stable = λ ended name before.
      all_stable c.args.entries.now c.loop-entry.entry-index (g.D.Disk.files c.args.disk.now) (g.D.Disk.files c.loop-entry.disk) name c.loop-entry-test.false
      (c.loop-entry.invariant.stable ended) (c.loop-entry.invariant.goes.calls.alone ended).same before;
  alone = c.loop-entry.invariant.goes.calls.alone;
  accounts = accounts_fine_test c.loop-entry.invariant.goes.accounts;
}
