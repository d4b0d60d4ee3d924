use Rattle.std.proofs.Common.{ℕ, List, false, sym, ◌≡◌, ◌∙◌, subst}
use Rattle.std.proofs.lemmas.Result.{on_ok_weaker}
use Rattle.org_disk.specs.Disk.{IsStable}
use Rattle.org_disk.specs.Names.{journal_name}
use Rattle.org_disk.proofs.Accounting.{accounts_then, accounts_ok}
use Rattle.org_journal.specs.Record.{is_named}
use Rattle.org_journal.proofs.Accounted.{accounts_failed}
use Rattle.org_fileset.proofs.OpenGate.{replays_then, on_ok_never}
use Rattle.org_fileset.proofs.Takes.{journal_unnamed}
use Rattle.org_fileset.proofs.Writes.{alone_then}
use Rattle.org_fileset.proofs.apply.apply_and_sync.Goals as goal

pub returns-in_err-apply_all : goal.returns-in_err-apply_all
returns-in_err-apply_all g c = record {
  replays = c.apply_all.ensures.replays;
  contents = on_ok_never _ c.from_residual.result c.from_residual.ensures.0;
  stable = on_ok_never _ c.from_residual.result c.from_residual.ensures.0;
  alone = c.apply_all.ensures.alone;
  accounts = accounts_failed c.from_residual.ensures.0 c.in_err-apply_all.ensures.accounts;
}

pub returns : goal.returns
returns g c = record {
  replays = λ ended stable keep texts takes.
      let back = c.sync_all.ensures.accounts.was_honest ended in
      let applicable = (c.requires (c.apply_all.ensures.accounts.was_honest back)).applicable in
      let first = c.apply_all.ensures.replays back stable keep texts takes in
      let same = (c.apply_all.ensures.alone back).same journal_name (journal_unnamed c.args.entries.now applicable.each) in
      replays_then applicable first (c.sync_all.ensures.replays ended (subst IsStable (sym same) stable) keep texts first.takes);
  contents = on_ok_weaker c.sync_all.result (λ held ended name. held ended name ∙ c.in_ok-apply_all.ensures.contents (c.sync_all.ensures.accounts.was_honest ended) name) c.sync_all.ensures.contents;
  stable = on_ok_weaker c.sync_all.result
      (λ held ended name before. held ended name
      (λ none. subst IsStable (sym ((c.apply_all.ensures.alone (c.sync_all.ensures.accounts.was_honest ended)).same name none)) (before none)))
      c.sync_all.ensures.stable;
  alone = λ ended. alone_then g.D.Disk (λ name. is_named name c.args.entries.now ≡ false) c.args.disk.now c.apply_all.new.disk c.sync_all.new.disk
      (c.apply_all.ensures.alone (c.sync_all.ensures.accounts.was_honest ended)) (c.sync_all.ensures.alone ended);
  accounts = accounts_then (accounts_ok c.in_ok-apply_all.ensures.accounts) c.sync_all.ensures.accounts;
}
