use Rattle.std.proofs.Common.{length, refl, sym, ◌∙◌, ap, subst, arith}
use Rattle.std.proofs.lemmas.Option.{slice_get_read}
use Rattle.org_disk.specs.Disk.{FileState}
use Rattle.org_splice.specs.Patches.{Fit}
use Rattle.org_splice.specs.Texts.{pairs_of}
use Rattle.org_journal.specs.Recovered.{contents, made_by, replayed}
use Rattle.org_fileset.proofs.Going.{goes_none, calls_on, goes_on}
use Rattle.org_fileset.proofs.Takes.{applicable_at}
use Rattle.org_fileset.proofs.Recovers.{replayed-entry, replayed-other}
use Rattle.org_fileset.proofs.Replaying.{texts_more, untouched_more, all_texts}
use Rattle.org_disk.proofs.Accounting.{accounts_ok, accounts_then}
use Rattle.org_journal.proofs.Accounted.{accounts_failed, accounts_fine_test}
use Rattle.org_fileset.proofs.apply.apply_all.Goals as goal

pub loop-index-init : goal.loop-index-init
loop-index-init g c = record {
  goes = goes_none g.D.Disk c.args.entries.now c.args.disk.now;
  have = λ honest j entry none is. absurd (omega arith);
  untouched = λ honest j entry le is. refl;
}

pub apply_entry-requires : goal.apply_entry-requires
apply_entry-requires g c h =
    let sofar = c.loop-index.invariant in
    let can = c.requires (sofar.goes.accounts.was_honest h) in
    let i = c.loop-index.index in
    let entry = c.index-entries-index.result in
    let is = slice_get_read c.args.entries.now (length c.args.entries.now) i entry refl c.loop-index-test.true c.index-entries-index.is in
    let own = applicable_at c.args.entries.now i entry can.applicable.each is in
    let applies = replayed-entry c.args.entries.now (contents (g.D.Disk.files c.args.disk.now)) i entry can.applicable can.fits is in
    record {
      formed = own.patches;
      small = omega (arith, own.small);
      fits = subst (λ (f : FileState). Fit (pairs_of entry.patches) entry.length (length f.content)) (sym (sofar.untouched h i entry (omega arith) is)) applies.fit;
    }

pub returns-in_err-apply_entry-clause-replays : goal.returns-in_err-apply_entry-clause-replays
returns-in_err-apply_entry-clause-replays g c =
    let is = slice_get_read c.args.entries.now (length c.args.entries.now) c.loop-index.index c.index-entries-index.result refl c.loop-index-test.true c.index-entries-index.is in
    (calls_on g.D.Disk c.args.entries.now _ is (λ h. (c.requires h).applicable) c.loop-index.invariant.goes c.apply_entry.new.disk c.apply_entry.ensures.accounts.was_honest c.apply_entry.ensures.applies c.apply_entry.ensures.alone).replays

pub returns-in_err-apply_entry-clause-alone : goal.returns-in_err-apply_entry-clause-alone
returns-in_err-apply_entry-clause-alone g c =
    let is = slice_get_read c.args.entries.now (length c.args.entries.now) c.loop-index.index c.index-entries-index.result refl c.loop-index-test.true c.index-entries-index.is in
    (calls_on g.D.Disk c.args.entries.now _ is (λ h. (c.requires h).applicable) c.loop-index.invariant.goes c.apply_entry.new.disk c.apply_entry.ensures.accounts.was_honest c.apply_entry.ensures.applies c.apply_entry.ensures.alone).alone

pub returns-in_err-apply_entry-clause-accounts : goal.returns-in_err-apply_entry-clause-accounts
returns-in_err-apply_entry-clause-accounts g c = accounts_then c.loop-index.invariant.goes.accounts (accounts_failed c.from_residual.ensures.0 c.in_err-apply_entry.ensures.accounts)

pub loop-index-preserved : goal.loop-index-preserved
loop-index-preserved g c =
    let sofar = c.loop-index.invariant in
    let i = c.loop-index.index in
    let entry = c.index-entries-index.result in
    let is = slice_get_read c.args.entries.now (length c.args.entries.now) i entry refl c.loop-index-test.true c.index-entries-index.is in
    let old = g.D.Disk.files c.args.disk.now in
    let mid = g.D.Disk.files c.loop-index.disk in
    let back = c.apply_entry.ensures.accounts.was_honest in
    record {
      goes = goes_on g.D.Disk c.args.entries.now _ is (λ h. (c.requires h).applicable) sofar.goes c.apply_entry.new.disk (accounts_ok c.in_ok-apply_entry.ensures.accounts) c.apply_entry.ensures.applies c.apply_entry.ensures.alone;
      have = λ ended.
          let can = c.requires (sofar.goes.accounts.was_honest (back ended)) in
          let applies = replayed-entry c.args.entries.now (contents old) i entry can.applicable can.fits is in
          texts_more c.args.entries.now (replayed c.args.entries.now (contents old)) i entry mid (g.D.Disk.files c.apply_entry.new.disk) is
          (c.in_ok-apply_entry.ensures.content ended ∙ ap (λ (f : FileState). made_by entry f.content) (sofar.untouched (back ended) i entry (omega arith) is) ∙ applies.makes)
          (c.apply_entry.ensures.alone ended).same (sofar.have (back ended));
      untouched = λ ended.
          untouched_more c.args.entries.now i entry old mid (g.D.Disk.files c.apply_entry.new.disk) (c.requires (sofar.goes.accounts.was_honest (back ended))).applicable is (c.apply_entry.ensures.alone ended).same (sofar.untouched (back ended));
    }

pub returns : goal.returns
returns g c = record {
  replays = c.loop-index.invariant.goes.calls.replays;
  contents = λ ended name.
      let sofar = c.loop-index.invariant in
      let old = g.D.Disk.files c.args.disk.now in
      all_texts c.args.entries.now (replayed c.args.entries.now (contents old)) c.loop-index.index old (g.D.Disk.files c.loop-index.disk) name c.loop-index-test.false (sofar.have ended)
      (sofar.goes.calls.alone ended).same (λ none. replayed-other c.args.entries.now (contents old) name (c.requires (sofar.goes.accounts.was_honest ended)).fits none);
  alone = c.loop-index.invariant.goes.calls.alone;
  accounts = accounts_fine_test c.loop-index.invariant.goes.accounts;
}
