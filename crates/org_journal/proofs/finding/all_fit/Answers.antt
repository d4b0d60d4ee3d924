use Rattle.std.proofs.Common.{◌≡◌, Bool, List, ℕ, ap, sym, subst, ◌∙◌, ◌+◌, length, drop, true, false}
use Rattle.std.specs.Prelude.{◌&&◌}
use Rattle.org_disk.specs.Disk.{FileState}
use Rattle.org_disk.proofs.Accounting.{accounts_call, accounts_call_ok, accounts_then, looks_behind, looks_then}
use Rattle.org_journal.proofs.Accounted.{accounts_failed, accounts_fine_test}
use Rattle.org_journal.specs.declared.record.Entry.{Entry}
use Rattle.org_splice.specs.declared.patch.Patch.{Patch}
use Rattle.org_splice.specs.Patches.{AreWellFormed}
use Rattle.org_splice.specs.Texts.{pairs_of}
use Rattle.org_journal.specs.Recovered.{contents, fits, all_fit}
use Rattle.org_journal.proofs.Fitting.{patches_first, all_first}
use Rattle.org_journal.proofs.finding.all_fit.Goals as goal

-- the test of an entry is that of its file's length
test_is : (entry : Entry) (patches : List Patch) (size long : ℕ) (answer is : Bool) → size ≡ long → patches ≡ entry.patches → answer ≡ fits (pairs_of patches) entry.length size → answer ≡ is → fits (pairs_of entry.patches) entry.length long ≡ is
test_is entry patches size long answer is same own says was =
    ap (fits (pairs_of entry.patches) entry.length) (sym same) ∙ ap (λ (p : List Patch). fits (pairs_of p) entry.length size) (sym own) ∙ sym says ∙ was

pub loop-entry-preserved : goal.loop-entry-preserved
loop-entry-preserved g c =
    let so_far = c.loop-entry.invariant in
    let call = c.length.ensures in
    let entries = c.args.entries.now in
    let entry = c.entry-item.result in
    let i = c.loop-entry.entry-index in
    let image = contents (g.D.Disk.files c.args.disk.now) in
    record {
      formed = (patches_first entries i entry c.loop-entry-test.true c.entry-item.is so_far.formed).1;
      accounts = accounts_then so_far.accounts (accounts_call_ok c.in_ok-size.ensures.accounts);
      looks = λ ended. looks_then (so_far.looks (call.accounts.was_honest ended)) (call.looks ended);
      fit = λ ended.
          let size : c.in_ok-size.size ≡ length (image entry.name) = c.in_ok-size.ensures.value ended ∙ ap (λ (f : List ℕ → FileState). length (f entry.name).content) (so_far.looks (call.accounts.was_honest ended)).same in
          let test = test_is entry _ c.in_ok-size.size (length (image entry.name)) c.fits.result true size c.as_slice.ensures c.fits.ensures c.if-not-fits.false in
          sym (all_first entries i entry image c.loop-entry-test.true c.entry-item.is ∙ ap (λ (b : Bool). b && all_fit (drop (i + 1) entries) image) test) ∙ so_far.fit (call.accounts.was_honest ended);
    }

pub returns-in_err-size-clause-looks : goal.returns-in_err-size-clause-looks
returns-in_err-size-clause-looks g c = looks_behind c.loop-entry.invariant.looks c.length.ensures.accounts.was_honest c.length.ensures.looks

pub returns-in_err-size-clause-accounts : goal.returns-in_err-size-clause-accounts
returns-in_err-size-clause-accounts g c =
    accounts_then c.loop-entry.invariant.accounts (accounts_failed c.from_residual.ensures.0 (accounts_call _ c.in_err-size.ensures.accounts))

pub returns-then-not-fits-clause-looks : goal.returns-then-not-fits-clause-looks
returns-then-not-fits-clause-looks g c = looks_behind c.loop-entry.invariant.looks c.length.ensures.accounts.was_honest c.length.ensures.looks

pub returns-then-not-fits-clause-accounts : goal.returns-then-not-fits-clause-accounts
returns-then-not-fits-clause-accounts g c =
    accounts_fine_test (accounts_then c.loop-entry.invariant.accounts (accounts_call_ok c.in_ok-size.ensures.accounts))

pub returns-clause-accounts : goal.returns-clause-accounts
returns-clause-accounts g c = accounts_fine_test c.loop-entry.invariant.accounts

pub fits-requires : goal.fits-requires
fits-requires g c = subst (λ (p : List Patch). AreWellFormed (pairs_of p) c.entry-item.result.length) (sym c.as_slice.ensures)
    (patches_first c.args.entries.now c.loop-entry.entry-index c.entry-item.result c.loop-entry-test.true c.entry-item.is c.loop-entry.invariant.formed).0

pub returns-then-not-fits-clause-fit : goal.returns-then-not-fits-clause-fit
returns-then-not-fits-clause-fit g c ended =
    let before = c.length.ensures.accounts.was_honest ended in
    let entries = c.args.entries.now in
    let entry = c.entry-item.result in
    let image = contents (g.D.Disk.files c.args.disk.now) in
    let size : c.in_ok-size.size ≡ length (image entry.name) = c.in_ok-size.ensures.value ended ∙ ap (λ (f : List ℕ → FileState). length (f entry.name).content) (c.loop-entry.invariant.looks before).same in
    let test = test_is entry _ c.in_ok-size.size (length (image entry.name)) c.fits.result false size c.as_slice.ensures c.fits.ensures c.if-not-fits.true in
    sym (sym (c.loop-entry.invariant.fit before) ∙ all_first entries c.loop-entry.entry-index entry image c.loop-entry-test.true c.entry-item.is ∙ ap (λ (b : Bool). b && all_fit (drop (c.loop-entry.entry-index + 1) entries) image) test)
