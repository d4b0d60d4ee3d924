use Rattle.std.proofs.Common.{◌≡◌, ℕ, List, ap, sym, ◌∙◌}
use Rattle.org_disk.specs.Disk.{FileState}
use Rattle.org_disk.proofs.Accounting.{accounts_call, accounts_call_ok, accounts_then, looks_behind, looks_then}
use Rattle.org_journal.proofs.Accounted.{accounts_failed, accounts_fine_test}
use Rattle.org_journal.specs.Recovered.{contents}
use Rattle.org_fileset.proofs.Confirming.{text_held}
use Rattle.org_fileset.proofs.commit.confirm_all.Goals as goal

pub confirm-requires : goal.confirm-requires
confirm-requires g c honest =
    let sofar = c.loop-index.invariant in
    let files = g.D.Disk.files c.args.disk.now in
    ap (λ (f : List ℕ → FileState). (f c.pair.result.0.now).content) (sofar.looks honest).same
    ∙ text_held (g.C.Changes.pairs c.args.changes.now) (contents files) c.loop-index.index _ (c.requires (sofar.accounts.was_honest honest)) c.pair.ensures ∙ sym c.bytes.ensures.bytes

pub loop-index-preserved : goal.loop-index-preserved
loop-index-preserved g c =
    let sofar = c.loop-index.invariant in
    record {
      looks = λ ended. looks_then (sofar.looks (c.confirm.ensures.accounts.was_honest ended)) (c.confirm.ensures.looks ended);
      accounts = accounts_then sofar.accounts (accounts_call_ok c.in_ok-confirm.ensures.accounts);
    }

pub returns-in_err-confirm-clause-looks : goal.returns-in_err-confirm-clause-looks
returns-in_err-confirm-clause-looks g c = looks_behind c.loop-index.invariant.looks c.confirm.ensures.accounts.was_honest c.confirm.ensures.looks

pub returns-in_err-confirm-clause-accounts : goal.returns-in_err-confirm-clause-accounts
returns-in_err-confirm-clause-accounts g c = accounts_then c.loop-index.invariant.accounts (accounts_failed c.from_residual.ensures.0 (accounts_call _ c.in_err-confirm.ensures.accounts))
