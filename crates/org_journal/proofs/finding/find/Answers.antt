use Rattle.std.proofs.Common.{subst, List, ℕ, ap, sym, ◌∙◌}
use Rattle.std.specs.Prelude.{Err, Ok, Some}
use Rattle.std.proofs.lemmas.Result.{err_from_is_err_and}
use Rattle.org_disk.specs.Disk.{FileState}
use Rattle.org_journal.specs.Recovered.{contents}
use Rattle.org_journal.specs.Finding.{FindsRecord, FindsSize}
use Rattle.org_disk.proofs.Accounting.{looks_then}
use Rattle.org_journal.proofs.Fitting.{bad_size, found_of}
use Rattle.org_journal.proofs.finding.find.Goals as goal

pub returns-in_err-size-clause-found : goal.returns-in_err-size-clause-found
returns-in_err-size-clause-found g c ended =
    let p = err_from_is_err_and c.from_residual.result c.from_residual.ensures.1 in
    let files = g.D.Disk.files c.args.disk.now in
    rw (p.1, p.2) (bad_size (contents files) c.in_err-size.field-0.0 (subst (λ (name : List ℕ). FindsSize (files name).content (Err c.in_err-size.field-0.0)) c.requires (c.in_err-size.ensures.found ended)))
