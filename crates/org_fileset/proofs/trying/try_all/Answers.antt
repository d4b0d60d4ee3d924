use Rattle.std.proofs.Common.{Ok, ◌∙◌}
use Rattle.org_fileset.proofs.Tried.{one_try, tries_failed, tries_then}
use Rattle.org_fileset.proofs.trying.try_all.Goals as goal

pub returns-in_err-write_at-clause-tries : goal.returns-in_err-write_at-clause-tries
returns-in_err-write_at-clause-tries g c ended =
    let old = c.args.disk.now in
    let new = c.write_at.new.self in
    tries_failed g.D.Disk c.args.entries.now old new c.write_at.result c.from_residual.result
    (one_try g.D.Disk c.args.entries.now c.args.journal.now old new (λ n. g.met.D.Disk.content_is_image old n (c.write_at.ensures.accounts.was_honest ended))
    (λ n is same. is.apart (same ∙ c.requires)) c.write_at.result (c.write_at.ensures.effect ended) (c.write_at.ensures.time ended))
    c.from_residual.ensures.0

pub returns-clause-tries : goal.returns-clause-tries
returns-clause-tries g c ended =
    let old = c.args.disk.now in
    let mid = c.write_at.new.self in
    let entries = c.args.entries.now in
    let back = c.try_files.ensures.accounts.was_honest ended in
    tries_then g.D.Disk entries old mid c.try_files.new.disk tt c.try_files.result
    (one_try g.D.Disk entries c.args.journal.now old mid (λ n. g.met.D.Disk.content_is_image old n (c.write_at.ensures.accounts.was_honest back))
    (λ n is same. is.apart (same ∙ c.requires)) (Ok tt) (c.in_ok-write_at.ensures.effect back) (c.write_at.ensures.time back))
    (c.try_files.ensures.tries ended)
