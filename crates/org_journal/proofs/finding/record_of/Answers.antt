use Rattle.std.proofs.Common.{◌∙◌}
use Rattle.org_journal.proofs.Fitting.{end_here, journal_of_body}
use Rattle.org_journal.proofs.finding.record_of.Goals as goal

pub returns-in-Ok-clause-found : goal.returns-in-Ok-clause-found
returns-in-Ok-clause-found g c ended =
    let before = c.body_of.ensures.accounts.was_honest ended in
    let journal = (g.D.Disk.files c.args.disk.now c.args.journal.now).content in
    let held = c.requires.within before in (
      journal_of_body journal c.deref.result.now c.args.size held (c.deref.ensures.value ∙ c.in_ok-body.ensures.bytes ended) ∙ c.in-Ok.ensures.exact,
      end_here journal c.deref-in-Ok.result.now c.args.size c.end_of.result held (c.deref-in-Ok.ensures.value ∙ c.in_ok-body.ensures.bytes ended) c.end_of.ensures.value,
    )

pub returns-in-Err-Refused-clause-found : goal.returns-in-Err-Refused-clause-found
returns-in-Err-Refused-clause-found g c ended =
    let before = c.body_of.ensures.accounts.was_honest ended in
    journal_of_body (g.D.Disk.files c.args.disk.now c.args.journal.now).content c.deref.result.now c.args.size (c.requires.within before) (c.deref.ensures.value ∙ c.in_ok-body.ensures.bytes ended) ∙ (rw c.in-Err-Refused.field-0-is at c.in-Err-Refused.ensures.exact)
