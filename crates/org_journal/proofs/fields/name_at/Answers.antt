use Rattle.std.proofs.Common.{sym}
use Rattle.org_journal.proofs.Texts.{no_count, no_name, name_is, name_isnt, no_text}
use Rattle.org_journal.proofs.fields.name_at.Goals as goal
use Rattle.org_journal.proofs.fields.name_at.Goals.{in_default-via-in-Ok+else-accepts, in_default-via-in_default}

pub returns-in_err-count-clause-reads : goal.returns-in_err-count-clause-reads
returns-in_err-count-clause-reads c = rw c.from_residual.ensures (no_count c.args.bytes.now c.in_err-count.ensures)

pub returns-in_err-name-clause-reads : goal.returns-in_err-name-clause-reads
returns-in_err-name-clause-reads c =
    rw c.from_residual-in_err-name.ensures (no_name c.args.bytes.now c.in_ok-count.count c.in_ok-count.rest.now c.in_ok-count.ensures (rw c.from.ensures at c.in_err-name.ensures))

pub returns-in-Ok-clause-reads : goal.returns-in-Ok-clause-reads
returns-in-Ok-clause-reads c =
    let same = c.in-Ok.ensures.cases.0 in
    rw same (name_is c.args.bytes.now c.in_ok-count.count c.in_ok-count.rest.now c.in_ok-count.ensures c.in_ok-name.name.now c.in_ok-name.rest.now (rw c.from.ensures at c.in_ok-name.ensures)
    c.in-Ok.ensures.cases.1 (sym (rw same at c.if-accepts.ensures)))

pub returns-in_default-clause-reads : goal.returns-in_default-clause-reads
returns-in_default-clause-reads c =
    let taken = rw c.from.ensures at c.in_ok-name.ensures in
    elim c.in_default.branch [
      | in_default-via-in-Ok+else-accepts w ↦ name_isnt c.args.bytes.now c.in_ok-count.count c.in_ok-count.rest.now c.in_ok-count.ensures c.in_ok-name.name.now c.in_ok-name.rest.now taken
          (sym (rw w.in-Ok.ensures.cases.0 at w.if-accepts.ensures))
      | in_default-via-in_default w ↦ no_text c.args.bytes.now c.in_ok-count.count c.in_ok-count.rest.now c.in_ok-count.ensures c.in_ok-name.name.now c.in_ok-name.rest.now taken w.in_default.ensures.cases.0
    ]
