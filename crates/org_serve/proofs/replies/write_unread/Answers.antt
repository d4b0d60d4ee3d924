use Rattle.std.proofs.Common.{◌≡◌, refl}
use Rattle.org_serve.specs.Replies.{fault_text}
use Rattle.org_serve.specs.Writes.{Writes}
use Rattle.org_serve.proofs.Joins.{then_flushed, passed_on}
use Rattle.org_serve.proofs.replies.write_unread.Goals as goal
use Rattle.org_serve.proofs.replies.write_unread.Goals.{in-Refused, in-OutOfMemory}

pub returns-in_err-write : goal.returns-in_err-write
returns-in_err-write g c =
    let line : c.match-fault.line.now ≡ fault_text c.args.fault = elim c.match-fault.branch [ in-Refused w ↦ rw (w.line-is, w.in-Refused.is) refl | in-OutOfMemory w ↦ rw (w.line-is, w.in-OutOfMemory.is) refl ] in
    let wrote : Writes g.W.Sink c.args.writer.now c.write.new.self c.write.result (fault_text c.args.fault) =
    rw (← line) record { ok = c.write.ensures.bytes; part = c.write.ensures.part; same = c.write.ensures.ok; counted = c.write.ensures.err } in
    passed_on g.W.Sink c.from_residual.result c.in_err-write.was c.from_residual.ensures.0 wrote

pub returns : goal.returns
returns g c =
    let line : c.match-fault.line.now ≡ fault_text c.args.fault = elim c.match-fault.branch [ in-Refused w ↦ rw (w.line-is, w.in-Refused.is) refl | in-OutOfMemory w ↦ rw (w.line-is, w.in-OutOfMemory.is) refl ] in
    let wrote : Writes g.W.Sink c.args.writer.now c.write.new.self c.write.result (fault_text c.args.fault) =
    rw (← line) record { ok = c.write.ensures.bytes; part = c.write.ensures.part; same = c.write.ensures.ok; counted = c.write.ensures.err } in
    then_flushed g.W.Sink c.flush.result c.in_ok-write.was wrote c.flush.ensures.bytes c.flush.ensures.ok c.flush.ensures.err
