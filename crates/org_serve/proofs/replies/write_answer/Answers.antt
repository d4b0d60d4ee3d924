use Rattle.org_serve.specs.Replies.{answer_text}
use Rattle.org_serve.specs.Writes.{Writes}
use Rattle.org_serve.proofs.Joins.{then_flushed, passed_on}
use Rattle.org_serve.proofs.replies.write_answer.Goals as goal
use Rattle.org_serve.proofs.replies.write_answer.Goals.{in-Ok, in-Err}

pub returns-in_err-write_fault : goal.returns-in_err-write_fault
returns-in_err-write_fault g c =
    let wrote : Writes g.W.Sink c.args.writer.now c.match-answer.writer c.match-answer.branch' (answer_text c.args.answer.now c.args.before c.args.safe) = elim c.match-answer.branch [
      | in-Ok w ↦ rw (w.branch'-is, w.writer-is, w.in-Ok.is) w.write_reply.ensures
      | in-Err w ↦ rw (w.branch'-is, w.writer-is, w.in-Err.is) w.write_fault.ensures
    ] in
    passed_on g.W.Sink c.from_residual.result c.in_err-write_fault.was c.from_residual.ensures.0 wrote

pub returns : goal.returns
returns g c =
    let wrote : Writes g.W.Sink c.args.writer.now c.match-answer.writer c.match-answer.branch' (answer_text c.args.answer.now c.args.before c.args.safe) = elim c.match-answer.branch [
      | in-Ok w ↦ rw (w.branch'-is, w.writer-is, w.in-Ok.is) w.write_reply.ensures
      | in-Err w ↦ rw (w.branch'-is, w.writer-is, w.in-Err.is) w.write_fault.ensures
    ] in
    then_flushed g.W.Sink c.flush.result c.in_ok-write_fault.was wrote c.flush.ensures.bytes c.flush.ensures.ok c.flush.ensures.err
