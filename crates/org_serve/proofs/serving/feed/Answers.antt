use Rattle.std.proofs.Common.{◌∙◌, arith, ℕ, length, subst}
use Rattle.org_disk.specs.Disk.{IsCounted}
use Rattle.std.proofs.lemmas.Result.{err_from_is_err_and}
use Rattle.org_serve.proofs.Breaking.{untouched_then, breaks_then}
use Rattle.org_serve.proofs.Feeding.{Fed-step, Fed-err, Fed-stop, Fed-end, less_left}
use Rattle.org_serve.proofs.Joins.{on_err, passed_never}
use Rattle.org_serve.proofs.serving.feed.Goals as goal

pub returns-in_err-answer-clause-fed : goal.returns-in_err-answer-clause-fed
returns-in_err-answer-clause-fed g c = λ part free stands.
    let p = err_from_is_err_and c.from_residual.result c.from_residual.ensures.1 in
    let f = c.loop-line.invariant.0 part free stands in
    let s = c.in_err-answer.ensures.answers.step f.part f.stands in
    rw p.1 (Fed-err f c.in-Some.line.now c.in-Some.more.now c.in-Some.ensures.whole c.in-Some.ensures.free c.answer.new.store (g.W.Sink.written c.answer.new.writer) s.0 s.1 s.2.part)

pub loop-line-preserved : goal.loop-line-preserved
loop-line-preserved g c = (
  λ part free stands.
      Fed-step (c.loop-line.invariant.0 part free stands) c.in-Some.line.now c.in-Some.more.now c.in-Some.ensures.whole c.in-Some.ensures.free
      c.answer.new.store (g.W.Sink.written c.answer.new.writer) c.answer.new.pending
      (λ had stood. let s = (rw c.in-Line.is at c.in_ok-answer.ensures.answers).step had stood in (s.0, s.1, s.2.ok)) c.in_ok-answer.ensures.cleared,
  untouched_then c.loop-line.invariant.1 c.in_ok-answer.ensures.answers.untouched,
  breaks_then c.loop-line.invariant.1 c.in_ok-answer.ensures.answers.untouched c.loop-line.invariant.2 c.in_ok-answer.ensures.answers.accounts,
  c.in_ok-answer.ensures.answers.counts.same ∙ c.loop-line.invariant.3,
  omega (arith, c.loop-line.invariant.4, less_left _ _ _ c.in-Some.ensures.whole),
)

pub returns-in-Stop-clause-fed : goal.returns-in-Stop-clause-fed
returns-in-Stop-clause-fed g c = λ part free stands.
    let f = c.loop-line.invariant.0 part free stands in
    let s = (rw c.in-Stop.is at c.in_ok-answer.ensures.answers).step f.part f.stands in
    Fed-stop f c.in-Some.line.now c.in-Some.more.now c.in-Some.ensures.whole c.in-Some.ensures.free c.answer.new.store (g.W.Sink.written c.answer.new.writer) s.0 (length c.args.piece.now) s.1 s.2.ok c.loop-line.invariant.4

pub returns-in-Stop-clause-untouched : goal.returns-in-Stop-clause-untouched
returns-in-Stop-clause-untouched g c = untouched_then c.loop-line.invariant.1 c.in_ok-answer.ensures.answers.untouched

pub returns-in-Stop-clause-accounts : goal.returns-in-Stop-clause-accounts
returns-in-Stop-clause-accounts g c = breaks_then c.loop-line.invariant.1 c.in_ok-answer.ensures.answers.untouched c.loop-line.invariant.2 c.in_ok-answer.ensures.answers.accounts

pub returns-in-Stop-clause-counts : goal.returns-in-Stop-clause-counts
returns-in-Stop-clause-counts g c = record { same = c.in_ok-answer.ensures.answers.counts.same ∙ c.loop-line.invariant.3; counted = tt }

pub returns-clause-fed : goal.returns-clause-fed
returns-clause-fed g c = λ part free stands.
    Fed-end (c.loop-line.invariant.0 part free stands) c.in_default.ensures.free c.add.new.self c.add.ensures

pub returns-in_err-answer-clause-untouched : goal.returns-in_err-answer-clause-untouched
returns-in_err-answer-clause-untouched g c = untouched_then c.loop-line.invariant.1 c.in_err-answer.ensures.answers.untouched

pub returns-in_err-answer-clause-accounts : goal.returns-in_err-answer-clause-accounts
returns-in_err-answer-clause-accounts g c = breaks_then c.loop-line.invariant.1 c.in_err-answer.ensures.answers.untouched c.loop-line.invariant.2 c.in_err-answer.ensures.answers.accounts

pub returns-clause-untouched : goal.returns-clause-untouched
returns-clause-untouched g c = c.loop-line.invariant.1

pub returns-clause-accounts : goal.returns-clause-accounts
returns-clause-accounts g c = c.loop-line.invariant.2

pub returns-in_err-answer-clause-counts : goal.returns-in_err-answer-clause-counts
returns-in_err-answer-clause-counts g c = record {
  same = passed_never _ _ c.from_residual.result c.from_residual.ensures.1;
  counted = on_err c.from_residual.result (subst (λ (n : ℕ). IsCounted n (g.W.Sink.failures c.answer.new.writer)) c.loop-line.invariant.3 c.in_err-answer.ensures.answers.counts.counted);
}

pub returns-clause-counts : goal.returns-clause-counts
returns-clause-counts g c = record { same = c.loop-line.invariant.3; counted = tt }

pub loop-line-smaller : goal.loop-line-smaller
loop-line-smaller g c = less_left _ _ _ c.in-Some.ensures.whole
