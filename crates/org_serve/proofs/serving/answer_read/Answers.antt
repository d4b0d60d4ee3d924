use Rattle.std.proofs.Common.{◌∙◌, Ok, Err, sym, ap, subst}
use Rattle.org_serve.specs.Replies.{answer_text, fault_text}
use Rattle.org_serve.specs.Serving.{ReadLeadsTo, behind, stores_while_honest}
use Rattle.org_serve.proofs.Joins.{leads_run, leads_unread, then_leads}
use Rattle.org_serve.proofs.serving.answer_read.Goals as goal

pub returns-in-Ok-clause-step : goal.returns-in-Ok-clause-step
returns-in-Ok-clause-step g c =
    let e = c.run-answer.ensures in
    let m = stores_while_honest g.D.Disk in
    let group = c.args.group in
    let old = c.args.store.now in
    let new = c.run-answer.new.self in
    let answer = c.run-answer.result in
    let text = answer_text answer old.session.acknowledged new.session.acknowledged in
    let next = c.behind-next.ensures ∙ ap (behind group) c.is_ok.ensures.value in
    let leads = subst (λ n. ReadLeadsTo group n m old (Ok c.in-Ok.command) text new) (sym next)
    (leads_run group m old c.in-Ok.command answer new (record { before = e.accounts.was_honest; did = e.did })) in
    let reported = then_leads g.W.Sink group c.behind-next.result m old (Ok c.in-Ok.command) text new c.args.writer.now c.write_answer.new.writer c.write_answer.result _ c.and.ensures leads
    (rw (c.acknowledged-before.ensures, c.acknowledged.ensures) at c.write_answer.ensures) in
    rw c.in-Ok.is (text, reported.0, reported.1)

pub returns-in-Err-clause-step : goal.returns-in-Err-clause-step
returns-in-Err-clause-step g c =
    let m = stores_while_honest g.D.Disk in
    let group = c.args.group in
    let old = c.args.store.now in
    let fault = c.in-Err.fault in
    let leads = subst (λ n. ReadLeadsTo group n m old (Err fault) (fault_text fault) old) (sym c.behind.ensures) (leads_unread group m old fault) in
    let reported = then_leads g.W.Sink group c.behind.result m old (Err fault) (fault_text fault) old c.args.writer.now c.write_unread.new.writer c.write_unread.result _ c.and-in-Err.ensures leads
    c.write_unread.ensures in
    rw c.in-Err.is (fault_text fault, reported.0, reported.1)
