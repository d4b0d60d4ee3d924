use Rattle.org_serve.proofs.replies.write_reply.Goals as goal

pub returns-in-Done : goal.returns-in-Done
returns-in-Done g c = rw c.in-Done.is c.write_done.ensures

pub returns-in-Safe : goal.returns-in-Safe
returns-in-Safe g c = rw c.in-Safe.is c.write_safe.ensures

pub returns-in-Text : goal.returns-in-Text
returns-in-Text g c = rw (c.in-Text.is, ← c.as_slice.ensures) c.write_text.ensures

pub returns-in-Time : goal.returns-in-Time
returns-in-Time g c = rw c.in-Time.is c.write_time.ensures
