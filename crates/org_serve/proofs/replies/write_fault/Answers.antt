use Rattle.org_serve.proofs.replies.write_fault.Goals as goal

pub returns-in-Refused : goal.returns-in-Refused
returns-in-Refused g c = rw c.in-Refused.is c.write_refusal.ensures

pub returns-in-OutOfMemory : goal.returns-in-OutOfMemory
returns-in-OutOfMemory g c = rw c.in-OutOfMemory.is record { ok = c.write.ensures.bytes; part = c.write.ensures.part; same = c.write.ensures.ok; counted = c.write.ensures.err }

pub returns-in-Device : goal.returns-in-Device
returns-in-Device g c = rw c.in-Device.is record { ok = c.write-in-Device.ensures.bytes; part = c.write-in-Device.ensures.part; same = c.write-in-Device.ensures.ok; counted = c.write-in-Device.ensures.err }

pub returns-in-Broken : goal.returns-in-Broken
returns-in-Broken g c = rw c.in-Broken.is record { ok = c.write-in-Broken.ensures.bytes; part = c.write-in-Broken.ensures.part; same = c.write-in-Broken.ensures.ok; counted = c.write-in-Broken.ensures.err }
