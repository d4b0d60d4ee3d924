use Rattle.org_test_disks.specs.declared.memory.Effect.TheVariants.{Cut}
use Rattle.org_test_disks.proofs.Calls.{changes_call, passes_call, no_effect}
use Rattle.org_test_disks.proofs.memory.MemoryDiskDisk.cut.Goals as goal

pub returns-clause-effect : goal.returns-clause-effect
returns-clause-effect c = changes_call c.args.name.now (Cut c.args.to) c.args.self.now.calls.items c.call.new.self.calls.items c.call.result c.call.ensures.ok c.call.ensures.err

pub returns-clause-time : goal.returns-clause-time
returns-clause-time c = passes_call c.args.name.now (Cut c.args.to) c.args.self.now.calls.items c.call.new.self.calls.items c.call.result c.call.ensures.ok c.call.ensures.err

pub returns-clause-no_effect : goal.returns-clause-no_effect
returns-clause-no_effect c apart = no_effect c.args.name.now c.args.self.now c.call.new.self c.call.result (c.call.ensures.no_effect apart)
