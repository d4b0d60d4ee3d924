use Rattle.std.proofs.Common.{◌≡◌, List, ℕ, length, subst, inl, ◌∙◌, rules}
use Rattle.org_disk.specs.Disk.{write, Changes, Passes, AreLeftBy}
use Rattle.org_test_disks.specs.Record.{files_after, LeftSince}
use Rattle.org_test_disks.specs.declared.memory.Effect.TheVariants.{Write}
use Rattle.org_test_disks.proofs.Calls.{changes_call, passes_call, changes_out, passes_out, no_effect, failed}
use Rattle.org_test_disks.proofs.memory.MemoryDiskDisk.write_at.Goals as goal

pub returns-in-Ok-clause-effect : goal.returns-in-Ok-clause-effect
returns-in-Ok-clause-effect c =
    let same : c.in-Ok.copy.items ≡ c.args.bytes.now = search rules in
    subst (λ (bytes : List ℕ). Changes (write c.args.from bytes) c.args.name.now (files_after c.args.self.now.calls.items) (files_after c.call.new.self.calls.items) c.call.result) same
    (changes_call c.args.name.now (Write c.args.from c.in-Ok.copy) c.args.self.now.calls.items c.call.new.self.calls.items c.call.result c.call.ensures.ok c.call.ensures.err)

pub returns-in-Ok-clause-time : goal.returns-in-Ok-clause-time
returns-in-Ok-clause-time c =
    let same : c.in-Ok.copy.items ≡ c.args.bytes.now = search rules in
    subst (λ (bytes : List ℕ). Passes (length c.args.self.now.calls.items) (length c.call.new.self.calls.items) (LeftSince c.args.self.now.calls.items) (LeftSince c.call.new.self.calls.items)
    (AreLeftBy (write c.args.from bytes) c.args.name.now (files_after c.args.self.now.calls.items))) same
    (passes_call c.args.name.now (Write c.args.from c.in-Ok.copy) c.args.self.now.calls.items c.call.new.self.calls.items c.call.result c.call.ensures.ok c.call.ensures.err)

pub returns-in-Err-clause-effect : goal.returns-in-Err-clause-effect
returns-in-Err-clause-effect c =
    changes_out (write c.args.from c.args.bytes.now) c.args.self.now.calls.items c.fault.new.self.calls.items c.args.name.now c.fault.result (c.fault.ensures.calls ∙ c.turn-turn.ensures.calls)

pub returns-in-Err-clause-time : goal.returns-in-Err-clause-time
returns-in-Err-clause-time c =
    passes_out c.args.self.now.calls.items c.fault.new.self.calls.items (c.fault.ensures.calls ∙ c.turn-turn.ensures.calls)
    (AreLeftBy (write c.args.from c.args.bytes.now) c.args.name.now (files_after c.args.self.now.calls.items))

pub returns-in-Ok-clause-no_effect : goal.returns-in-Ok-clause-no_effect
returns-in-Ok-clause-no_effect c apart = no_effect c.args.name.now c.args.self.now c.call.new.self c.call.result (c.call.ensures.no_effect apart)

pub returns-in-Err-clause-no_effect : goal.returns-in-Err-clause-no_effect
returns-in-Err-clause-no_effect c apart =
    no_effect c.args.name.now c.args.self.now c.fault.new.self (failed c.fault.result) (inl (c.fault.ensures.calls ∙ c.turn-turn.ensures.calls))
