use Rattle.std.proofs.Common.{sym, ap, ◌∙◌, ◌+◌, arith}
use Rattle.org_test_disks.proofs.Calls.{counts_call, counts_none}
use Rattle.org_test_disks.proofs.memory.MemoryDisk.calls.Goals as goal
use Rattle.org_test_disks.proofs.memory.MemoryDisk.calls.Goals.{then-is_call, else-is_call}

pub loop-call-preserved : goal.loop-call-preserved
loop-call-preserved c =
    let entries = c.deref-call-items.result.now in
    let calls = c.args.self.now.calls.items in
    elim c.if-is_call.branch [
      | then-is_call w ↦ (
        w.count-is ∙ ap (λ n. n + 1) c.loop-call.invariant.0
            ∙ sym (counts_call entries calls c.deref-call-items.ensures.value c.loop-call.call-index c.call-item.result c.loop-call-test.true c.call-item.is (sym c.is_call.ensures ∙ w.if-is_call.true)),
        omega (arith, w.count-is, c.loop-call.invariant.1),
      )
      | else-is_call w ↦ (
        w.count-is ∙ c.loop-call.invariant.0
            ∙ sym (counts_none entries calls c.deref-call-items.ensures.value c.loop-call.call-index c.call-item.result c.loop-call-test.true c.call-item.is (sym c.is_call.ensures ∙ w.if-is_call.false)),
        omega (arith, w.count-is, c.loop-call.invariant.1),
      )
    ]
