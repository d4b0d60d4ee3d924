use Rattle.std.proofs.Common.{◌++◌, ◌∷◌, [], List, true, false, refl, ap, ◌∙◌, inl, inr}
use Rattle.org_test_disks.specs.Record.{call_of}
use Rattle.org_test_disks.specs.declared.memory.Call.{Call}
use Rattle.org_test_disks.specs.declared.memory.Effect.TheVariants.{Nothing}
use Rattle.org_test_disks.proofs.Calls.{tried_at, turn_failed}
use Rattle.org_test_disks.proofs.memory.MemoryDisk.call.Goals as goal

-- The call is made.

pub returns-in-Ok-clause-ok : goal.returns-in-Ok-clause-ok
returns-in-Ok-clause-ok c = c.in-Ok.ensures.ok ∙ ap (λ (calls : List Call). calls ++ call_of c.args.name.now c.args.effect false ∷ []) c.turn.ensures.calls

pub returns-in-Ok-clause-turn : goal.returns-in-Ok-clause-turn
returns-in-Ok-clause-turn c =
    let made = c.record.ensures in
    record {
      due = λ due. absurd (c.turn.ensures.due due c.in-Made.is);
      unasked = λ quiet. tt;
      counts = record { fail_in = made.plan.fail_in ∙ c.turn.ensures.counts.fail_in; crash = made.plan.crash ∙ c.turn.ensures.counts.crash };
      kept = made.failures ∙ c.turn.ensures.failures;
      counted = tt;
    }

-- No memory for its record.

pub returns-in-Err-clause-err : goal.returns-in-Err-clause-err
returns-in-Err-clause-err c = inl (c.fault.ensures.calls ∙ c.in-Err.ensures.err ∙ c.turn.ensures.calls)

pub returns-in-Err-clause-no_effect : goal.returns-in-Err-clause-no_effect
returns-in-Err-clause-no_effect c quiet = inl (c.fault.ensures.calls ∙ c.in-Err.ensures.err ∙ c.turn.ensures.calls)

pub returns-in-Err-clause-sync : goal.returns-in-Err-clause-sync
returns-in-Err-clause-sync c sync = inl (c.fault.ensures.calls ∙ c.in-Err.ensures.err ∙ c.turn.ensures.calls)

pub returns-in-Err-clause-turn : goal.returns-in-Err-clause-turn
returns-in-Err-clause-turn c =
    turn_failed c.args.self.now c.turn.new.self c.record.new.self c.fault.new.self _ c.turn.ensures.counts c.turn.ensures.failures c.record.ensures.plan c.record.ensures.failures c.fault.ensures.plan c.fault.ensures.count
    (λ quiet. c.fault.ensures.calls ∙ c.in-Err.ensures.err ∙ c.turn.ensures.calls)

-- The call fails.

pub returns-in-Failed : goal.returns-in-Failed
returns-in-Failed c =
    let made = c.record-recorded in
    let fault = c.fault-in-Failed in
    let nothing =
    tried_at c.args.name.now Nothing Nothing false c.args.self.now.calls.items c.turn.new.self.calls.items made.new.self.calls.items fault.new.self.calls.items c.turn.ensures.calls fault.ensures.calls (inl refl) made.result made.ensures.ok made.ensures.err in
    record {
      ok = tt;
      err = tried_at c.args.name.now c.args.effect Nothing false c.args.self.now.calls.items c.turn.new.self.calls.items made.new.self.calls.items fault.new.self.calls.items c.turn.ensures.calls fault.ensures.calls (inr refl) made.result made.ensures.ok made.ensures.err;
      no_effect = λ quiet. nothing;
      sync = λ sync. nothing;
      turn = turn_failed c.args.self.now c.turn.new.self made.new.self fault.new.self _ c.turn.ensures.counts c.turn.ensures.failures made.ensures.plan made.ensures.failures fault.ensures.plan fault.ensures.count (λ quiet. cc (c.turn.ensures.made quiet, c.in-Failed.is));
    }

-- The disk crashes within the call.

pub returns-in-Crashed : goal.returns-in-Crashed
returns-in-Crashed c =
    let made = c.record-recorded-in-Crashed in
    let fault = c.fault-in-Crashed in
    let old = c.args.self.now.calls.items in
    let turned = c.turn.new.self.calls.items in
    record {
      ok = tt;
      err = tried_at c.args.name.now c.args.effect c.without_sync.result true old turned made.new.self.calls.items fault.new.self.calls.items c.turn.ensures.calls fault.ensures.calls c.without_sync.ensures.effect made.result made.ensures.ok made.ensures.err;
      no_effect = λ quiet. cc (quiet, c.turn.ensures.crashed c.in-Crashed.is);
      sync = λ sync.
          tried_at c.args.name.now Nothing c.without_sync.result true old turned made.new.self.calls.items fault.new.self.calls.items c.turn.ensures.calls fault.ensures.calls (inl (c.without_sync.ensures.sync sync)) made.result made.ensures.ok made.ensures.err;
      turn = turn_failed c.args.self.now c.turn.new.self made.new.self fault.new.self _ c.turn.ensures.counts c.turn.ensures.failures made.ensures.plan made.ensures.failures fault.ensures.plan fault.ensures.count (λ quiet. cc (c.turn.ensures.made quiet, c.in-Crashed.is));
    }
