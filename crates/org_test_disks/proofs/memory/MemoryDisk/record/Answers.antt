use Rattle.std.proofs.Common.{◌≡◌, ◌++◌, ◌∷◌, [], List, sym, ap, ◌∙◌, arith}
use Rattle.std.proofs.lemmas.Bool.{cond-true}
use Rattle.org_test_disks.specs.Record.{call_of, files_after}
use Rattle.org_test_disks.specs.declared.memory.Call.{Call}
use Rattle.org_test_disks.proofs.Calls.{tied_made, absent_made, tied_kept, absent_kept}
use Rattle.org_test_disks.proofs.memory.MemoryDisk.record.Goals as goal

pub invariant_of-self-2 : goal.invariant_of-self-2
invariant_of-self-2 c =
    let calls = c.args.self.now.calls.items in
    let call : Call = call_of c.args.name.now c.args.effect c.args.crashed in
    let copy : Call = call_of c.in_ok-clone.field-0 c.args.effect c.args.crashed in
    let same : copy ≡ call = λ j. call_of (c.in_ok-clone.ensures.cases j) c.args.effect c.args.crashed in
    let pushed : c.push.new.self.items ≡ calls ++ call ∷ [] =
    c.push.ensures.items ∙ cond-true _ (c.reserve.new.self.items ++ copy ∷ []) c.reserve.new.self.items (c.push.ensures.succeeds (omega (arith, c.in_ok-reserve.ensures.ok)))
    ∙ (λ j. c.reserve.ensures.items j ++ same j ∷ []) in
    let tied = tied_made calls c.push.new.self.items call pushed c.args.self.now.contents c.keep.new.contents c.in_ok-keep.ensures.ok c.args.self.now.tied in
    let absent = absent_made calls c.push.new.self.items call pushed c.args.self.now.contents c.keep.new.contents c.in_ok-keep.ensures.ok c.args.self.now.tied c.args.self.now.absent in
    record { tied = tied; absent = absent }

pub invariant_of-self-in-Break-branch-3 : goal.invariant_of-self-in-Break-branch-3
invariant_of-self-in-Break-branch-3 c =
    let calls = c.args.self.now.calls.items in
    let same : c.reserve.new.self.items ≡ calls = c.reserve.ensures.items in
    let keeps = c.in_err-keep.ensures.err in
    record {
      tied = λ name. tied_kept calls c.args.name.now c.args.self.now.contents c.keep.new.contents keeps c.args.self.now.tied name
          ∙ ap (λ (cs : List Call). (files_after cs name).content) (sym same);
      absent = λ name none. ap (λ (cs : List Call). (files_after cs name).least) same
          ∙ absent_kept calls c.args.name.now c.args.self.now.contents c.keep.new.contents keeps c.args.self.now.tied c.args.self.now.absent name none;
    }
