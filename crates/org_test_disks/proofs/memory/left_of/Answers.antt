use Rattle.std.proofs.Common.{◌≡◌, ◌+◌, ◌++◌, ◌∷◌, [], List, ℕ, Vec, take, sym, ◌∙◌, ap, subst, arith}
use Rattle.std.proofs.lemmas.Bool.{cond-true, cond-false}
use Rattle.std.proofs.lemmas.List.{take_all, take_more}
use Rattle.std.specs.declared.alloc.Global.{Global}
use Rattle.std.specs.Str.{bytes_eq}
use Rattle.org_disk.specs.Disk.{FileState, IsImage, stable}
use Rattle.org_test_disks.specs.Record.{files_after, step, effect_of}
use Rattle.org_test_disks.specs.RecordLaws.{own_image}
use Rattle.org_test_disks.specs.declared.memory.Call.{Call}
use Rattle.org_test_disks.proofs.Calls.{files_after-push}
use Rattle.org_test_disks.proofs.memory.left_of.Goals as goal
use Rattle.org_test_disks.proofs.memory.left_of.Goals.{then-eq+in_ok-leave+in_ok-execute, else-eq}

pub loop-call-preserved : goal.loop-call-preserved
loop-call-preserved c =
    let i = c.loop-call.call-index in
    let calls = c.args.calls.now in
    let name = c.args.name.now in
    let call = c.call-item.result in
    let before = files_after (take i calls) name in
    let one_more : take (i + 1) calls ≡ take i calls ++ call ∷ [] = take_more calls i call c.loop-call-test.true ∙ ap (λ (x : Call). take i calls ++ x ∷ []) (sym c.call-item.is) in
    let after : files_after (take (i + 1) calls) name ≡ step call name before = ap (λ (cs : List Call). files_after cs name) one_more ∙ files_after-push (take i calls) call name in
    elim c.if-eq.branch [
      | then-eq+in_ok-leave+in_ok-execute w ↦
          let now : files_after (take (i + 1) calls) name ≡ effect_of call.effect before = after ∙ cond-true (bytes_eq call.name name) (effect_of call.effect before) before (sym c.eq.ensures ∙ w.if-eq.true) in
          let here : before.content ≡ c.loop-call.content.items = sym c.loop-call.invariant.0 in
          let own : IsImage before w.deref.result.now = subst (λ (b : List ℕ). IsImage before b) (here ∙ sym w.deref.ensures.value) (own_image (take i calls) name) in (
            ap (λ v. v.items) w.content-is ∙ w.in_ok-execute.ensures.ok before here ∙ sym (ap (λ (f : FileState). f.content) now),
            subst (λ (f : FileState). IsImage f c.if-eq.left.items) (sym now)
                (subst (λ (v : Vec ℕ Global). IsImage (effect_of call.effect before) v.items) (sym w.left-is)
                (w.in_ok-leave.ensures before (here ∙ sym w.deref.ensures.value) own c.loop-call.invariant.1)),
          )
      | else-eq w ↦
          let now : files_after (take (i + 1) calls) name ≡ before = after ∙ cond-false (bytes_eq call.name name) (effect_of call.effect before) before (sym c.eq.ensures ∙ w.if-eq.false) in (
            ap (λ v. v.items) w.content-is ∙ c.loop-call.invariant.0 ∙ sym (ap (λ (f : FileState). f.content) now),
            subst (λ (f : FileState). IsImage f c.if-eq.left.items) (sym now)
                (subst (λ (v : Vec ℕ Global). IsImage before v.items) (sym w.left-is) c.loop-call.invariant.1),
          )
    ]

pub returns : goal.returns
returns c = subst (λ (calls : List Call). IsImage (files_after calls c.args.name.now) c.loop-call.left.items) (take_all c.loop-call.call-index c.args.calls.now (omega (arith, c.loop-call-test.false))) c.loop-call.invariant.1

pub loop-call-init : goal.loop-call-init
loop-call-init c = (c.new-content.ensures.items, subst (λ (b : List ℕ). IsImage (stable []) b) (sym c.new-left.ensures.items) (own_image [] c.args.name.now))
