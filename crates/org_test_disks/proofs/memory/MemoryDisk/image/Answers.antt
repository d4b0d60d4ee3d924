use Rattle.std.proofs.Common.{◌≡◌, ◌++◌, ◌∷◌, [], ◌∙◌, ◌+◌, List, ℕ, take, slice_get, Some, IfSome, Vec, ap, sym, subst, arith}
use Rattle.std.proofs.lemmas.List.{take_more}
use Rattle.std.proofs.lemmas.Option.{slice_get_within, get_or_from_slice_get}
use Rattle.std.specs.declared.alloc.Global.{Global}
use Rattle.std.specs.Option.{option_map}
use Rattle.std.specs.Str.{bytes_eq}
use Rattle.indexmap.specs.IndexMap.{get}
use Rattle.org_disk.specs.Disk.{stable}
use Rattle.org_test_disks.specs.Memory.{IsLeft, memory_files}
use Rattle.org_test_disks.proofs.ImageSoFar.{one_more, all_left}
use Rattle.org_test_disks.proofs.memory.MemoryDisk.image.Goals as goal

pub loop-i-preserved : goal.loop-i-preserved
loop-i-preserved c =
    let self = c.args.self.now in
    let entries = self.contents.entries in
    let i = c.loop-i.i in
    let name = c.unwrap.result.0.now in
    let content = c.unwrap.result.1.now in
    let at : slice_get entries i ≡ Some (name, content) = sym c.get_index.ensures.entry ∙ ap (option_map (λ p. (p.0.now, p.1.now))) c.unwrap.ensures in
    let more : take (i + 1) entries ≡ take i entries ++ (name, content) ∷ [] =
    take_more entries i (name, content) (slice_get_within entries i (name, content) at)
    ∙ ap (λ (e : List ℕ × Vec ℕ Global). take i entries ++ e ∷ []) (get_or_from_slice_get entries i (name, content) (name, content) at) in
    let left : IsLeft self name c.in_ok-left.left.items = record { image = c.in_ok-left.ensures.image; whole = c.in_ok-left.ensures.whole } in
    let held = one_more self.contents (IsLeft self) i (memory_files c.loop-i.image) (memory_files c.set.new.self) c.loop-i.invariant.0 name content c.in_ok-left.left.items more
    (subst (λ o. IfSome o (λ p. get bytes_eq self.contents p.0.now ≡ Some p.1.now)) c.unwrap.ensures c.get_index.ensures.value)
    (c.in_ok-set.ensures.ok ∙ ap stable c.deref.ensures.value) c.set.ensures.others left in
    (held, c.set.ensures.failures ∙ c.loop-i.invariant.1, c.set.ensures.plan.fail_in ∙ c.loop-i.invariant.2, c.set.ensures.plan.crash ∙ c.loop-i.invariant.3, c.set.ensures.uncounted ∙ c.loop-i.invariant.4)

pub returns-clause-left : goal.returns-clause-left
returns-clause-left c name =
    (all_left c.args.self.now c.loop-i.i (memory_files c.loop-i.image) c.loop-i.invariant.0 (omega (arith, c.loop-i-test.false, c.len-i-end.ensures.len)) name).image

pub returns-clause-whole : goal.returns-clause-whole
returns-clause-whole c whole name =
    (all_left c.args.self.now c.loop-i.i (memory_files c.loop-i.image) c.loop-i.invariant.0 (omega (arith, c.loop-i-test.false, c.len-i-end.ensures.len)) name).whole whole
