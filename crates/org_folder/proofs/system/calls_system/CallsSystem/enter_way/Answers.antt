use Rattle.std.proofs.Common.{◌≡◌, ◌<◌, ◌≤◌, ◌-◌, ◌∙◌, ap, IsErr, is_ok, length, refl, rules, sym, take, arith}
use Rattle.std.specs.List.{Contains}
use Rattle.org_disk.specs.Names.{folder_of, folders_on}
use Rattle.org_disk.proofs.Folders.{on_way}
use Rattle.org_folder.specs.Calls.{StandsIn}
use Rattle.org_folder.specs.Calls.Event.{Entered}
use Rattle.org_folder.proofs.Accounting.{stands_on_way}
use Rattle.org_folder.proofs.Since.{entries_then, one_entry, slash_at, way_end, way_failed, way_more, way_same}
use Rattle.org_folder.proofs.system.calls_system.CallsSystem.enter_way.Goals as goal
use Rattle.org_folder.proofs.system.calls_system.CallsSystem.enter_way.Goals.{then-byte-eq47+in_ok-enter, else-byte-eq47}

pub enter-requires : goal.enter-requires
enter-requires g c =
    let stands : StandsIn c.range-then-byte-eq47.result.now c.folder_of.result.now c.loop-at.self.log.events =
    stands_on_way c.folder_of.result.now c.range-then-byte-eq47.result.now c.loop-at.self.log.events
    (c.folder_of.ensures ∙ ap folder_of (c.range.ensures.value ∙ sym c.range-then-byte-eq47.ensures.value)) in
    search rules

pub returns-in_err-enter-clause-entered : goal.returns-in_err-enter-clause-entered
returns-in_err-enter-clause-entered g c =
    let failed : IsErr c.from_residual.result = search rules in
    let path = c.args.path.now in
    let name = c.range-then-byte-eq47.result.now in
    let whole : c.loop-at.at - 0 ≡ c.loop-at.at = omega arith in
    let here : name ≡ take c.loop-at.at path = c.range-then-byte-eq47.ensures.value ∙ ap (λ n. take n path) whole in
    way_failed path c.from_residual.result (Entered c.folder_of.result.now name (is_ok c.enter.result))
    c.args.self.now.log.events c.loop-at.self.log.events c.enter.new.self.log.events failed c.loop-at.invariant.1
    (on_way path c.as_bytes-byte-items.result.now name c.loop-at.at c.as_bytes-byte-items.ensures.value c.loop-at-test.true (slash_at c.as_bytes-byte-items.result.now c.loop-at.at c.if-byte-eq47.true) here)
    c.enter.ensures.entered

pub loop-at-preserved : goal.loop-at-preserved
loop-at-preserved g c =
    let before = c.loop-at.invariant in
    let path = c.args.path.now in
    let items = c.as_bytes-byte-items.result.now in
    let mid = c.loop-at.self.log.events in
    let whole : c.loop-at.at - 0 ≡ c.loop-at.at = omega arith in
    elim c.if-byte-eq47.branch [
      | then-byte-eq47+in_ok-enter w ↦
          let folder = w.folder_of.result.now in
          let name = w.range-then-byte-eq47.result.now in
          let ok = is_ok w.enter.result in
          let new = w.enter.new.self.log.events in
          let here : name ≡ take c.loop-at.at path = w.range-then-byte-eq47.ensures.value ∙ ap (λ n. take n path) whole in
          let among : Contains (folders_on path) name = on_way path items name c.loop-at.at c.as_bytes-byte-items.ensures.value c.loop-at-test.true (slash_at items c.loop-at.at w.if-byte-eq47.true) here in
          rw w.self-is (
            λ none. before.0 (w.enter.ensures.failed none),
            entries_then (folders_on path) c.args.self.now.log.events mid new before.1 (one_entry (folders_on path) (Entered folder name ok) mid new among w.enter.ensures.entered),
            way_more path items folder name c.loop-at.at ok mid new c.as_bytes-byte-items.ensures.value c.loop-at-test.true here (ap is_ok w.in_ok-enter.was) w.enter.ensures.entered before.2,
          )
      | else-byte-eq47 w ↦
          rw w.self-is (before.0, before.1, way_same path items c.loop-at.at mid c.as_bytes-byte-items.ensures.value c.loop-at-test.true w.if-byte-eq47.false before.2)
    ]

pub returns-clause-entered : goal.returns-clause-entered
returns-clause-entered g c =
    way_end c.args.path.now c.as_bytes-byte-items.result.now c.loop-at.at c.args.self.now.log.events c.loop-at.self.log.events
    c.as_bytes-byte-items.ensures.value (omega (arith, c.loop-at-test.false)) c.loop-at.invariant.1 c.loop-at.invariant.2
