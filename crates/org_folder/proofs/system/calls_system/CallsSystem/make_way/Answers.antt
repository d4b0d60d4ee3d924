use Rattle.std.proofs.Common.{◌≡◌, ◌-◌, ◌∙◌, ap, IsErr, is_ok, rules, take, true, arith}
use Rattle.std.specs.List.{Contains}
use Rattle.org_disk.specs.Names.{folders_on}
use Rattle.org_disk.proofs.Folders.{on_way}
use Rattle.org_folder.proofs.Since.{folders_failed, folders_more, no_folders, slash_at}
use Rattle.org_folder.proofs.system.calls_system.CallsSystem.make_way.Goals as goal
use Rattle.org_folder.proofs.system.calls_system.CallsSystem.make_way.Goals.{then-byte-eq47+in_ok-make_folder, else-byte-eq47}

pub loop-at-init : goal.loop-at-init
loop-at-init g c = no_folders (folders_on c.args.path.now) true c.args.self.now.log.events

pub returns-in_err-make_folder : goal.returns-in_err-make_folder
returns-in_err-make_folder g c =
    let failed : IsErr c.from_residual.result = search rules in
    let path = c.args.path.now in
    let folder = c.range.result.now in
    let whole : c.loop-at.at - 0 ≡ c.loop-at.at = omega arith in
    let here : folder ≡ take c.loop-at.at path = c.range.ensures.value ∙ ap (λ n. take n path) whole in
    folders_failed (folders_on path) folder c.from_residual.result (is_ok c.make_folder.result) c.args.self.now.log.events c.loop-at.self.log.events c.make_folder.new.self.log.events failed
    (on_way path c.as_bytes-byte-items.result.now folder c.loop-at.at c.as_bytes-byte-items.ensures.value c.loop-at-test.true (slash_at c.as_bytes-byte-items.result.now c.loop-at.at c.if-byte-eq47.true) here)
    c.loop-at.invariant c.make_folder.ensures

pub loop-at-preserved : goal.loop-at-preserved
loop-at-preserved g c =
    let path = c.args.path.now in
    let whole : c.loop-at.at - 0 ≡ c.loop-at.at = omega arith in
    elim c.if-byte-eq47.branch [
      | then-byte-eq47+in_ok-make_folder w ↦
          let folder = w.range.result.now in
          let here : folder ≡ take c.loop-at.at path = w.range.ensures.value ∙ ap (λ n. take n path) whole in
          rw w.self-is (folders_more (folders_on path) folder (is_ok w.make_folder.result) c.args.self.now.log.events c.loop-at.self.log.events w.make_folder.new.self.log.events (ap is_ok w.in_ok-make_folder.was)
          (on_way path c.as_bytes-byte-items.result.now folder c.loop-at.at c.as_bytes-byte-items.ensures.value c.loop-at-test.true (slash_at c.as_bytes-byte-items.result.now c.loop-at.at w.if-byte-eq47.true) here)
          c.loop-at.invariant w.make_folder.ensures)
      | else-byte-eq47 w ↦ rw w.self-is c.loop-at.invariant
    ]
