use Rattle.std.proofs.Common.{rules, ◌≤◌, Ok, IsErr, length, sym, subst, ◌∙◌, arith}
use Rattle.std.specs.List.{Contains}
use Rattle.org_disk.proofs.Accounting.{accounts_then, accounts_call_ok}
use Rattle.org_disk.proofs.Moments.{passes_then, leaves_only}
use Rattle.org_fileset.proofs.Recovering.{sync_left, sync_after}
use Rattle.org_serve.proofs.Syncs.{all_synced, same_contents, stable_more, not_done, all_images}
use Rattle.org_serve.proofs.syncing.sync_each.Goals as goal

pub loop-name-preserved : goal.loop-name-preserved
loop-name-preserved g c =
    let d = g.D.Disk in
    let sofar = c.loop-name.invariant in
    let back = c.sync.ensures.accounts.was_honest in
    let name = c.name-item.result in
    let mid = d.files c.loop-name.disk in
    let new = d.files c.sync.new.self in
    let own = λ (h : d.honest c.loop-name.disk). g.met.D.Disk.content_is_image c.loop-name.disk name h in
    record {
      accounts = accounts_then sofar.accounts (accounts_call_ok c.in_ok-sync.ensures.accounts);
      same = λ ended. same_contents name mid new (c.in_ok-sync.ensures.effect ended) ∙ sofar.same (back ended);
      stable = λ ended. stable_more c.args.names.now c.loop-name.name-index name c.loop-name-test.true c.name-item.is mid new (c.in_ok-sync.ensures.effect ended) (sofar.stable (back ended));
      images = λ ended other bytes image. sofar.images (back ended) other bytes
          (sync_after name mid new (Ok tt) (own (back ended)) (c.in_ok-sync.ensures.effect ended) other bytes image);
      others = λ ended other none.
          (c.in_ok-sync.ensures.effect ended).others other (λ same. none (subst (Contains c.args.names.now) (sym same) (c.loop-name.name-index, c.loop-name-test.true, sym c.name-item.is))) ∙ sofar.others (back ended) other none;
      time = λ ended. passes_then (sofar.time (back ended)) (c.sync.ensures.time ended)
          (λ image left. all_images (sofar.images (back ended)) image (sync_left name mid image (own (back ended)) left));
    }

pub returns-in_err-sync-clause-syncs : goal.returns-in_err-sync-clause-syncs
returns-in_err-sync-clause-syncs g c ended =
    let d = g.D.Disk in
    let sofar = c.loop-name.invariant in
    let back = c.sync.ensures.accounts.was_honest ended in
    let name = c.name-item.result in
    let failed : IsErr c.from_residual.result = search rules in
    record {
      done = not_done _ c.from_residual.result failed;
      images = λ other bytes image. sofar.images back other bytes
          (sync_after name (d.files c.loop-name.disk) (d.files c.sync.new.self) c.sync.result (g.met.D.Disk.content_is_image c.loop-name.disk name back) (c.sync.ensures.effect ended) other bytes image);
      others = λ other none.
          (c.sync.ensures.effect ended).others other (λ same. none (subst (Contains c.args.names.now) (sym same) (c.loop-name.name-index, c.loop-name-test.true, sym c.name-item.is))) ∙ sofar.others back other none;
      any_moment =
          leaves_only (passes_then (sofar.time back) (c.sync.ensures.time ended)
          (λ image left. all_images (sofar.images back) image (sync_left name (d.files c.loop-name.disk) image (g.met.D.Disk.content_is_image c.loop-name.disk name back) left)))
          (λ image left. g.met.D.Disk.only_now c.args.disk.now image (sofar.accounts.was_honest back) left);
    }

pub returns-clause-syncs : goal.returns-clause-syncs
returns-clause-syncs g c ended =
    let d = g.D.Disk in
    let sofar = c.loop-name.invariant in
    let all : length c.args.names.now ≤ c.loop-name.name-index = omega (arith, c.loop-name-test.false) in
    record {
      done = all_synced c.args.names.now c.loop-name.name-index (d.files c.args.disk.now) (d.files c.loop-name.disk) all (sofar.same ended) (sofar.stable ended);
      images = sofar.images ended;
      others = sofar.others ended;
      any_moment = leaves_only (sofar.time ended) (λ image left. g.met.D.Disk.only_now c.args.disk.now image (sofar.accounts.was_honest ended) left);
    }
