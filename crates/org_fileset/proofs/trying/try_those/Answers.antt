use Rattle.std.proofs.Common.{Ok, length, refl, sym, subst}
use Rattle.std.proofs.lemmas.Option.{slice_get_read}
use Rattle.org_disk.specs.CountsFailures.{CountsFailures}
use Rattle.org_disk.proofs.Accounting.{accounts_call_ok, accounts_then}
use Rattle.org_fileset.specs.Writes.{TriesOver}
use Rattle.org_fileset.proofs.Takes.{named_apart}
use Rattle.org_fileset.proofs.Tried.{one_try, tries_failed, tries_then}
use Rattle.org_fileset.proofs.trying.try_those.Goals as goal
use Rattle.org_fileset.proofs.trying.try_those.Goals.{then-is_whole-are_whole+in_ok-write_at, else-is_whole-are_whole}

pub returns-in_err-write_at-clause-tries : goal.returns-in_err-write_at-clause-tries
returns-in_err-write_at-clause-tries g c ended =
    let entries = c.args.entries.now in
    let entry = c.entry-item.result in
    let mid = c.loop-entry.disk in
    let new = c.write_at.new.self in
    let back = c.write_at.ensures.accounts.was_honest ended in
    let is = slice_get_read entries (length entries) c.loop-entry.entry-index entry refl c.loop-entry-test.true c.entry-item.is in
    tries_failed g.D.Disk entries c.args.disk.now new c.write_at.result c.from_residual.result
    (tries_then g.D.Disk entries c.args.disk.now mid new tt c.write_at.result (c.loop-entry.invariant.tries back)
    (one_try g.D.Disk entries entry.name mid new (λ n. g.met.D.Disk.content_is_image mid n back)
    (λ n un. named_apart entries c.loop-entry.entry-index entry n un.unnamed is)
    c.write_at.result (c.write_at.ensures.effect ended) (c.write_at.ensures.time ended)))
    c.from_residual.ensures.0

pub loop-entry-preserved : goal.loop-entry-preserved
loop-entry-preserved g c =
    let entries = c.args.entries.now in
    let entry = c.entry-item.result in
    let old = c.args.disk.now in
    let mid = c.loop-entry.disk in
    let is = slice_get_read entries (length entries) c.loop-entry.entry-index entry refl c.loop-entry-test.true c.entry-item.is in
    elim c.if-is_whole-are_whole.branch [
      | then-is_whole-are_whole+in_ok-write_at w ↦
          let new = w.write_at.new.self in
          let back = w.write_at.ensures.accounts.was_honest in
          subst (λ (disk : g.row.D.Denot). record { tries : g.D.Disk.honest disk → TriesOver g.D.Disk entries old disk (Ok tt); accounts : CountsFailures g.D.Disk old disk ⊥ })
          (sym w.disk-is)
          (record {
            tries = λ ended. tries_then g.D.Disk entries old mid new tt (Ok tt) (c.loop-entry.invariant.tries (back ended))
                (one_try g.D.Disk entries entry.name mid new (λ n. g.met.D.Disk.content_is_image mid n (back ended))
                (λ n un. named_apart entries c.loop-entry.entry-index entry n un.unnamed is)
                (Ok tt) (w.in_ok-write_at.ensures.effect ended) (w.write_at.ensures.time ended));
            accounts = accounts_then c.loop-entry.invariant.accounts (accounts_call_ok w.in_ok-write_at.ensures.accounts);
          })
      | else-is_whole-are_whole w ↦
          subst (λ (disk : g.row.D.Denot). record { tries : g.D.Disk.honest disk → TriesOver g.D.Disk entries old disk (Ok tt); accounts : CountsFailures g.D.Disk old disk ⊥ })
          (sym w.disk-is) c.loop-entry.invariant
    ]
