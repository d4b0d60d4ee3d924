use Rattle.std.proofs.Common.{◌≡◌, ◌≢◌, ◌∷◌, ℕ, List, drop, false, ap, sym, subst, ◌∙◌}
use Rattle.std.specs.Prelude.{if◌then◌else◌, Bool}
use Rattle.org_disk.specs.Disk.{FileState}
use Rattle.org_disk.specs.Names.{journal_name}
use Rattle.org_disk.proofs.Moments.{leaves_only}
use Rattle.org_journal.specs.Gate.{is_open}
use Rattle.org_journal.specs.Recovered.{contents}
use Rattle.org_fileset.specs.Forgetting.{shut_journal}
use Rattle.org_fileset.specs.Looking.{IsLookedAt}
use Rattle.org_fileset.specs.Writes.{LeavesAlone}
use Rattle.org_fileset.proofs.OpenGate.{on_ok_never}
use Rattle.org_fileset.proofs.Reopening.{looked_on, looked_sync}
use Rattle.org_fileset.proofs.Writes.{alone_called, alone_looked}
use Rattle.org_fileset.proofs.recover.shut.Given.{Over}
use Rattle.org_fileset.proofs.recover.shut.Goals as goal
use Rattle.org_fileset.proofs.recover.shut.Goals.{After-sync, After-is_open}

still_shut : (journal : List ℕ) → is_open journal ≡ false → shut_journal journal ≡ journal
still_shut journal shut = ap (λ (b : Bool). if b then 0 ∷ drop 1 journal else journal) shut

module _ (g : Over) where
  -- the journal was synced, or that failed
  synced : (c : After-sync g) → g.D.Disk.honest c.sync.new.self → IsLookedAt g.D.Disk c.args.disk.now c.sync.new.self
  synced c ended =
      looked_sync g.D.Disk c.args.journal.now c.args.disk.now c.sync.new.self c.sync.result c.requires
      (g.met.D.Disk.content_is_image c.args.disk.now journal_name (c.sync.ensures.accounts.was_honest ended)) (λ name. g.met.D.Disk.content_is_image c.sync.new.self name ended)
      (c.sync.ensures.effect ended) (c.sync.ensures.time ended)

  alone : (c : After-sync g) → g.D.Disk.honest c.sync.new.self → LeavesAlone g.D.Disk (λ name. name ≢ journal_name) c.args.disk.now c.sync.new.self
  alone c ended =
      subst (λ (n : List ℕ). LeavesAlone g.D.Disk (λ name. name ≢ n) c.args.disk.now c.sync.new.self) c.requires (alone_called (c.sync.ensures.effect ended) (c.sync.ensures.time ended))

pub returns-in_err-sync-clause-forgets : goal.returns-in_err-sync-clause-forgets
returns-in_err-sync-clause-forgets g c ended =
    let d = g.D.Disk in
    let old = c.args.disk.now in
    let honest = c.sync.ensures.accounts.was_honest ended in
    let over = (goal.at.returns-in_err-sync-clause-forgets g c).After-sync in
    record {
      done = on_ok_never _ c.from_residual.result c.from_residual.ensures.0;
      alone = alone g over ended;
      idle = λ shut. leaves_only (synced g over ended).time (λ image left. g.met.D.Disk.only_now old image honest left);
    }

pub returns-in_err-is_open-clause-forgets : goal.returns-in_err-is_open-clause-forgets
returns-in_err-is_open-clause-forgets g c ended =
    let d = g.D.Disk in
    let old = c.args.disk.now in
    let mid = c.is_open.ensures.accounts.was_honest ended in
    let honest = c.sync.ensures.accounts.was_honest mid in
    let over = (goal.at.returns-in_err-is_open-clause-forgets g c).After-sync in
    record {
      done = on_ok_never _ c.from_residual-in_err-is_open.result c.from_residual-in_err-is_open.ensures.0;
      alone = alone_looked (alone g over mid) (c.is_open.ensures.looks ended);
      idle = λ shut. leaves_only (looked_on d old c.sync.new.self c.is_open.new.disk (synced g over mid) (c.is_open.ensures.looks ended)).time
          (λ image left. g.met.D.Disk.only_now old image honest left);
    }

pub returns-clause-forgets : goal.returns-clause-forgets
returns-clause-forgets g c ended =
    let d = g.D.Disk in
    let old = c.args.disk.now in
    let mid = c.is_open.ensures.accounts.was_honest ended in
    let honest = c.sync.ensures.accounts.was_honest mid in
    let over = (goal.at.returns-clause-forgets g c).After-sync in
    let synced_is : (d.files c.sync.new.self journal_name).content ≡ (d.files old journal_name).content =
    subst (λ (n : List ℕ). (d.files c.sync.new.self n).content ≡ (d.files old n).content) c.requires (ap (λ (f : FileState). f.content) (c.in_ok-sync.ensures.effect mid).ok) in
    let asked : is_open (d.files c.sync.new.self journal_name).content ≡ false =
    subst (λ (n : List ℕ). is_open (d.files c.sync.new.self n).content ≡ false) c.requires (sym (c.in_ok-is_open.ensures.value ended) ∙ c.if-branch.false) in
    let shut : is_open (d.files old journal_name).content ≡ false = ap is_open (sym synced_is) ∙ asked in
    record {
      done = ap (λ (f : List ℕ → FileState). contents f journal_name) (c.is_open.ensures.looks ended).same ∙ synced_is ∙ sym (still_shut (d.files old journal_name).content shut);
      alone = alone_looked (alone g over mid) (c.is_open.ensures.looks ended);
      idle = λ shut. leaves_only (looked_on d old c.sync.new.self c.is_open.new.disk (synced g over mid) (c.is_open.ensures.looks ended)).time
          (λ image left. g.met.D.Disk.only_now old image honest left);
    }
