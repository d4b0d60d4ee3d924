use Rattle.std.proofs.Common.{◌≡◌, false, ap}
use Rattle.org_journal.specs.Recovered.{contents}
use Rattle.org_texts.specs.Texts.{Holding}
use Rattle.org_fileset.proofs.Openings.{opened_as, refused_as}
use Rattle.org_commands.proofs.Held.{sound_opened}
use Rattle.org_commands.proofs.files.Files.open.Goals as goal

pub returns-in-Ok-clause-opens : goal.returns-in-Ok-clause-opens
returns-in-Ok-clause-opens g c = opened_as c.in-Ok.ensures.opens

pub returns-in-Err-clause-opens : goal.returns-in-Err-clause-opens
returns-in-Err-clause-opens g c = refused_as c.in-Err.ensures.opens

pub invariant_of-result : goal.invariant_of-result
invariant_of-result g c =
    let names = c.in-Ok.set.names in
    let live = (c.in-Ok.set.broken ≡ false) × g.D.Disk.honest c.in-Ok.set.disk in
    let known = c.new-in-Ok.ensures names in (
      sound_opened c.args.names.items names live (contents (g.D.Disk.files c.in-Ok.set.disk)) c.new.result c.requires c.in-Ok.ensures.opened.1.sorted (ap (λ (s : Holding). s.now) c.new.ensures) (ap (λ (s : Holding). s.before) c.new.ensures),
      record { now = known c.new.result.now; before = known c.new.result.before },
    )
