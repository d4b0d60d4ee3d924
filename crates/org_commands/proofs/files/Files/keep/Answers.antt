use Rattle.std.proofs.Common.{◌≡◌, false}
use Rattle.org_journal.specs.Recovered.{contents}
use Rattle.org_commands.specs.Files.{AreSmallToWrite}
use Rattle.org_commands.proofs.Held.{sound_kept}
use Rattle.org_commands.proofs.Noted.{noted_kept}
use Rattle.org_commands.proofs.files.Files.keep.Goals as goal

pub invariant_of-self : goal.invariant_of-self
invariant_of-self g c =
    let inside = c.self.inside in
    let small : AreSmallToWrite inside.texts.now = rw (← c.self.view_is) at c.requires in
    let now = c.keep.ensures.now in
    let before = c.keep.ensures.before in (
      sound_kept inside.set.names ((inside.set.broken ≡ false) × g.D.Disk.honest inside.set.disk) (contents (g.D.Disk.files inside.set.disk)) inside.texts c.keep.new.self now before small c.self.invariant.0,
      noted_kept inside.set.names inside.notes inside.texts c.keep.new.self now before c.self.invariant.1,
    )
