use Rattle.std.proofs.Common.{◌≡◌, false}
use Rattle.org_journal.specs.Recovered.{contents}
use Rattle.org_commands.proofs.Held.{sound_undone}
use Rattle.org_commands.proofs.Noted.{noted_undone}
use Rattle.org_commands.proofs.files.Files.undo.Goals as goal

pub invariant_of-self : goal.invariant_of-self
invariant_of-self g c =
    let inside = c.self.inside in
    let now = c.undo.ensures.now in
    let before = c.undo.ensures.before in (
      sound_undone inside.set.names ((inside.set.broken ≡ false) × g.D.Disk.honest inside.set.disk) (contents (g.D.Disk.files inside.set.disk)) inside.texts c.undo.new.self now before c.self.invariant.0,
      noted_undone inside.set.names inside.notes inside.texts c.undo.new.self now before c.self.invariant.1,
    )
