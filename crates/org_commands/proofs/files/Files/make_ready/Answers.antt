use Rattle.std.proofs.Common.{◌≡◌, false}
use Rattle.std.specs.Option.{IsSome}
use Rattle.org_journal.specs.Recovered.{contents}
use Rattle.org_texts.specs.Texts.{text_of}
use Rattle.org_commands.proofs.Held.{ready_made, sound_made_ready}
use Rattle.org_commands.proofs.Noted.{noted_made_ready}
use Rattle.org_commands.proofs.files.Files.make_ready.Goals as goal

pub invariant_of-self : goal.invariant_of-self
invariant_of-self g c =
    let inside = c.self.inside in
    let made = c.make_ready in
    let some : IsSome (text_of inside.texts.now c.args.name.now) = rw (← c.self.view_is) at c.requires in (
      sound_made_ready made.result c.args.name.now inside.set.names ((inside.set.broken ≡ false) × g.D.Disk.honest inside.set.disk) (contents (g.D.Disk.files inside.set.disk)) inside.texts made.new.self
          some made.ensures.now made.ensures.err made.ensures.before c.self.invariant.0,
      noted_made_ready made.result c.args.name.now inside.set.names inside.notes inside.texts made.new.self made.ensures.now made.ensures.err made.ensures.before c.self.invariant.1,
    )

pub returns-clause-ready : goal.returns-clause-ready
returns-clause-ready g c =
    let made = c.make_ready in
    let some : IsSome (text_of c.self.inside.texts.now c.args.name.now) = rw (← c.self.view_is) at c.requires in
    rw (← c.self.view_is) (ready_made made.result c.args.name.now c.self.inside.texts made.new.self some made.ensures.now made.ensures.ready made.ensures.before)
