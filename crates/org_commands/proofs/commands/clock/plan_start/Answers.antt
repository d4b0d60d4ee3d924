use Rattle.std.proofs.Common.{◌∙◌}
use Rattle.org_commands.proofs.Clocks.{start_made}
use Rattle.org_commands.proofs.commands.clock.plan_start.Goals as goal

pub returns : goal.returns
returns c =
    let a = c.args in
    let made = start_made a.command.now.moment a.held.now.text.bytes c.outline_of.result.text a.node c.in_ok-edit.edit c.plan_of_one.result.first.edits.items c.outline_of.ensures.0 c.plan_of_one.ensures.2 c.in_ok-edit.ensures in
    (made.0, made.1, (c.plan_of_one.ensures.0 ∙ c.given.ensures, c.plan_of_one.ensures.1, made.2))
