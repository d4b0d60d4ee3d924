use Rattle.std.proofs.Common.{◌≡◌, Ok}
use Rattle.org_capture.specs.Template.{expanded}
use Rattle.org_commands.proofs.Captures.{entry_made}
use Rattle.org_commands.proofs.commands.capture.new_entry.Goals as goal

pub returns : goal.returns
returns c =
    let command = c.args.command.now in
    let said = expanded command.template command.moment command.initial in
    let reported : said ≡ Ok c.in_ok-text.text.items = rw (c.as_slice-template.ensures, c.as_slice.ensures) at c.in_ok-text.ensures in
    entry_made c.in_ok-text.text.items said c.entry.result reported c.entry.ensures.value
