use Rattle.std.proofs.Common.{◌≡◌, ◌∙◌, ◌∷◌, [], rules}
use Rattle.std.specs.Path.{path_buf_bytes}
use Rattle.org_folder.specs.Calls.Event.{Led}
use Rattle.org_folder.proofs.Accounting.{led_stands}
use Rattle.org_folder.proofs.Since.{first_of_more, one_entry}
use Rattle.org_folder.proofs.system.calls_system.CallsSystem.end_folder.Goals as goal

pub returns-clause-stands : goal.returns-clause-stands
returns-clause-stands g c =
    let same : c.as_bytes.result.now ≡ path_buf_bytes c.in_ok-end.end = search rules in
    led_stands c.args.name.now (path_buf_bytes c.in_ok-end.end) c.as_bytes.result.now c.parent_of.result c.args.self.now.log.events c.note_file.new.self.events c.note_file.ensures same c.parent_of.ensures

pub returns-clause-looks : goal.returns-clause-looks
returns-clause-looks g c =
    one_entry (c.args.name.now ∷ []) (Led c.args.name.now c.as_bytes.result.now) c.args.self.now.log.events c.note_file.new.self.events (first_of_more c.args.name.now []) c.note_file.ensures
