use Rattle.std.proofs.Common.{◌∙◌, string_bytes}
use Rattle.org_folder.proofs.Accounting.{stands_on_way}
use Rattle.org_folder.proofs.system.calls_system.CallsSystem.entry_folder.Goals as goal

pub returns-then-opened-clause-stands : goal.returns-then-opened-clause-stands
returns-then-opened-clause-stands g c =
    stands_on_way (string_bytes c.in_ok-from_str.field-0) c.args.opened.now.name c.args.self.now.log.events (c.in_ok-from_str.ensures.ok ∙ c.folder.ensures.value)
