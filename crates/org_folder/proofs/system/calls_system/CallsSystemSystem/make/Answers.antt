use Rattle.std.proofs.Common.{◌∙◌, IsTrue, is_ok, sym}
use Rattle.org_folder.proofs.Since.{makes_file, on_ok}
use Rattle.org_folder.proofs.system.calls_system.CallsSystemSystem.make.Goals as goal

pub returns-clause-made : goal.returns-clause-made
returns-clause-made g c =
    makes_file c.args.name.now c.folder.result.now (is_ok c.make_way.result) (is_ok c.make_file.result) c.args.self.now.log.events c.make_way.new.self.log.events c.make_file.new.self.log.events
    c.folder.ensures.value c.make_way.ensures
    (λ done. sym c.is_ok-is_reached.ensures.value ∙ on_ok (IsTrue c.is_ok-is_reached.result) c.make_file.result c.make_file.ensures.reached done)
    c.make_file.ensures.made
