use Rattle.std.proofs.Common.{rules, IsErr}
use Rattle.org_disk.specs.Disk.{cut}
use Rattle.org_folder.proofs.Recorded.{does_not_come}
use Rattle.org_folder.proofs.folder.Folder.cut.Goals as goal

pub returns-in_err-at-clause-does : goal.returns-in_err-at-clause-does
returns-in_err-at-clause-does g c = λ right.
    let failed : IsErr c.from_residual.result = search rules in
    does_not_come g.S.System.world (cut c.args.to) c.args.name.now (g.S.System.history c.args.self.now.system) (g.S.System.history c.find.new.self.system) c.from_residual.result failed
    (c.find.ensures.looks right)
