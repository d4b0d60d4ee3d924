use Rattle.std.proofs.Common.{rules, IsErr}
use Rattle.org_disk.specs.Disk.{write}
use Rattle.org_folder.proofs.Recorded.{does_not_come}
use Rattle.org_folder.proofs.folder.Folder.write.Goals as goal

pub returns-in_err-at-clause-does : goal.returns-in_err-at-clause-does
returns-in_err-at-clause-does g c = λ right.
    let failed : IsErr c.from_residual.result = search rules in
    let old = g.S.System.history c.args.self.now.system in
    let new = g.S.System.history c.find_or_make.new.self.system in
    does_not_come g.S.System.world (write c.args.from c.args.bytes.now) c.args.name.now old new c.from_residual.result failed
    (c.find_or_make.ensures.looks right)
