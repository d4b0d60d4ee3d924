use Rattle.std.proofs.Common.{is_ok}
use Rattle.org_folder.proofs.Entered.{kept_in}
use Rattle.org_folder.proofs.folder.Folder.keep.Goals as goal

pub invariant_of-self-clause-entered : goal.invariant_of-self-clause-entered
invariant_of-self-clause-entered g c =
    kept_in (g.S.System.history c.args.self.now.system) c.args.self.now.files.items c.insert.new.self.items c.args.place c.args.opened (is_ok c.insert.result) c.requires.entered c.insert.ensures.items c.args.self.now.entered
