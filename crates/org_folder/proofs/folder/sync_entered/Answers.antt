use Rattle.std.proofs.Common.{is_ok}
use Rattle.org_folder.proofs.Since.{synced_entered}
use Rattle.org_folder.proofs.folder.sync_entered.Goals as goal

pub returns-clause-others : goal.returns-clause-others
returns-clause-others g c = λ name is.
    synced_entered name c.args.opened.now.name (is_ok c.sync.result) (g.S.System.history c.args.system.now) (g.S.System.history c.sync.new.self) c.sync.ensures.synced is
