use Rattle.std.proofs.Common.{map, string_bytes}
use Rattle.org_folder.proofs.Looked.{list_looks}
use Rattle.org_folder.proofs.list.Walk.enter.Goals as goal

pub returns-in_default-clause-looks : goal.returns-in_default-clause-looks
returns-in_default-clause-looks g c =
    list_looks (λ names. map string_bytes names.items) c.args.folder.now (g.S.System.history c.args.system.now) (g.S.System.history c.list.new.self) c.list.result c.list.ensures.listed c.list.ensures.closed c.list.ensures.err

pub returns-in_err-put-clause-looks : goal.returns-in_err-put-clause-looks
returns-in_err-put-clause-looks g c =
    list_looks (λ names. map string_bytes names.items) c.args.folder.now (g.S.System.history c.args.system.now) (g.S.System.history c.list.new.self) c.list.result c.list.ensures.listed c.list.ensures.closed c.list.ensures.err

pub returns-clause-looks : goal.returns-clause-looks
returns-clause-looks g c =
    list_looks (λ names. map string_bytes names.items) c.args.folder.now (g.S.System.history c.args.system.now) (g.S.System.history c.list.new.self) c.list.result c.list.ensures.listed c.list.ensures.closed c.list.ensures.err
