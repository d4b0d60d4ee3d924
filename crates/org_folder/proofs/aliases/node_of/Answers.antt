use Rattle.std.proofs.Common.{◌∙◌, ap, Ok}
use Rattle.org_folder.specs.Calls.Event.{There}
use Rattle.org_folder.proofs.Looked.{look_made}
use Rattle.org_folder.proofs.Walked.{noted_first, noted_there}
use Rattle.org_folder.proofs.aliases.node_of.Goals as goal

pub returns-in_err-found-clause-looks : goal.returns-in_err-found-clause-looks
returns-in_err-found-clause-looks g c =
    look_made c.args.name.now (g.S.System.history c.args.system.now) (g.S.System.history c.look.new.self) c.look.result c.look.ensures.there c.look.ensures.absent c.look.ensures.err

pub returns-in_err-clone-in-None-clause-looks : goal.returns-in_err-clone-in-None-clause-looks
returns-in_err-clone-in-None-clause-looks g c =
    look_made c.args.name.now (g.S.System.history c.args.system.now) (g.S.System.history c.look.new.self) c.look.result c.look.ensures.there c.look.ensures.absent c.look.ensures.err

pub returns-in_err-insert-in-None-clause-looks : goal.returns-in_err-insert-in-None-clause-looks
returns-in_err-insert-in-None-clause-looks g c =
    look_made c.args.name.now (g.S.System.history c.args.system.now) (g.S.System.history c.look.new.self) c.look.result c.look.ensures.there c.look.ensures.absent c.look.ensures.err

pub returns-in-Some-clause-looks : goal.returns-in-Some-clause-looks
returns-in-Some-clause-looks g c =
    look_made c.args.name.now (g.S.System.history c.args.system.now) (g.S.System.history c.look.new.self) c.look.result c.look.ensures.there c.look.ensures.absent c.look.ensures.err

pub returns-in_ok-insert-in-None-clause-looks : goal.returns-in_ok-insert-in-None-clause-looks
returns-in_ok-insert-in-None-clause-looks g c =
    look_made c.args.name.now (g.S.System.history c.args.system.now) (g.S.System.history c.look.new.self) c.look.result c.look.ensures.there c.look.ensures.absent c.look.ensures.err

pub returns-in-Some-2-clause-looks : goal.returns-in-Some-2-clause-looks
returns-in-Some-2-clause-looks g c =
    look_made c.args.name.now (g.S.System.history c.args.system.now) (g.S.System.history c.look.new.self) c.look.result c.look.ensures.there c.look.ensures.absent c.look.ensures.err

pub returns-in-Some-2-clause-seen : goal.returns-in-Some-2-clause-seen
returns-in-Some-2-clause-seen g c =
    let name = c.args.name.now in
    let found = c.in-Some.found in
    let old = g.S.System.history c.args.system.now in
    let new = g.S.System.history c.look.new.self in (
      found.is_plain,
      found.is_link,
      noted_first (There name found.node.device found.node.number found.is_plain found.is_link) old new
          (noted_there name old new c.look.result found c.look.ensures.there (c.in_ok-found.was ∙ ap Ok c.in-Some.is)),
    )
