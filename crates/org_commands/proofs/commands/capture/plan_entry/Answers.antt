use Rattle.std.proofs.Common.{◌∙◌}
use Rattle.org_commands.proofs.Captures.{entry_fails, entry_made_by, entry_planned}
use Rattle.org_commands.proofs.MadeReady.{document_fits, one_is_ready, plans_unread, sees_one}
use Rattle.org_commands.proofs.commands.capture.plan_entry.Goals as goal

pub returns-in_err-ready-clause-plans : goal.returns-in_err-ready-clause-plans
returns-in_err-ready-clause-plans g c tally honest node entry =
    plans_unread g.D.Disk c.args.states.now c.args.files.now c.ready.new.self tally _ c.from_residual.result c.from_residual.ensures.1 c.requires.between.unbroken c.in_err-ready.was (c.ready.ensures.files.reads c.args.states.now tally honest)

pub held-held-requires : goal.held-held-requires
held-held-requires g c = one_is_ready c.args.command.now.file c.requires.between c.in_ok-ready.ensures.ready

pub returns-in_err-edit-clause-plans : goal.returns-in_err-edit-clause-plans
returns-in_err-edit-clause-plans g c tally honest node entry =
    let k = c.args.command.now in
    let sees = sees_one k.file c.requires.between g.D.Disk c.args.states.now c.ready.new.self c.requires.file c.in_ok-ready.ensures.ready c.ready.ensures.files.disk.names c.in_ok-ready.ensures.files.reads c.held-held.ensures.text in
    entry_fails sees k.target k.place k.moment node tally honest c.insertion.result c.from_residual-in_err-edit.result c.in_err-edit.was (c.insertion.ensures node entry) c.from_residual-in_err-edit.ensures.1

pub returns-clause-plan : goal.returns-clause-plan
returns-clause-plan g c =
    let k = c.args.command.now in
    let made = c.plan_of_one.ensures in
    let answers = c.in_ok-edit.ensures c.requires.entry.0 c.requires.entry.1 in
    let sees = sees_one k.file c.requires.between g.D.Disk c.args.states.now c.ready.new.self c.requires.file c.in_ok-ready.ensures.ready c.ready.ensures.files.disk.names c.in_ok-ready.ensures.files.reads c.held-held.ensures.text in
    document_fits sees c.plan_of_one.result answers.0 (entry_made_by sees k.target k.place k.moment c.requires.entry.0 c.plan_of_one.result c.in_ok-edit.edit answers (made.0 ∙ c.given.ensures) made.1 made.2)

pub returns-clause-plans : goal.returns-clause-plans
returns-clause-plans g c tally honest node entry =
    let k = c.args.command.now in
    let made = c.plan_of_one.ensures in
    let answers = c.in_ok-edit.ensures node entry in
    let sees = sees_one k.file c.requires.between g.D.Disk c.args.states.now c.ready.new.self c.requires.file c.in_ok-ready.ensures.ready c.ready.ensures.files.disk.names c.in_ok-ready.ensures.files.reads c.held-held.ensures.text in
    let makes = entry_made_by sees k.target k.place k.moment node c.plan_of_one.result c.in_ok-edit.edit answers (made.0 ∙ c.given.ensures) made.1 made.2 in
    entry_planned sees k.target k.place k.moment node tally honest c.plan_of_one.result c.in_ok-edit.edit answers makes
