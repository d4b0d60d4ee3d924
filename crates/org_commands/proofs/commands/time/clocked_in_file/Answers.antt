use Rattle.std.proofs.Common.{◌≡◌, Result, Ok, Err, ℕ, rules}
use Rattle.org_outline.specs.declared.paths.PathFault.{PathFault}
use Rattle.org_outline.specs.Tree.{tree}
use Rattle.org_state.specs.Clock.{clocked_at}
use Rattle.org_commands.proofs.MadeReady.{one_is_ready, sees_one}
use Rattle.org_commands.proofs.Times.{time_refused, time_reported, time_unread}
use Rattle.org_commands.proofs.commands.time.clocked_in_file.Goals as goal

pub returns-in_err-ready-clause-does : goal.returns-in_err-ready-clause-does
returns-in_err-ready-clause-does g c tally honest =
    time_unread g.D.Disk c.args.states.now c.args.files.now c.ready.new.self tally _ c.from_residual.result c.from_residual.ensures.1 c.requires.between.unbroken c.in_err-ready.was (c.ready.ensures.files.reads c.args.states.now tally honest)

pub held-held-requires : goal.held-held-requires
held-held-requires g c = one_is_ready c.args.file.now c.requires.between c.in_ok-ready.ensures.ready

pub returns-in_err-clocked-clause-does : goal.returns-in_err-clocked-clause-does
returns-in_err-clocked-clause-does g c tally honest =
    let a = c.args in
    let sees = sees_one a.file.now c.requires.between g.D.Disk a.states.now c.ready.new.self c.requires.name c.in_ok-ready.ensures.ready c.ready.ensures.files.disk.names c.in_ok-ready.ensures.files.reads c.held-held.ensures.text in
    let why = c.in_err-clocked.field-0.0 in
    let said : ◌≡◌ {A = Result ℕ PathFault} (Err why) (clocked_at a.states.now a.path.now (tree c.held-held.result.now.text.bytes)) = search rules in
    time_refused sees a.path.now tally honest why said c.from_residual-in_err-clocked.result c.from_residual-in_err-clocked.ensures.1

pub returns-clause-does : goal.returns-clause-does
returns-clause-does g c tally honest =
    let a = c.args in
    let sees = sees_one a.file.now c.requires.between g.D.Disk a.states.now c.ready.new.self c.requires.name c.in_ok-ready.ensures.ready c.ready.ensures.files.disk.names c.in_ok-ready.ensures.files.reads c.held-held.ensures.text in
    let minutes = c.in_ok-clocked.field-0 in
    let said : ◌≡◌ {A = Result ℕ PathFault} (Ok minutes) (clocked_at a.states.now a.path.now (tree c.held-held.result.now.text.bytes)) = search rules in
    time_reported sees a.path.now tally honest minutes said
