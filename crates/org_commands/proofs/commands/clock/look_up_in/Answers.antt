use Rattle.std.proofs.Common.{◌∷◌, [], sym, ap, subst, ◌∙◌}
use Rattle.org_texts.specs.Texts.{TextSet}
use Rattle.org_commands.specs.Headings.{HasHeading}
use Rattle.org_commands.specs.Session.{StoreView}
use Rattle.org_commands.proofs.Clocks.{heading_before}
use Rattle.org_commands.proofs.LookingUp.{look_up_fails, look_up_finds, look_up_unread}
use Rattle.org_commands.proofs.MadeReady.{one_is_ready, one_ready, sees_one}
use Rattle.org_commands.proofs.Plans.{one_name}
use Rattle.org_commands.proofs.Sessions.{view_same}
use Rattle.org_commands.proofs.commands.clock.look_up_in.Goals as goal

pub returns-in_err-ready-clause-finds : goal.returns-in_err-ready-clause-finds
returns-in_err-ready-clause-finds g c tally honest = look_up_unread g.D.Disk c.args.states.now c.args.files.now c.ready.new.self tally _ c.from_residual.result c.from_residual.ensures.1 c.in_err-ready.was (c.ready.ensures.files.reads c.args.states.now tally honest)

pub held-requires : goal.held-requires
held-requires g c = one_is_ready c.args.command.now.file c.requires.between c.in_ok-ready.ensures.ready

pub returns-in_err-node-clause-finds : goal.returns-in_err-node-clause-finds
returns-in_err-node-clause-finds g c tally honest =
    let k = c.args.command.now in
    let sees = sees_one k.file c.requires.between g.D.Disk c.args.states.now c.ready.new.self c.requires.file c.in_ok-ready.ensures.ready c.ready.ensures.files.disk.names c.in_ok-ready.ensures.files.reads c.held.ensures.text in
    look_up_fails sees k.path tally honest c.from_residual-in_err-node.result c.from_residual-in_err-node.ensures.1 (sym c.heading_at.ensures.value ∙ c.in_err-node.was)

pub returns-clause-finds : goal.returns-clause-finds
returns-clause-finds g c tally honest =
    let k = c.args.command.now in
    let d = g.D.Disk in
    let undone = c.undo.ensures in
    let sees = sees_one k.file c.requires.between d c.args.states.now c.ready.new.self c.requires.file c.in_ok-ready.ensures.ready c.ready.ensures.files.disk.names c.in_ok-ready.ensures.files.reads c.held.ensures.text in
    let same = view_same d.files c.args.states.now c.ready.new.self c.undo.new.self tally undone.memory undone.before in
    look_up_finds sees k.path tally (subst d.honest undone.memory.disk honest) c.in_ok-node.node (sym c.heading_at.ensures.value ∙ c.in_ok-node.was) (ap (λ (k : StoreView g.row.D.Denot). k.session) same)

pub returns-clause-heading : goal.returns-clause-heading
returns-clause-heading g c =
    let file = c.args.command.now.file in
    let ready = one_ready file c.requires.between c.in_ok-ready.ensures.ready in
    subst (λ (t : TextSet). HasHeading t file c.in_ok-node.node) (sym c.undo.ensures.before)
    (heading_before c.ready.new.self.held (file ∷ []) file c.in_ok-node.node c.held.result.now.text ready (one_name file) c.held.ensures.text c.in_ok-node.ensures.within)
