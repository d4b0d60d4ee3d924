use Rattle.org_state.proofs.Switching.{stands, closing_answers}
use Rattle.org_state.proofs.clocks.clock_out.Goals as goal

pub returns : goal.returns
returns c =
    closing_answers c.args.text.now c.args.running (stands c.args.text.now c.args.running c.requires.terminated c.requires.runs) c.args.now c.closing.result c.requires.terminated c.closing.ensures
