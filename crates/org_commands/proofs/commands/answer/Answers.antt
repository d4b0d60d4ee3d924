use Rattle.std.proofs.Common.{sym, subst}
use Rattle.org_commands.specs.declared.command.Question.{Question}
use Rattle.org_commands.specs.declared.command.Question.TheVariants.{Show}
use Rattle.org_commands.specs.Questions.{AnswersQuestion}
use Rattle.org_commands.proofs.commands.answer.Goals as goal

pub returns-in-Show : goal.returns-in-Show
returns-in-Show g c =
    let answers : AnswersQuestion g.D.Disk c.args.states.now c.args.files.now (Show c.in-Show.file) c.show.result c.show.new.files = c.show.ensures c.args.states.now in
    subst (λ (question : Question). AnswersQuestion g.D.Disk c.args.states.now c.args.files.now question c.show.result c.show.new.files) (sym c.in-Show.is) answers
