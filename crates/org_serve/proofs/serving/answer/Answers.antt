use Rattle.std.proofs.Common.{◌++◌}
use Rattle.org_serve.proofs.Joins.{outcome_of}
use Rattle.org_serve.proofs.serving.answer.Goals as goal

pub returns-clause-answers : goal.returns-clause-answers
returns-clause-answers g c =
    let made = c.answer_read-answered.ensures in
    record {
      step = λ part stands. (made.step.0, outcome_of c.args.group c.answer_read-answered.result _ _ (part ++ c.args.last.now) c.read_line-read.result _ _ (c.read_line-read.ensures part stands) made.step.1, made.step.2);
      counts = record { same = made.step.2.same; counted = made.step.2.counted };
      untouched = made.untouched;
      accounts = made.accounts;
    }
