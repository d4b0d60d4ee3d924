use Rattle.std.proofs.Common.{map, string_bytes}
use Rattle.std.proofs.lemmas.Result.{err_from_is_err_and, IfOk-weaker}
use Rattle.clap.specs.Words.{app_of}
use Rattle.org_program.proofs.Words.{refused, none_refused, rows_are, of_words}
use Rattle.org_program.proofs.arguments.parse.Goals as goal

pub returns-in_err-matches-clause-fault : goal.returns-in_err-matches-clause-fault
returns-in_err-matches-clause-fault c =
    let words = map string_bytes c.args.words.now in
    let why = refused words (app_of c.in_ok-command.command) c.in_ok-command.ensures c.in_err-matches.field-0.0 c.in_err-matches.ensures.kinds in
    let reported = err_from_is_err_and c.from_residual-in_err-matches.result c.from_residual-in_err-matches.ensures.1 in
    rw (reported.1, reported.2) why

pub returns-clause-said : goal.returns-clause-said
returns-clause-said c =
    let words = map string_bytes c.args.words.now in
    let app = app_of c.in_ok-command.command in
    let rows = rows_are words app c.in_ok-command.ensures c.in_ok-matches.matches c.in_ok-matches.ensures.ok.2 in
    let none = none_refused words app c.in_ok-command.ensures c.in_ok-matches.ensures.kinds in
    IfOk-weaker c.arguments_of.result _ _ (λ arguments reported. reported words rows none) c.arguments_of.ensures.said

pub returns-clause-fault : goal.returns-clause-fault
returns-clause-fault c =
    let words = map string_bytes c.args.words.now in
    let rows = rows_are words (app_of c.in_ok-command.command) c.in_ok-command.ensures c.in_ok-matches.matches c.in_ok-matches.ensures.ok.2 in
    of_words words c.in_ok-matches.matches rows c.arguments_of.result c.arguments_of.ensures.fault
