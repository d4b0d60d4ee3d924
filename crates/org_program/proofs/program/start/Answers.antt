use Rattle.std.proofs.Common.{inr}
use Rattle.std.proofs.lemmas.Result.{err_from_is_err_and}
use Rattle.org_folder.proofs.Looked.{looks_on, one_look}
use Rattle.org_program.proofs.program.start.Goals as goal

pub returns-in_err-setup-clause-looks : goal.returns-in_err-setup-clause-looks
returns-in_err-setup-clause-looks g c = looks_on _ _ _ (one_look _ _ _ tt c.in_ok-fill_streams.ensures.ok) c.setup.ensures.looks

pub returns-in_err-setup-clause-fault : goal.returns-in_err-setup-clause-fault
returns-in_err-setup-clause-fault g c =
    let reported = err_from_is_err_and c.from_residual-in_err-setup.result c.from_residual-in_err-setup.ensures.1 in
    rw (reported.1, reported.2) (inr (record {
      arguments = c.in_ok-arguments.arguments;
      said = c.in_ok-arguments.ensures.said;
      cause = c.in_err-setup.ensures.cause;
    }))

pub returns-clause-looks : goal.returns-clause-looks
returns-clause-looks g c = looks_on _ _ _ (one_look _ _ _ tt c.in_ok-fill_streams.ensures.ok) c.setup.ensures.looks
