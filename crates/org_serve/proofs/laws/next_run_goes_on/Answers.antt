use Rattle.org_serve.proofs.Again.{goes_on, goes_on_same}
use Rattle.org_serve.proofs.laws.next_run_goes_on.Goals as goal

pub returns-clause-any : goal.returns-clause-any
returns-clause-any g c = λ one other disk now left after end last io more first second state least image org held reads there.
    goes_on first second state least image org held reads there

pub returns-clause-same : goal.returns-clause-same
returns-clause-same g c = λ one other disk now left after end last io more first second state least image org way honestly held same reads there.
    goes_on_same first second state least image org way honestly held same reads there
