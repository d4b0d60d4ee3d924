use Rattle.org_serve.proofs.Spellable.{command_is}
use Rattle.org_serve.proofs.Spelled.{command_read, one_command}
use Rattle.org_serve.proofs.laws.spelled_command_reads_back.Goals as goal

pub returns-clause-read : goal.returns-clause-read
returns-clause-read c = command_read

pub returns-clause-one : goal.returns-clause-one
returns-clause-one c = one_command

pub returns-clause-only : goal.returns-clause-only
returns-clause-only c = command_is
