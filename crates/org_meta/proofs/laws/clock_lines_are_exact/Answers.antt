use Rattle.org_meta.proofs.ClockForms.{clock_complete, clock_sound}
use Rattle.org_meta.proofs.laws.clock_lines_are_exact.Goals as goal

pub returns-clause-read : goal.returns-clause-read
returns-clause-read c = clock_sound

pub returns-clause-only : goal.returns-clause-only
returns-clause-only c = clock_complete
