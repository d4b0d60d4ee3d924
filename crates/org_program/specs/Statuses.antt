-- The exit status of each fault.
use Rattle.std.specs.Prelude.{ℕ}
use Rattle.org_program.specs.declared.fault.Fault.{Fault}
use Rattle.org_program.specs.declared.fault.Fault.TheVariants.{Usage, BadName, BadStates, Locked, Inside, SameFile, Linked, Open, Ended}

abbrev pub status_of : Fault → ℕ
status_of (Usage text) = 2
status_of (BadName name) = 2
status_of BadStates = 2
status_of Locked = 3
status_of (Inside store) = 3
status_of (SameFile name) = 3
status_of Linked = 3
status_of (Open fault) = 3
status_of (Ended end) = 1
