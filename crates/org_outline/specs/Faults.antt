-- Why no states are made of lists.
use Rattle.org_fault.specs.declared.fault.Fault.{Fault}
use Rattle.org_fault.specs.declared.fault.Fault.TheVariants.{Refused}
use Rattle.org_outline.specs.declared.states.BadStates.{BadStates}

-- what is answered where the lists are no states
abbrev pub bad_states : Fault BadStates
bad_states = Refused (record {})
