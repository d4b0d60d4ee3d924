-- How a command is planned on the texts of a store's files.
use Rattle.std.specs.Prelude.{◌≡◌, ℕ, [], Option, None, Some, Result, Ok, Err}
use Rattle.org_fault.specs.declared.fault.Fault.{Fault}
use Rattle.org_fault.specs.declared.fault.Fault.TheVariants as fault
use Rattle.org_fault.specs.declared.refusal.Refusal.{Refusal}
use Rattle.org_fileset.specs.declared.fault.SetFault.{SetFault}
use Rattle.org_fileset.specs.declared.fault.SetFault.TheVariants as set
use Rattle.org_outline.specs.declared.paths.PathFault.{PathFault}
use Rattle.org_outline.specs.Paths.{refusal_of}
use Rattle.org_texts.specs.declared.plan.Plan.{Plan}
use Rattle.org_texts.specs.Texts.{Holding}
use Rattle.org_commands.specs.declared.command.RunFault.{RunFault}
use Rattle.org_commands.specs.declared.command.RunFault.TheVariants.{Refused, OutOfMemory, Device, Broken}
use Rattle.org_commands.specs.Files.{new_texts}
use Rattle.org_commands.specs.Session.{Session}
use Rattle.org_commands.specs.Outcome.{Outcome, changed}
use Rattle.org_commands.specs.Step.{Steps, failed_in_read}

-- The store was `old`, a command that is to do this is planned as these edits of what is held, or
-- isn't, and the store is `new`.
abbrev pub Plans : Session → Outcome → Result Plan RunFault → Holding → Session → Type 0
Plans old outcome (Ok plan) held new =
    (outcome ≡ changed old (new_texts plan held.now)) × (new ≡ old)
Plans old outcome (Err fault) held new = Steps old outcome (Err fault) new

-- the same of a command that may change nothing: then there is no plan
abbrev pub PlansOrStays : Session → Outcome → Result (Option Plan) RunFault → Holding → Session
    → Type 0
PlansOrStays old outcome (Ok (Some plan)) held new = Plans old outcome (Ok plan) held new
PlansOrStays old outcome (Ok None) held new = (outcome ≡ changed old []) × (new ≡ old)
PlansOrStays old outcome (Err fault) held new = Plans old outcome (Err fault) held new

-- a call that reads files where they aren't held got this answer
abbrev pub Reads : {A : Type 0} → Session → Result A RunFault → Session → Type 0
Reads old (Ok _) new = new ≡ old
Reads old (Err OutOfMemory) new = new ≡ old
Reads old (Err Device) new = new ≡ failed_in_read old
Reads old (Err fault) new = ⊥

-- A heading was looked for, and it is this one; or it isn't there, for this reason; or its file
-- couldn't be read.
abbrev pub LooksUp : Session → Result ℕ PathFault → Result ℕ RunFault → Session → Type 0
LooksUp old found (Ok i) new = (found ≡ Ok i) × (new ≡ old)
LooksUp old found (Err (Refused why)) new =
    ((fault : PathFault) × (found ≡ Err fault) × (why ≡ refusal_of fault)) × (new ≡ old)
LooksUp old found (Err OutOfMemory) new = new ≡ old
LooksUp old found (Err Device) new = new ≡ failed_in_read old
LooksUp old found (Err Broken) new = ⊥

-- the fault of a command that met this fault of the files
abbrev pub fault_of_set : SetFault → RunFault
fault_of_set set.OutOfMemory = OutOfMemory
fault_of_set set.Device = Device
fault_of_set set.Broken = Broken

-- the fault of a command that met this one as it was planned
abbrev pub fault_of : Fault Refusal → RunFault
fault_of fault.OutOfMemory = OutOfMemory
fault_of (fault.Refused why) = Refused why
