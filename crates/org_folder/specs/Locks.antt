-- What is held of a folder after a try to lock it.
use Rattle.std.specs.Prelude.{Option, Some, None, Result, Ok, Err}
use Rattle.std.specs.declared.fs.locks.TryLockError.{TryLockError}
use Rattle.std.specs.declared.fs.locks.TryLockError.TheVariants.{Error, WouldBlock}
use Rattle.org_fault.specs.declared.fault.Fault.{Fault}
use Rattle.org_fault.specs.declared.fault.Fault.TheVariants.{Refused}
use Rattle.org_folder.specs.declared.lock.Locked.{Locked}

-- The folder where it was locked; one that another store has locked is reported, and one that can't
-- be locked isn't held.
abbrev pub held : {F : Type 0} → F → Result (Unit {0}) TryLockError
    → Result (Option F) (Fault Locked)
held folder (Ok _) = Ok (Some folder)
held folder (Err WouldBlock) = Err (Refused (record {}))
held folder (Err (Error fault)) = Ok None
