-- What a call of a store does to its counts, whatever the disk does.
use Rattle.std.specs.Prelude.{◌≡◌, ◌⊎◌, ◌+◌, Result, Ok, Err, if◌then◌else◌, is_ok}
use Rattle.org_commands.specs.declared.command.Reply.{Reply}
use Rattle.org_commands.specs.declared.command.Reply.TheVariants.{Done, Safe, Text, Time}
use Rattle.org_commands.specs.declared.command.RunFault.{RunFault}
use Rattle.org_commands.specs.declared.command.RunFault.TheVariants.{Refused, OutOfMemory, Device, Broken}
use Rattle.org_commands.specs.Session.{Session}
use Rattle.org_commands.specs.Step.{fills}

pub record SameCounts (old new : Session) : Type 0 where
  pub accepted : new.accepted ≡ old.accepted
  pub acknowledged : new.acknowledged ≡ old.acknowledged
  pub group : new.group ≡ old.group

-- A command got this answer. Where it is Device, the command may be counted as accepted; nothing
-- more is acknowledged.
abbrev pub Counts : Session → Result Reply RunFault → Session → Type 0
Counts old (Ok (Done n)) new =
    (n ≡ old.accepted + 1)
    × (new.accepted ≡ n)
    × (new.acknowledged ≡ (if fills old then n else old.acknowledged))
    × (new.group ≡ old.group)
Counts old (Ok (Text bytes)) new = SameCounts old new
Counts old (Ok (Time minutes)) new = SameCounts old new
Counts old (Ok (Safe n)) new =
    (n ≡ old.accepted) × (new.accepted ≡ n) × (new.acknowledged ≡ n) × (new.group ≡ old.group)
Counts old (Err (Refused why)) new = SameCounts old new
Counts old (Err OutOfMemory) new = SameCounts old new
Counts old (Err Device) new =
    ((new.accepted ≡ old.accepted) ⊎ (new.accepted ≡ old.accepted + 1))
    × (new.acknowledged ≡ old.acknowledged)
    × (new.group ≡ old.group)
Counts old (Err Broken) new = SameCounts old new

-- settling got this answer
pub record SettledCounts (old : Session) (answer : Result (Unit {0}) RunFault) (new : Session)
    : Type 0 where
  pub accepted : new.accepted ≡ old.accepted
  pub acknowledged : new.acknowledged ≡ (if is_ok answer then old.accepted else old.acknowledged)
  pub group : new.group ≡ old.group
