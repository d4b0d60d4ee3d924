-- The bytes of replies.
use Rattle.std.specs.Prelude.{ℕ, List, codes, [], ◌++◌, nat_lt, if◌then◌else◌, length, decimal, Option, Some, None, Result, Ok, Err}
use Rattle.org_fault.specs.declared.fault.Fault.{Fault}
use Rattle.org_serve.specs.declared.fault.BadLine.{BadLine}
use Rattle.org_fault.specs.declared.fault.Fault.TheVariants as line
use Rattle.org_stamp.specs.Stamp.{duration_text}
use Rattle.org_commands.specs.declared.command.Reply.{Reply}
use Rattle.org_commands.specs.declared.command.Reply.TheVariants.{Done, Safe, Text, Time}
use Rattle.org_commands.specs.declared.command.RunFault.{RunFault}
use Rattle.org_commands.specs.declared.command.RunFault.TheVariants.{Refused, OutOfMemory, Device, Broken}
use Rattle.org_fault.specs.Refusals.{code_of, name_of}

abbrev pub bad_line : List ℕ
bad_line = codes "refused 20 BadLine\n"

abbrev pub no_memory : List ℕ
no_memory = codes "fault OutOfMemory\n"

-- what is written for a line that isn't run
abbrev pub fault_text : Fault BadLine → List ℕ
fault_text (line.Refused _) = bad_line
fault_text line.OutOfMemory = no_memory

abbrev pub safe_line : ℕ → List ℕ
safe_line n = codes "safe " ++ decimal n ++ codes "\n"

-- how many commands are on the disk, where these became more
abbrev pub safe_if_risen : ℕ → ℕ → List ℕ
safe_if_risen old new = if nat_lt old new then safe_line new else []

-- the reply of a call that didn't do what was asked
abbrev pub fault_line : RunFault → List ℕ
fault_line (Refused why) =
    codes "refused " ++ decimal (code_of why) ++ codes " " ++ name_of why ++ codes "\n"
fault_line OutOfMemory = no_memory
fault_line Device = codes "fault Device\n"
fault_line Broken = codes "fault Broken\n"

-- all that is written for a command, which so many accepted commands on the disk came before, and
-- so many are there now
abbrev pub answer_text : Result Reply RunFault → ℕ → ℕ → List ℕ
answer_text (Ok (Done n)) old new = codes "ok " ++ decimal n ++ codes "\n" ++ safe_if_risen old new
answer_text (Ok (Safe n)) old new = safe_line n
answer_text (Ok (Text bytes)) old new =
    codes "text " ++ decimal (length bytes) ++ codes "\n" ++ bytes ++ codes "\n"
answer_text (Ok (Time minutes)) old new = codes "time " ++ duration_text minutes 1 ++ codes "\n"
answer_text (Err fault) old new = fault_line fault

-- what is written for the settling at the end of the input
abbrev pub settled_text : Result (Unit {0}) RunFault → ℕ → List ℕ
settled_text (Ok done) safe = safe_line safe
settled_text (Err fault) safe = fault_line fault

-- how many commands the answer says are on the disk, where it says that
abbrev pub reported_safe : Result Reply RunFault → ℕ → ℕ → Option ℕ
reported_safe (Ok (Done n)) old new = if nat_lt old new then Some new else None
reported_safe (Ok (Safe n)) old new = Some n
reported_safe (Ok (Text bytes)) old new = None
reported_safe (Ok (Time minutes)) old new = None
reported_safe (Err fault) old new = None
