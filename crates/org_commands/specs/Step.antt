-- What one call of a store does to its session: a relation by cases on the answer.
use Rattle.std.specs.Prelude.{◌≡◌, ◌⊎◌, ℕ, ◌+◌, ◌-◌, Bool, true, false, List, [], ◌∷◌, Result, Ok, Err, if◌then◌else◌, IsTrue}
use Rattle.org_commands.specs.declared.command.Command.{Command}
use Rattle.org_commands.specs.declared.command.Reply.{Reply}
use Rattle.org_commands.specs.declared.command.Reply.TheVariants.{Done, Safe, Text, Time}
use Rattle.org_commands.specs.declared.command.RunFault.{RunFault}
use Rattle.org_commands.specs.declared.command.RunFault.TheVariants.{Refused, OutOfMemory, Device, Broken}
use Rattle.org_commands.specs.Groups.{are_group}
use Rattle.org_commands.specs.Session.{Session}
use Rattle.org_commands.specs.Outcome.{Outcome, IsAccepted, Shows, Reports, AsksToSettle, Refuses, outcome}

-- with one more accepted command, the group is full
abbrev pub fills : Session → Bool
fills s = are_group s.group (s.accepted + 1 - s.acknowledged)

-- one more command accepted, with these texts after it; where it fills the group, all is settled
abbrev pub done : Session → List (List ℕ) → Session
done s files =
    if fills s
    then record s
    { files = files; settled = files; accepted = s.accepted + 1; acknowledged = s.accepted + 1 }
    else record s { files = files; accepted = s.accepted + 1 }

-- all accepted commands settled
abbrev pub settled : Session → Session
settled s = record s { settled = s.files; acknowledged = s.accepted }

-- where all accepted commands are acknowledged, their texts are on the disk
abbrev pub IsSettled : Session → Type 0
IsSettled s = s.broken ≡ false → s.acknowledged ≡ s.accepted → s.files ≡ s.settled

-- a call of the disk failed in a read
abbrev pub failed_in_read : Session → Session
failed_in_read s = record s { broken = true }

-- a call of the disk failed while texts were put on the disk. The session then says nothing of the
-- files: `left` and `now` may be any.
abbrev pub torn : Session → List (List ℕ) → List (List ℕ) → Session
torn s left now = record s { files = left; settled = now; broken = true }

-- the same in a command: it is accepted, and isn't acknowledged
abbrev pub torn_in : Session → List (List ℕ) → List (List ℕ) → Session
torn_in s left now =
    record s { files = left; settled = now; accepted = s.accepted + 1; broken = true }

-- the disk failed as the store was asked to settle
abbrev pub IsTornBetween : Session → Outcome → Session → Type 0
IsTornBetween old outcome new =
    (left : List (List ℕ)) × (now : List (List ℕ))
    × (outcome ≡ AsksToSettle)
    × (new ≡ torn old left now)

-- the disk failed as a command was settled that would be accepted and fills the group
abbrev pub IsTorn : Session → Outcome → Session → Type 0
IsTorn old outcome new = (files : List (List ℕ)) × (left : List (List ℕ)) × (now : List (List ℕ))
    × IsAccepted outcome files × IsTrue (fills old) × (new ≡ torn_in old left now)

-- The store was `old`, a command is to do this, its answer is this one, and the store is `new`.
abbrev pub Steps : Session → Outcome → Result Reply RunFault → Session → Type 0
Steps old outcome (Ok (Done n)) new =
    (old.broken ≡ false)
    × ((files : List (List ℕ))
    × IsAccepted outcome files
    × (n ≡ old.accepted + 1)
    × (new ≡ done old files))
Steps old outcome (Ok (Text bytes)) new =
    (old.broken ≡ false) × (outcome ≡ Shows bytes) × (new ≡ old)
Steps old outcome (Ok (Time minutes)) new =
    (old.broken ≡ false) × (outcome ≡ Reports minutes) × (new ≡ old)
Steps old outcome (Ok (Safe n)) new =
    (old.broken ≡ false) × (outcome ≡ AsksToSettle) × (n ≡ old.accepted) × (new ≡ settled old)
Steps old outcome (Err (Refused why)) new =
    (old.broken ≡ false) × (outcome ≡ Refuses why) × (new ≡ old)
Steps old outcome (Err OutOfMemory) new = (old.broken ≡ false) × (new ≡ old)
Steps old outcome (Err Device) new =
    (old.broken ≡ false)
    × ((new ≡ failed_in_read old) ⊎ IsTorn old outcome new ⊎ IsTornBetween old outcome new)
Steps old outcome (Err Broken) new = (old.broken ≡ true) × (new ≡ old)

-- The store was `old`, a command gets this answer, and the store is `new`.
abbrev pub Step : Session → Command → Result Reply RunFault → Session → Type 0
Step old command answer new = Steps old (outcome old command) answer new

-- an answer that is no fault: what was asked is done, or it is refused
abbrev pub IsReply : Result Reply RunFault → Type 0
IsReply (Ok reply) = Unit {0}
IsReply (Err (Refused why)) = Unit {0}
IsReply (Err fault) = ⊥

-- The store was `old`, settling gets this answer, and the store is `new`.
abbrev pub Settles : Session → Result (Unit {0}) RunFault → Session → Type 0
Settles old (Ok _) new = (old.broken ≡ false) × (new ≡ settled old)
Settles old (Err (Refused why)) new = ⊥
Settles old (Err OutOfMemory) new = (old.broken ≡ false) × (new ≡ old)
Settles old (Err Device) new =
    (old.broken ≡ false)
    × ((left : List (List ℕ)) × (now : List (List ℕ)) × (new ≡ torn old left now))
Settles old (Err Broken) new = (old.broken ≡ true) × (new ≡ old)

-- These commands, one after another, got these answers.
abbrev pub Run : Session → List Command → List (Result Reply RunFault) → Session → Type 0
Run old [] [] new = new ≡ old
Run old (command ∷ commands) (answer ∷ answers) new =
    (mid : Session) × Step old command answer mid × Run mid commands answers new
Run old commands answers new = ⊥
