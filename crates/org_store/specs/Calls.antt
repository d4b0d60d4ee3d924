-- The calls that change a store, and what makes them: commands, settlings, and new groups.
use Rattle.std.specs.Prelude.{◌≡◌, ℕ, List, [], ◌∷◌, Result}
use Rattle.org_disk.specs.declared.disk.Disk.{Ghosts}
use Rattle.org_commands.specs.declared.command.Command.{Command}
use Rattle.org_commands.specs.declared.command.Reply.{Reply}
use Rattle.org_commands.specs.declared.command.RunFault.{RunFault}
use Rattle.org_commands.specs.declared.tally.Group.{Group}
use Rattle.org_store.specs.History.{Adds, Trace}
use Rattle.org_commands.specs.Outcome.{outcome}
use Rattle.org_store.specs.Runs.{RunsOver, SettlesOver}
use Rattle.org_commands.specs.Session.{Session, StoreView}
use Rattle.org_commands.specs.Step.{Settles, Step}

-- A call of a store, with its answer.
pub data Call : Type 0 where
  -- `Store::run`
  Ran : Command → Result Reply RunFault → Call
  -- `Store::settle`
  Settled : Result (Unit {0}) RunFault → Call
  -- `Store::set_group`
  Grouped : Group → Call

-- What calls are made on: states of the type S, with the session of each, and what a call makes of
-- one.
pub record Machine (S : Type 0) : Type 1 where
  pub session : S → Session
  pub makes : S → Call → S → Type 0

-- These calls were made, one after another.
abbrev pub MakesAll : {S : Type 0} → Machine S → S → List Call → S → Type 0
MakesAll m old [] new = new ≡ old
MakesAll {S = S} m old (call ∷ calls) new =
    (mid : S) × m.makes old call mid × MakesAll m mid calls new

-- The model: sessions.
abbrev pub StepsBy : Session → Call → Session → Type 0
StepsBy old (Ran command answer) new = Step old command answer new
StepsBy old (Settled answer) new = Settles old answer new
StepsBy old (Grouped group) new = new ≡ record old { group = group }

abbrev pub model : Machine Session
model = record { session = λ session. session; makes = StepsBy }

-- Stores over a disk of the type D, which is honest after the call: the clauses of the function
-- that was called.
abbrev pub grouped : {D : Type 0} → Group → StoreView D → StoreView D
grouped group old = record old { session = record old.session { group = group } }

abbrev pub MakesOver : {D : Type 0} → Ghosts D → StoreView D → Call → StoreView D → Type 0
MakesOver g old (Ran command answer) new = RunsOver g old command answer new
MakesOver g old (Settled answer) new = SettlesOver g old answer new
MakesOver g old (Grouped group) new = new ≡ grouped group old

abbrev pub stores : {D : Type 0} → Ghosts D → Machine (StoreView D)
stores g = record { session = λ store. store.session; makes = MakesOver g }

-- Such stores with their traces: a command that is accepted adds its texts, and no other call
-- anything.
abbrev pub CallAdds : Session → Call → Session → List (List (List ℕ)) → List (List (List ℕ))
    → Type 0
CallAdds old (Ran command answer) new texts more =
    Adds (outcome old command) old.accepted new.accepted texts more
CallAdds old call new texts more = more ≡ texts

abbrev pub Traces : {D : Type 0} → Ghosts D → Trace D → Call → Trace D → Type 0
Traces g old call new =
    MakesOver g old.store call new.store
    × CallAdds old.store.session call new.store.session old.texts new.texts

abbrev pub traces : {D : Type 0} → Ghosts D → Machine (Trace D)
traces g = record { session = λ trace. trace.store.session; makes = Traces g }
