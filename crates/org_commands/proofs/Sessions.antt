-- What the calls of a store's files do to its session.
use Rattle.std.proofs.Common.{arith, ◌≡◌, inl, false, List, ℕ, Option, Some, Result, Ok, Err, refl, sym, subst, true, ◌∙◌, ap}
use Rattle.std.proofs.lemmas.Grind.{common_steps}
use Rattle.std.specs.Prelude.{IsOkAnd, MatchResult}
use Rattle.org_disk.specs.Disk.{FileState}
use Rattle.org_outline.specs.States.{Keywords}
use Rattle.org_journal.specs.Recovered.{Image}
use Rattle.org_texts.specs.declared.plan.Plan.{Plan}
use Rattle.org_texts.specs.Texts.{Holding, held_over}
use Rattle.org_commands.specs.declared.command.RunFault.{RunFault}
use Rattle.org_commands.specs.declared.command.RunFault.TheVariants.{Refused, OutOfMemory, Device, Broken}
use Rattle.org_commands.specs.declared.tally.Tally.{Tally}
use Rattle.org_commands.specs.Files.{OpenFiles, StaysInMemory}
use Rattle.org_commands.specs.Session.{Session, view_over, session_over}
use Rattle.org_commands.specs.Outcome.{Outcome}
use Rattle.org_commands.specs.Step.{Steps, failed_in_read}
use Rattle.org_commands.specs.Keeping.{Plans, PlansOrStays, Reads}
use Rattle.org_commands.specs.InOrder.{texts_of}
use Rattle.org_commands.proofs.InOrder.{texts_same}

-- files that stay as they are, but for what is edited
pub view_same : {D : Type 0} (files : D → List ℕ → FileState) (states : Keywords) (old new : OpenFiles D) (tally : Tally) → StaysInMemory old new → new.held.before ≡ old.held.before
    → view_over files states new tally ≡ view_over files states old tally
view_same files states old new tally memory before = rw (memory.disk, memory.names, memory.broken, before) refl

-- a call that changes no text
still_texts : {D : Type 0} (texts : D → Image) (old new : OpenFiles D) → new.names ≡ old.names → texts new.disk ≡ texts old.disk
    → ((name : List ℕ) → held_over new.held.before (texts new.disk) name ≡ held_over old.held.before (texts old.disk) name)
    → texts_of (held_over new.held.before (texts new.disk)) new.names ≡ texts_of (held_over old.held.before (texts old.disk)) old.names
still_texts texts old new names same over =
    ap (texts_of (held_over new.held.before (texts new.disk))) names
    ∙ texts_same (held_over new.held.before (texts new.disk)) (held_over old.held.before (texts old.disk)) old.names (λ name there. over name)

pub session_still : {D : Type 0} (texts : D → Image) (states : Keywords) (old new : OpenFiles D) (tally : Tally) → new.names ≡ old.names → texts new.disk ≡ texts old.disk
    → ((name : List ℕ) → held_over new.held.before (texts new.disk) name ≡ held_over old.held.before (texts old.disk) name)
    → new.broken ≡ old.broken → session_over texts states new tally ≡ session_over texts states old tally
session_still texts states old new tally names same over still = grind (arith, common_steps)

pub session_failed : {D : Type 0} (texts : D → Image) (states : Keywords) (old new : OpenFiles D) (tally : Tally) → new.names ≡ old.names → texts new.disk ≡ texts old.disk
    → ((name : List ℕ) → held_over new.held.before (texts new.disk) name ≡ held_over old.held.before (texts old.disk) name)
    → new.broken ≡ true → session_over texts states new tally ≡ failed_in_read (session_over texts states old tally)
session_failed texts states old new tally names same over fell =
    let held = still_texts texts old new names same over in
    rw (held, same, names, fell) refl

-- a fault of a reading, for any command
pub does_read : (A : Type 0) (old new : Session) (outcome : Outcome) (fault : RunFault) → old.broken ≡ false → Reads {A = A} old (Err fault) new → Steps old outcome (Err fault) new
does_read A old new outcome OutOfMemory unbroken reads = (unbroken, reads)
does_read A old new outcome Device unbroken reads = (unbroken, inl reads)
does_read A old new outcome Broken unbroken reads = absurd reads
does_read A old new outcome (Refused why) unbroken reads = absurd reads

-- the same fault, handed on
pub reads_fault : {A B : Type 0} (old new : Session) (result : Result A RunFault) (given : Result B RunFault) (fault : RunFault) → result ≡ Err fault → given ≡ Err fault → Reads old result new → Reads old given new
reads_fault {A} {B} old new result given fault was is reads =
    subst (λ (r : Result B RunFault). Reads old r new) (sym is) (go fault (subst (λ (r : Result A RunFault). Reads old r new) was reads))
  where
    go : (f : RunFault) → Reads {A = A} old (Err f) new → Reads {A = B} old (Err f) new
    go OutOfMemory r = r
    go Device r = r
    go Broken r = r
    go (Refused why) r = r

-- a planner that always has a plan is one of those that may have none
pub some_planned : (s : Session) (reported : Outcome) (first : Result Plan RunFault) (held : Holding) (new : Session) (answer : Result (Option Plan) RunFault)
    → MatchResult first (λ plan. IsOkAnd answer (λ given. given ≡ Some plan)) (λ fault. answer ≡ Err fault) → Plans s reported first held new → PlansOrStays s reported answer held new
some_planned s reported (Ok plan) held new (Ok given) is plans = subst (λ (o : Option Plan). PlansOrStays s reported (Ok o) held new) (sym is) plans
some_planned s reported (Ok plan) held new (Err fault) is plans = absurd is
some_planned s reported (Err fault) held new answer is plans = subst (λ (r : Result (Option Plan) RunFault). PlansOrStays s reported r held new) (sym is) plans
