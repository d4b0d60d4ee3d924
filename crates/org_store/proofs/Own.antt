-- Calls of a store write no file but its own.
use Rattle.std.proofs.Common.{rules, arith, ◌≡◌, inl, inr, ℕ, List, [], ◌∷◌, ◌++◌, true, Result, Ok, Err, refl, sym, ap, subst}
use Rattle.std.proofs.lemmas.Grind.{common_steps}
use Rattle.org_disk.specs.declared.disk.Disk.{Ghosts}
use Rattle.std.proofs.lemmas.Bool.{cases_Bool, false≢true}
use Rattle.std.specs.Str.{bytes_eq}
use Rattle.org_disk.proofs.Names.{name_cases, same_name}
use Rattle.org_fileset.specs.Writes.{LeavesAlone, IsOther}
use Rattle.org_fileset.proofs.Writes.{alone_fewer, alone_none}
use Rattle.org_commands.specs.declared.command.Command.{Command}
use Rattle.org_commands.specs.declared.command.Reply.{Reply}
use Rattle.org_commands.specs.declared.command.Reply.TheVariants.{Done, Safe, Text, Time}
use Rattle.org_commands.specs.declared.command.RunFault.{RunFault}
use Rattle.org_commands.specs.declared.command.RunFault.TheVariants.{Refused, OutOfMemory, Device, Broken}
use Rattle.org_store.specs.Calls.{Call, MakesAll, Traces, traces}
use Rattle.org_store.specs.Calls.Call.{Ran, Settled, Grouped}
use Rattle.org_store.specs.History.{Trace}
use Rattle.org_commands.specs.InOrder.{AreNames, is_name}
use Rattle.org_store.specs.Left.{IsApart, IsLeftAlone, IsSpared}
use Rattle.org_commands.specs.Outcome.{Outcome, Accepts, AsksToSettle, Refuses, Shows, Reports, written, outcome}
use Rattle.org_store.specs.Runs.{RunsOver, SettlesOver}
use Rattle.org_commands.specs.Session.{Session, StoreView}
use Rattle.org_commands.specs.Step.{Settles}
use Rattle.org_store.specs.Dirty.{Dirties, DirtyAfter, DirtyAfterSettled, is_listed}
use Rattle.org_store.proofs.Accepted.{written_named}
use Rattle.org_store.proofs.Follows.{step_setting}

-- Dirty files, as names and by the test of one name.

named_dirty : (names some : List (List ℕ)) → AreNames names some → (name : List ℕ) → is_listed some name ≡ true → is_name names name ≡ true
named_dirty names [] all name there = absurd (false≢true there)
named_dirty names (one ∷ some) all name there = elim (name_cases name one) [
  | inl same ↦ subst (λ (n : List ℕ). is_name names n ≡ true) (sym same.0) all.0
  | inr apart ↦ let f = apart.1 in named_dirty names some all.1 name (rw f at there)
]

dirty_named : (names some : List (List ℕ)) → ((name : List ℕ) → is_listed some name ≡ true → is_name names name ≡ true) → AreNames names some
dirty_named names [] all = tt
dirty_named names (one ∷ some) all = (
  all one (let t = same_name one in rw t refl),
  dirty_named names some (λ name there. all name (dirty_too one some name there)),
)
  where
    dirty_too : (one : List ℕ) (some : List (List ℕ)) (name : List ℕ) → is_listed some name ≡ true → is_listed (one ∷ some) name ≡ true
    dirty_too one some name there = elim (cases_Bool (bytes_eq name one)) [ inl t ↦ rw t refl | inr f ↦ rw f there ]

named_both : (names first second : List (List ℕ)) → AreNames names first → AreNames names second → AreNames names (first ++ second)
named_both names [] second a b = b
named_both names (one ∷ first) second a b = (a.0, named_both names first second a.1 b)

-- a name that is none of these isn't among some of them
other_named : (names some : List (List ℕ)) (name : List ℕ) → AreNames names some → IsApart names name → IsOther some name
other_named names [] name all apart = tt
other_named names (one ∷ some) name all apart = search (rules, arith, cases_Bool, false≢true, named_dirty)

-- a file that isn't the store's is written by no call
spared : (s : Session) (dirty : List (List ℕ)) (does : Outcome) (accepted : ℕ) (name : List ℕ) → AreNames s.names dirty → AreNames s.names (written does) → IsApart s.names name → IsSpared s dirty does accepted name
spared s dirty (Accepts names files) accepted name dirty_files gives apart = λ full counts. other_named s.names (dirty ++ names) name (named_both s.names dirty names dirty_files gives) apart
spared s dirty AsksToSettle accepted name dirty_files gives apart = other_named s.names dirty name dirty_files apart
spared s dirty (Shows text) accepted name dirty_files gives apart = tt
spared s dirty (Reports minutes) accepted name dirty_files gives apart = tt
spared s dirty (Refuses why) accepted name dirty_files gives apart = tt

joined_named : (names old some new : List (List ℕ)) → AreNames names old → AreNames names some → Dirties old some new → AreNames names new
joined_named names old some new dirty_files gives dirties =
    dirty_named names new (λ name there. named_dirty names (old ++ some) (named_both names old some dirty_files gives) name (dirties name there))

dirty_on : {D : Type 0} (old new : StoreView D) (does : Outcome) (answer : Result Reply RunFault) → AreNames old.session.names old.dirty → AreNames old.session.names (written does) → DirtyAfter old does answer new → AreNames old.session.names new.dirty
dirty_on old new does (Ok (Done n)) named gives dirty_files = joined_named old.session.names old.dirty (written does) new.dirty named gives dirty_files.1
dirty_on old new does (Ok (Safe n)) named gives dirty_files = subst (AreNames old.session.names) (sym dirty_files) tt
dirty_on old new does (Ok (Text bytes)) named gives dirty_files = subst (AreNames old.session.names) (sym dirty_files) named
dirty_on old new does (Ok (Time minutes)) named gives dirty_files = subst (AreNames old.session.names) (sym dirty_files) named
dirty_on old new does (Err fault) named gives dirty_files = subst (AreNames old.session.names) (sym dirty_files) named

dirty_settled_on : {D : Type 0} (old new : StoreView D) (answer : Result (Unit {0}) RunFault) → AreNames old.session.names old.dirty → DirtyAfterSettled old.dirty answer new.dirty → AreNames old.session.names new.dirty
dirty_settled_on old new (Ok done) named dirty_files = subst (AreNames old.session.names) (sym dirty_files) tt
dirty_settled_on old new (Err fault) named dirty_files = subst (AreNames old.session.names) (sym dirty_files) named

settles_names : (old new : Session) (answer : Result (Unit {0}) RunFault) → Settles old answer new → new.names ≡ old.names
settles_names old new (Ok done) step = ap (λ (s : Session). s.names) step.1
settles_names old new (Err (Refused why)) step = absurd step
settles_names old new (Err OutOfMemory) step = ap (λ (s : Session). s.names) step.1
settles_names old new (Err Device) step = ap (λ (s : Session). s.names) step.1.2
settles_names old new (Err Broken) step = ap (λ (s : Session). s.names) step.1

module _ {D : Type 0} (g : Ghosts D) where
  -- Calls of a store whose dirty files are its own: they still are, and no other file was
  -- written.
  pub record KeepsToItsOwn (old new : StoreView D) : Type 0 where
    pub names : new.session.names ≡ old.session.names
    pub dirty_files : AreNames old.session.names new.dirty
    pub alone : LeavesAlone g (IsApart old.session.names) old.disk new.disk

  pub own_none : (old new : StoreView D) → AreNames old.session.names old.dirty → new ≡ old → KeepsToItsOwn old new
  own_none old new named same = subst (KeepsToItsOwn old) (sym same) (record { names = refl; dirty_files = named; alone = alone_none g (IsApart old.session.names) old.disk })

  pub own_then : (old mid new : StoreView D) → KeepsToItsOwn old mid → (AreNames mid.session.names mid.dirty → KeepsToItsOwn mid new) → KeepsToItsOwn old new
  own_then old mid new first second = grind (arith, common_steps)

  pub own_run : (old new : StoreView D) (command : Command) (answer : Result Reply RunFault) → AreNames old.session.names old.dirty → RunsOver g old command answer new → KeepsToItsOwn old new
  own_run old new command answer named ran =
      let does = outcome old.session command in
      let gives = written_named old.session command in record {
        names = (step_setting old.session new.session command answer ran.step).1;
        dirty_files = dirty_on old new does answer named gives ran.dirty_files;
        alone = alone_fewer g (IsApart old.session.names) (IsLeftAlone old.session old.dirty does answer new.session.accepted) old.disk new.disk ran.disk.alone
            (λ name apart wrote. spared old.session old.dirty does new.session.accepted name named gives apart);
      }

  pub own_settling : (old new : StoreView D) (answer : Result (Unit {0}) RunFault) → AreNames old.session.names old.dirty → SettlesOver g old answer new → KeepsToItsOwn old new
  own_settling old new answer named ran = record {
    names = settles_names old.session new.session answer ran.step;
    dirty_files = dirty_settled_on old new answer named ran.dirty_files;
    alone = alone_fewer g (IsApart old.session.names) (IsLeftAlone old.session old.dirty AsksToSettle answer new.session.accepted) old.disk new.disk ran.disk.alone
        (λ name apart wrote. spared old.session old.dirty AsksToSettle new.session.accepted name named tt apart);
  }

  own_call : (old new : Trace D) (call : Call) → AreNames old.store.session.names old.store.dirty → Traces g old call new → KeepsToItsOwn old.store new.store
  own_call old new (Ran command answer) named made = own_run old.store new.store command answer named made.0
  own_call old new (Settled answer) named made = own_settling old.store new.store answer named made.0
  own_call old new (Grouped group) named made =
      subst (KeepsToItsOwn old.store) (sym made.0) (record { names = refl; dirty_files = named; alone = alone_none g (IsApart old.store.session.names) old.store.disk })

  pub own_calls : (old new : Trace D) (calls : List Call) → AreNames old.store.session.names old.store.dirty → MakesAll (traces g) old calls new → KeepsToItsOwn old.store new.store
  own_calls old new [] named run = own_none old.store new.store named (ap (λ (p : Trace D). p.store) run)
  own_calls old new (call ∷ calls) named run =
      own_then old.store run.0.store new.store (own_call old run.0 call named run.1) (λ named. own_calls run.0 new calls named run.2)
