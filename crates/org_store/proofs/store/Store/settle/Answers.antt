use Rattle.std.proofs.Common.{◌≡◌, [], inl, false, Ok, Err, refl, rules}
use Rattle.org_journal.specs.Recovered.{contents}
use Rattle.org_commands.specs.declared.command.RunFault.TheVariants.{Broken}
use Rattle.org_commands.specs.InOrder.{texts_of}
use Rattle.org_commands.specs.Outcome.{AsksToSettle}
use Rattle.org_commands.specs.Step.{Settles}
use Rattle.org_store.specs.Left.{IsLeft, IsLeftAlone}
use Rattle.org_store.proofs.Leaving.{leaves_unwritten}
use Rattle.org_store.proofs.Settling.{settles_between, settles_sound, unedited_behind}
use Rattle.org_store.proofs.store.Store.settle.Goals as goal

pub returns-then-is_broken-clause-did : goal.returns-then-is_broken-clause-did
returns-then-is_broken-clause-did g c = λ honest.
    let d = g.D.Disk in
    let old = c.args.self.now in
    let s = old.session in
    let files = contents (d.files old.disk) in
    let own : s.settled ≡ texts_of files s.names = rw (← c.self.view_is) refl in
    let step : Settles s (Err Broken) s = search rules in
    record {
      step = step;
      disk = leaves_unwritten d old (IsLeft {A = Unit {0}} s files AsksToSettle (Err Broken) s.accepted)
          (IsLeftAlone {A = Unit {0}} s old.dirty AsksToSettle (Err Broken) s.accepted) _ (λ image left. g.met.D.Disk.only_now old.disk image honest left) own (λ image holds. inl holds) old refl own;
      dirty_files = refl;
      idle = record { untouched = λ broken. refl; nothing = λ asks none. refl; unneeded = λ asks none. refl };
    }

pub returns-then-self-clause-did : goal.returns-then-self-clause-did
returns-then-self-clause-did g c = λ honest.
    let d = g.D.Disk in
    let inside = c.self.inside in
    let old = c.args.self.now in
    let s = old.session in
    let files = contents (d.files old.disk) in
    let own : s.settled ≡ texts_of files s.names = rw (← c.self.view_is) refl in
    let unbroken : inside.files.broken ≡ false = search rules in
    let done : inside.tally.acknowledged ≡ inside.tally.accepted = c.if-self.true in
    let step : d.honest old.disk → Settles s (Ok (tt {0})) s =
    rw (← c.self.view_is) (λ honest. (unbroken, rw ((c.self.invariant.1 honest).0 unbroken done, done) refl)) in
    let dirty_files : d.honest old.disk → old.dirty ≡ [] = rw (← c.self.view_is) (λ honest. (c.self.invariant.1 honest).1 done) in
    record {
      step = step honest;
      disk = leaves_unwritten d old (IsLeft s files AsksToSettle (Ok (tt {0})) s.accepted) (IsLeftAlone s old.dirty AsksToSettle (Ok (tt {0})) s.accepted) _
          (λ image left. g.met.D.Disk.only_now old.disk image honest left) own (λ image holds. inl holds) old refl own;
      dirty_files = dirty_files honest;
      idle = record { untouched = λ broken. refl; nothing = λ asks none. refl; unneeded = λ asks none. refl };
    }

pub returns-clause-did : goal.returns-clause-did
returns-clause-did g c =
    let own = c.self.inside in
    rw (← c.self.view_is) (settles_between g.D.Disk own.states own.files c.commit.new.files own.tally c.commit.new.tally c.commit.result c.self.invariant.0 c.commit.ensures.keeps (c.commit.ensures.settles own.states)).did

pub returns-clause-counts : goal.returns-clause-counts
returns-clause-counts g c =
    let own = c.self.inside in
    rw (← c.self.view_is) (settles_between g.D.Disk own.states own.files c.commit.new.files own.tally c.commit.new.tally c.commit.result c.self.invariant.0 c.commit.ensures.keeps (c.commit.ensures.settles own.states)).counts

pub returns-clause-idle : goal.returns-clause-idle
returns-clause-idle g c =
    let own = c.self.inside in
    rw (← c.self.view_is) (settles_between g.D.Disk own.states own.files c.commit.new.files own.tally c.commit.new.tally c.commit.result c.self.invariant.0 c.commit.ensures.keeps (c.commit.ensures.settles own.states)).idle

pub returns-clause-broken : goal.returns-clause-broken
returns-clause-broken g c =
    let own = c.self.inside in
    rw (← c.self.view_is) (settles_between g.D.Disk own.states own.files c.commit.new.files own.tally c.commit.new.tally c.commit.result c.self.invariant.0 c.commit.ensures.keeps (c.commit.ensures.settles own.states)).broken

pub returns-clause-accounts : goal.returns-clause-accounts
returns-clause-accounts g c = rw (← c.self.view_is) (c.commit.ensures.settles c.self.inside.states).accounts

pub invariant_of-self : goal.invariant_of-self
invariant_of-self g c =
    let own = c.self.inside in
    let keeps = c.commit.ensures.keeps in
    let settles = settles_between g.D.Disk own.states own.files c.commit.new.files own.tally c.commit.new.tally c.commit.result c.self.invariant.0 keeps (c.commit.ensures.settles own.states) in
    (unedited_behind own.files c.commit.new.files c.commit.result keeps c.self.invariant.0, settles_sound g.D.Disk _ _ c.commit.result c.if-self.false settles)
