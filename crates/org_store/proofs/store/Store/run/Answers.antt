use Rattle.std.proofs.Common.{◌≡◌, ◌∙◌, ℕ, inl, false, Ok, Err, Result, refl, sym, subst, ap, rules}
use Rattle.org_journal.specs.Recovered.{contents}
use Rattle.org_commands.specs.declared.command.RunFault.{RunFault}
use Rattle.org_commands.specs.declared.command.RunFault.TheVariants.{Broken}
use Rattle.org_commands.specs.declared.command.Command.{Command}
use Rattle.org_commands.specs.declared.command.Command.TheVariants.{Change, Ask, Settle}
use Rattle.org_commands.specs.declared.command.Reply.{Reply}
use Rattle.org_commands.specs.declared.command.Reply.TheVariants.{Safe}
use Rattle.org_commands.specs.InOrder.{texts_of}
use Rattle.org_commands.specs.Outcome.{outcome}
use Rattle.org_commands.specs.Step.{Step}
use Rattle.org_store.specs.Left.{IsLeft, IsLeftAlone}
use Rattle.org_store.specs.Runs.{RunsOver}
use Rattle.org_store.proofs.Calls.{reply_of, settling_runs}
use Rattle.org_store.proofs.Executing.{executes_read, ran, runs_idle}
use Rattle.org_store.proofs.Leaving.{leaves_unwritten}
use Rattle.org_store.proofs.Settled.{executes_sound}
use Rattle.org_store.proofs.store.Store.run.Goals as goal

pub returns-then-is_broken-clause-did : goal.returns-then-is_broken-clause-did
returns-then-is_broken-clause-did g c = λ honest.
    let d = g.D.Disk in
    let old = c.args.self.now in
    let s = old.session in
    let does = outcome s c.args.command.now in
    let files = contents (d.files old.disk) in
    let own : s.settled ≡ texts_of files s.names = rw (← c.self.view_is) refl in
    let step : Step s c.args.command.now (Err Broken) s = search rules in
    record {
      step = step;
      disk = leaves_unwritten d old (IsLeft {A = Reply} s files does (Err Broken) s.accepted) (IsLeftAlone {A = Reply} s old.dirty does (Err Broken) s.accepted) _
          (λ image left. g.met.D.Disk.only_now old.disk image honest left) own (λ image holds. inl holds) old refl own;
      dirty_files = refl;
      idle = record { untouched = λ broken. refl; nothing = λ asks none. refl; unneeded = λ asks none. refl };
    }

pub returns-in_err-settle-in-Settle-clause-did : goal.returns-in_err-settle-in-Settle-clause-did
returns-in_err-settle-in-Settle-clause-did g c = λ honest.
    let d = g.D.Disk in
    let old = c.args.self.now in
    let new = c.settle.new.self in
    let why = c.in_err-settle-in-Settle.field-0.0 in
    let given : c.from_residual.result ≡ Err why = search rules in
    subst (λ (command : Command). RunsOver d old command c.from_residual.result new) (sym c.in-Settle.is)
    (subst (λ (answer : Result Reply RunFault). RunsOver d old Settle answer new)
    (ap (reply_of old.session.accepted) c.in_err-settle-in-Settle.was ∙ sym given) (settling_runs d old new c.settle.result (c.settle.ensures.did honest)))

pub returns-in_ok-settle-in-Settle-clause-did : goal.returns-in_ok-settle-in-Settle-clause-did
returns-in_ok-settle-in-Settle-clause-did g c = λ honest.
    let d = g.D.Disk in
    let old = c.args.self.now in
    let new = c.settle.new.self in
    let all : old.session.accepted ≡ c.self-in-Settle.inside.tally.acknowledged = search rules in
    let answered : reply_of old.session.accepted c.settle.result ≡ Ok (Safe c.self-in-Settle.inside.tally.acknowledged) =
    ap (reply_of old.session.accepted) c.in_ok-settle-in-Settle.was ∙ ap (λ (n : ℕ). Ok (Safe n)) all in
    subst (λ (command : Command). RunsOver d old command (Ok (Safe c.self-in-Settle.inside.tally.acknowledged)) new) (sym c.in-Settle.is)
    (subst (λ (answer : Result Reply RunFault). RunsOver d old Settle answer new) answered (settling_runs d old new c.settle.result (c.settle.ensures.did honest)))

pub returns-in-Change-clause-did : goal.returns-in-Change-clause-did
returns-in-Change-clause-did g c =
    let unbroken : c.self.inside.files.broken ≡ false = search rules in
    let is : Change c.in-Change.asked ≡ c.args.command.now = sym c.in-Change.is in
    rw (← c.self.view_is, ← is) (ran g.D.Disk _ _ (Change c.in-Change.asked) _ unbroken (λ is. absurd (cc)) c.change.ensures.executes)

pub returns-in-Change-clause-counts : goal.returns-in-Change-clause-counts
returns-in-Change-clause-counts g c =
    rw (← c.self.view_is) c.change.ensures.executes.counts

pub returns-in-Change-clause-idle : goal.returns-in-Change-clause-idle
returns-in-Change-clause-idle g c =
    let unbroken : c.self.inside.files.broken ≡ false = search rules in
    let is : Change c.in-Change.asked ≡ c.args.command.now = sym c.in-Change.is in
    rw (← c.self.view_is, ← is) (runs_idle g.D.Disk _ _ (Change c.in-Change.asked) _ unbroken (λ is. absurd (cc)) c.change.ensures.executes)

pub returns-in-Change-clause-broken : goal.returns-in-Change-clause-broken
returns-in-Change-clause-broken g c =
    rw (← c.self.view_is) c.change.ensures.executes.broken

pub returns-in-Change-clause-accounts : goal.returns-in-Change-clause-accounts
returns-in-Change-clause-accounts g c =
    rw (← c.self.view_is) c.change.ensures.executes.accounts

pub returns-in-Ask-clause-did : goal.returns-in-Ask-clause-did
returns-in-Ask-clause-did g c =
    let unbroken : c.self.inside.files.broken ≡ false = search rules in
    let is : Ask c.in-Ask.question ≡ c.args.command.now = sym c.in-Ask.is in
    rw (← c.self.view_is, ← is) (ran g.D.Disk _ _ (Ask c.in-Ask.question) _ unbroken (λ is. absurd (cc)) (executes_read g.D.Disk c.self.inside.states c.self.inside.files c.self.inside.tally (λ honest image left. g.met.D.Disk.only_now c.self.inside.files.disk image honest left) unbroken c.answer.new.files _ c.answer.result c.answer.ensures.uncounted c.answer.ensures.disk (c.answer.ensures.steps c.self.inside.tally)))

pub returns-in-Ask-clause-counts : goal.returns-in-Ask-clause-counts
returns-in-Ask-clause-counts g c =
    let unbroken : c.self.inside.files.broken ≡ false = search rules in
    rw (← c.self.view_is) (executes_read g.D.Disk c.self.inside.states c.self.inside.files c.self.inside.tally (λ honest image left. g.met.D.Disk.only_now c.self.inside.files.disk image honest left) unbroken c.answer.new.files _ c.answer.result c.answer.ensures.uncounted c.answer.ensures.disk (c.answer.ensures.steps c.self.inside.tally)).counts

pub returns-in-Ask-clause-idle : goal.returns-in-Ask-clause-idle
returns-in-Ask-clause-idle g c =
    let unbroken : c.self.inside.files.broken ≡ false = search rules in
    let is : Ask c.in-Ask.question ≡ c.args.command.now = sym c.in-Ask.is in
    rw (← c.self.view_is, ← is) (runs_idle g.D.Disk _ _ (Ask c.in-Ask.question) _ unbroken (λ is. absurd (cc)) (executes_read g.D.Disk c.self.inside.states c.self.inside.files c.self.inside.tally (λ honest image left. g.met.D.Disk.only_now c.self.inside.files.disk image honest left) unbroken c.answer.new.files _ c.answer.result c.answer.ensures.uncounted c.answer.ensures.disk (c.answer.ensures.steps c.self.inside.tally)))

pub returns-in-Ask-clause-broken : goal.returns-in-Ask-clause-broken
returns-in-Ask-clause-broken g c =
    let unbroken : c.self.inside.files.broken ≡ false = search rules in
    rw (← c.self.view_is) (executes_read g.D.Disk c.self.inside.states c.self.inside.files c.self.inside.tally (λ honest image left. g.met.D.Disk.only_now c.self.inside.files.disk image honest left) unbroken c.answer.new.files _ c.answer.result c.answer.ensures.uncounted c.answer.ensures.disk (c.answer.ensures.steps c.self.inside.tally)).broken

pub returns-in-Ask-clause-accounts : goal.returns-in-Ask-clause-accounts
returns-in-Ask-clause-accounts g c =
    let unbroken : c.self.inside.files.broken ≡ false = search rules in
    rw (← c.self.view_is) (executes_read g.D.Disk c.self.inside.states c.self.inside.files c.self.inside.tally (λ honest image left. g.met.D.Disk.only_now c.self.inside.files.disk image honest left) unbroken c.answer.new.files _ c.answer.result c.answer.ensures.uncounted c.answer.ensures.disk (c.answer.ensures.steps c.self.inside.tally)).accounts

pub invariant_of-self : goal.invariant_of-self
invariant_of-self g c = (c.change.ensures.unedited, executes_sound g.D.Disk _ _ _ c.change.result c.self.inside.tally.ordered c.change.ensures.executes c.self.invariant.1)

pub invariant_of-self-in-Ask : goal.invariant_of-self-in-Ask
invariant_of-self-in-Ask g c =
    let unbroken : c.self.inside.files.broken ≡ false = search rules in
    (c.answer.ensures.unedited, executes_sound g.D.Disk _ _ _ c.answer.result c.self.inside.tally.ordered (executes_read g.D.Disk c.self.inside.states c.self.inside.files c.self.inside.tally (λ honest image left. g.met.D.Disk.only_now c.self.inside.files.disk image honest left) unbroken c.answer.new.files _ c.answer.result c.answer.ensures.uncounted c.answer.ensures.disk (c.answer.ensures.steps c.self.inside.tally)) c.self.invariant.1)
