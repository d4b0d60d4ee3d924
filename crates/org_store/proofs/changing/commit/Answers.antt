use Rattle.std.proofs.Common.{◌≡◌, ◌∙◌, ◌≤◌, ℕ, Ok, Err, Result, refl, sym, ap, subst, rules, arith}
use Rattle.std.proofs.lemmas.Bool.{false≢true}
use Rattle.org_fileset.specs.declared.fault.SetFault.TheVariants as set
use Rattle.org_journal.specs.Recovered.{contents}
use Rattle.org_texts.specs.Texts.{Holding}
use Rattle.org_commands.specs.declared.tally.Tally.{Tally}
use Rattle.org_commands.specs.declared.command.RunFault.{RunFault}
use Rattle.org_commands.specs.Keeping.{fault_of_set}
use Rattle.org_commands.specs.Session.{view_over}
use Rattle.org_commands.proofs.Faults.{accounts_as, whole_behind}
use Rattle.org_commands.proofs.Reading.{set_back, set_on, set_works}
use Rattle.org_store.specs.Executing.{KeepsHeld, kept}
use Rattle.org_store.specs.Runs.{StaysWhereNeedless}
use Rattle.org_store.proofs.Executing.{says_broken}
use Rattle.org_store.proofs.Settling.{Fails, keeps_failed, leaves_settled, settle_failed, settle_leaves}
use Rattle.org_store.proofs.changing.commit.Goals as goal

as_many : (n : ℕ) → n ≤ n
as_many n = omega arith

pub returns-clause-settles : goal.returns-clause-settles
returns-clause-settles g c states =
    let d = g.D.Disk in
    let files = c.args.files.now in
    let new = c.commit.new.self in
    let made = c.in_ok-commit.ensures in
    let was = c.args.tally.now in
    let now : Tally = record { accepted = was.accepted; acknowledged = was.accepted; group = was.group; ordered = as_many was.accepted } in
    let whole = whole_behind c.commit.result c.in_ok-commit.field-0 set.Device new.broken c.in_ok-commit.was c.commit.ensures.keeps.breaks in
    let still : new.broken ≡ files.broken = whole ∙ sym c.requires.unbroken in
    let idle : StaysWhereNeedless (Unit {0}) (view_over d.files states (kept files) was) (Ok (tt {0})) (view_over d.files states (kept new) now) =
    record { untouched = λ broken. absurd (cc); nothing = λ asks none. absurd (c.requires.pending none); unneeded = λ asks none. c.commit.ensures.keeps.idle none } in
    record {
      did = λ honest. record {
        step = (c.requires.unbroken, rw (made.keeps.held.0, c.commit.ensures.keeps.names, still, made.commits.texts honest, (made.commits.commits honest).texts) refl);
        disk = leaves_settled d states (kept files) (kept new) was now c.commit.ensures.keeps.names (made.commits.commits honest);
        dirty_files = made.keeps.held.1;
        idle = idle;
      };
      counts = record { accepted = refl; acknowledged = refl; group = refl };
      idle = idle;
      broken = says_broken (view_over d.files states (kept files) was).session (view_over d.files states (kept new) now).session (Ok (tt {0})) c.requires.unbroken (λ broken. absurd (cc)) (λ fell. absurd (cc), λ broken. absurd (false≢true (sym whole ∙ broken)));
      accounts = accounts_as refl (λ fell. absurd (cc)) (λ fell. absurd (cc)) made.accounts;
    }

pub returns-in_err-commit-clause-settles : goal.returns-in_err-commit-clause-settles
returns-in_err-commit-clause-settles g c states =
    let d = g.D.Disk in
    let files = c.args.files.now in
    let new = c.commit.new.self in
    let made = c.commit.ensures in
    let tally = c.args.tally.now in
    let fault = c.in_err-commit.field-0.0 in
    let given : c.from_residual.result ≡ Err (fault_of_set fault) = search rules in
    let old = view_over d.files states (kept files) tally in
    let now = view_over d.files states (kept new) tally in
    let fails : Fails (kept files) (kept new) c.commit.result fault =
    record { is = c.in_err-commit.was; unbroken = c.requires.unbroken; memory = λ starved. ap kept (made.keeps.memory starved); works = made.keeps.works; breaks = made.keeps.breaks; names = made.keeps.names } in
    let idle : StaysWhereNeedless (Unit {0}) old c.from_residual.result now =
    record { untouched = λ broken. absurd (set_works c.commit.result c.from_residual.result fault c.in_err-commit.was given made.keeps.works broken); nothing = λ asks none. absurd (c.requires.pending none); unneeded = λ asks none. made.keeps.idle none } in
    let back = set_back c.commit.result c.from_residual.result fault c.in_err-commit.was given in
    let on = set_on c.commit.result c.from_residual.result fault c.in_err-commit.was given in
    record {
      did = λ honest. record {
        step = rw given (settle_failed (λ disk. contents (d.files disk)) states (kept files) (kept new) tally c.commit.result fault fails);
        disk = rw given (settle_leaves d states (kept files) (kept new) tally (λ image left. g.met.D.Disk.only_now files.disk image (made.accounts.was_honest honest) left) c.commit.result fault fails
            (λ rest. (made.commits.commits honest).any_moment rest) (made.commits.commits honest).left (made.commits.commits honest).recoverable (made.commits.commits honest).alone);
        dirty_files = rw given (ap (λ (held : Holding). held.now.dirty) c.in_err-commit.ensures.keeps.held);
        idle = idle;
      };
      counts = rw given (record { accepted = refl; acknowledged = refl; group = refl });
      idle = idle;
      broken = says_broken old.session now.session c.from_residual.result c.requires.unbroken (set_works c.commit.result c.from_residual.result fault c.in_err-commit.was given made.keeps.works) (λ fell. made.keeps.breaks.0 (back fell), λ broken. on (made.keeps.breaks.1 broken));
      accounts = accounts_as refl back on made.accounts;
    }

pub returns-clause-keeps : goal.returns-clause-keeps
returns-clause-keeps g c = record { held = c.in_ok-commit.ensures.keeps.held.0; memory = λ starved. absurd (cc); faults = tt }

pub returns-in_err-commit-clause-keeps : goal.returns-in_err-commit-clause-keeps
returns-in_err-commit-clause-keeps g c =
    let made = c.commit.ensures in
    let fault = c.in_err-commit.field-0.0 in
    let given : c.from_residual.result ≡ Err (fault_of_set fault) = search rules in
    subst (λ (r : Result (Unit {0}) RunFault). KeepsHeld c.args.files.now r c.commit.new.self) (sym given)
    (keeps_failed c.args.files.now c.commit.new.self c.commit.result fault
    (record { is = c.in_err-commit.was; unbroken = c.requires.unbroken; memory = made.keeps.memory; works = made.keeps.works; breaks = made.keeps.breaks; names = made.keeps.names }) c.in_err-commit.ensures.keeps.held)
