use Rattle.std.proofs.Common.{◌≡◌, ◌==◌, ◌∙◌, ◌-◌, ◌+◌, ◌^◌, inr, ⊎_elim, true, false, Ok, Err, refl, ap, sym, subst, if◌then◌else◌, rules, arith}
use Rattle.org_journal.specs.Recovered.{contents}
use Rattle.org_texts.specs.Texts.{Holding, held_over}
use Rattle.org_fault.specs.declared.refusal.Refusal.TheVariants.{TooLarge}
use Rattle.org_commands.specs.declared.command.Reply.TheVariants.{Done}
use Rattle.org_commands.specs.declared.command.RunFault.{RunFault}
use Rattle.org_commands.specs.declared.command.RunFault.TheVariants.{OutOfMemory, Device}
use Rattle.org_commands.specs.Files.{OpenFiles, texts_now}
use Rattle.org_commands.specs.InOrder.{texts_of}
use Rattle.org_commands.specs.Outcome.{Accepts, Refuses, counted}
use Rattle.org_commands.specs.Session.{StoreView, view_over}
use Rattle.org_commands.specs.Step.{fills}
use Rattle.org_commands.proofs.Sessions.{view_same}
use Rattle.org_store.specs.Executing.{Executes, SettlesPending, kept}
use Rattle.org_store.proofs.Executing.{executes_filled, executes_kept, executes_refused, executes_starved, executes_torn}
use Rattle.org_store.proofs.Settling.{view_kept}
use Rattle.org_store.proofs.changing.count.Goals as goal

pub returns-then-tally-clause-executes : goal.returns-then-tally-clause-executes
returns-then-tally-clause-executes g c states names dirties =
    let d = g.D.Disk in
    let undone = c.undo.ensures in
    let files = c.args.files.now in
    let tally = c.args.tally.now in
    let old = view_over d.files states files tally in
    let full : (tally.accepted == 2 ^ 64 - 1) ≡ true = search rules in
    executes_refused d old (λ honest image left. g.met.D.Disk.only_now files.disk image honest left) refl c.requires.unbroken (view_over d.files states c.undo.new.self tally)
    (view_same d.files states files c.undo.new.self tally undone.memory undone.before) (counted old.session names (texts_now d files)) TooLarge
    (ap (λ t. if t then Refuses TooLarge else Accepts names (texts_now d files)) full)

pub returns-then-not-fills-clause-executes : goal.returns-then-not-fills-clause-executes
returns-then-not-fills-clause-executes g c states names dirties =
    let d = g.D.Disk in
    let keep = c.keep.ensures in
    let files = c.args.files.now in
    let tally = c.args.tally.now in
    let old = view_over d.files states files tally in
    let texts = texts_now d files in
    let countable : (tally.accepted == 2 ^ 64 - 1) ≡ false = search rules in
    let outcome = counted old.session names texts in
    let room : fills old.session ≡ false = sym c.fills.ensures ∙ c.if-not-fills.true in
    let now : StoreView g.row.D.Denot = record old { session = record old.session { files = texts; accepted = tally.accepted + 1 }; dirty = files.held.now.dirty } in
    subst (λ (v : StoreView g.row.D.Denot). Executes d old outcome (Ok (Done (tally.accepted + 1))) v) (rw (keep.memory.disk, keep.memory.names, keep.memory.broken, keep.before) refl)
    (executes_kept d old (λ honest image left. g.met.D.Disk.only_now files.disk image honest left) refl c.requires.unbroken outcome names files.held.now.dirty texts dirties
    (ap (λ t. if t then Refuses TooLarge else Accepts names texts) countable) room)

pub returns-in-Ok-clause-executes : goal.returns-in-Ok-clause-executes
returns-in-Ok-clause-executes g c states names dirties =
    let d = g.D.Disk in
    let files = c.args.files.now in
    let tally = c.args.tally.now in
    let old = view_over d.files states files tally in
    let texts = texts_now d files in
    let countable : (tally.accepted == 2 ^ 64 - 1) ≡ false = search rules in
    let outcome = counted old.session names texts in
    let full : fills old.session ≡ true = sym c.fills.ensures ∙ c.if-not-fills.false in
    let new = c.commit.new.files in
    let keeps = c.in-Ok.ensures.keeps in
    let settles = c.in-Ok.ensures.settles states in
    subst (λ n. Executes d old outcome (Ok (Done n)) (view_over d.files states new c.commit.new.tally)) (sym settles.counts.accepted)
    (subst (λ (v : StoreView g.row.D.Denot). Executes d old outcome (Ok (Done (tally.accepted + 1))) v) (view_kept d.files states new c.commit.new.tally keeps.held)
    (executes_filled d old (λ honest image left. g.met.D.Disk.only_now files.disk image honest left) refl c.requires.unbroken outcome names files.held.now.dirty texts dirties
    (ap (λ t. if t then Refuses TooLarge else Accepts names texts) countable) full _ settles))

pub returns-in-Device-clause-executes : goal.returns-in-Device-clause-executes
returns-in-Device-clause-executes g c states names dirties =
    let d = g.D.Disk in
    let files = c.args.files.now in
    let tally = c.args.tally.now in
    let old = view_over d.files states files tally in
    let texts = texts_now d files in
    let countable : (tally.accepted == 2 ^ 64 - 1) ≡ false = search rules in
    let outcome = counted old.session names texts in
    let full : fills old.session ≡ true = sym c.fills.ensures ∙ c.if-not-fills.false in
    let undone = c.undo-in-Err.new.self in
    let taken = c.undo-in-Err.ensures in
    let mid = view_over d.files states (kept c.commit.new.files) c.commit.new.tally in
    let left = texts_of (held_over undone.held.before (contents (d.files undone.disk))) undone.names in
    let pending : StoreView g.row.D.Denot = record old { session = record old.session { files = texts; accepted = tally.accepted + 1 }; dirty = files.held.now.dirty } in
    let settles = subst (λ (f : RunFault). SettlesPending d pending (Err f) mid) c.in-Device.is (c.in-Err.ensures.settles states) in
    let dirty : undone.held.before.dirty ≡ files.held.before.dirty = ap (λ s. s.dirty) taken.before ∙ ap (λ (h : Holding). h.before.dirty) c.in-Err.ensures.keeps.held in
    subst (λ (v : StoreView g.row.D.Denot). Executes d old outcome (Err Device) v) (rw (taken.memory.disk, taken.memory.names, taken.memory.broken, dirty) refl)
    (executes_torn d old (λ honest image left. g.met.D.Disk.only_now files.disk image honest left) refl c.requires.unbroken outcome names files.held.now.dirty texts dirties
    (ap (λ t. if t then Refuses TooLarge else Accepts names texts) countable) full mid settles left)

pub returns-in_default-clause-executes : goal.returns-in_default-clause-executes
returns-in_default-clause-executes g c states names dirties =
    let d = g.D.Disk in
    let files = c.args.files.now in
    let tally = c.args.tally.now in
    let old = view_over d.files states files tally in
    let fault = c.in-Err.fault in
    let keeps = c.in-Err.ensures.keeps in
    let starved : fault ≡ OutOfMemory = ⊎_elim (λ is. is) (λ is. absurd (c.in_default.not-Device is)) keeps.faults in
    let still : c.commit.new.files ≡ files = keeps.memory (ap (λ (f : RunFault). Err f) starved) in
    let taken = c.undo-in-Err.ensures in
    subst (λ (f : RunFault). Executes d old (counted old.session names (texts_now d files)) (Err f) (view_over d.files states c.undo-in-Err.new.self tally)) (sym starved)
    (executes_starved d old (λ honest image left. g.met.D.Disk.only_now files.disk image honest left) refl c.requires.unbroken (view_over d.files states c.undo-in-Err.new.self tally)
    (view_same d.files states c.commit.new.files c.undo-in-Err.new.self tally taken.memory taken.before ∙ ap (λ (f : OpenFiles g.row.D.Denot). view_over d.files states f tally) still) (counted old.session names (texts_now d files)))

pub returns-then-tally-clause-unedited : goal.returns-then-tally-clause-unedited
returns-then-tally-clause-unedited g c = c.undo.ensures.now ∙ sym c.undo.ensures.before

pub returns-then-not-fills-clause-unedited : goal.returns-then-not-fills-clause-unedited
returns-then-not-fills-clause-unedited g c = c.keep.ensures.now ∙ sym c.keep.ensures.before

pub returns-in-Ok-clause-unedited : goal.returns-in-Ok-clause-unedited
returns-in-Ok-clause-unedited g c = c.in-Ok.ensures.keeps.held

pub returns-in-Device-clause-unedited : goal.returns-in-Device-clause-unedited
returns-in-Device-clause-unedited g c = c.undo-in-Err.ensures.now ∙ sym c.undo-in-Err.ensures.before

pub returns-in_default-clause-unedited : goal.returns-in_default-clause-unedited
returns-in_default-clause-unedited g c = c.undo-in-Err.ensures.now ∙ sym c.undo-in-Err.ensures.before

pub fills-requires : goal.fills-requires
fills-requires g c = search rules

pub keep-requires : goal.keep-requires
keep-requires g c = c.requires.small

pub commit-requires-clause-unbroken : goal.commit-requires-clause-unbroken
commit-requires-clause-unbroken g c = c.requires.unbroken

pub commit-requires-clause-small : goal.commit-requires-clause-small
commit-requires-clause-small g c = inr c.requires.small

pub commit-requires-clause-pending : goal.commit-requires-clause-pending
commit-requires-clause-pending g c all = let ordered = c.args.tally.now.ordered in absurd (omega (arith, ordered, all))
