use Rattle.std.proofs.Common.{◌≡◌, ◌∙◌, [], List, ℕ, Option, Result, Ok, Err, refl, sym, ap, subst}
use Rattle.org_journal.specs.Recovered.{contents}
use Rattle.org_texts.specs.declared.plan.Plan.{Plan}
use Rattle.org_texts.specs.Texts.{TextSet, held_over}
use Rattle.org_commands.specs.declared.command.RunFault.{RunFault}
use Rattle.org_commands.specs.declared.command.RunFault.TheVariants.{Device}
use Rattle.org_commands.specs.Files.{files_of, new_texts, texts_now}
use Rattle.org_commands.specs.InOrder.{texts_of}
use Rattle.org_commands.specs.Keeping.{PlansOrStays}
use Rattle.org_commands.specs.Outcome.{Outcome, changed, counted, outcome_of_change}
use Rattle.org_commands.specs.Session.{StoreView, view_over}
use Rattle.org_commands.specs.Step.{Steps}
use Rattle.org_commands.proofs.Faults.{whole_behind}
use Rattle.org_commands.proofs.Handing.{handed_on}
use Rattle.org_commands.proofs.Reading.{only_reads_fault, only_reads_undone}
use Rattle.org_commands.proofs.Sessions.{view_same}
use Rattle.org_store.specs.Dirty.{Dirties}
use Rattle.org_store.specs.Executing.{Executes}
use Rattle.org_store.proofs.Dirty.{dirties_planned, dirties_same}
use Rattle.org_store.proofs.Executing.{executes_after, executes_read, executes_unput}
use Rattle.org_store.proofs.Planned.{counted_texts}
use Rattle.org_store.proofs.changing.change.Goals as goal

pub returns-in_err-put-in-Ok-Some-clause-executes : goal.returns-in_err-put-in-Ok-Some-clause-executes
returns-in_err-put-in-Ok-Some-clause-executes g c =
    let d = g.D.Disk in
    let states = c.args.states.now in
    let tally = c.args.tally.now in
    let files = c.args.files.now in
    let mid = c.plan.new.files in
    let plan = c.in-Ok-Some.plan in
    let put = c.in_err-put-in-Ok-Some.ensures in
    let old = view_over d.files states files tally in
    let now = view_over d.files states mid tally in
    let asked = outcome_of_change old.session c.args.asked.now in
    let later = changed now.session (new_texts plan mid.held.now) in
    let fault = c.in_err-put-in-Ok-Some.field-0.0 in
    let new = view_over d.files states c.put.new.self tally in
    let whole = whole_behind c.plan.result c.in-Ok-Some.field-0 Device mid.broken c.in-Ok-Some.is c.plan.ensures.disk.breaks in
    subst (λ a. Executes d old asked a new) (sym (handed_on c.from_residual.result fault c.from_residual.ensures.1))
    (executes_after d states files tally (λ honest image left. g.met.D.Disk.only_now files.disk image honest left) c.requires.between.unbroken mid c.plan.result c.in-Ok-Some.field-0 c.in-Ok-Some.is c.plan.ensures.disk asked later
    (λ honest. let plans = subst (λ (r : Result (Option Plan) RunFault). PlansOrStays old.session asked r mid.held now.session) (c.in-Ok-Some.is ∙ ap (λ (o : Option Plan). Ok o) c.in-Ok-Some.field-0-is) (c.plan.ensures.plans tally honest) in
    (plans.0 ∙ ap (λ s. changed s (new_texts plan mid.held.now)) (sym plans.1), plans.1)) new (Err fault)
    (executes_unput d now (λ honest image left. g.met.D.Disk.only_now mid.disk image honest left) refl whole new (view_same d.files states mid c.put.new.self tally put.memory put.before) plan mid.held c.put.new.self.held fault put.puts))

pub returns-in_ok-put-in-Ok-Some-clause-executes : goal.returns-in_ok-put-in-Ok-Some-clause-executes
returns-in_ok-put-in-Ok-Some-clause-executes g c =
    let d = g.D.Disk in
    let states = c.args.states.now in
    let tally = c.args.tally.now in
    let files = c.args.files.now in
    let mid = c.plan.new.files in
    let plan = c.in-Ok-Some.plan in
    let edited = c.put.new.self in
    let put = c.in_ok-put-in-Ok-Some.ensures in
    let old = view_over d.files states files tally in
    let now = view_over d.files states mid tally in
    let asked = outcome_of_change old.session c.args.asked.now in
    let later = changed now.session (new_texts plan mid.held.now) in
    let fits = c.plan.ensures.plan in
    let is_plan = c.in-Ok-Some.ensures.plan plan c.in-Ok-Some.field-0-is in
    let new = view_over d.files states c.count.new.files c.count.new.tally in
    let reported = counted_texts (λ disk. contents (d.files disk)) states mid edited tally plan put.memory.disk put.memory.names put.puts.1 is_plan put.puts.0 in
    let same : view_over d.files states edited tally ≡ now = view_same d.files states mid edited tally put.memory put.before in
    let dirties : Dirties edited.held.before.dirty (files_of plan) edited.held.now.dirty = rw (put.puts.1, put.before) (dirties_planned plan mid.held is_plan.touched) in
    executes_after d states files tally (λ honest image left. g.met.D.Disk.only_now files.disk image honest left) c.requires.between.unbroken mid c.plan.result c.in-Ok-Some.field-0 c.in-Ok-Some.is c.plan.ensures.disk asked later
    (λ honest. let plans = subst (λ (r : Result (Option Plan) RunFault). PlansOrStays old.session asked r mid.held now.session) (c.in-Ok-Some.is ∙ ap (λ (o : Option Plan). Ok o) c.in-Ok-Some.field-0-is) (c.plan.ensures.plans tally honest) in
    (plans.0 ∙ ap (λ s. changed s (new_texts plan mid.held.now)) (sym plans.1), plans.1)) new c.count.result
    (subst (λ (o : Outcome). Executes d now o c.count.result new) (sym reported)
    (subst (λ (k : StoreView g.row.D.Denot). Executes d k (counted k.session (files_of plan) (texts_now d edited)) c.count.result new) same (c.count.ensures.executes states (files_of plan) dirties)))

pub returns-in-Ok-None-clause-executes : goal.returns-in-Ok-None-clause-executes
returns-in-Ok-None-clause-executes g c =
    let d = g.D.Disk in
    let states = c.args.states.now in
    let tally = c.args.tally.now in
    let files = c.args.files.now in
    let mid = c.plan.new.files in
    let after = c.undo.new.self in
    let undone = c.undo.ensures in
    let old = view_over d.files states files tally in
    let now = view_over d.files states mid tally in
    let asked = outcome_of_change old.session c.args.asked.now in
    let new = view_over d.files states c.count-in-Ok-None.new.files c.count-in-Ok-None.new.tally in
    let same : view_over d.files states after tally ≡ now = view_same d.files states mid after tally undone.memory undone.before in
    let back : texts_now d after ≡ now.session.files =
    ap (λ (t : TextSet). texts_of (held_over t (contents (d.files after.disk))) after.names) undone.now
    ∙ ap (λ disk. texts_of (held_over mid.held.before (contents (d.files disk))) after.names) undone.memory.disk
    ∙ ap (λ (ns : List (List ℕ)). texts_of (held_over mid.held.before (contents (d.files mid.disk))) ns) undone.memory.names in
    let dirties : Dirties after.held.before.dirty [] after.held.now.dirty = rw (undone.now, undone.before) (dirties_same mid.held.before.dirty []) in
    executes_after d states files tally (λ honest image left. g.met.D.Disk.only_now files.disk image honest left) c.requires.between.unbroken mid c.plan.result c.in-Ok-None.field-0 c.in-Ok-None.is c.plan.ensures.disk asked (changed now.session [])
    (λ honest. let plans = subst (λ (r : Result (Option Plan) RunFault). PlansOrStays old.session asked r mid.held now.session) (c.in-Ok-None.is ∙ ap (λ (o : Option Plan). Ok o) c.in-Ok-None.field-0-is) (c.plan.ensures.plans tally honest) in
    (plans.0 ∙ ap (λ s. changed s []) (sym plans.1), plans.1)) new c.count-in-Ok-None.result
    (subst (λ (t : List (List ℕ)). Executes d now (counted now.session [] t) c.count-in-Ok-None.result new) back
    (subst (λ (k : StoreView g.row.D.Denot). Executes d k (counted k.session [] (texts_now d after)) c.count-in-Ok-None.result new) same (c.count-in-Ok-None.ensures.executes states [] dirties)))

pub returns-in-Err-clause-executes : goal.returns-in-Err-clause-executes
returns-in-Err-clause-executes g c =
    let d = g.D.Disk in
    let states = c.args.states.now in
    let tally = c.args.tally.now in
    let files = c.args.files.now in
    let mid = c.plan.new.files in
    let undone = c.undo-in-Err.ensures in
    let old = (view_over d.files states files tally).session in
    let asked = outcome_of_change old c.args.asked.now in
    executes_read d states files tally (λ honest image left. g.met.D.Disk.only_now files.disk image honest left) c.requires.between.unbroken c.undo-in-Err.new.self asked (Err c.in-Err.fault) tt
    (only_reads_undone undone.memory undone.before (only_reads_fault refl c.in-Err.ensures.disk))
    (λ honest. subst (λ (v : StoreView g.row.D.Denot). Steps old asked (Err c.in-Err.fault) v.session) (sym (view_same d.files states mid c.undo-in-Err.new.self tally undone.memory undone.before))
    (c.in-Err.ensures.plans tally (subst d.honest undone.memory.disk honest)))

pub put-requires : goal.put-requires
put-requires g c = c.in-Ok-Some.ensures.plan c.in-Ok-Some.plan c.in-Ok-Some.field-0-is

pub count-requires-clause-unbroken : goal.count-requires-clause-unbroken
count-requires-clause-unbroken g c = c.put.ensures.memory.broken ∙ whole_behind c.plan.result c.in-Ok-Some.field-0 Device c.plan.new.files.broken c.in-Ok-Some.is c.plan.ensures.disk.breaks

pub count-requires-clause-small : goal.count-requires-clause-small
count-requires-clause-small g c = c.in_ok-put-in-Ok-Some.ensures.puts.2

pub count-requires-in-Ok-None-clause-unbroken : goal.count-requires-in-Ok-None-clause-unbroken
count-requires-in-Ok-None-clause-unbroken g c = c.undo.ensures.memory.broken ∙ whole_behind c.plan.result c.in-Ok-None.field-0 Device c.plan.new.files.broken c.in-Ok-None.is c.plan.ensures.disk.breaks

pub count-requires-in-Ok-None-clause-small : goal.count-requires-in-Ok-None-clause-small
count-requires-in-Ok-None-clause-small g c = c.undo.ensures.small

pub returns-in_ok-put-in-Ok-Some-clause-unedited : goal.returns-in_ok-put-in-Ok-Some-clause-unedited
returns-in_ok-put-in-Ok-Some-clause-unedited g c = c.count.ensures.unedited

pub returns-in-Ok-None-clause-unedited : goal.returns-in-Ok-None-clause-unedited
returns-in-Ok-None-clause-unedited g c = c.count-in-Ok-None.ensures.unedited

pub returns-in-Err-clause-unedited : goal.returns-in-Err-clause-unedited
returns-in-Err-clause-unedited g c = c.undo-in-Err.ensures.now ∙ sym c.undo-in-Err.ensures.before
