use Rattle.std.proofs.Common.{◌≡◌, ◌∙◌, ◌∷◌, [], true, Ok, Err, List, ℕ, refl, sym, ap, rules}
use Rattle.std.specs.Prelude.{IsErrOf}
use Rattle.std.specs.Str.{bytes_eq}
use Rattle.org_texts.specs.declared.plan.Plan.{Plan}
use Rattle.org_fault.specs.declared.refusal.Refusal.{Refusal}
use Rattle.org_fault.specs.declared.refusal.Refusal.TheVariants.{NoSuchFile}
use Rattle.org_commands.specs.declared.command.RunFault.TheVariants.{Refused, Device, Broken}
use Rattle.org_commands.specs.InOrder.{is_name}
use Rattle.org_commands.specs.Keeping.{fault_of}
use Rattle.org_commands.proofs.Archives.{across_fails, across_fits, across_planned, both_ready, heading_in, heading_stays, held_bytes, no_place, seen_across, seen_within, within_fails, within_fits, within_planned}
use Rattle.org_commands.proofs.Faults.{fine_is_no_fault, no_value, other_fault, planned_own}
use Rattle.org_commands.proofs.Handing.{handed_on}
use Rattle.org_commands.proofs.MadeReady.{no_text_of, plans_unread, session_in}
use Rattle.org_commands.proofs.Plans.{first_name, is_ready, one_name, second_name}
use Rattle.org_commands.proofs.Reading.{only_reads_fault, only_reads_fine, only_reads_none}
use Rattle.org_commands.proofs.commands.archive.plan_archive_to.Goals as goal

same_name : (file other to : List ℕ) → true ≡ bytes_eq file other → other ≡ to → file ≡ to
same_name file other to test is = search rules

-- no refusal is the device's fault, or that the files were broken
refused_apart : (why : Refusal) → (IsErrOf {T = Plan} (Err (Refused why)) Broken → ⊥) × (IsErrOf {T = Plan} (Err (Refused why)) Device → ⊥)
refused_apart why = (λ no. cc, λ no. cc)

pub outline_in-outline-requires : goal.outline_in-outline-requires
outline_in-outline-requires g c = is_ready (c.args.command.now.file ∷ []) c.args.files.now.held c.args.command.now.file c.requires.ready (one_name c.args.command.now.file)

pub plan_within-requires : goal.plan_within-requires
plan_within-requires g c = heading_in c.args.files.now.held.now c.args.command.now.file c.args.node c.outline_in-outline.result.text c.outline_in-outline.ensures.0 c.requires.heading

pub returns-in_err-plan_within-clause-plans : goal.returns-in_err-plan_within-clause-plans
returns-in_err-plan_within-clause-plans g c tally honest text at found =
    let k = c.args.command.now in
    let to = c.args.to.now in
    let own = same_name k.file c.file-to_file.result.now to.file c.if-eq.ensures c.file-to_file.ensures in
    within_fails g.D.Disk c.args.states.now c.args.files.now k.file k.path k.moment to own c.requires.unbroken c.requires.ready c.requires.name tally text c.args.node at found c.plan_within.result c.from_residual.result c.in_err-plan_within.was
    (seen_within k.file k.moment to c.args.node c.plan_within.result c.outline_in-outline.result.states c.args.states.now c.outline_in-outline.result.text (held_bytes c.args.files.now.held k.file) c.outline_in-outline.ensures.0 c.outline_in-outline.ensures.1 c.plan_within.ensures)
    c.from_residual.ensures.1

pub returns-then-eq-clause-plan : goal.returns-then-eq-clause-plan
returns-then-eq-clause-plan g c =
    let k = c.args.command.now in
    let to = c.args.to.now in
    let made = seen_within k.file k.moment to c.args.node (Ok c.in_ok-plan_within.field-0) c.outline_in-outline.result.states c.args.states.now c.outline_in-outline.result.text (held_bytes c.args.files.now.held k.file) c.outline_in-outline.ensures.0 c.outline_in-outline.ensures.1 c.in_ok-plan_within.ensures in
    within_fits c.in_ok-plan_within.field-0 c.args.files.now.held k.file made.0 made.2 c.requires.ready c.args.files.now.names c.requires.name

pub returns-then-eq-clause-plans : goal.returns-then-eq-clause-plans
returns-then-eq-clause-plans g c tally honest text at found =
    let k = c.args.command.now in
    let to = c.args.to.now in
    let own = same_name k.file c.file-to_file.result.now to.file c.if-eq.ensures c.file-to_file.ensures in
    within_planned g.D.Disk c.args.states.now c.args.files.now k.file k.path k.moment to own c.requires.unbroken c.requires.ready c.requires.name tally text c.args.node at found c.in_ok-plan_within.field-0
    (seen_within k.file k.moment to c.args.node (Ok c.in_ok-plan_within.field-0) c.outline_in-outline.result.states c.args.states.now c.outline_in-outline.result.text (held_bytes c.args.files.now.held k.file) c.outline_in-outline.ensures.0 c.outline_in-outline.ensures.1 c.in_ok-plan_within.ensures)

pub returns-then-not-has-clause-plans : goal.returns-then-not-has-clause-plans
returns-then-not-has-clause-plans g c tally honest text at found =
    let k = c.args.command.now in
    let to = c.args.to.now in
    let files = c.args.files.now in
    let none = no_text_of g.D.Disk files to.file (c.if-not-has.ensures ∙ ap (is_name files.names) c.file-to_file.ensures) in
    (c.requires.unbroken, no_place (session_in g.D.Disk c.args.states.now files tally) k.file k.path k.moment text to none, refl)

pub returns-in_err-ready-clause-plans : goal.returns-in_err-ready-clause-plans
returns-in_err-ready-clause-plans g c tally honest text at found =
    plans_unread g.D.Disk c.args.states.now c.args.files.now c.ready.new.self tally _ c.from_residual-in_err-ready.result c.from_residual-in_err-ready.ensures.1 c.requires.unbroken c.in_err-ready.was (c.ready.ensures.files.reads c.args.states.now tally honest)

pub returns-in_err-ready-clause-disk : goal.returns-in_err-ready-clause-disk
returns-in_err-ready-clause-disk g c =
    let given : c.from_residual-in_err-ready.result ≡ Err c.in_err-ready.field-0.0 = handed_on c.from_residual-in_err-ready.result _ c.from_residual-in_err-ready.ensures.1 in
    only_reads_fault given c.in_err-ready.ensures.files.disk

pub outline_in-source-requires : goal.outline_in-source-requires
outline_in-source-requires g c =
    let file = c.args.command.now.file in
    let to_file = c.file-to_file.result.now in
    is_ready (to_file ∷ file ∷ []) c.ready.new.self.held file (c.in_ok-ready.ensures.ready (file ∷ []) c.requires.ready) (second_name to_file file)

pub outline_in-target-requires : goal.outline_in-target-requires
outline_in-target-requires g c =
    let file = c.args.command.now.file in
    let to_file = c.file-to_file.result.now in
    is_ready (to_file ∷ file ∷ []) c.ready.new.self.held to_file (c.in_ok-ready.ensures.ready (file ∷ []) c.requires.ready) (first_name to_file (file ∷ []))

pub plan_across-requires : goal.plan_across-requires
plan_across-requires g c =
    let file = c.args.command.now.file in
    let to_file = c.file-to_file.result.now in
    heading_in c.ready.new.self.held.now file c.args.node c.outline_in-source.result.text c.outline_in-source.ensures.0
    (heading_stays c.args.files.now.held c.ready.new.self.held (file ∷ []) (to_file ∷ file ∷ []) file c.args.node c.requires.ready (one_name file) (c.in_ok-ready.ensures.ready (file ∷ []) c.requires.ready) (second_name to_file file)
    c.ready.ensures.files.keeps c.requires.heading)

pub returns-in_err-plan_across-clause-plans : goal.returns-in_err-plan_across-clause-plans
returns-in_err-plan_across-clause-plans g c tally honest text at found =
    let k = c.args.command.now in
    let both = both_ready g.D.Disk c.args.states.now c.args.files.now c.ready.new.self k.file c.args.to.now.file c.file-to_file.result.now c.file-to_file.ensures c.if-eq.ensures c.if-not-has.ensures c.requires.name c.requires.ready c.in_ok-ready.ensures.ready
    c.ready.ensures.files.disk.names c.in_ok-ready.ensures.files.reads in
    across_fails k.file k.path k.moment c.args.to.now c.args.node both tally honest text at found c.plan_across.result c.from_residual-in_err-plan_across.result c.requires.unbroken c.in_err-plan_across.was
    (seen_across k.file k.moment c.args.to.now c.args.node c.plan_across.result c.outline_in-source.result.states c.outline_in-target.result.states c.args.states.now c.outline_in-source.result.text c.outline_in-target.result.text (held_bytes c.ready.new.self.held k.file) (held_bytes c.ready.new.self.held c.args.to.now.file)
    c.outline_in-source.ensures.0 c.outline_in-source.ensures.1 (c.outline_in-target.ensures.0 ∙ ap (held_bytes c.ready.new.self.held) c.file-to_file.ensures) c.outline_in-target.ensures.1 c.plan_across.ensures)
    c.from_residual-in_err-plan_across.ensures.1

pub returns-in_err-plan_across-clause-disk : goal.returns-in_err-plan_across-clause-disk
returns-in_err-plan_across-clause-disk g c =
    let why = c.in_err-plan_across.field-0.0 in
    let given : c.from_residual-in_err-plan_across.result ≡ Err (fault_of why) = handed_on c.from_residual-in_err-plan_across.result _ c.from_residual-in_err-plan_across.ensures.1 in
    only_reads_fine (other_fault c.from_residual-in_err-plan_across.result (fault_of why) Broken given (planned_own why).0) (other_fault c.from_residual-in_err-plan_across.result (fault_of why) Device given (planned_own why).1) c.in_ok-ready.ensures.files.disk

pub returns-clause-plan : goal.returns-clause-plan
returns-clause-plan g c =
    let k = c.args.command.now in
    let both = both_ready g.D.Disk c.args.states.now c.args.files.now c.ready.new.self k.file c.args.to.now.file c.file-to_file.result.now c.file-to_file.ensures c.if-eq.ensures c.if-not-has.ensures c.requires.name c.requires.ready c.in_ok-ready.ensures.ready
    c.ready.ensures.files.disk.names c.in_ok-ready.ensures.files.reads in
    across_fits k.file k.path k.moment c.args.to.now c.args.node both c.in_ok-plan_across.field-0
    (seen_across k.file k.moment c.args.to.now c.args.node (Ok c.in_ok-plan_across.field-0) c.outline_in-source.result.states c.outline_in-target.result.states c.args.states.now c.outline_in-source.result.text c.outline_in-target.result.text (held_bytes c.ready.new.self.held k.file) (held_bytes c.ready.new.self.held c.args.to.now.file)
    c.outline_in-source.ensures.0 c.outline_in-source.ensures.1 (c.outline_in-target.ensures.0 ∙ ap (held_bytes c.ready.new.self.held) c.file-to_file.ensures) c.outline_in-target.ensures.1 c.in_ok-plan_across.ensures)

pub returns-clause-plans : goal.returns-clause-plans
returns-clause-plans g c tally honest text at found =
    let k = c.args.command.now in
    let both = both_ready g.D.Disk c.args.states.now c.args.files.now c.ready.new.self k.file c.args.to.now.file c.file-to_file.result.now c.file-to_file.ensures c.if-eq.ensures c.if-not-has.ensures c.requires.name c.requires.ready c.in_ok-ready.ensures.ready
    c.ready.ensures.files.disk.names c.in_ok-ready.ensures.files.reads in
    across_planned k.file k.path k.moment c.args.to.now c.args.node both tally honest text at found c.in_ok-plan_across.field-0
    (seen_across k.file k.moment c.args.to.now c.args.node (Ok c.in_ok-plan_across.field-0) c.outline_in-source.result.states c.outline_in-target.result.states c.args.states.now c.outline_in-source.result.text c.outline_in-target.result.text (held_bytes c.ready.new.self.held k.file) (held_bytes c.ready.new.self.held c.args.to.now.file)
    c.outline_in-source.ensures.0 c.outline_in-source.ensures.1 (c.outline_in-target.ensures.0 ∙ ap (held_bytes c.ready.new.self.held) c.file-to_file.ensures) c.outline_in-target.ensures.1 c.in_ok-plan_across.ensures)

pub returns-clause-disk : goal.returns-clause-disk
returns-clause-disk g c =
    let plan = c.in_ok-plan_across.field-0 in
    only_reads_fine (fine_is_no_fault (Ok plan) plan Broken refl) (fine_is_no_fault (Ok plan) plan Device refl) c.in_ok-ready.ensures.files.disk

pub returns-then-not-has-clause-disk : goal.returns-then-not-has-clause-disk
returns-then-not-has-clause-disk g c = only_reads_none c.requires.unbroken (refused_apart NoSuchFile).0 (refused_apart NoSuchFile).1

pub ready-requires-clause-name : goal.ready-requires-clause-name
ready-requires-clause-name g c = sym c.if-not-has.ensures

pub ready-requires-clause-unbroken : goal.ready-requires-clause-unbroken
ready-requires-clause-unbroken g c = c.requires.unbroken

pub returns-in_err-plan_within-clause-plan : goal.returns-in_err-plan_within-clause-plan
returns-in_err-plan_within-clause-plan g c = no_value _ c.from_residual.result _ (handed_on c.from_residual.result _ c.from_residual.ensures.1)

pub returns-in_err-plan_within-clause-disk : goal.returns-in_err-plan_within-clause-disk
returns-in_err-plan_within-clause-disk g c =
    let why = c.in_err-plan_within.field-0.0 in
    let given : c.from_residual.result ≡ Err (fault_of why) = handed_on c.from_residual.result _ c.from_residual.ensures.1 in
    only_reads_none c.requires.unbroken (other_fault c.from_residual.result (fault_of why) Broken given (planned_own why).0) (other_fault c.from_residual.result (fault_of why) Device given (planned_own why).1)

pub returns-then-eq-clause-disk : goal.returns-then-eq-clause-disk
returns-then-eq-clause-disk g c =
    let plan = c.in_ok-plan_within.field-0 in
    only_reads_none c.requires.unbroken (fine_is_no_fault (Ok plan) plan Broken refl) (fine_is_no_fault (Ok plan) plan Device refl)

pub returns-then-not-has-clause-plan : goal.returns-then-not-has-clause-plan
returns-then-not-has-clause-plan g c = tt

pub returns-in_err-ready-clause-plan : goal.returns-in_err-ready-clause-plan
returns-in_err-ready-clause-plan g c = no_value _ c.from_residual-in_err-ready.result _ (handed_on c.from_residual-in_err-ready.result _ c.from_residual-in_err-ready.ensures.1)

pub returns-in_err-plan_across-clause-plan : goal.returns-in_err-plan_across-clause-plan
returns-in_err-plan_across-clause-plan g c = no_value _ c.from_residual-in_err-plan_across.result _ (handed_on c.from_residual-in_err-plan_across.result _ c.from_residual-in_err-plan_across.ensures.1)
