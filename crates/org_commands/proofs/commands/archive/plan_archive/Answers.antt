use Rattle.std.proofs.Common.{◌≡◌, ◌∙◌, ◌∷◌, [], ℕ, List, Result, Some, sym, ap, subst}
use Rattle.org_fault.specs.declared.refusal.Refusal.{Refusal}
use Rattle.org_outline.specs.Paths.{find_path, refusal_of}
use Rattle.org_outline.specs.Tree.{Document, tree}
use Rattle.org_outline.proofs.Trees.{tree-terminated}
use Rattle.org_texts.specs.Texts.{bytes_or}
use Rattle.org_move.specs.Answers.{IsPlaceAs}
use Rattle.org_move.specs.Location.{Destination}
use Rattle.org_commands.specs.declared.command.RunFault.TheVariants.{Refused}
use Rattle.org_commands.specs.Files.{AreReady, OpenFiles}
use Rattle.org_commands.specs.Headings.{HasHeading}
use Rattle.org_commands.specs.InOrder.{text_at}
use Rattle.org_commands.specs.Keeping.{fault_of}
use Rattle.org_commands.specs.Outcome.{archive, archive_to}
use Rattle.org_commands.specs.Reading.{OnlyReads}
use Rattle.org_commands.specs.Session.{Session}
use Rattle.org_commands.proofs.Archives.{held_bytes, path_refused, place_found, place_is, place_refused, store_text}
use Rattle.org_commands.proofs.MadeReady.{no_text_of, one_is_ready, one_ready, plans_not_fit, plans_then, session_in, still_named}
use Rattle.org_commands.proofs.Plans.{one_name}
use Rattle.org_commands.proofs.Reading.{only_reads_own, only_reads_then}
use Rattle.org_commands.proofs.Faults.{planned_own, refused_own}
use Rattle.org_commands.proofs.Handing.{handed_on}
use Rattle.org_commands.proofs.Planning.{plans_no_file, plans_no_read, plans_refused}
use Rattle.org_commands.proofs.commands.archive.plan_archive.Goals as goal

pub returns-in_err-check_name : goal.returns-in_err-check_name
returns-in_err-check_name g c =
    let k = c.args.command.now in
    plans_no_file g.D.Disk c.args.states.now _ c.requires.between.unbroken c.from_residual.result c.from_residual.ensures.1 c.in_err-check_name.ensures.0
    (λ tally. ap (archive (session_in g.D.Disk c.args.states.now c.args.files.now tally) k.file k.path k.moment) (no_text_of g.D.Disk c.args.files.now k.file (sym c.in_err-check_name.ensures.1)))

pub returns-in_err-ready : goal.returns-in_err-ready
returns-in_err-ready g c =
    plans_no_read g.D.Disk c.args.states.now _ c.requires.between.unbroken c.ready.new.self c.from_residual-in_err-ready.result c.from_residual-in_err-ready.ensures.1 c.in_err-ready.ensures.files

pub held-requires : goal.held-requires
held-requires g c = one_is_ready c.args.command.now.file c.requires.between c.in_ok-ready.ensures.ready

pub returns-in_err-node : goal.returns-in_err-node
returns-in_err-node g c = plans_refused g.D.Disk c.args.states.now _ c.from_residual-in_err-node.result _ c.from_residual-in_err-node.ensures.1
    (λ tally honest.
    let k = c.args.command.now in
    let files = c.ready.new.self in
    let why = c.in_err-node.field-0.0 in
    let s = session_in g.D.Disk c.args.states.now c.args.files.now tally in
    let read = c.in_ok-ready.ensures.files.reads c.args.states.now tally honest in
    let own = store_text g.D.Disk c.args.states.now files tally s (k.file ∷ []) k.file read (one_ready k.file c.requires.between c.in_ok-ready.ensures.ready) (one_name k.file) (still_named k.file c.ready.ensures.files.disk.names c.in_ok-check_name.ensures) in
    let none = ap (λ (b : List ℕ). find_path c.args.states.now (tree b) k.path) (ap (bytes_or []) c.held.ensures.text) ∙ sym c.heading_at.ensures.value ∙ c.in_err-node.was in
    plans_not_fit s (session_in g.D.Disk c.args.states.now files tally) (archive s k.file k.path k.moment (text_at s.names s.files k.file)) files.held (Refused (refusal_of why)) c.from_residual-in_err-node.result c.from_residual-in_err-node.ensures.1 read
    (path_refused s k.file k.path k.moment own.0 (held_bytes files.held k.file) why c.requires.between.unbroken own.1 own.2 none))
    (only_reads_own c.from_residual-in_err-node.result (Refused (refusal_of c.in_err-node.field-0.0)) (handed_on c.from_residual-in_err-node.result _ c.from_residual-in_err-node.ensures.1) (refused_own (refusal_of c.in_err-node.field-0.0)) c.in_ok-ready.ensures.files.disk)

pub find_location-requires-clause-ready : goal.find_location-requires-clause-ready
find_location-requires-clause-ready g c = one_ready c.args.command.now.file c.requires.between c.in_ok-ready.ensures.ready

pub find_location-requires-clause-heading : goal.find_location-requires-clause-heading
find_location-requires-clause-heading g c = (c.held.result.now.text, c.held.ensures.text, c.in_ok-node.ensures.within)

pub returns-in_err-to : goal.returns-in_err-to
returns-in_err-to g c = plans_refused g.D.Disk c.args.states.now _ c.from_residual-in_err-to.result _ c.from_residual-in_err-to.ensures.1
    (λ tally honest.
    let k = c.args.command.now in
    let files = c.find_location.new.files in
    let same = c.find_location.ensures.same in
    let s = session_in g.D.Disk c.args.states.now c.args.files.now tally in
    let was = subst (λ (f : OpenFiles g.row.D.Denot). g.D.Disk.honest f.disk) same honest in
    let read = ap (λ (f : OpenFiles g.row.D.Denot). session_in g.D.Disk c.args.states.now f tally) same ∙ c.in_ok-ready.ensures.files.reads c.args.states.now tally was in
    let ready = subst (λ (f : OpenFiles g.row.D.Denot). AreReady (k.file ∷ []) f.held) (sym same) (one_ready k.file c.requires.between c.in_ok-ready.ensures.ready) in
    let names = ap (λ (f : OpenFiles g.row.D.Denot). f.names) same ∙ c.ready.ensures.files.disk.names in
    let own = store_text g.D.Disk c.args.states.now files tally s (k.file ∷ []) k.file read ready (one_name k.file) (still_named k.file names c.in_ok-check_name.ensures) in
    let reported = archive s k.file k.path k.moment (text_at s.names s.files k.file) in
    let seen = held_bytes files.held k.file in
    let found = ap (λ (b : List ℕ). find_path c.args.states.now (tree b) k.path) (ap (λ (f : OpenFiles g.row.D.Denot). held_bytes f.held k.file) same ∙ ap (bytes_or []) c.held.ensures.text) ∙ sym c.heading_at.ensures.value ∙ c.in_ok-node.was in
    let gives = subst (λ (r : Result Destination Refusal). IsPlaceAs r c.find_location.result) (sym (place_is c.args.states.now k.file k.path seen c.in_ok-node.node found)) c.find_location.ensures.place in
    plans_not_fit s (session_in g.D.Disk c.args.states.now files tally) reported files.held (fault_of c.in_err-to.field-0.0) c.from_residual-in_err-to.result c.from_residual-in_err-to.ensures.1 read
    (place_refused s k.file k.path k.moment own.0 seen c.find_location.result c.in_err-to.field-0.0 c.requires.between.unbroken own.1 own.2 c.in_err-to.was gives))
    (subst (λ (f : OpenFiles g.row.D.Denot). OnlyReads g.D.Disk c.args.files.now f c.from_residual-in_err-to.result) (sym c.find_location.ensures.same)
    (only_reads_own c.from_residual-in_err-to.result (fault_of c.in_err-to.field-0.0) (handed_on c.from_residual-in_err-to.result _ c.from_residual-in_err-to.ensures.1) (planned_own c.in_err-to.field-0.0) c.in_ok-ready.ensures.files.disk))

pub plan_archive_to-requires-clause-ready : goal.plan_archive_to-requires-clause-ready
plan_archive_to-requires-clause-ready g c =
    let k = c.args.command.now in
    subst (λ (f : OpenFiles g.row.D.Denot). AreReady (k.file ∷ []) f.held) (sym c.find_location.ensures.same) (one_ready k.file c.requires.between c.in_ok-ready.ensures.ready)

pub plan_archive_to-requires-clause-heading : goal.plan_archive_to-requires-clause-heading
plan_archive_to-requires-clause-heading g c =
    subst (λ (f : OpenFiles g.row.D.Denot). HasHeading f.held.now c.args.command.now.file c.in_ok-node.node) (sym c.find_location.ensures.same) (c.held.result.now.text, c.held.ensures.text, c.in_ok-node.ensures.within)

pub returns : goal.returns
returns g c = record {
  plan = c.plan_archive_to.ensures.plan;
  plans = λ tally honest.
      let k = c.args.command.now in
      let files = c.find_location.new.files in
      let same = c.find_location.ensures.same in
      let s = session_in g.D.Disk c.args.states.now c.args.files.now tally in
      let to = c.in_ok-to.to in
      let was = subst (λ (f : OpenFiles g.row.D.Denot). g.D.Disk.honest f.disk) same (c.plan_archive_to.ensures.disk.accounts.was_honest honest) in
      let read = ap (λ (f : OpenFiles g.row.D.Denot). session_in g.D.Disk c.args.states.now f tally) same ∙ c.in_ok-ready.ensures.files.reads c.args.states.now tally was in
      let ready = subst (λ (f : OpenFiles g.row.D.Denot). AreReady (k.file ∷ []) f.held) (sym same) (one_ready k.file c.requires.between c.in_ok-ready.ensures.ready) in
      let names = ap (λ (f : OpenFiles g.row.D.Denot). f.names) same ∙ c.ready.ensures.files.disk.names in
      let own = store_text g.D.Disk c.args.states.now files tally s (k.file ∷ []) k.file read ready (one_name k.file) (still_named k.file names c.in_ok-check_name.ensures) in
      let there = subst (λ (t : Session). text_at t.names t.files k.file ≡ Some own.0) (sym read) own.1 in
      let seen = held_bytes files.held k.file in
      let found = ap (λ (b : List ℕ). find_path c.args.states.now (tree b) k.path) (ap (λ (f : OpenFiles g.row.D.Denot). held_bytes f.held k.file) same ∙ ap (bytes_or []) c.held.ensures.text) ∙ sym c.heading_at.ensures.value ∙ c.in_ok-node.was in
      let own_found = ap (λ (d : Document). find_path c.args.states.now d k.path) (sym (ap tree own.2 ∙ tree-terminated own.0)) ∙ found in
      plans_then g.D.Disk c.args.states.now c.args.files.now files c.plan_archive_to.new.files tally (λ t. archive_to t k.file k.path k.moment own.0 to (text_at t.names t.files to.file)) read (place_found s k.file k.path k.moment own.0 seen to own.1 own.2 (place_is c.args.states.now k.file k.path seen c.in_ok-node.node found ∙ c.in_ok-to.ensures.place)) c.plan_archive_to.result
      (c.plan_archive_to.ensures.plans tally honest own.0 there own_found);
  disk =
      only_reads_then c.in_ok-ready.ensures.files.disk (subst (λ (f : OpenFiles g.row.D.Denot). OnlyReads g.D.Disk f c.plan_archive_to.new.files c.plan_archive_to.result) c.find_location.ensures.same c.plan_archive_to.ensures.disk);
}
