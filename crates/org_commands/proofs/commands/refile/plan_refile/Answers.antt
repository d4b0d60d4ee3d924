use Rattle.std.proofs.Common.{◌≡◌, ◌≢◌, ◌∙◌, List, ℕ, Ok, ap, sym, subst, rules}
use Rattle.org_outline.specs.Tree.{tree}
use Rattle.org_move.specs.Refile.{refile_across, refile_within}
use Rattle.org_commands.specs.InOrder.{text_at}
use Rattle.org_commands.specs.Keeping.{fault_of}
use Rattle.org_commands.specs.Outcome.{refile}
use Rattle.org_commands.specs.Planning.{PlansAs}
use Rattle.org_commands.specs.Refile.{MakesDocument, MakesDocuments, text_within, texts_across}
use Rattle.org_commands.proofs.Faults.{no_value, planned_own}
use Rattle.org_commands.proofs.Handing.{handed_on}
use Rattle.org_commands.proofs.MadeReady.{document_fits, document_texts, documents_fit, documents_texts, first_is_ready, no_text_of, one_is_ready, second_is_ready, sees_one, sees_two, session_in}
use Rattle.org_commands.proofs.Planning.{plans_no_file, plans_no_read}
use Rattle.org_commands.proofs.Reading.{only_reads_ok, only_reads_own}
use Rattle.org_commands.proofs.Refiles.{across_is, move_fails, move_planned, no_target, within_is}
use Rattle.org_commands.proofs.commands.refile.plan_refile.Goals as goal

pub returns-in_err-check_name : goal.returns-in_err-check_name
returns-in_err-check_name g c =
    let k = c.args.command.now in
    let files = c.args.files.now in
    plans_no_file g.D.Disk c.args.states.now _ c.requires.between.unbroken c.from_residual.result c.from_residual.ensures.1 c.in_err-check_name.ensures.0
    (λ tally.
    let s = session_in g.D.Disk c.args.states.now files tally in
    ap (λ o. refile s k.file k.path k.to_file k.to_path k.place o (text_at s.names s.files k.to_file)) (no_text_of g.D.Disk files k.file (sym c.in_err-check_name.ensures.1)))

pub returns-in_err-check_name-2 : goal.returns-in_err-check_name-2
returns-in_err-check_name-2 g c =
    let k = c.args.command.now in
    let files = c.args.files.now in
    plans_no_file g.D.Disk c.args.states.now _ c.requires.between.unbroken c.from_residual-in_err-check_name-2.result c.from_residual-in_err-check_name-2.ensures.1 c.in_err-check_name-2.ensures.0
    (λ tally.
    let s = session_in g.D.Disk c.args.states.now files tally in
    let source = text_at s.names s.files k.file in
    ap (λ o. refile s k.file k.path k.to_file k.to_path k.place source o) (no_text_of g.D.Disk files k.to_file (sym c.in_err-check_name-2.ensures.1)) ∙ no_target s k.file k.path k.to_file k.to_path k.place source)

-- ---- within one file

pub returns-in_err-ready : goal.returns-in_err-ready
returns-in_err-ready g c =
    plans_no_read g.D.Disk c.args.states.now _ c.requires.between.unbroken c.ready.new.self c.from_residual-in_err-ready.result c.from_residual-in_err-ready.ensures.1 c.in_err-ready.ensures.files

pub held-held-requires : goal.held-held-requires
held-held-requires g c = one_is_ready c.args.command.now.file c.requires.between c.in_ok-ready.ensures.ready

pub returns-in_err-plan_within : goal.returns-in_err-plan_within
returns-in_err-plan_within g c =
    let k = c.args.command.now in
    let same : k.file ≡ k.to_file = search rules in
    subst (λ (to_file : List ℕ). PlansAs g.D.Disk c.args.states.now c.args.files.now (λ s. refile s k.file k.path to_file k.to_path k.place (text_at s.names s.files k.file) (text_at s.names s.files to_file)) c.from_residual-in_err-plan_within.result c.ready.new.self) same
    (record {
      plan = no_value _ c.from_residual-in_err-plan_within.result _ (handed_on c.from_residual-in_err-plan_within.result _ c.from_residual-in_err-plan_within.ensures.1);
      plans = λ tally honest.
          let a = c.args in
          let k = a.command.now in
          let seen = c.held-held.result.now.text in
          let sees = sees_one k.file c.requires.between g.D.Disk a.states.now c.ready.new.self c.in_ok-check_name.ensures c.in_ok-ready.ensures.ready c.ready.ensures.files.disk.names c.in_ok-ready.ensures.files.reads c.held-held.ensures.text in
          move_fails c.ready.new.self.held (text_within k.file) (refile_within a.states.now k.path k.to_path k.place (tree seen.bytes)) (MakesDocument k.file seen.bytes) c.plan_within.result c.from_residual-in_err-plan_within.result sees.unbroken
          (sees.reads tally honest) (within_is sees k.path k.to_path k.place tally honest) c.in_err-plan_within.was c.plan_within.ensures c.from_residual-in_err-plan_within.ensures.1;
      disk = only_reads_own c.from_residual-in_err-plan_within.result (fault_of c.in_err-plan_within.field-0.0) (handed_on c.from_residual-in_err-plan_within.result _ c.from_residual-in_err-plan_within.ensures.1) (planned_own c.in_err-plan_within.field-0.0) c.in_ok-ready.ensures.files.disk;
    })

pub returns-then-eq : goal.returns-then-eq
returns-then-eq g c =
    let k = c.args.command.now in
    let same : k.file ≡ k.to_file = search rules in
    subst (λ (to_file : List ℕ). PlansAs g.D.Disk c.args.states.now c.args.files.now (λ s. refile s k.file k.path to_file k.to_path k.place (text_at s.names s.files k.file) (text_at s.names s.files to_file)) (Ok c.in_ok-plan_within.field-0) c.ready.new.self) same
    (record {
      plan =
          let made = c.in_ok-plan_within.ensures in
          let sees = sees_one c.args.command.now.file c.requires.between g.D.Disk c.args.states.now c.ready.new.self c.in_ok-check_name.ensures c.in_ok-ready.ensures.ready c.ready.ensures.files.disk.names c.in_ok-ready.ensures.files.reads c.held-held.ensures.text in
          document_fits sees c.in_ok-plan_within.field-0 made.0 made.2;
      plans = λ tally honest.
          let a = c.args in
          let k = a.command.now in
          let plan = c.in_ok-plan_within.field-0 in
          let made = c.in_ok-plan_within.ensures in
          let sees = sees_one k.file c.requires.between g.D.Disk a.states.now c.ready.new.self c.in_ok-check_name.ensures c.in_ok-ready.ensures.ready c.ready.ensures.files.disk.names c.in_ok-ready.ensures.files.reads c.held-held.ensures.text in
          move_planned c.ready.new.self.held (text_within k.file) (refile_within a.states.now k.path k.to_path k.place (tree c.held-held.result.now.text.bytes)) made.0 plan (sees.reads tally honest) (within_is sees k.path k.to_path k.place tally honest) made.1
          (document_texts sees plan made.0 made.2);
      disk = only_reads_ok c.in_ok-ready.ensures.files.disk;
    })

-- ---- across two

pub returns-in_err-both_ready : goal.returns-in_err-both_ready
returns-in_err-both_ready g c =
    plans_no_read g.D.Disk c.args.states.now _ c.requires.between.unbroken c.both_ready.new.files c.from_residual-in_err-both_ready.result c.from_residual-in_err-both_ready.ensures.1 c.in_err-both_ready.ensures.files

pub held-source-requires : goal.held-source-requires
held-source-requires g c = first_is_ready c.args.command.now.file c.args.command.now.to_file c.requires.between c.in_ok-both_ready.ensures.ready

pub held-target-requires : goal.held-target-requires
held-target-requires g c = second_is_ready c.args.command.now.file c.args.command.now.to_file c.requires.between c.in_ok-both_ready.ensures.ready

pub returns-in_err-plan_across : goal.returns-in_err-plan_across
returns-in_err-plan_across g c =
    let apart : c.args.command.now.file ≢ c.args.command.now.to_file = search rules in
    record {
      plan = no_value _ c.from_residual-in_err-plan_across.result _ (handed_on c.from_residual-in_err-plan_across.result _ c.from_residual-in_err-plan_across.ensures.1);
      plans = λ tally honest.
          let a = c.args in
          let k = a.command.now in
          let seen = c.held-source.result.now.text in
          let found = c.held-target.result.now.text in
          let both = sees_two k.file k.to_file c.requires.between g.D.Disk a.states.now c.both_ready.new.files c.in_ok-check_name.ensures c.in_ok-check_name-2.ensures c.in_ok-both_ready.ensures.ready c.both_ready.ensures.files.disk.names c.in_ok-both_ready.ensures.files.reads
          c.held-source.ensures.text c.held-target.ensures.text in
          move_fails c.both_ready.new.files.held (texts_across k.file k.to_file) (refile_across a.states.now k.path (tree seen.bytes) a.states.now k.to_path (tree found.bytes) k.place) (MakesDocuments k.file k.to_file seen.bytes found.bytes)
          c.plan_across.result c.from_residual-in_err-plan_across.result both.0.unbroken (both.0.reads tally honest) (across_is both k.path k.to_path k.place apart tally honest) c.in_err-plan_across.was c.plan_across.ensures
          c.from_residual-in_err-plan_across.ensures.1;
      disk = only_reads_own c.from_residual-in_err-plan_across.result (fault_of c.in_err-plan_across.field-0.0) (handed_on c.from_residual-in_err-plan_across.result _ c.from_residual-in_err-plan_across.ensures.1) (planned_own c.in_err-plan_across.field-0.0) c.in_ok-both_ready.ensures.files.disk;
    }

pub returns : goal.returns
returns g c =
    let apart : c.args.command.now.file ≢ c.args.command.now.to_file = search rules in
    record {
      plan =
          let a = c.args in
          let made = c.in_ok-plan_across.ensures in
          let both = sees_two a.command.now.file a.command.now.to_file c.requires.between g.D.Disk a.states.now c.both_ready.new.files c.in_ok-check_name.ensures c.in_ok-check_name-2.ensures c.in_ok-both_ready.ensures.ready c.both_ready.ensures.files.disk.names
          c.in_ok-both_ready.ensures.files.reads c.held-source.ensures.text c.held-target.ensures.text in
          documents_fit both apart c.in_ok-plan_across.field-0 made.0 made.2;
      plans = λ tally honest.
          let a = c.args in
          let k = a.command.now in
          let plan = c.in_ok-plan_across.field-0 in
          let made = c.in_ok-plan_across.ensures in
          let both = sees_two k.file k.to_file c.requires.between g.D.Disk a.states.now c.both_ready.new.files c.in_ok-check_name.ensures c.in_ok-check_name-2.ensures c.in_ok-both_ready.ensures.ready c.both_ready.ensures.files.disk.names c.in_ok-both_ready.ensures.files.reads
          c.held-source.ensures.text c.held-target.ensures.text in
          move_planned c.both_ready.new.files.held (texts_across k.file k.to_file) (refile_across a.states.now k.path (tree c.held-source.result.now.text.bytes) a.states.now k.to_path (tree c.held-target.result.now.text.bytes) k.place) made.0 plan
          (both.0.reads tally honest) (across_is both k.path k.to_path k.place apart tally honest) made.1 (documents_texts both apart plan made.0 made.2);
      disk = only_reads_ok c.in_ok-both_ready.ensures.files.disk;
    }
