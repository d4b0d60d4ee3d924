-- Changes of states: what their planner finds is what the outcome says.
use Rattle.std.proofs.Common.{arith, ◌≡◌, ◌≢◌, ℕ, false, List, [], ◌∷◌, Option, Some, None, Result, Ok, Err, Vec, refl, sym, ◌∙◌, ap, subst}
use Rattle.std.proofs.lemmas.Grind.{common_steps}
use Rattle.std.specs.Global.{Global}
use Rattle.std.specs.Prelude.{IfNone, IfSome}
use Rattle.std.specs.Option.{ForSome, unwrap_or}
use Rattle.std.specs.Result.{IsErrAnd}
use Rattle.org_fault.specs.declared.fault.Fault.{Fault}
use Rattle.org_fault.specs.declared.fault.Fault.TheVariants as fault
use Rattle.org_fault.specs.declared.refusal.Refusal.{Refusal}
use Rattle.org_disk.specs.declared.disk.Disk.{Ghosts}
use Rattle.org_outline.specs.declared.steps.Step.{Step}
use Rattle.org_splice.specs.declared.edit.Edit.{Edit}
use Rattle.org_splice.specs.Edits.{AreEdits}
use Rattle.org_splice.specs.Texts.{EditedText}
use Rattle.org_outline.specs.States.{Keywords}
use Rattle.org_outline.specs.Tree.{Document, print, tree}
use Rattle.org_outline.proofs.Trees.{tree-terminated}
use Rattle.org_stamp.specs.Calendar.{Moment}
use Rattle.org_texts.specs.declared.plan.Plan.{Plan}
use Rattle.org_state.specs.Answers.{AnswersTodo, Makes}
use Rattle.org_state.specs.Todo.{IsTodo, todo as in_state}
use Rattle.org_state.proofs.Computed.{todo_computed}
use Rattle.org_commands.specs.declared.command.RunFault.{RunFault}
use Rattle.org_commands.specs.declared.tally.Tally.{Tally}
use Rattle.org_commands.specs.Files.{IsPlanFor, OpenFiles}
use Rattle.org_commands.specs.InOrder.{text_at}
use Rattle.org_commands.specs.Keeping.{PlansOrStays, fault_of}
use Rattle.org_commands.specs.Outcome.{Outcome, Refuses, changed, todo, with_state}
use Rattle.org_commands.specs.Session.{Session}
use Rattle.org_commands.specs.Step.{Steps}
use Rattle.org_commands.specs.Todo.{PlansState}
use Rattle.org_commands.proofs.MadeReady.{Sees, document_fits, document_seen, document_texts, session_in, stays_not_fit, text_seen}

-- ---- the edits

module _ (states : Keywords) (path : List Step) (state : List ℕ) (now : Moment) (text : List ℕ) where
  -- no edits, for this reason
  pub state_refused : (file : List ℕ) (result : Result (Option Plan) (Fault Refusal)) (why : Fault Refusal) → result ≡ Err why → AnswersTodo states path state now text (Err why) → PlansState file text (in_state states path state now (tree text)) result
  state_refused file result why is answers = subst (PlansState file text (in_state states path state now (tree text))) (sym is) (go why answers)
    where
      reported : (w : Refusal) → IsTodo states path state now (tree text) (Err w) → in_state states path state now (tree text) ≡ Err w
      reported w is = todo_computed states path state now (tree text) (Err w) is

      go : (w : Fault Refusal) → AnswersTodo states path state now text (Err w) → PlansState file text (in_state states path state now (tree text)) (Err w)
      go fault.OutOfMemory answers = tt
      go (fault.Refused w) answers = reported w answers

  -- edits that change nothing
  pub state_stays : (edits : Vec Edit Global) → edits.items ≡ [] → AnswersTodo states path state now text (Ok edits) → in_state states path state now (tree text) ≡ Ok None
  state_stays edits none (new, is, makes) = go new is makes
    where
      go : (o : Option Document) → IsTodo states path state now (tree text) (Ok o) → Makes o text edits.items → in_state states path state now (tree text) ≡ Ok None
      go None is makes = todo_computed states path state now (tree text) (Ok None) is
      go (Some d) is makes = absurd (makes.0 none)

  -- .. and edits that make a document
  pub state_made : (edits : Vec Edit Global) → edits.items ≢ [] → AnswersTodo states path state now text (Ok edits) → (d : Document) × (in_state states path state now (tree text) ≡ Ok (Some d)) × AreEdits edits.items text (print d)
  state_made edits some (new, is, makes) = go new is makes
    where
      go : (o : Option Document) → IsTodo states path state now (tree text) (Ok o) → Makes o text edits.items → (d : Document) × (in_state states path state now (tree text) ≡ Ok (Some d)) × AreEdits edits.items text (print d)
      go None is makes = absurd (some makes)
      go (Some d) is makes = (d, todo_computed states path state now (tree text) (Ok (Some d)) is, makes.1)

-- a plan of edits that make what is said, none where there is no edit
pub plan_made : (file text : List ℕ) (said : Result (Option Document) Refusal) (edits : List Edit) (o : Option Plan) → IfNone o (edits ≡ [])
    → IfSome o (λ plan. (edits ≢ []) × (plan.first.file ≡ file) × (plan.second ≡ None) × (plan.first.edits.items ≡ edits))
    → (edits ≡ [] → said ≡ Ok None) → (edits ≢ [] → (d : Document) × (said ≡ Ok (Some d)) × AreEdits edits text (print d)) → PlansState file text said (Ok o)
plan_made file text said edits None none some stays makes = stays none
plan_made file text said edits (Some plan) none (changes, named, alone, are) stays makes = grind (arith, common_steps)

-- ---- the outcome

-- what isn't to be done
state_not_made : (s : Session) {reported : Outcome} (file seen : List ℕ) (said : Result (Option Document) Refusal) (result : Result (Option Plan) (Fault Refusal)) (why : Fault Refusal) → s.broken ≡ false → reported ≡ with_state s file said → result ≡ Err why
    → PlansState file seen said result → Steps s reported (Err (fault_of why)) s
state_not_made s {reported} file seen said result why unbroken is was plans = go why (subst (PlansState file seen said) was plans)
  where
    refuses : (w : Refusal) → said ≡ Err w → reported ≡ Refuses w
    refuses w none = is ∙ ap (with_state s file) none

    go : (w : Fault Refusal) → PlansState file seen said (Err w) → Steps s reported (Err (fault_of w)) s
    go fault.OutOfMemory plans = (unbroken, refl)
    go (fault.Refused w) plans = (unbroken, refuses w plans, refl)

module _ {D : Type 0} {g : Ghosts D} {states : Keywords} {old new : OpenFiles D} {file : List ℕ} {seen : EditedText} (sees : Sees g states old new (file ∷ []) file seen) where
  -- what is planned is for the files as they are
  pub state_fits : (said : Result (Option Document) Refusal) (o : Option Plan) → PlansState file seen.bytes said (Ok o) → ForSome o (λ plan. IsPlanFor new.names new.held plan)
  state_fits said None plans = λ plan is. absurd (cc)
  state_fits said (Some one) (d, is, makes) = λ plan is.
      let same : one ≡ plan = cc in
      subst (λ (p : Plan). IsPlanFor new.names new.held p) same (document_fits sees one d makes)

  module _ (tally : Tally) (honest : g.honest new.disk) where
    abbrev s : Session
    s = session_in g states old tally

    -- what a change of a state is to do with the text, which the planner sees terminated
    pub todo_is : (path : List Step) (state : List ℕ) (moment : Moment) → todo s file path state moment (text_at s.names s.files file) ≡ with_state s file (in_state states path state moment (tree seen.bytes))
    todo_is path state moment =
        let text = text_seen sees tally honest in
        ap (todo s file path state moment) text.1 ∙ ap (λ (d : Document). with_state s file (in_state states path state moment d)) (sym (ap tree text.2 ∙ tree-terminated text.0))

    -- .. and what is to be done with the document
    pub document_is : (said : Document → Result (Option Document) Refusal) → with_state s file (said (tree (unwrap_or (text_at s.names s.files file) []))) ≡ with_state s file (said (tree seen.bytes))
    document_is said = ap (λ (d : Document). with_state s file (said d)) (document_seen sees tally honest)

    -- nothing is planned, for this reason
    pub state_fails : {reported : Outcome} (said : Result (Option Document) Refusal) (result : Result (Option Plan) (Fault Refusal)) {why : Fault Refusal} (answer : Result (Option Plan) RunFault) → reported ≡ with_state s file said
        → result ≡ Err why → PlansState file seen.bytes said result → IsErrAnd answer (λ y. y ≡ fault_of why) → PlansOrStays s reported answer new.held (session_in g states new tally)
    state_fails {reported} said result {why} answer is was plans handed =
        stays_not_fit s (session_in g states new tally) reported new.held (fault_of why) answer handed (sees.reads tally honest) (state_not_made s file seen.bytes said result why sees.unbroken is was plans)

    -- .. or what is to be done
    pub state_planned : {reported : Outcome} (said : Result (Option Document) Refusal) (o : Option Plan) → reported ≡ with_state s file said → PlansState file seen.bytes said (Ok o) → PlansOrStays s reported (Ok o) new.held (session_in g states new tally)
    state_planned said None is plans = (is ∙ ap (with_state s file) plans, sees.reads tally honest)
    state_planned said (Some plan) is (d, made, makes) =
        (is ∙ ap (with_state s file) made ∙ ap (changed s) (sym (document_texts sees plan d makes)), sees.reads tally honest)
