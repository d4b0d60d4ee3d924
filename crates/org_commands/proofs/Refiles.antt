-- Refiles: what their planner finds is what the outcome says.
use Rattle.std.proofs.Common.{◌≡◌, ◌≢◌, inl, inr, ℕ, false, List, [], ◌∷◌, Option, Some, None, Result, Ok, Err, refl, sym, ◌∙◌, ap, subst}
use Rattle.std.specs.Prelude.{IsSomeAnd}
use Rattle.std.specs.Result.{IsErrAnd}
use Rattle.org_fault.specs.declared.fault.Fault.{Fault}
use Rattle.org_fault.specs.declared.fault.Fault.TheVariants as fault
use Rattle.org_fault.specs.declared.refusal.Refusal.{Refusal}
use Rattle.org_fault.specs.declared.refusal.Refusal.TheVariants.{NoSuchFile}
use Rattle.org_disk.specs.declared.disk.Disk.{Ghosts}
use Rattle.org_disk.proofs.Names.{name_cases, same_name}
use Rattle.org_outline.specs.declared.steps.Step.{Step}
use Rattle.org_splice.specs.declared.edit.Edit.{Edit}
use Rattle.org_splice.specs.Edits.{AreEdits}
use Rattle.org_splice.specs.Texts.{EditedText}
use Rattle.org_outline.specs.declared.moves.Place.{Place}
use Rattle.org_outline.specs.States.{Keywords}
use Rattle.org_outline.specs.Tree.{Document, print, tree}
use Rattle.org_outline.proofs.Trees.{tree-terminated}
use Rattle.org_texts.specs.declared.plan.FileEdits.{FileEdits}
use Rattle.org_texts.specs.declared.plan.Plan.{Plan}
use Rattle.org_texts.specs.Texts.{Holding}
use Rattle.org_move.specs.Answers.{IsMadeAs}
use Rattle.org_move.specs.Refile.{Moved, refile_across, refile_within}
use Rattle.org_commands.specs.declared.command.RunFault.{RunFault}
use Rattle.org_commands.specs.Files.{OpenFiles, new_texts}
use Rattle.org_commands.specs.InOrder.{text_at}
use Rattle.org_commands.specs.Keeping.{Plans, fault_of}
use Rattle.org_commands.specs.Outcome.{Outcome, Refuses, changed, refile, with_moved}
use Rattle.org_commands.specs.Refile.{MakesDocuments, text_within, texts_across}
use Rattle.org_commands.specs.Session.{BetweenSessions, Session}
use Rattle.org_commands.specs.Step.{Steps}
use Rattle.org_commands.proofs.MadeReady.{Sees, plans_not_fit, session_in, text_seen}

-- what a refile is to do with the text of one file, which the planner sees terminated
pub within_is : {D : Type 0} {g : Ghosts D} {states : Keywords} {old new : OpenFiles D} {file : List ℕ} {seen : EditedText} (sees : Sees g states old new (file ∷ []) file seen) (path to : List Step) (place : Place)
    → BetweenSessions g states old new (λ s t. refile s file path file to place (text_at s.names s.files file) (text_at s.names s.files file) ≡ with_moved s (text_within file) (refile_within states path to place (tree seen.bytes)))
within_is {D} {g} {states} {old} {file = file} {seen = seen} sees path to place tally honest =
    let s = session_in g states old tally in
    let text = text_seen sees tally honest in
    let same = same_name file in
    ap (λ (o : Option (List ℕ)). refile s file path file to place o o) text.1
    ∙ rw same (ap (λ (d : Document). with_moved s (text_within file) (refile_within states path to place d)) (sym (ap tree text.2 ∙ tree-terminated text.0)))

-- .. and with those of two
pub across_is : {D : Type 0} {g : Ghosts D} {states : Keywords} {old new : OpenFiles D} {names : List (List ℕ)} {file to_file : List ℕ} {seen found : EditedText}
    (both : Sees g states old new names file seen × Sees g states old new names to_file found) (path to : List Step) (place : Place) → file ≢ to_file
    → BetweenSessions g states old new (λ s t. refile s file path to_file to place (text_at s.names s.files file) (text_at s.names s.files to_file)
    ≡ with_moved s (texts_across file to_file) (refile_across states path (tree seen.bytes) states to (tree found.bytes) place))
across_is {D} {g} {states} {old} {file = file} {to_file = to_file} {seen = seen} {found = found} both path to place apart tally honest =
    let s = session_in g states old tally in
    let text = text_seen both.0 tally honest in
    let target = text_seen both.1 tally honest in
    let made = λ (d e : Document). with_moved s (texts_across file to_file) (refile_across states path d states to e place) in
    ap (λ (o : Option (List ℕ)). refile s file path to_file to place o (text_at s.names s.files to_file)) text.1
    ∙ ap (λ (o : Option (List ℕ)). refile s file path to_file to place (Some text.0) o) target.1
    ∙ elim (name_cases file to_file) [
      | inl same ↦ absurd (apart same.0)
      | inr not ↦
          let f = not.1 in
          rw f (ap (λ (d : Document). made d (tree target.0)) (sym (ap tree text.2 ∙ tree-terminated text.0))
          ∙ ap (made (tree seen.bytes)) (sym (ap tree target.2 ∙ tree-terminated target.0)))
    ]

-- a subtree that isn't moved
move_refused : {A B : Type 0} (s : Session) (texts : B → List (List ℕ × List ℕ)) (reported : Outcome) (said : Result B Refusal) (Fits : B → A → Type 0) (result : Result A (Fault Refusal)) (why : Fault Refusal)
    → s.broken ≡ false → reported ≡ with_moved s texts said → result ≡ Err why → IsMadeAs said Fits result → Steps s reported (Err (fault_of why)) s
move_refused {A} {B} s texts reported said Fits result why unbroken is was gives = go why (subst (IsMadeAs said Fits) was gives)
  where
    refuses : (w : Refusal) → said ≡ Err w → reported ≡ Refuses w
    refuses w none = is ∙ ap (with_moved s texts) none

    go : (w : Fault Refusal) → IsMadeAs said Fits (Err w) → Steps s reported (Err (fault_of w)) s
    go fault.OutOfMemory gives = (unbroken, refl)
    go (fault.Refused w) gives = (unbroken, refuses w gives, refl)

-- .. so nothing is planned
pub move_fails : {B : Type 0} {s t : Session} {reported : Outcome} (held : Holding) (texts : B → List (List ℕ × List ℕ)) (said : Result B Refusal) (Fits : B → Plan → Type 0) (result : Result Plan (Fault Refusal)) {why : Fault Refusal} (answer : Result Plan RunFault) → s.broken ≡ false → t ≡ s → reported ≡ with_moved s texts said → result ≡ Err why → IsMadeAs said Fits result → IsErrAnd answer (λ y. y ≡ fault_of why)
    → Plans s reported answer held t
move_fails {s = s} {t = t} {reported = reported} held texts said Fits result {why} answer unbroken read is was gives handed =
    plans_not_fit s t reported held (fault_of why) answer handed read (move_refused s texts reported said Fits result why unbroken is was gives)

-- one that is
pub move_planned : {B : Type 0} {s t : Session} {reported : Outcome} (held : Holding) (texts : B → List (List ℕ × List ℕ)) (said : Result B Refusal) (new : B) (plan : Plan)
    → t ≡ s → reported ≡ with_moved s texts said → said ≡ Ok new → new_texts plan held.now ≡ texts new → Plans s reported (Ok plan) held t
move_planned {s = s} held texts said new plan read is made are = (is ∙ ap (with_moved s texts) made ∙ ap (changed s) (sym are), read)

-- a plan of one edit in each of two files makes what the edits make
pub two_made : (file to_file text target : List ℕ) (edit to_edit : Edit) (new : Moved) (plan : Plan)
    → (plan.first.file ≡ file) × (plan.first.edits.items ≡ edit ∷ []) × IsSomeAnd plan.second (λ second. (second.file ≡ to_file) × (second.edits.items ≡ to_edit ∷ []))
    → AreEdits (edit ∷ []) text (print new.source) → AreEdits (to_edit ∷ []) target (print new.target) → MakesDocuments file to_file text target new plan
two_made file to_file text target edit to_edit new plan (named, one, two) source goes_in = (
  named,
  subst (λ (es : List Edit). AreEdits es text (print new.source)) (sym one) source,
  go plan.second two,
)
  where
    go : (o : Option FileEdits) → IsSomeAnd o (λ second. (second.file ≡ to_file) × (second.edits.items ≡ to_edit ∷ []))
        → IsSomeAnd o (λ second. (second.file ≡ to_file) × AreEdits second.edits.items target (print new.target))
    go None two = absurd two
    go (Some second) two = (two.0, subst (λ (es : List Edit). AreEdits es target (print new.target)) (sym two.1) goes_in)

-- a target that isn't there
pub no_target : (s : Session) (file : List ℕ) (path : List Step) (to_file : List ℕ) (to : List Step) (place : Place) (old : Option (List ℕ)) → refile s file path to_file to place old None ≡ Refuses NoSuchFile
no_target s file path to_file to place None = refl
no_target s file path to_file to place (Some text) = refl
