-- Captures: what their planner finds is what the outcome says.
use Rattle.std.proofs.Common.{◌≡◌, ℕ, false, List, [], ◌∷◌, Option, Some, None, Result, Ok, Err, Vec, refl, sym, ◌∙◌, ap, subst}
use Rattle.std.specs.Global.{Global}
use Rattle.std.specs.Option.{IsSome, unwrap_or}
use Rattle.std.specs.Result.{IsErrAnd}
use Rattle.std.proofs.lemmas.Bool.{false≢true}
use Rattle.org_fault.specs.declared.fault.Fault.{Fault}
use Rattle.org_fault.specs.declared.fault.Fault.TheVariants as fault
use Rattle.org_fault.specs.declared.refusal.Refusal.{Refusal}
use Rattle.org_disk.specs.declared.disk.Disk.{Ghosts}
use Rattle.org_splice.specs.Edits.{AreEdits}
use Rattle.org_splice.specs.Lines.{terminated}
use Rattle.org_splice.specs.Texts.{EditedText}
use Rattle.org_splice.proofs.Lines.{terminated_twice}
use Rattle.org_outline.specs.States.{Keywords}
use Rattle.org_outline.specs.declared.moves.Place.{Place}
use Rattle.org_outline.specs.Tree.{Document, Node, print, tree}
use Rattle.org_outline.proofs.Trees.{tree-terminated}
use Rattle.org_stamp.specs.Calendar.{Moment}
use Rattle.org_splice.specs.declared.edit.Edit.{Edit}
use Rattle.org_texts.specs.declared.plan.Plan.{Plan}
use Rattle.org_capture.specs.declared.target.Target.{Target}
use Rattle.org_capture.specs.Answers.{AnswersBytes, AnswersEdit}
use Rattle.org_capture.specs.Capture.{captured}
use Rattle.org_capture.specs.Entry.{IsEntry, terminated_if_one, entry_in, entry_text, only_root}
use Rattle.org_commands.specs.Capture.{MakesEntry, entry_of_text, new_entry, one_entry}
use Rattle.org_commands.specs.declared.command.RunFault.{RunFault}
use Rattle.org_commands.specs.declared.tally.Tally.{Tally}
use Rattle.org_commands.specs.Files.{OpenFiles}
use Rattle.org_commands.specs.InOrder.{text_at}
use Rattle.org_commands.specs.Keeping.{Plans, fault_of}
use Rattle.org_commands.specs.Outcome.{Outcome, Refuses, capture, changed, with_document, with_entry}
use Rattle.org_commands.specs.Refile.{MakesDocument}
use Rattle.org_commands.specs.Session.{Session}
use Rattle.org_commands.specs.Step.{Steps}
use Rattle.org_commands.proofs.MadeReady.{Sees, document_seen, document_texts, plans_not_fit, session_in}

-- ---- the entry

entry_terminated : (text : List ℕ) → entry_in (terminated text) ≡ entry_in text
entry_terminated text = ap (λ (d : Document). only_root d.preamble d.forest) (tree-terminated text)

one_made : (bytes made : List ℕ) (found : Option Node) → entry_in bytes ≡ found → terminated_if_one found bytes ≡ Ok made → (node : Node) × (one_entry found ≡ Ok node) × IsEntry made node
one_made bytes made None is text = absurd (cc)
one_made bytes made (Some node) is text =
    let same : terminated bytes ≡ made = cc in
    (node, refl, subst (λ (t : List ℕ). IsEntry t node) same (record { stays_terminated = terminated_twice bytes; one = entry_terminated bytes ∙ is }))

no_one : (bytes : List ℕ) (found : Option Node) (why : Refusal) → terminated_if_one found bytes ≡ Err why → one_entry found ≡ Err why
no_one bytes None why is = cc
no_one bytes (Some node) why is = absurd (cc)

pub entry_made : (bytes : List ℕ) (said : Result (List ℕ) Refusal) (result : Result (Vec ℕ Global) (Fault Refusal)) → said ≡ Ok bytes → AnswersBytes (entry_text bytes) result → MakesEntry (entry_of_text said) result
entry_made bytes said result is answers = subst (λ (s : Result (List ℕ) Refusal). MakesEntry (entry_of_text s) result) (sym is) (go result answers)
  where
    go : (r : Result (Vec ℕ Global) (Fault Refusal)) → AnswersBytes (entry_text bytes) r → MakesEntry (one_entry (entry_in bytes)) r
    go (Ok text) answers = one_made bytes text.items (entry_in bytes) refl answers
    go (Err fault.OutOfMemory) answers = tt
    go (Err (fault.Refused why)) answers = no_one bytes (entry_in bytes) why answers

-- ---- the outcome

-- what is refused before the text is looked at
pub entry_refused : (s : Session) (name : List ℕ) (target : Target) (place : Place) (moment : Moment) (template initial : List ℕ) (old : Option (List ℕ)) (result : Result (Vec ℕ Global) (Fault Refusal)) (why : Fault Refusal)
    → IsSome old → s.broken ≡ false → result ≡ Err why → MakesEntry (new_entry moment template initial) result → Steps s (capture s name target place moment template initial old) (Err (fault_of why)) s
entry_refused s name target place moment template initial None result why some unbroken was makes = absurd (false≢true some)
entry_refused s name target place moment template initial (Some text) result why some unbroken was makes = go why (subst (MakesEntry (new_entry moment template initial)) was makes)
  where
    refuses : (w : Refusal) → new_entry moment template initial ≡ Err w → capture s name target place moment template initial (Some text) ≡ Refuses w
    refuses w none = ap (λ entry. with_entry s name target place moment entry text) none

    go : (w : Fault Refusal) → MakesEntry (new_entry moment template initial) (Err w) → Steps s (capture s name target place moment template initial (Some text)) (Err (fault_of w)) s
    go fault.OutOfMemory makes = (unbroken, refl)
    go (fault.Refused w) makes = (unbroken, refuses w makes, refl)

-- what a capture is to do, whose template stands for this entry
pub entry_is : (s : Session) (name : List ℕ) (target : Target) (place : Place) (moment : Moment) (template initial : List ℕ) (old : Option (List ℕ)) (node : Node) → IsSome old → new_entry moment template initial ≡ Ok node
    → capture s name target place moment template initial old ≡ with_entry s name target place moment (Ok node) (unwrap_or old [])
entry_is s name target place moment template initial None node some made = absurd (false≢true some)
entry_is s name target place moment template initial (Some text) node some made = ap (λ entry. with_entry s name target place moment entry text) made

-- an entry that is put into a file, which the planner sees
module _ {D : Type 0} {g : Ghosts D} {states : Keywords} {old new : OpenFiles D} {file : List ℕ} {seen : EditedText} (sees : Sees g states old new (file ∷ []) file seen) (target : Target) (place : Place) (moment : Moment) (node : Node) where
  abbrev said : Result Document Refusal
  said = captured states target place moment node (tree seen.bytes)

  -- a plan of the edit alone
  pub entry_made_by : (plan : Plan) (edit : Edit) (answers : AnswersEdit said seen.bytes (Ok edit)) → plan.first.file ≡ file → plan.second ≡ None → plan.first.edits.items ≡ edit ∷ [] → MakesDocument file seen.bytes answers.0 plan
  entry_made_by plan edit answers own none are = (own, none, subst (λ (es : List Edit). AreEdits es seen.bytes (print answers.0)) (sym are) answers.2.edits)

  module _ (tally : Tally) (honest : g.honest new.disk) where
    abbrev s : Session
    s = session_in g states old tally

    abbrev reported : Outcome
    reported = with_entry s file target place moment (Ok node) (unwrap_or (text_at s.names s.files file) [])

    document_is : (made : Result Document Refusal) → said ≡ made → reported ≡ with_document s file made
    document_is made is = ap (λ (d : Document). with_document s file (captured states target place moment node d)) (document_seen sees tally honest) ∙ ap (with_document s file) is

    -- what is refused for its target
    target_refused : (why : Fault Refusal) → AnswersEdit said seen.bytes (Err why) → Steps s reported (Err (fault_of why)) s
    target_refused fault.OutOfMemory answers = (sees.unbroken, refl)
    target_refused (fault.Refused why) answers = (sees.unbroken, document_is (Err why) answers, refl)

    pub entry_fails : (result : Result Edit (Fault Refusal)) {why : Fault Refusal} (answer : Result Plan RunFault) → result ≡ Err why → AnswersEdit said seen.bytes result → IsErrAnd answer (λ y. y ≡ fault_of why) → Plans s reported answer new.held (session_in g states new tally)
    entry_fails result {why} answer was answers handed = plans_not_fit s (session_in g states new tally) reported new.held (fault_of why) answer handed (sees.reads tally honest) (target_refused why (subst (AnswersEdit said seen.bytes) was answers))

    pub entry_planned : (plan : Plan) (edit : Edit) (answers : AnswersEdit said seen.bytes (Ok edit)) → MakesDocument file seen.bytes answers.0 plan → Plans s reported (Ok plan) new.held (session_in g states new tally)
    entry_planned plan edit answers makes = (document_is (Ok answers.0) answers.1 ∙ ap (changed s) (sym (document_texts sees plan answers.0 makes)), sees.reads tally honest)
