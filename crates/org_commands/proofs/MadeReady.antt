-- What a planner sees of a file that it made ready, and the faults that it hands on.
use Rattle.std.proofs.Common.{rules, arith, ◌≡◌, ◌≢◌, ◌∙◌, ◌∷◌, [], false, true, ℕ, List, Option, None, Some, Result, Err, sym, ap, subst}
use Rattle.std.proofs.lemmas.Grind.{common_steps}
use Rattle.std.specs.Option.{IsSome, unwrap_or}
use Rattle.std.specs.Result.{IsErrAnd}
use Rattle.org_disk.specs.declared.disk.Disk.{Ghosts}
use Rattle.org_splice.specs.Edits.{AreEdits}
use Rattle.org_splice.specs.Lines.{terminated}
use Rattle.org_splice.specs.Texts.{EditedText}
use Rattle.org_journal.specs.Recovered.{contents}
use Rattle.org_outline.specs.States.{Keywords}
use Rattle.org_outline.specs.Tree.{Document, print, tree}
use Rattle.org_texts.specs.declared.plan.FileEdits.{FileEdits}
use Rattle.org_texts.specs.declared.plan.Plan.{Plan}
use Rattle.org_texts.specs.Texts.{Holding, held_over, text_of}
use Rattle.org_texts.proofs.Looking.{the_value}
use Rattle.org_move.specs.Refile.{Moved}
use Rattle.org_commands.specs.declared.command.RunFault.{RunFault}
use Rattle.org_commands.specs.declared.tally.Tally.{Tally}
use Rattle.org_commands.specs.Files.{AreReadyForCommand, AreReady, IsPlanFor, IsReady, OpenFiles, new_texts}
use Rattle.org_commands.specs.InOrder.{is_name, text_at, texts_of}
use Rattle.org_commands.specs.Keeping.{Plans, PlansOrStays, Reads}
use Rattle.org_commands.specs.Outcome.{Outcome}
use Rattle.org_commands.specs.Refile.{MakesDocument, MakesDocuments, text_within, texts_across}
use Rattle.org_commands.specs.Session.{BetweenSessions, Session, session_over}
use Rattle.org_commands.specs.Step.{Steps}
use Rattle.org_commands.proofs.Clocks.{ready_document}
use Rattle.org_commands.proofs.Handing.{handed_on}
use Rattle.org_commands.proofs.Held.{none_ready}
use Rattle.org_commands.proofs.InOrder.{none_at, text_there}
use Rattle.org_commands.proofs.Plans.{first_name, is_ready, one_name, one_text, plan_of_one, plan_of_two, ready_text, second_name, text_held, two_texts}
use Rattle.org_commands.proofs.Sessions.{does_read}

-- the session of a store over files of a disk
abbrev pub session_in : {D : Type 0} → Ghosts D → Keywords → OpenFiles D → Tally → Session
session_in g states files tally = session_over (λ disk. contents (g.files disk)) states files tally

-- ---- faults handed on

module _ (old new : Session) (reported : Outcome) (held : Holding) (fault : RunFault) where
  -- the planner answers it ..
  pub plans_fault : (answer : Result Plan RunFault) → IsErrAnd answer (λ y. y ≡ fault) → Steps old reported (Err fault) new → Plans old reported answer held new
  plans_fault answer handed steps = subst (λ (r : Result Plan RunFault). Plans old reported r held new) (sym (handed_on answer fault handed)) steps

  -- .. or one that may have no plan
  pub stays_fault : (answer : Result (Option Plan) RunFault) → IsErrAnd answer (λ y. y ≡ fault) → Steps old reported (Err fault) new → PlansOrStays old reported answer held new
  stays_fault answer handed steps = subst (λ (r : Result (Option Plan) RunFault). PlansOrStays old reported r held new) (sym (handed_on answer fault handed)) steps

  -- a fault that is found in what was read
  not_fit : new ≡ old → Steps old reported (Err fault) old → Steps old reported (Err fault) new
  not_fit read refused = subst (λ (s : Session). Steps old reported (Err fault) s) (sym read) refused

  pub plans_not_fit : (answer : Result Plan RunFault) → IsErrAnd answer (λ y. y ≡ fault) → new ≡ old → Steps old reported (Err fault) old → Plans old reported answer held new
  plans_not_fit answer handed read refused = plans_fault answer handed (not_fit read refused)

  pub stays_not_fit : (answer : Result (Option Plan) RunFault) → IsErrAnd answer (λ y. y ≡ fault) → new ≡ old → Steps old reported (Err fault) old → PlansOrStays old reported answer held new
  stays_not_fit answer handed read refused = stays_fault answer handed (not_fit read refused)

-- the fault of a reading, whatever was to be done
module _ {D : Type 0} (g : Ghosts D) (states : Keywords) (old new : OpenFiles D) (tally : Tally) (reported : Outcome) where
  abbrev s : Session
  s = session_in g states old tally

  abbrev t : Session
  t = session_in g states new tally

  pub unread : {A : Type 0} {read : Result A RunFault} {fault : RunFault} → old.broken ≡ false → read ≡ Err fault → Reads s read t → Steps s reported (Err fault) t
  unread {A} {read} {fault} unbroken is reads = does_read A s t reported fault unbroken (subst (λ (r : Result A RunFault). Reads s r t) is reads)

  pub plans_unread : {A : Type 0} {read : Result A RunFault} {fault : RunFault} (answer : Result Plan RunFault) → IsErrAnd answer (λ y. y ≡ fault) → old.broken ≡ false → read ≡ Err fault → Reads s read t → Plans s reported answer new.held t
  plans_unread {fault = fault} answer handed unbroken is reads = plans_fault s t reported new.held fault answer handed (unread unbroken is reads)

  pub stays_unread : {A : Type 0} {read : Result A RunFault} {fault : RunFault} (answer : Result (Option Plan) RunFault) → IsErrAnd answer (λ y. y ≡ fault) → old.broken ≡ false → read ≡ Err fault → Reads s read t → PlansOrStays s reported answer new.held t
  stays_unread {fault = fault} answer handed unbroken is reads = stays_fault s t reported new.held fault answer handed (unread unbroken is reads)

-- a plan of the store as it was, from one that calls left so which only read
module _ {D : Type 0} (g : Ghosts D) (states : Keywords) (old mid new : OpenFiles D) (tally : Tally) {outcome : Outcome} (reported : Session → Outcome) (read : session_in g states mid tally ≡ session_in g states old tally) (is : outcome ≡ reported (session_in g states old tally)) where
  pub plans_then : (answer : Result Plan RunFault) → Plans (session_in g states mid tally) (reported (session_in g states mid tally)) answer new.held (session_in g states new tally) → Plans (session_in g states old tally) outcome answer new.held (session_in g states new tally)
  plans_then answer plans = grind (arith, common_steps)

  pub stays_then : (answer : Result (Option Plan) RunFault) → PlansOrStays (session_in g states mid tally) (reported (session_in g states mid tally)) answer new.held (session_in g states new tally)
      → PlansOrStays (session_in g states old tally) outcome answer new.held (session_in g states new tally)
  stays_then answer plans = grind (arith, common_steps)

-- the text of a name that is none of the store's
pub no_text_of : {D : Type 0} (g : Ghosts D) (files : OpenFiles D) (file : List ℕ) → false ≡ is_name files.names file → text_at files.names (texts_of (held_over files.held.before (contents (g.files files.disk))) files.names) file ≡ None
no_text_of g files file missing = none_at (held_over files.held.before (contents (g.files files.disk))) files.names file (sym missing)

-- .. and one that is
pub has_text : {D : Type 0} (g : Ghosts D) (files : OpenFiles D) (file : List ℕ) → true ≡ is_name files.names file → IsSome (text_at files.names (texts_of (held_over files.held.before (contents (g.files files.disk))) files.names) file)
has_text g files file there = sym (text_there (held_over files.held.before (contents (g.files files.disk))) files.names file) ∙ sym there

-- ---- what is seen

-- The files were `old`, between commands. Those of these names were made ready, and the files are
-- `new`. Of one of them this text is held.
pub record Sees {D : Type 0} (g : Ghosts D) (states : Keywords) (old new : OpenFiles D) (names : List (List ℕ)) (file : List ℕ) (seen : EditedText) : Type 0 where
  pub unbroken : old.broken ≡ false
  pub ready : AreReady names new.held
  pub among : is_name names file ≡ true
  pub named : is_name new.names file ≡ true
  pub at : text_of new.held.now file ≡ Some seen
  pub reads : BetweenSessions g states old new (λ s t. t ≡ s)

pub still_named : (file : List ℕ) {old new : List (List ℕ)} → new ≡ old → is_name old file ≡ true → is_name new file ≡ true
still_named file names there = ap (λ (ns : List (List ℕ)). is_name ns file) names ∙ there

-- one file is made ready
module _ (file : List ℕ) {D : Type 0} {old : OpenFiles D} (between : AreReadyForCommand old) where
  pub one_ready : {now : Holding} → ((names : List (List ℕ)) → AreReady names old.held → AreReady (file ∷ names) now) → AreReady (file ∷ []) now
  one_ready ready = ready [] (none_ready old.held between.unedited)

  pub one_is_ready : {now : Holding} → ((names : List (List ℕ)) → AreReady names old.held → AreReady (file ∷ names) now) → IsReady file now
  one_is_ready {now} ready = is_ready (file ∷ []) now file (one_ready ready) (one_name file)

  pub sees_one : (g : Ghosts D) (states : Keywords) (new : OpenFiles D) {seen : EditedText} → is_name old.names file ≡ true → ((names : List (List ℕ)) → AreReady names old.held → AreReady (file ∷ names) new.held)
      → new.names ≡ old.names → ((k : Keywords) → BetweenSessions g k old new (λ s t. t ≡ s)) → text_of new.held.now file ≡ Some seen → Sees g states old new (file ∷ []) file seen
  sees_one g states new there ready names reads at = search (rules, arith, one_ready, one_name, still_named)

-- two are, the second one last
module _ (file to_file : List ℕ) {D : Type 0} {old : OpenFiles D} (between : AreReadyForCommand old) where
  pub two_ready : {now : Holding} → ((names : List (List ℕ)) → AreReady names old.held → AreReady (to_file ∷ file ∷ names) now) → AreReady (to_file ∷ file ∷ []) now
  two_ready ready = ready [] (none_ready old.held between.unedited)

  pub first_is_ready : {now : Holding} → ((names : List (List ℕ)) → AreReady names old.held → AreReady (to_file ∷ file ∷ names) now) → IsReady file now
  first_is_ready {now} ready = is_ready (to_file ∷ file ∷ []) now file (two_ready ready) (second_name to_file file)

  pub second_is_ready : {now : Holding} → ((names : List (List ℕ)) → AreReady names old.held → AreReady (to_file ∷ file ∷ names) now) → IsReady to_file now
  second_is_ready {now} ready = is_ready (to_file ∷ file ∷ []) now to_file (two_ready ready) (first_name to_file (file ∷ []))

  pub sees_two : (g : Ghosts D) (states : Keywords) (new : OpenFiles D) {seen found : EditedText} → is_name old.names file ≡ true → is_name old.names to_file ≡ true
      → ((names : List (List ℕ)) → AreReady names old.held → AreReady (to_file ∷ file ∷ names) new.held) → new.names ≡ old.names → ((k : Keywords) → BetweenSessions g k old new (λ s t. t ≡ s))
      → text_of new.held.now file ≡ Some seen → text_of new.held.now to_file ≡ Some found
      → Sees g states old new (to_file ∷ file ∷ []) file seen × Sees g states old new (to_file ∷ file ∷ []) to_file found
  sees_two g states new there also ready names reads at into = search (rules, arith, two_ready, second_name, still_named, first_name)

module _ {D : Type 0} {g : Ghosts D} {states : Keywords} {old new : OpenFiles D} {names : List (List ℕ)} {file : List ℕ} {seen : EditedText} (sees : Sees g states old new names file seen) (tally : Tally) (honest : g.honest new.disk) where
  abbrev store : Session
  store = session_in g states old tally

  -- it is the store's text of the file, terminated
  pub text_seen : (text : List ℕ) × (text_at store.names store.files file ≡ Some text) × (seen.bytes ≡ terminated text)
  text_seen =
      let was = ready_text names new.held file seen sees.ready sees.among sees.at in (
        was.0.bytes,
        subst (λ (t : Session). text_at t.names t.files file ≡ Some was.0.bytes) (sees.reads tally honest) (text_held new.names new.held (contents (g.files new.disk)) file was.0 sees.named was.1),
        was.2,
      )

  -- .. with the same document
  pub document_seen : tree (unwrap_or (text_at store.names store.files file) []) ≡ tree seen.bytes
  document_seen = ready_document (λ disk. contents (g.files disk)) states new tally store names file seen (sees.reads tally honest) sees.ready sees.among sees.named sees.at

-- ---- what is planned

-- a plan that makes a document of the file
module _ {D : Type 0} {g : Ghosts D} {states : Keywords} {old new : OpenFiles D} {file : List ℕ} {seen : EditedText} (sees : Sees g states old new (file ∷ []) file seen) (plan : Plan) (d : Document) (makes : MakesDocument file seen.bytes d plan) where
  pub document_fits : IsPlanFor new.names new.held plan
  document_fits = plan_of_one plan new.names new.held file seen (print d) makes.0 makes.1 sees.at makes.2 sees.named sees.ready

  pub document_texts : new_texts plan new.held.now ≡ text_within file d
  document_texts = one_text plan new.held file seen (print d) makes.0 makes.1 sees.at makes.2

-- .. and of two files
module _ {D : Type 0} {g : Ghosts D} {states : Keywords} {old new : OpenFiles D} {file to_file : List ℕ} {seen found : EditedText}
    (both : Sees g states old new (to_file ∷ file ∷ []) file seen × Sees g states old new (to_file ∷ file ∷ []) to_file found) (apart : file ≢ to_file) (plan : Plan) (d : Moved) (makes : MakesDocuments file to_file seen.bytes found.bytes d plan) where
  second : (change : FileEdits) × (plan.second ≡ Some change) × ((change.file ≡ to_file) × AreEdits change.edits.items found.bytes (print d.target))
  second = the_value (λ (change : FileEdits). (change.file ≡ to_file) × AreEdits change.edits.items found.bytes (print d.target)) plan.second makes.2

  pub documents_fit : IsPlanFor new.names new.held plan
  documents_fit =
      plan_of_two plan second.0 new.names new.held file to_file seen found (print d.source) (print d.target) apart makes.0 second.1 second.2.0 both.0.at both.1.at makes.1 second.2.1 both.0.named both.1.named both.0.ready

  pub documents_texts : new_texts plan new.held.now ≡ texts_across file to_file d
  documents_texts = two_texts plan second.0 new.held file to_file seen found (print d.source) (print d.target) apart makes.0 second.1 second.2.0 both.0.at both.1.at makes.1 second.2.1
