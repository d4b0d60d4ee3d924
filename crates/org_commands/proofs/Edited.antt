-- Edits of a file as it is: what their planner finds is what the outcome says.
use Rattle.std.proofs.Common.{rules, arith, ◌≡◌, ℕ, ◌+◌, ◌≤◌, true, false, List, [], ◌∷◌, length, Option, Some, None, Result, Ok, Err, refl, sym, ◌∙◌, ap, subst}
use Rattle.std.proofs.lemmas.Grind.{common_steps}
use Rattle.std.specs.Prelude.{IsTrue}
use Rattle.std.specs.Option.{IsSome, is_some, option_map}
use Rattle.std.specs.Result.{IsErrAnd}
use Rattle.std.proofs.lemmas.Bool.{false≢true}
use Rattle.org_disk.specs.declared.disk.Disk.{Ghosts}
use Rattle.org_disk.proofs.Names.{name_cases}
use Rattle.org_splice.specs.declared.edit.Edit.{Edit}
use Rattle.org_splice.specs.Edits.{applied, applied_each}
use Rattle.org_splice.specs.Lines.{terminated}
use Rattle.org_splice.specs.Replaced.{replaced}
use Rattle.org_splice.specs.Texts.{EditedText}
use Rattle.org_journal.specs.Recovered.{contents}
use Rattle.org_outline.specs.States.{Keywords}
use Rattle.org_texts.specs.declared.plan.Plan.{Plan}
use Rattle.org_texts.specs.Files.{is_dirty}
use Rattle.org_texts.specs.Texts.{TextSet, text_of}
use Rattle.org_commands.specs.declared.command.RunFault.{RunFault}
use Rattle.org_commands.specs.declared.command.RunFault.TheVariants.{OutOfMemory, Device, Broken, Refused}
use Rattle.org_fault.specs.declared.refusal.Refusal.TheVariants as refusal
use Rattle.org_commands.specs.declared.tally.Tally.{Tally}
use Rattle.org_commands.specs.Edit.{Replaces}
use Rattle.org_commands.specs.Files.{AreReadyForCommand, AreTouched, IsPlanFor, OpenFiles, new_texts}
use Rattle.org_commands.specs.InOrder.{is_name, text_at}
use Rattle.org_commands.specs.Keeping.{Plans}
use Rattle.org_commands.specs.Outcome.{changed, edit, with_replaced}
use Rattle.org_commands.specs.Session.{BetweenSessions, Session}
use Rattle.org_commands.specs.Step.{Steps}
use Rattle.org_commands.proofs.Faults.{IsOwn}
use Rattle.org_commands.proofs.MadeReady.{plans_not_fit, session_in, still_named}
use Rattle.org_commands.proofs.Plans.{one_text_by, text_held}

-- a text whose bytes these are
the_text : (o : Option EditedText) (bytes : List ℕ) → option_map (λ text. text.bytes) o ≡ Some bytes → (text : EditedText) × (o ≡ Some text) × (text.bytes ≡ bytes)
the_text None bytes is = absurd (cc)
the_text (Some text) bytes is = let same : text.bytes ≡ bytes = cc in (text, refl, same)

-- the only name is the file's
same_as : (file name : List ℕ) → is_name (file ∷ []) name ≡ true → file ≡ name
same_as file name there = grind (arith, common_steps, name_cases, false≢true)

-- a fault of finding the bytes is the command's own
pub replaces_own : (text : List ℕ) (at : ℕ) (old new : List ℕ) (fault : RunFault) → Replaces text at old new (Err fault) → IsOwn fault
replaces_own text at old new OutOfMemory answers = (λ no. cc, λ no. cc)
replaces_own text at old new (Refused why) answers = (λ no. cc, λ no. cc)
replaces_own text at old new Device answers = absurd answers
replaces_own text at old new Broken answers = absurd answers

-- The files were `old`, between commands. One of them was read, where it wasn't held, and has these bytes.
pub record Has {D : Type 0} (g : Ghosts D) (states : Keywords) (old new : OpenFiles D) (file bytes : List ℕ) : Type 0 where
  pub unbroken : old.broken ≡ false
  pub named : is_name new.names file ≡ true
  pub unedited : new.held.now ≡ new.held.before
  pub reads : BetweenSessions g states old new (λ s t. t ≡ s)
  pub text : EditedText
  pub at : text_of new.held.now file ≡ Some text
  pub are : text.bytes ≡ bytes

pub has_read : {D : Type 0} (g : Ghosts D) (states : Keywords) {old new : OpenFiles D} {file bytes : List ℕ} → AreReadyForCommand old → is_name old.names file ≡ true → new.names ≡ old.names
    → (old.held.now ≡ old.held.before → new.held.now ≡ new.held.before) → ((k : Keywords) → BetweenSessions g k old new (λ s t. t ≡ s))
    → option_map (λ text. text.bytes) (text_of new.held.now file) ≡ Some bytes → Has g states old new file bytes
has_read g states {new = new} {file = file} {bytes = bytes} between there names unedited reads at =
    let found = the_text (text_of new.held.now file) bytes at in
    record {
      unbroken = between.unbroken;
      named = still_named file names there;
      unedited = unedited between.unedited;
      reads = reads states;
      text = found.0;
      at = found.1;
      are = found.2;
    }

module _ {D : Type 0} {g : Ghosts D} {states : Keywords} {old new : OpenFiles D} {file bytes : List ℕ} (has : Has g states old new file bytes) (at : ℕ) (gone put : List ℕ) where
  before_at : text_of new.held.before file ≡ Some has.text
  before_at = ap (λ (s : TextSet). text_of s file) (sym has.unedited) ∙ has.at

  -- no other file is edited
  touched : AreTouched (file ∷ []) new.held
  touched = record {
    held = λ name there. subst (λ (n : List ℕ). IsSome (text_of new.held.before n)) (same_as file name there) (ap is_some before_at);
    others = λ name out. ap (λ (s : TextSet). text_of s name) has.unedited;
    dirty = λ name out there. ap (λ (s : TextSet). is_dirty s name) (sym has.unedited) ∙ there;
  }

  -- what an edit is to do with the text
  edit_is : (tally : Tally) → g.honest new.disk → let s = session_in g states old tally in
      edit s file at gone put (text_at s.names s.files file) ≡ with_replaced s file (replaced bytes at gone put)
  edit_is tally honest =
      let s = session_in g states old tally in
      let text : text_at s.names s.files file ≡ Some has.text.bytes =
      subst (λ (t : Session). text_at t.names t.files file ≡ Some has.text.bytes) (has.reads tally honest) (text_held new.names new.held (contents (g.files new.disk)) file has.text has.named before_at) in
      ap (edit s file at gone put) text ∙ ap (λ (t : List ℕ). with_replaced s file (replaced t at gone put)) has.are

  module _ (plan : Plan) (e : Edit) (own : plan.first.file ≡ file) (none : plan.second ≡ None) (are : plan.first.edits.items ≡ e ∷ []) (answers : Replaces bytes at gone put (Ok e)) where
    here : text_of new.held.now plan.first.file ≡ Some has.text
    here = ap (text_of new.held.now) own ∙ has.at

    within : e.at + e.removed ≤ length has.text.bytes
    within = subst (λ (t : List ℕ). e.at + e.removed ≤ length t) (sym has.are) answers.0

    -- what is planned is for the files as they are
    pub edit_fits : (IsTrue plan.of_lines → terminated bytes ≡ bytes) → (IsTrue plan.of_lines → terminated (applied e bytes) ≡ applied e bytes) → IsPlanFor new.names new.held plan
    edit_fits ends behind = search (rules, arith, within, here)

    edit_texts : new_texts plan new.held.now ≡ (file, applied e bytes) ∷ []
    edit_texts = one_text_by plan new.held file has.text (applied e bytes) own none has.at (ap (applied e) (sym has.are) ∙ ap (λ (es : List Edit). applied_each es has.text.bytes) (sym are))

    -- .. and makes what is to be done
    pub edit_planned : (tally : Tally) → g.honest new.disk → let s = session_in g states old tally in
        Plans s (edit s file at gone put (text_at s.names s.files file)) (Ok plan) new.held (session_in g states new tally)
    edit_planned tally honest =
        let s = session_in g states old tally in
        (edit_is tally honest ∙ ap (with_replaced s file) answers.1 ∙ ap (changed s) (sym edit_texts), has.reads tally honest)

  -- nothing is planned, for this reason
  pub edit_fails : (tally : Tally) → g.honest new.disk → (result : Result Edit RunFault) {fault : RunFault} (answer : Result Plan RunFault) → result ≡ Err fault → Replaces bytes at gone put result → IsErrAnd answer (λ y. y ≡ fault)
      → let s = session_in g states old tally in Plans s (edit s file at gone put (text_at s.names s.files file)) answer new.held (session_in g states new tally)
  edit_fails tally honest result {fault} answer was answers handed =
      let s = session_in g states old tally in
      let reported = edit s file at gone put (text_at s.names s.files file) in
      plans_not_fit s (session_in g states new tally) reported new.held fault answer handed (has.reads tally honest) (go fault (subst (Replaces bytes at gone put) was answers))
    where
      go : (f : RunFault) → Replaces bytes at gone put (Err f) → let s = session_in g states old tally in Steps s (edit s file at gone put (text_at s.names s.files file)) (Err f) s
      go OutOfMemory answers = (has.unbroken, refl)
      go (Refused refusal.NotThere) answers = (has.unbroken, edit_is tally honest ∙ ap (with_replaced (session_in g states old tally) file) answers, refl)
      go (Refused why) answers = absurd answers
      go Device answers = absurd answers
      go Broken answers = absurd answers
