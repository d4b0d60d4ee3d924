-- Runs of commands over a disk: what a crash leaves meanwhile, and what the disk is after them.
use Rattle.std.proofs.Common.{◌≡◌, ◌⊎◌, inl, inr, ⊎_elim, ℕ, ◌+◌, ◌≤◌, true, false, List, [], ◌∷◌, is_some, Result, Ok, Err, refl, sym, ◌∙◌, ap, subst, arith, IsTrue}
use Rattle.std.proofs.lemmas.Grind.{common_steps}
use Rattle.org_disk.specs.declared.disk.Disk.{Ghosts}
use Rattle.std.specs.Prelude.{IsErrOf}
use Rattle.std.specs.Str.{bytes_eq}
use Rattle.std.proofs.lemmas.Bool.{cases_Bool, false≢true}
use Rattle.org_disk.specs.Disk.{AreImages, Passes, LeavesOnly}
use Rattle.org_disk.proofs.Moments.{passes_as, passes_then, leaves_only}
use Rattle.org_journal.specs.Recovered.{Image, SameFiles, IsRecoverable, RecoversTo, contents}
use Rattle.org_fileset.specs.Replay.{IsAtRest}
use Rattle.org_fileset.proofs.Commits.{at_rest_recovers}
use Rattle.org_fileset.proofs.Recovers.{recovers_as}
use Rattle.org_commands.specs.declared.command.Command.{Command}
use Rattle.org_commands.specs.declared.command.Reply.{Reply}
use Rattle.org_commands.specs.declared.command.Reply.TheVariants.{Done, Safe, Text, Time}
use Rattle.org_commands.specs.declared.command.RunFault.{RunFault}
use Rattle.org_commands.specs.declared.command.RunFault.TheVariants.{Refused, OutOfMemory, Device, Broken}
use Rattle.org_commands.specs.InOrder.{text_at, with_all, with_text, with_texts}
use Rattle.org_commands.specs.Session.{Session, StoreView, Holds}
use Rattle.org_commands.specs.Outcome.{IsAccepted, Outcome, Accepts, Shows, Reports, AsksToSettle, Refuses, outcome}
use Rattle.org_commands.specs.Step.{Steps, Step, Settles, fills, done, settled}
use Rattle.org_store.specs.Left.{IsLeft, PutsOnDisk}
use Rattle.org_store.proofs.Accepted.{accepted_puts}
use Rattle.org_store.specs.Runs.{RunsOver, IsOnDisk}

-- The files with the texts of some names depend on the other files alone.

texts_over : (names texts : List (List ℕ)) (first second : Image) (name : List ℕ) → (is_some (text_at names texts name) ≡ false → first name ≡ second name)
    → with_texts names texts first name ≡ with_texts names texts second name
texts_over [] texts first second name same = same refl
texts_over (one ∷ names) [] first second name same = same refl
texts_over (one ∷ names) (text ∷ texts) first second name same = elim (cases_Bool (bytes_eq one name)) [
  | inl t ↦ rw t refl
  | inr f ↦ rw f (texts_over names texts first second name (λ none. same (rw f none)))
]

texts_apart : (names texts : List (List ℕ)) (files : Image) (name : List ℕ) → is_some (text_at names texts name) ≡ false → with_texts names texts files name ≡ files name
texts_apart [] texts files name none = refl
texts_apart (one ∷ names) [] files name none = refl
texts_apart (one ∷ names) (text ∷ texts) files name none = elim (cases_Bool (bytes_eq one name)) [
  | inl t ↦ let some : true ≡ false = rw t at none in absurd (false≢true (sym some))
  | inr f ↦ rw f (texts_apart names texts files name (rw f at none))
]

-- the same names have texts
abbrev pub HaveTexts : List (List ℕ) → List (List ℕ) → List (List ℕ) → Type 0
HaveTexts names texts more = (name : List ℕ) → is_some (text_at names more name) ≡ is_some (text_at names texts name)

with_text_has : (names texts : List (List ℕ)) (name new : List ℕ) → HaveTexts names texts (with_text names texts name new)
with_text_has [] texts name new other = refl
with_text_has (one ∷ names) [] name new other = refl
with_text_has (one ∷ names) (text ∷ texts) name new other = grind (arith, common_steps, with_text_has names texts name new other)

with_all_has : (names texts : List (List ℕ)) (changes : List (List ℕ × List ℕ)) → HaveTexts names texts (with_all names texts changes)
with_all_has names texts [] other = refl
with_all_has names texts (change ∷ changes) other =
    with_all_has names (with_text names texts change.0 change.1) changes other ∙ with_text_has names texts change.0 change.1 other

-- A command that is accepted keeps the names that have texts.
accepts : (s : Session) (command : Command) (files : List (List ℕ)) → IsAccepted (outcome s command) files → HaveTexts s.names s.files files
accepts s command files is = let put = accepted_puts s command files is.1 in subst (HaveTexts s.names s.files) put.2 (with_all_has s.names s.files put.0)

-- What a call that met no failure of the disk does to the session.
pub record Onward (old new : Session) : Type 0 where
  pub names : new.names ≡ old.names
  pub broken : new.broken ≡ old.broken
  pub settled : (new.settled ≡ old.settled) ⊎ HaveTexts old.names old.files new.settled
  pub texts : HaveTexts old.names old.files new.files

onward_none : (s : Session) → Onward s s
onward_none s = record { names = refl; broken = refl; settled = inl refl; texts = λ name. refl }

onward_then : (old mid new : Session) → Onward old mid → Onward mid new → Onward old new
onward_then old mid new first second = grind (arith, common_steps)

-- the session after an accepted command
pub done_files : (s : Session) (files : List (List ℕ)) → (done s files).files ≡ files
done_files s files = elim (cases_Bool (fills s)) [ inl t ↦ rw t refl | inr f ↦ rw f refl ]

pub done_accepted : (s : Session) (files : List (List ℕ)) → (done s files).accepted ≡ s.accepted + 1
done_accepted s files = elim (cases_Bool (fills s)) [ inl t ↦ rw t refl | inr f ↦ rw f refl ]

abbrev Settling : Session → Session → Type 0
Settling old new = (new.settled ≡ old.settled) ⊎ (new.settled ≡ new.files)

onward_done : (s : Session) (files : List (List ℕ)) → HaveTexts s.names s.files files → Onward s (done s files) × Settling s (done s files)
onward_done s files has = grind (arith, common_steps)

abbrev Onwards : Session → Session → Type 0
Onwards old new = Onward old new × Settling old new

onwards_same : (old new : Session) → new ≡ old → Onwards old new
onwards_same old new same = subst (λ s. Onwards old s) (sym same) (onward_none old, inl refl)

onward : (old new : Session) (command : Command) (answer : Result Reply RunFault) → old.broken ≡ false → (IsErrOf answer Device → ⊥) → Step old command answer new → Onwards old new
onward old new command (Ok (Done n)) unbroken fine step = subst (λ s. Onwards old s) (sym step.1.3) (onward_done old step.1.0 (accepts old command step.1.0 step.1.1))
onward old new command (Ok (Text bytes)) unbroken fine step = onwards_same old new step.2
onward old new command (Ok (Time minutes)) unbroken fine step = onwards_same old new step.2
onward old new command (Ok (Safe n)) unbroken fine step =
    subst (λ s. Onwards old s) (sym step.3) (record { names = refl; broken = refl; settled = inr (λ name. refl); texts = λ name. refl }, inr refl)
onward old new command (Err (Refused why)) unbroken fine step = onwards_same old new step.2
onward old new command (Err OutOfMemory) unbroken fine step = onwards_same old new step.1
onward old new command (Err Device) unbroken fine step = absurd (fine refl)
onward old new command (Err Broken) unbroken fine step = absurd (false≢true (sym unbroken ∙ step.0))

-- the counts after a call, and what a failure does
counts_rise : (old new : Session) (command : Command) (answer : Result Reply RunFault) → Step old command answer new → old.accepted ≤ new.accepted
counts_rise old new command (Ok (Done n)) step = subst (λ s. old.accepted ≤ s.accepted) (sym step.1.3) (omega (arith, done_accepted old step.1.0))
counts_rise old new command (Ok (Text bytes)) step = subst (λ s. old.accepted ≤ s.accepted) (sym step.2) (omega arith)
counts_rise old new command (Ok (Time minutes)) step = subst (λ s. old.accepted ≤ s.accepted) (sym step.2) (omega arith)
counts_rise old new command (Ok (Safe n)) step = subst (λ s. old.accepted ≤ s.accepted) (sym step.3) (omega arith)
counts_rise old new command (Err (Refused why)) step = subst (λ s. old.accepted ≤ s.accepted) (sym step.2) (omega arith)
counts_rise old new command (Err OutOfMemory) step = subst (λ s. old.accepted ≤ s.accepted) (sym step.1) (omega arith)
counts_rise old new command (Err Broken) step = subst (λ s. old.accepted ≤ s.accepted) (sym step.1) (omega arith)
counts_rise old new command (Err Device) step = grind (arith, common_steps)

pub falls : (old new : Session) (command : Command) → Step old command (Err Device) new → new.broken ≡ true
falls old new command step = grind (arith, common_steps)

-- Sessions that are reached by calls.

-- The session has no fewer accepted commands than the one before a run, and no more than the one
-- after it.
pub record IsBetween (old new mid : Session) : Type 0 where
  pub no_fewer : old.accepted ≤ mid.accepted
  pub no_more : mid.accepted ≤ new.accepted

-- What a crash leaves recovers to the files after the commands that were acknowledged, or for those
-- of a session that was reached; `others` are the files that aren't the store's.
abbrev pub IsLeftOf : Session → Image → (Session → Type 0) → Image → Type 0
IsLeftOf old others IsReached image = Holds old others old.settled image ⊎ ((mid : Session) × IsReached mid × Holds old others mid.files image)

-- what a crash leaves has Q too
pub leaves_as : {m n : ℕ} {s u : ℕ → Image → Type 0} {P Q : Image → Type 0} → LeavesOnly m n s u P → ((image : Image) → P image → Q image) → LeavesOnly m n s u Q
leaves_as leaves weaker = record { each = λ image left. weaker image (leaves.each image left); passes = passes_as leaves.passes weaker }

-- settling accepts no command
pub no_settling : {P : Type 0} (texts : List (List ℕ)) → IsAccepted AsksToSettle texts → P
no_settling texts accepts = let apart : AsksToSettle ≡ Accepts accepts.0 texts = accepts.1 in absurd (cc)

-- What is left of one call: the files that were settled, or those of a session that was reached.

left_of : {A : Type 0} (old : Session) (others : Image) (outcome : Outcome) (answer : Result A RunFault) (accepted : ℕ) (image : Image) (IsReached : Session → Type 0) → IsReached old
    → ((files : List (List ℕ)) → IsAccepted outcome files → IsTrue (fills old) → accepted ≡ old.accepted + 1 → IsReached (done old files)) → IsLeft old others outcome answer accepted image
    → IsLeftOf old others IsReached image
left_of old others outcome answer accepted image IsReached self full left = ⊎_elim (λ before. inl before) (λ put. inr (some outcome full put.1.0 put.1.1 put.1.2)) left
  where
    some : (outcome : Outcome) → ((files : List (List ℕ)) → IsAccepted outcome files → IsTrue (fills old) → accepted ≡ old.accepted + 1 → IsReached (done old files))
        → (texts : List (List ℕ)) → PutsOnDisk old outcome accepted texts → Holds old others texts image → (mid : Session) × IsReached mid × Holds old others mid.files image
    some (Accepts names files) full texts puts now = (done old files, full files (names, refl) puts.1 puts.2, subst (λ t. Holds old others t image) (puts.0 ∙ sym (done_files old files)) now)
    some AsksToSettle full texts puts now = (old, self, subst (λ t. Holds old others t image) puts now)
    some (Shows text) full texts puts now = absurd puts
    some (Reports minutes) full texts puts now = absurd puts
    some (Refuses why) full texts puts now = absurd puts

-- a command that is counted, and met no failure of the disk, is done
is_done : (old new : Session) (outcome : Outcome) (answer : Result Reply RunFault) (files : List (List ℕ)) → (IsErrOf answer Device → ⊥) → Steps old outcome answer new → IsAccepted outcome files
    → new.accepted ≡ old.accepted + 1 → new ≡ done old files
is_done old new outcome (Ok (Done n)) files fine does accepts counted = let same : does.1.0 ≡ files = one does.1.1.0 accepts.0 does.1.0 files (sym does.1.1.1 ∙ accepts.1) in does.1.3 ∙ ap (done old) same
  where
    one : (names others files more : List (List ℕ)) → Accepts names files ≡ Accepts others more → files ≡ more
    one names others files more same = cc
is_done old new outcome (Ok (Safe n)) files fine does accepts counted = let apart : AsksToSettle ≡ Accepts accepts.0 files = sym does.1 ∙ accepts.1 in absurd (cc)
is_done old new outcome (Ok (Text bytes)) files fine does accepts counted = absurd (omega (arith, counted, ap (λ (s : Session). s.accepted) does.2))
is_done old new outcome (Ok (Time minutes)) files fine does accepts counted = absurd (omega (arith, counted, ap (λ (s : Session). s.accepted) does.2))
is_done old new outcome (Err (Refused why)) files fine does accepts counted = absurd (omega (arith, counted, ap (λ (s : Session). s.accepted) does.2))
is_done old new outcome (Err OutOfMemory) files fine does accepts counted = absurd (omega (arith, counted, ap (λ (s : Session). s.accepted) does.1))
is_done old new outcome (Err Device) files fine does accepts counted = absurd (fine refl)
is_done old new outcome (Err Broken) files fine does accepts counted = absurd (omega (arith, counted, ap (λ (s : Session). s.accepted) does.1))

-- Files before and after calls that gave the store's files texts.

agree : (names was files now more : List (List ℕ)) (before after : Image) (name : List ℕ) → before name ≡ with_texts names was before name → after name ≡ with_texts names now before name
    → (now ≡ was) ⊎ HaveTexts names files now → HaveTexts names files more → (texts : List (List ℕ)) → (texts ≡ now) ⊎ HaveTexts names more texts
    → is_some (text_at names texts name) ≡ false → after name ≡ before name
agree names was files now more before after name disk same settled has texts which none = ⊎_elim
    (λ is. apart (subst (λ (t : List (List ℕ)). is_some (text_at names t name) ≡ false) is none))
    (λ have. ⊎_elim
    (λ is. same ∙ ap (λ t. with_texts names t before name) is ∙ sym disk)
    (λ had. apart (had name ∙ sym (has name) ∙ sym (have name) ∙ none))
    settled)
    which
  where
    apart : is_some (text_at names now name) ≡ false → after name ≡ before name
    apart nothing = same ∙ texts_apart names now before name nothing

others_over : (old mid : Session) (before after : Image) → Onward old mid → IsOnDisk old before → SameFiles after (with_texts mid.names mid.settled before)
    → (texts : List (List ℕ)) → (texts ≡ mid.settled) ⊎ HaveTexts mid.names mid.files texts → SameFiles (with_texts mid.names texts after) (with_texts mid.names texts before)
others_over old mid before after onward disk same texts which name not =
    texts_over mid.names texts after before name
    (agree mid.names old.settled old.files mid.settled mid.files before after name (rw onward.names (disk name not)) (same name not)
    (rw onward.names onward.settled) (rw onward.names onward.texts) texts which)

pub holds_back : (old mid : Session) (before after image : Image) → Onward old mid → IsOnDisk old before → SameFiles after (with_texts mid.names mid.settled before)
    → (texts : List (List ℕ)) → (texts ≡ mid.settled) ⊎ HaveTexts mid.names mid.files texts → Holds mid after texts image → Holds old before texts image
holds_back old mid before after image onward disk same texts which holds =
    subst (λ names. RecoversTo (with_texts names texts before) image) onward.names
    (recovers_as (with_texts mid.names texts after) (with_texts mid.names texts before) image (others_over old mid before after onward disk same texts which) holds)

pub on_disk_after : (names settled : List (List ℕ)) (before after : Image) → SameFiles after (with_texts names settled before) → SameFiles after (with_texts names settled after)
on_disk_after names settled before after same name not =
    same name not ∙ texts_over names settled before after name (λ none. sym (same name not ∙ texts_apart names settled before name none))

-- a session that was reached, with what a proof by steps needs of it
abbrev Reached : Session → Session → (Session → Type 0) → Session → Type 0
Reached old new P s = HaveTexts old.names old.files s.files × IsBetween old new s × P s

-- What a run of calls does, from the one store to the other; the sessions that are reached have P.
pub record Course {D : Type 0} (g : Ghosts D) (old new : StoreView D) (P : Session → Type 0) : Type 0 where
  pub passes : IsAtRest (g.files old.disk) → IsOnDisk old.session (contents (g.files old.disk)) → old.session.broken ≡ false
      → Passes (g.instant old.disk) (g.instant new.disk) (g.left_since old.disk) (g.left_since new.disk) (IsLeftOf old.session (contents (g.files old.disk)) (Reached old.session new.session P))
  pub rest : new.session.broken ≡ false → IsAtRest (g.files old.disk) → IsAtRest (g.files new.disk)
  pub recoverable : IsAtRest (g.files old.disk) → IsRecoverable (g.files new.disk)
  pub others : new.session.broken ≡ false → IsOnDisk old.session (contents (g.files old.disk))
      → SameFiles (contents (g.files new.disk)) (with_texts new.session.names new.session.settled (contents (g.files old.disk)))
  pub onward : new.session.broken ≡ false → Onward old.session new.session
  pub stays : old.session.broken ≡ true → new ≡ old
  pub rises : old.session.accepted ≤ new.session.accepted

self_between : (old new : Session) → old.accepted ≤ new.accepted → IsBetween old new old
self_between old new rises = record { no_fewer = omega arith; no_more = rises }

device_or_not : (answer : Result Reply RunFault) → IsErrOf answer Device ⊎ (IsErrOf answer Device → ⊥)
device_or_not (Ok reply) = inr (λ (e : ◌≡◌ {A = Result Reply RunFault} (Ok reply) (Err Device)). absurd (cc))
device_or_not (Err (Refused why)) = inr (λ (e : ◌≡◌ {A = Result Reply RunFault} (Err (Refused why)) (Err Device)). absurd (cc))
device_or_not (Err OutOfMemory) = inr (λ (e : ◌≡◌ {A = Result Reply RunFault} (Err OutOfMemory) (Err Device)). absurd (cc))
device_or_not (Err Device) = inl refl
device_or_not (Err Broken) = inr (λ (e : ◌≡◌ {A = Result Reply RunFault} (Err Broken) (Err Device)). absurd (cc))

-- a broken store answers that it is
pub answers_broken : (old new : Session) (command : Command) (answer : Result Reply RunFault) → Step old command answer new → old.broken ≡ true → IsErrOf answer Broken
answers_broken old new command (Ok (Done n)) step fell = absurd (false≢true (sym step.0 ∙ fell))
answers_broken old new command (Ok (Text bytes)) step fell = absurd (false≢true (sym step.0 ∙ fell))
answers_broken old new command (Ok (Time minutes)) step fell = absurd (false≢true (sym step.0 ∙ fell))
answers_broken old new command (Ok (Safe n)) step fell = absurd (false≢true (sym step.0 ∙ fell))
answers_broken old new command (Err (Refused why)) step fell = absurd (false≢true (sym step.0 ∙ fell))
answers_broken old new command (Err OutOfMemory) step fell = absurd (false≢true (sym step.0 ∙ fell))
answers_broken old new command (Err Device) step fell = absurd (false≢true (sym step.0 ∙ fell))
answers_broken old new command (Err Broken) step fell = refl

-- what a settling does to the session
pub settling_ends : (old new : Session) (answer : Result (Unit {0}) RunFault) → Settles old answer new
    → (old.accepted ≤ new.accepted) × (new.broken ≡ false → (IsErrOf answer Device → ⊥) × Onward old new) × (old.broken ≡ true → IsErrOf answer Broken)
settling_ends old new (Ok _) step = grind (arith, common_steps)
settling_ends old new (Err (Refused why)) step = absurd step
settling_ends old new (Err OutOfMemory) step = grind (arith, common_steps)
settling_ends old new (Err Device) step = grind (arith, common_steps)
settling_ends old new (Err Broken) step = grind (arith, common_steps)

module _ {D : Type 0} (g : Ghosts D) where
  abbrev Goes : StoreView D → StoreView D → (Session → Type 0) → Type 0
  Goes old new P = Course g old new P

  pub course_none : (old : StoreView D) (P : Session → Type 0) → P old.session → Goes old old P
  course_none old P self = grind (arith, common_steps)

  -- a run that was unbroken at its end was so at its start
  sound_before : (old new : StoreView D) → (old.session.broken ≡ true → new ≡ old) → new.session.broken ≡ false → old.session.broken ≡ false
  sound_before old new stays sound =
      ⊎_elim (λ fell. absurd (false≢true (sym sound ∙ ap (λ (k : StoreView D). k.session.broken) (stays fell) ∙ fell))) (λ f. f) (cases_Bool old.session.broken)

  -- one call, and a run after it
  module _ (old mid new : StoreView D) (command : Command) (answer : Result Reply RunFault) (P Later : Session → Type 0) (ran : RunsOver g old command answer mid) (course : Goes mid new Later)
      (self : P old.session) (later : (IsErrOf answer Device → ⊥) → (s : Session) → Later s → P s) (first : Later mid.session)
      (torn : (texts : List (List ℕ)) → IsErrOf answer Device → IsAccepted (outcome old.session command) texts → IsTrue (fills old.session) → P (done old.session texts)) where
    rises : old.session.accepted ≤ new.session.accepted
    rises = omega (arith, counts_rise old.session mid.session command answer ran.step, course.rises)

    stays : old.session.broken ≡ true → new ≡ old
    stays fell = grind (arith, common_steps)

    self_reached : Reached old.session new.session P old.session
    self_reached = (λ name. refl, self_between old.session new.session rises, self)

    after_failure : IsErrOf answer Device → Goes old new P
    after_failure failed =
        let fallen = falls old.session mid.session command (subst (λ a. Step old.session command a mid.session) failed ran.step) in
        let same : new ≡ mid = course.stays fallen in
        let broken : new.session.broken ≡ true = ap (λ (k : StoreView D). k.session.broken) same ∙ fallen in
        let reached : (texts : List (List ℕ)) → IsAccepted (outcome old.session command) texts → IsTrue (fills old.session) → mid.session.accepted ≡ old.session.accepted + 1
        → Reached old.session new.session P (done old.session texts) =
        λ texts accepted full counted. (
          rw (done_files old.session texts) (accepts old.session command texts accepted),
          record { no_fewer = omega (arith, done_accepted old.session texts); no_more = omega (arith, done_accepted old.session texts, counted, course.rises) },
          torn texts failed accepted full,
        ) in
        record {
          passes = λ rest disk sound.
              subst (λ (k : StoreView D). Passes (g.instant old.disk) (g.instant k.disk) (g.left_since old.disk) (g.left_since k.disk) (IsLeftOf old.session (contents (g.files old.disk)) (Reached old.session new.session P)))
              (sym same)
              (passes_as (ran.disk.any_moment rest).passes
              (λ image left. left_of old.session (contents (g.files old.disk)) (outcome old.session command) answer mid.session.accepted image (Reached old.session new.session P) self_reached reached left));
          rest = λ sound. absurd (false≢true (sym sound ∙ broken));
          recoverable = λ rest. subst (λ (k : StoreView D). IsRecoverable (g.files k.disk)) (sym same) (ran.disk.recoverable rest);
          others = λ sound. absurd (false≢true (sym sound ∙ broken));
          onward = λ sound. absurd (false≢true (sym sound ∙ broken));
          stays = stays;
          rises = rises;
        }

    after_answer : (IsErrOf answer Device → ⊥) → Goes old new P
    after_answer fine =
        let same : SameFiles (contents (g.files mid.disk)) (with_texts mid.session.names mid.session.settled (contents (g.files old.disk))) = ran.disk.others fine in
        let now : IsOnDisk mid.session (contents (g.files mid.disk)) =
        on_disk_after mid.session.names mid.session.settled (contents (g.files old.disk)) (contents (g.files mid.disk)) same in
        let goes : old.session.broken ≡ false → Onwards old.session mid.session = λ sound. onward old.session mid.session command answer sound fine ran.step in
        let further : old.session.broken ≡ false → (s : Session) → Reached mid.session new.session Later s → Reached old.session new.session P s =
        λ sound s reached. (
          λ name. rw (goes sound).0.names at (reached.0 name) ∙ (goes sound).0.texts name,
          record { no_fewer = omega (arith, counts_rise old.session mid.session command answer ran.step, reached.1.no_fewer); no_more = reached.1.no_more },
          later fine s reached.2,
        ) in
        let here : old.session.broken ≡ false → Reached old.session new.session P mid.session =
        λ sound. further sound mid.session (λ name. refl, self_between mid.session new.session course.rises, first) in
        let back : old.session.broken ≡ false → IsOnDisk old.session (contents (g.files old.disk)) → (image : Image) → IsLeftOf mid.session (contents (g.files mid.disk)) (Reached mid.session new.session Later) image
        → IsLeftOf old.session (contents (g.files old.disk)) (Reached old.session new.session P) image =
        λ sound disk image left. ⊎_elim
        (λ held.
        let holds = holds_back old.session mid.session (contents (g.files old.disk)) (contents (g.files mid.disk)) image (goes sound).0 disk same mid.session.settled (inl refl) held in
        ⊎_elim
        (λ is. inl (subst (λ texts. Holds old.session (contents (g.files old.disk)) texts image) is holds))
        (λ is. inr (mid.session, here sound, subst (λ texts. Holds old.session (contents (g.files old.disk)) texts image) is holds))
        (goes sound).1)
        (λ reached. inr (
          reached.0,
          further sound reached.0 reached.1,
          holds_back old.session mid.session (contents (g.files old.disk)) (contents (g.files mid.disk)) image (goes sound).0 disk same reached.0.files (inr reached.1.0) reached.2,
        ))
        left in
        let sound_then : new.session.broken ≡ false → old.session.broken ≡ false = sound_before old new stays in
        record {
          passes = λ rest disk sound.
              passes_then
              (passes_as (ran.disk.any_moment rest).passes
              (λ image left. left_of old.session (contents (g.files old.disk)) (outcome old.session command) answer mid.session.accepted image (Reached old.session new.session P) self_reached
              (λ texts accepted full counted. subst (Reached old.session new.session P) (is_done old.session mid.session (outcome old.session command) answer texts fine ran.step accepted counted) (here sound)) left))
              (course.passes (ran.disk.rest fine rest) now ((goes sound).0.broken ∙ sound))
              (back sound disk);
          rest = λ sound rest. course.rest sound (ran.disk.rest fine rest);
          recoverable = λ rest. course.recoverable (ran.disk.rest fine rest);
          others = λ sound disk name not.
              let o = (goes (sound_then sound)).0 in
              let l = course.onward sound in
              course.others sound now name not
              ∙ rw l.names (others_over old.session mid.session (contents (g.files old.disk)) (contents (g.files mid.disk)) o disk same new.session.settled l.settled name not);
          onward = λ sound. onward_then old.session mid.session new.session (goes (sound_then sound)).0 (course.onward sound);
          stays = stays;
          rises = rises;
        }

    pub course_run : Goes old new P
    course_run = ⊎_elim after_failure after_answer (device_or_not answer)

  -- what is left of a run, with no word of how it is proved
  pub course_leaves : (old new : StoreView D) (P : Session → Type 0) → Goes old new P → IsAtRest (g.files old.disk) → IsOnDisk old.session (contents (g.files old.disk)) → old.session.broken ≡ false
      → ((image : Image) → g.left_since old.disk (g.instant old.disk) image → AreImages (g.files old.disk) image)
      → LeavesOnly (g.instant old.disk) (g.instant new.disk) (g.left_since old.disk) (g.left_since new.disk)
      (IsLeftOf old.session (contents (g.files old.disk)) (λ mid. P mid × IsBetween old.session new.session mid))
  course_leaves old new P course rest disk sound start =
      leaves_only
      (passes_as (course.passes rest disk sound) (λ image left. ⊎_elim (λ held. inl held) (λ reached. inr (reached.0, (reached.1.2, reached.1.1), reached.2)) left))
      (λ image left. inl (recovers_as (contents (g.files old.disk)) (with_texts old.session.names old.session.settled (contents (g.files old.disk))) image disk
      (at_rest_recovers (g.files old.disk) rest image (start image left))))
