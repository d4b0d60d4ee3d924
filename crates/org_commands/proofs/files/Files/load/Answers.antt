use Rattle.std.proofs.Common.{◌≡◌, ◌∙◌, ◌⊎◌, inr, ⊎_elim, List, ℕ, Bool, false, true, Option, None, Some, Result, Ok, Err, is_some, refl, sym, ap, subst}
use Rattle.std.specs.Prelude.{◌↔◌, IsErrOf, IsTrue, OnOk, option_map}
use Rattle.std.specs.Option.{IsSome}
use Rattle.std.proofs.lemmas.Bool.{false≢true}
use Rattle.org_journal.specs.Recovered.{Image, contents}
use Rattle.org_fileset.specs.declared.fault.SetFault.{SetFault}
use Rattle.org_fileset.specs.declared.fault.SetFault.TheVariants as set
use Rattle.org_outline.specs.States.{Keywords}
use Rattle.org_splice.specs.Texts.{EditedText}
use Rattle.org_texts.specs.Texts.{Holding, TextSet, held_over, text_of, with_text}
use Rattle.org_commands.specs.declared.command.RunFault.{RunFault}
use Rattle.org_commands.specs.declared.command.RunFault.TheVariants.{OutOfMemory, Device, Broken}
use Rattle.org_commands.specs.declared.tally.Tally.{Tally}
use Rattle.org_commands.specs.declared.searches.Searches.{Searches}
use Rattle.org_commands.specs.Files.{IsSound, OpenFiles}
use Rattle.org_commands.specs.InOrder.{is_name}
use Rattle.org_commands.specs.Keeping.{Reads, fault_of_set}
use Rattle.org_commands.specs.Noted.{IsNoted}
use Rattle.org_commands.specs.Session.{session_over}
use Rattle.org_commands.proofs.Faults.{fine_is_no_fault}
use Rattle.org_commands.proofs.Held.{held_this, keeps_held, none_found, over_held, ready_held, sound_held, sound_still}
use Rattle.org_commands.proofs.Noted.{noted_held, noted_still}
use Rattle.org_commands.proofs.Reading.{only_reads_none, only_reads_set, set_back, set_on, set_works}
use Rattle.org_commands.proofs.Sessions.{session_failed, session_still}
use Rattle.org_commands.proofs.Handing.{handed_on}
use Rattle.org_commands.proofs.files.Files.load.Goals as goal

-- what is held is still sound and noted where the set read a file
still_held : (names more : List (List ℕ)) (live now : Type 0) (old new : Image) (notes : List (Option Searches)) (held : Holding) → IsSound names live old held × IsNoted names notes held → more ≡ names → (now → live × (new ≡ old))
    → IsSound more now new held × IsNoted more notes held
still_held names more live now old new notes held was same alike = (sound_still names more live now old new held was.0 same alike, noted_still names more notes held same was.1)

-- a set that didn't fail isn't broken by it
set_whole : {X : Type 0} (result : Result X SetFault) (old new : Bool) → old ≡ false → (IsErrOf result set.Device → ⊥) → IsTrue new ↔ (IsTrue old ⊎ IsErrOf result set.Device) → new ≡ old
set_whole result old true unbroken fine breaks = absurd (⊎_elim (λ was. absurd (false≢true (sym unbroken ∙ was))) fine (breaks.0 refl))
set_whole result old false unbroken fine breaks = sym unbroken

-- OutOfMemory is no other fault
memory_is_not_device : (answer : Result (Unit {0}) RunFault) → answer ≡ Err OutOfMemory → IsErrOf answer Device → ⊥
memory_is_not_device answer given fell = let no : ◌≡◌ {A = Result (Unit {0}) RunFault} (Err OutOfMemory) (Err Device) = sym given ∙ fell in cc

memory_is_not_broken : (answer : Result (Unit {0}) RunFault) → answer ≡ Err OutOfMemory → IsErrOf answer Broken → ⊥
memory_is_not_broken answer given fell = let no : ◌≡◌ {A = Result (Unit {0}) RunFault} (Err OutOfMemory) (Err Broken) = sym given ∙ fell in cc

-- of an answer that is no Ok nothing is said
not_ok : (answer : Result (Unit {0}) RunFault) (fault : RunFault) (P : Type 0) → answer ≡ Err fault → OnOk answer P
not_ok answer fault P given = subst (λ (r : Result (Unit {0}) RunFault). OnOk r P) (sym given) tt

some_found : {X : Type 0} (text : X → EditedText) (found : Option X) (o : Option EditedText) → is_some found ≡ true → option_map text found ≡ o → IsSome o
some_found text None o there is = absurd (false≢true there)
some_found text (Some x) o there is = ap is_some (sym is)

module _ {D X : Type 0} (texts : D → Image) (states : Keywords) (old new : OpenFiles D) (tally : Tally) (result : Result X SetFault) (answer : Result (Unit {0}) RunFault) where
  -- the session where the set read a file, and what is held stays
  session_read : old.broken ≡ false → (IsErrOf result set.Device → ⊥) → IsTrue new.broken ↔ (IsTrue old.broken ⊎ IsErrOf result set.Device) → new.names ≡ old.names → texts new.disk ≡ texts old.disk
      → new.held.before ≡ old.held.before → session_over texts states new tally ≡ session_over texts states old tally
  session_read unbroken fine breaks names same before = session_still texts states old new tally names same
      (λ name. ap (λ (s : TextSet). held_over s (texts new.disk) name) before ∙ ap (λ (f : Image). held_over old.held.before f name) same) (set_whole result old.broken new.broken unbroken fine breaks)

  -- the same where there was no memory after it
  reads_memory : answer ≡ Err OutOfMemory → old.broken ≡ false → (IsErrOf result set.Device → ⊥) → IsTrue new.broken ↔ (IsTrue old.broken ⊎ IsErrOf result set.Device) → new.names ≡ old.names → texts new.disk ≡ texts old.disk
      → new.held.before ≡ old.held.before → Reads (session_over texts states old tally) answer (session_over texts states new tally)
  reads_memory given unbroken fine breaks names same before = subst (λ (r : Result (Unit {0}) RunFault). Reads (session_over texts states old tally) r (session_over texts states new tally)) (sym given)
      (session_read unbroken fine breaks names same before)

  -- the same where the reading failed
  reads_failed : (fault : SetFault) → result ≡ Err fault → answer ≡ Err (fault_of_set fault) → (IsErrOf result set.Broken → ⊥) → old.broken ≡ false → IsTrue new.broken ↔ (IsTrue old.broken ⊎ IsErrOf result set.Device)
      → new.names ≡ old.names → texts new.disk ≡ texts old.disk → new.held.before ≡ old.held.before → Reads (session_over texts states old tally) answer (session_over texts states new tally)
  reads_failed set.OutOfMemory was given works unbroken breaks names same before = reads_memory given unbroken (λ fell. absurd (cc)) breaks names same before
  reads_failed set.Device was given works unbroken breaks names same before = subst (λ (r : Result (Unit {0}) RunFault). Reads (session_over texts states old tally) r (session_over texts states new tally)) (sym given)
      (session_failed texts states old new tally names same
      (λ name. ap (λ (s : TextSet). held_over s (texts new.disk) name) before ∙ ap (λ (f : Image). held_over old.held.before f name) same) (breaks.1 (inr was)))
  reads_failed set.Broken was given works unbroken breaks names same before = absurd (works was)

pub invariant_of-self-2 : goal.invariant_of-self-2
invariant_of-self-2 g c =
    let inside = c.self.inside in
    let own = c.args.name.now in
    let copy = c.in_ok-clone.field-0 in
    let live = (inside.set.broken ≡ false) × g.D.Disk.honest inside.set.disk in
    let now = (c.read.new.self.broken ≡ false) × g.D.Disk.honest c.read.new.self.disk in
    let files = contents (g.D.Disk.files inside.set.disk) in
    let left = contents (g.D.Disk.files c.read.new.self.disk) in
    let cloned : copy ≡ own = c.in_ok-clone.ensures.cases in
    let there : is_name inside.set.names own ≡ true = rw (← c.self.view_is) at c.requires.name in
    let named : is_name c.read.new.self.names copy ≡ true = ap (λ (ns : List (List ℕ)). is_name ns copy) c.read.ensures.set.same_names ∙ ap (is_name inside.set.names) cloned ∙ there in
    let unbroken : inside.set.broken ≡ false = rw (← c.self.view_is) at c.requires.unbroken in
    let still = sound_still inside.set.names c.read.new.self.names live now files left inside.texts c.self.invariant.0 c.read.ensures.set.same_names
    (λ n. ((unbroken, c.read.ensures.accounts.was_honest n.1), ap contents (c.read.ensures.looks n.1).same)) in
    let missing : is_some c.get.result ≡ false = sym c.if-is_some.ensures in
    let none : text_of inside.texts.now copy ≡ None = ap (text_of inside.texts.now) cloned ∙ none_found (λ held. held.now.text) c.get.result (text_of inside.texts.now own) missing c.get.ensures.text in
    let none_before : text_of inside.texts.before copy ≡ None = ap (text_of inside.texts.before) cloned ∙ none_found (λ held. held.now.before) c.get.result (text_of inside.texts.before own) missing c.get.ensures.before in (
      sound_held copy c.in_ok-bytes.bytes.items c.read.new.self.names now left inside.texts c.hold.new.self none none_before named
          (λ n. c.in_ok-bytes.ensures.text n.1 ∙ ap (λ (f : Image). f own) (sym (ap contents (c.read.ensures.looks n.1).same)) ∙ ap left (sym cloned))
          c.in_ok-hold.ensures.now c.in_ok-hold.ensures.before still,
      noted_held copy c.in_ok-bytes.bytes.items c.read.new.self.names inside.notes inside.texts c.hold.new.self none none_before
          c.in_ok-hold.ensures.now c.in_ok-hold.ensures.before (noted_still inside.set.names c.read.new.self.names inside.notes inside.texts c.read.ensures.set.same_names c.self.invariant.1),
    )

pub returns-clause-held : goal.returns-clause-held
returns-clause-held g c =
    let inside = c.self.inside in
    let own = c.args.name.now in
    let copy = c.in_ok-clone.field-0 in
    let cloned : copy ≡ own = c.in_ok-clone.ensures.cases in
    let missing : is_some c.get.result ≡ false = sym c.if-is_some.ensures in
    let none : text_of inside.texts.now copy ≡ None = ap (text_of inside.texts.now) cloned ∙ none_found (λ held. held.now.text) c.get.result (text_of inside.texts.now own) missing c.get.ensures.text in
    subst (λ (n : List ℕ). IsSome (text_of c.hold.new.self.now n)) cloned
    (subst (λ (s : TextSet). IsSome (text_of s copy)) (sym c.in_ok-hold.ensures.now) (ap is_some (held_this copy c.in_ok-bytes.bytes.items inside.texts.now none)))

pub returns-clause-files : goal.returns-clause-files
returns-clause-files g c =
    let inside = c.self.inside in
    let made = c.read.ensures in
    let own = c.args.name.now in
    let copy = c.in_ok-clone.field-0 in
    let cloned : copy ≡ own = c.in_ok-clone.ensures.cases in
    let unbroken : inside.set.broken ≡ false = rw (← c.self.view_is) at c.requires.unbroken in
    record {
      keeps =
          let missing : is_some c.get.result ≡ false = sym c.if-is_some.ensures in
          let none_before : text_of inside.texts.before copy ≡ None = ap (text_of inside.texts.before) cloned ∙ none_found (λ held. held.now.before) c.get.result (text_of inside.texts.before own) missing c.get.ensures.before in
          rw (← c.self.view_is) (keeps_held copy c.in_ok-bytes.bytes.items inside.texts c.hold.new.self none_before c.in_ok-hold.ensures.before);
      reads = λ states tally honest.
          let files = contents (g.D.Disk.files inside.set.disk) in
          let left = contents (g.D.Disk.files c.read.new.self.disk) in
          let same : left ≡ files = ap contents (c.read.ensures.looks honest).same in
          let whole : c.read.new.self.broken ≡ inside.set.broken = set_whole c.read.result inside.set.broken c.read.new.self.broken unbroken (fine_is_no_fault c.read.result c.in_ok-bytes.bytes set.Device c.in_ok-bytes.was) c.read.ensures.set.breaks in
          rw (← c.self.view_is) (session_still (λ disk. contents (g.D.Disk.files disk)) states
          (record { disk = inside.set.disk; names = inside.set.names; broken = inside.set.broken; held = inside.texts })
          (record { disk = c.read.new.self.disk; names = c.read.new.self.names; broken = c.read.new.self.broken; held = c.hold.new.self }) tally
          c.read.ensures.set.same_names same
          (over_held own copy c.in_ok-bytes.bytes.items files left inside.texts.before c.hold.new.self.before cloned same (c.in_ok-bytes.ensures.text honest) c.in_ok-hold.ensures.before)
          whole);
      disk =
          let fine : c.read.result ≡ Ok c.in_ok-bytes.bytes = c.in_ok-bytes.was in
          rw (← c.self.view_is) (only_reads_set c.read.result (fine_is_no_fault (Ok tt) tt Broken refl) (λ fell. absurd (fine_is_no_fault (Ok tt) tt Device refl fell)) (λ fell. absurd (fine_is_no_fault c.read.result c.in_ok-bytes.bytes set.Device fine fell)) unbroken made.set.same_names (ap (λ (s : TextSet). s.dirty) c.in_ok-hold.ensures.before) made.looks made.set.breaks made.accounts);
    }

pub returns-clause-ready : goal.returns-clause-ready
returns-clause-ready g c names =
    let inside = c.self.inside in
    let own = c.args.name.now in
    let copy = c.in_ok-clone.field-0 in
    let cloned : copy ≡ own = c.in_ok-clone.ensures.cases in
    let missing : is_some c.get.result ≡ false = sym c.if-is_some.ensures in
    let none : text_of inside.texts.now copy ≡ None = ap (text_of inside.texts.now) cloned ∙ none_found (λ held. held.now.text) c.get.result (text_of inside.texts.now own) missing c.get.ensures.text in
    let none_before : text_of inside.texts.before copy ≡ None = ap (text_of inside.texts.before) cloned ∙ none_found (λ held. held.now.before) c.get.result (text_of inside.texts.before own) missing c.get.ensures.before in
    rw (← c.self.view_is) (ready_held copy c.in_ok-bytes.bytes.items names inside.texts c.hold.new.self none none_before c.in_ok-hold.ensures.now c.in_ok-hold.ensures.before c.in_ok-hold.ensures.ready)

pub returns-then-is_some-clause-files : goal.returns-then-is_some-clause-files
returns-then-is_some-clause-files g c = record {
  keeps = λ name some. refl;
  reads = λ states tally honest. refl;
  disk = only_reads_none c.requires.unbroken (fine_is_no_fault (Ok tt) tt Broken refl) (fine_is_no_fault (Ok tt) tt Device refl);
}

pub returns-in_err-bytes-clause-files : goal.returns-in_err-bytes-clause-files
returns-in_err-bytes-clause-files g c =
    let inside = c.self.inside in
    let made = c.read.ensures in
    let fault = c.in_err-bytes.field-0.0 in
    let given : c.from_residual.result ≡ Err (fault_of_set fault) = handed_on c.from_residual.result _ c.from_residual.ensures.1 in
    let unbroken : inside.set.broken ≡ false = rw (← c.self.view_is) at c.requires.unbroken in
    record {
      keeps = rw (← c.self.view_is) (λ name some. refl);
      reads = λ states tally honest.
          rw (← c.self.view_is) (reads_failed (λ disk. contents (g.D.Disk.files disk)) states
          (record { disk = inside.set.disk; names = inside.set.names; broken = inside.set.broken; held = inside.texts })
          (record { disk = c.read.new.self.disk; names = c.read.new.self.names; broken = c.read.new.self.broken; held = inside.texts }) tally
          c.read.result c.from_residual.result c.in_err-bytes.field-0.0 c.in_err-bytes.was given (λ no. false≢true (sym unbroken ∙ made.set.refuses.0 no)) unbroken made.set.breaks
          made.set.same_names (ap contents (made.looks honest).same) refl);
      disk =
          let was = c.in_err-bytes.was in
          let works = set_works c.read.result c.from_residual.result fault was given (λ no. false≢true (sym unbroken ∙ made.set.refuses.0 no)) in
          rw (← c.self.view_is) (only_reads_set c.read.result works (set_back c.read.result c.from_residual.result fault was given) (set_on c.read.result c.from_residual.result fault was given)
          unbroken made.set.same_names refl made.looks made.set.breaks made.accounts);
    }

pub returns-in_err-clone-clause-files : goal.returns-in_err-clone-clause-files
returns-in_err-clone-clause-files g c =
    let inside = c.self.inside in
    let made = c.read.ensures in
    let given : c.from_residual-in_err-clone.result ≡ Err OutOfMemory = handed_on c.from_residual-in_err-clone.result _ c.from_residual-in_err-clone.ensures.1 in
    let unbroken : inside.set.broken ≡ false = rw (← c.self.view_is) at c.requires.unbroken in
    record {
      keeps = rw (← c.self.view_is) (λ name some. refl);
      reads = λ states tally honest.
          rw (← c.self.view_is) (reads_memory (λ disk. contents (g.D.Disk.files disk)) states
          (record { disk = inside.set.disk; names = inside.set.names; broken = inside.set.broken; held = inside.texts })
          (record { disk = c.read.new.self.disk; names = c.read.new.self.names; broken = c.read.new.self.broken; held = inside.texts }) tally
          c.read.result c.from_residual-in_err-clone.result given unbroken (fine_is_no_fault c.read.result c.in_ok-bytes.bytes set.Device c.in_ok-bytes.was) made.set.breaks
          made.set.same_names (ap contents (made.looks honest).same) refl);
      disk =
          let fine : c.read.result ≡ Ok c.in_ok-bytes.bytes = c.in_ok-bytes.was in
          rw (← c.self.view_is) (only_reads_set c.read.result (memory_is_not_broken c.from_residual-in_err-clone.result given) (λ fell. absurd (memory_is_not_device c.from_residual-in_err-clone.result given fell)) (λ fell. absurd (fine_is_no_fault c.read.result c.in_ok-bytes.bytes set.Device fine fell)) unbroken made.set.same_names refl made.looks made.set.breaks made.accounts);
    }

pub invariant_of-self : goal.invariant_of-self
invariant_of-self g c =
    let inside = c.self.inside in
    let live = (inside.set.broken ≡ false) × g.D.Disk.honest inside.set.disk in
    let now = (c.read.new.self.broken ≡ false) × g.D.Disk.honest c.read.new.self.disk in
    let files = contents (g.D.Disk.files inside.set.disk) in
    let left = contents (g.D.Disk.files c.read.new.self.disk) in
    let unbroken : inside.set.broken ≡ false = rw (← c.self.view_is) at c.requires.unbroken in
    still_held inside.set.names c.read.new.self.names live now files left inside.notes inside.texts c.self.invariant c.read.ensures.set.same_names
    (λ n. ((unbroken, c.read.ensures.accounts.was_honest n.1), ap contents (c.read.ensures.looks n.1).same))

pub invariant_of-self-in_err-clone : goal.invariant_of-self-in_err-clone
invariant_of-self-in_err-clone g c =
    let inside = c.self.inside in
    let live = (inside.set.broken ≡ false) × g.D.Disk.honest inside.set.disk in
    let now = (c.read.new.self.broken ≡ false) × g.D.Disk.honest c.read.new.self.disk in
    let files = contents (g.D.Disk.files inside.set.disk) in
    let left = contents (g.D.Disk.files c.read.new.self.disk) in
    let unbroken : inside.set.broken ≡ false = rw (← c.self.view_is) at c.requires.unbroken in
    still_held inside.set.names c.read.new.self.names live now files left inside.notes inside.texts c.self.invariant c.read.ensures.set.same_names
    (λ n. ((unbroken, c.read.ensures.accounts.was_honest n.1), ap contents (c.read.ensures.looks n.1).same))

pub invariant_of-self-in_err-hold : goal.invariant_of-self-in_err-hold
invariant_of-self-in_err-hold g c =
    let inside = c.self.inside in
    let live = (inside.set.broken ≡ false) × g.D.Disk.honest inside.set.disk in
    let now = (c.read.new.self.broken ≡ false) × g.D.Disk.honest c.read.new.self.disk in
    let files = contents (g.D.Disk.files inside.set.disk) in
    let left = contents (g.D.Disk.files c.read.new.self.disk) in
    let unbroken : inside.set.broken ≡ false = rw (← c.self.view_is) at c.requires.unbroken in
    subst (λ (held : Holding). IsSound c.read.new.self.names now left held × IsNoted c.read.new.self.names inside.notes held) (sym c.in_err-hold.ensures.err)
    (still_held inside.set.names c.read.new.self.names live now files left inside.notes inside.texts c.self.invariant c.read.ensures.set.same_names
    (λ n. ((unbroken, c.read.ensures.accounts.was_honest n.1), ap contents (c.read.ensures.looks n.1).same)))

pub hold-requires : goal.hold-requires
hold-requires g c =
    let texts = c.self.inside.texts in
    ap (text_of texts.now) c.in_ok-clone.ensures.cases ∙ none_found (λ held. held.now.text) c.get.result (text_of texts.now c.args.name.now) (sym c.if-is_some.ensures) c.get.ensures.text

pub returns-then-is_some-clause-held : goal.returns-then-is_some-clause-held
returns-then-is_some-clause-held g c =
    rw (← c.self.view_is) (some_found (λ held. held.now.text) c.get.result (text_of c.self.inside.texts.now c.args.name.now) (sym c.if-is_some.ensures) c.get.ensures.text)

pub returns-then-is_some-clause-unedited : goal.returns-then-is_some-clause-unedited
returns-then-is_some-clause-unedited g c same = same

pub returns-then-is_some-clause-ready : goal.returns-then-is_some-clause-ready
returns-then-is_some-clause-ready g c names ready = ready

pub returns-clause-unedited : goal.returns-clause-unedited
returns-clause-unedited g c = rw (← c.self.view_is) (λ same. c.in_ok-hold.ensures.now ∙ ap (with_text c.in_ok-clone.field-0 c.in_ok-bytes.bytes.items) same ∙ sym c.in_ok-hold.ensures.before)

pub returns-in_err-bytes-clause-held : goal.returns-in_err-bytes-clause-held
returns-in_err-bytes-clause-held g c = not_ok c.from_residual.result (fault_of_set c.in_err-bytes.field-0.0) _ (handed_on c.from_residual.result _ c.from_residual.ensures.1)

pub returns-in_err-bytes-clause-unedited : goal.returns-in_err-bytes-clause-unedited
returns-in_err-bytes-clause-unedited g c = rw (← c.self.view_is) (λ same. same)

pub returns-in_err-bytes-clause-ready : goal.returns-in_err-bytes-clause-ready
returns-in_err-bytes-clause-ready g c names = rw (← c.self.view_is) (λ ready. ready)

pub returns-in_err-clone-clause-held : goal.returns-in_err-clone-clause-held
returns-in_err-clone-clause-held g c = not_ok c.from_residual-in_err-clone.result OutOfMemory _ (handed_on c.from_residual-in_err-clone.result _ c.from_residual-in_err-clone.ensures.1)

pub returns-in_err-clone-clause-unedited : goal.returns-in_err-clone-clause-unedited
returns-in_err-clone-clause-unedited g c = rw (← c.self.view_is) (λ same. same)

pub returns-in_err-clone-clause-ready : goal.returns-in_err-clone-clause-ready
returns-in_err-clone-clause-ready g c names = rw (← c.self.view_is) (λ ready. ready)

pub returns-in_err-hold-clause-held : goal.returns-in_err-hold-clause-held
returns-in_err-hold-clause-held g c = not_ok c.from_residual-in_err-hold.result OutOfMemory _ (handed_on c.from_residual-in_err-hold.result _ c.from_residual-in_err-hold.ensures.1)

pub returns-in_err-hold-clause-files : goal.returns-in_err-hold-clause-files
returns-in_err-hold-clause-files g c =
    let inside = c.self.inside in
    let made = c.read.ensures in
    let given : c.from_residual-in_err-hold.result ≡ Err OutOfMemory = handed_on c.from_residual-in_err-hold.result _ c.from_residual-in_err-hold.ensures.1 in
    let unbroken : inside.set.broken ≡ false = rw (← c.self.view_is) at c.requires.unbroken in
    record {
      keeps = rw (← c.self.view_is, c.in_err-hold.ensures.err) (λ name some. refl);
      reads = λ states tally honest.
          rw (← c.self.view_is) (reads_memory (λ disk. contents (g.D.Disk.files disk)) states
          (record { disk = inside.set.disk; names = inside.set.names; broken = inside.set.broken; held = inside.texts })
          (record { disk = c.read.new.self.disk; names = c.read.new.self.names; broken = c.read.new.self.broken; held = c.hold.new.self }) tally
          c.read.result c.from_residual-in_err-hold.result given unbroken (fine_is_no_fault c.read.result c.in_ok-bytes.bytes set.Device c.in_ok-bytes.was) made.set.breaks
          made.set.same_names (ap contents (made.looks honest).same) (ap (λ (h : Holding). h.before) c.in_err-hold.ensures.err));
      disk =
          let fine : c.read.result ≡ Ok c.in_ok-bytes.bytes = c.in_ok-bytes.was in
          rw (← c.self.view_is) (only_reads_set c.read.result (memory_is_not_broken c.from_residual-in_err-hold.result given) (λ fell. absurd (memory_is_not_device c.from_residual-in_err-hold.result given fell)) (λ fell. absurd (fine_is_no_fault c.read.result c.in_ok-bytes.bytes set.Device fine fell))
          unbroken made.set.same_names (ap (λ (h : Holding). h.before.dirty) c.in_err-hold.ensures.err) made.looks made.set.breaks made.accounts);
    }

pub returns-in_err-hold-clause-unedited : goal.returns-in_err-hold-clause-unedited
returns-in_err-hold-clause-unedited g c = rw (← c.self.view_is, c.in_err-hold.ensures.err) (λ same. same)

pub returns-in_err-hold-clause-ready : goal.returns-in_err-hold-clause-ready
returns-in_err-hold-clause-ready g c names = rw (← c.self.view_is, c.in_err-hold.ensures.err) (λ ready. ready)
