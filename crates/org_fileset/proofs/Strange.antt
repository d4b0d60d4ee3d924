-- Files of a record that stand otherwise than a crash may have left them.
use Rattle.std.proofs.Common.{◌≡◌, List, ℕ, None, refl, sym, ◌∙◌, ap, subst, inl, inr}
use Rattle.std.specs.Prelude.{Result, Ok, Err, Some, IfErr, IsErrAnd, IsTrue, slice_get}
use Rattle.std.proofs.lemmas.Bool.{cases_Bool}
use Rattle.org_journal.specs.declared.record.Entry.{Entry}
use Rattle.org_journal.specs.Record.{is_named}
use Rattle.org_fileset.proofs.Takes.{named_apart}
use Rattle.org_disk.specs.Disk.{FileState}
use Rattle.org_journal.specs.declared.finding.Found.{Found}
use Rattle.org_journal.specs.declared.finding.Found.TheVariants.{Closed, Open}
use Rattle.org_journal.specs.declared.fault.FindFault.{FindFault}
use Rattle.org_journal.specs.declared.fault.FindFault.TheVariants as find
use Rattle.org_journal.specs.Recovered.{Image, contents, recovered}
use Rattle.org_fileset.specs.Looking.{IsFoundIn}
use Rattle.org_fileset.specs.Opening.{IsFaultOfRecovery, IsFoundOver, IsStrange, IsUnfit, Names, fault_of}
use Rattle.org_fileset.specs.Recovery.{IsFoundBad}
use Rattle.org_fileset.specs.declared.open.OpenFault.{OpenFault}
use Rattle.org_fileset.specs.declared.open.OpenFault.TheVariants.{TooManyFiles, BadJournal, Changed, Outside, TooLarge, Device, OutOfMemory}

-- a name that the record has, which is open
pub found_over : (old mid : List ℕ → FileState) (now : Image) (found : Found) (name : List ℕ) → IsFoundIn old mid found → now ≡ contents mid → Names found name
    → IsFoundOver name (contents old) now
found_over old mid now Closed name is same named = absurd named
found_over old mid now (Open entries end) name is same named =
    subst (λ (f : Image). IsFoundOver name f now) is.same (record { opened = is.holds.0; entries = entries; found = is.holds.1; named = named; same = same })

-- a record that doesn't fit its files
unfit_bad : (old mid : List ℕ → FileState) (now : Image) (found : Found) → IsFoundIn old mid found → now ≡ contents mid → IsUnfit found (contents mid) → IsFoundBad (contents old) now
unfit_bad old mid now Closed is same unfit = absurd unfit
unfit_bad old mid now (Open entries end) is same unfit =
    let opened = is.holds.0 in
    let found = is.holds.1 in
    let none : recovered (contents mid) ≡ None = rw (opened, found, unfit) refl in
    (ap recovered (sym is.same) ∙ none, same ∙ is.same)

pub strange_fault : {Honest : Type 0} (old mid : List ℕ → FileState) (now : Image) (found : Found) (fault : OpenFault) → (Honest → IsFoundIn old mid found) → (Honest → now ≡ contents mid)
    → IsStrange (Names found) (Honest → IsUnfit found (contents mid)) fault → IsFaultOfRecovery Honest (contents old) now fault
strange_fault old mid now found (Changed name) is same strange = λ h. found_over old mid now found name (is h) (same h) strange
strange_fault old mid now found (Outside name) is same strange = λ h. found_over old mid now found name (is h) (same h) strange
strange_fault old mid now found Device is same strange = tt
strange_fault old mid now found OutOfMemory is same strange = tt
strange_fault old mid now found TooManyFiles is same strange = absurd strange
strange_fault old mid now found BadJournal is same strange = λ h. unfit_bad old mid now found (is h) (same h) (strange h)
strange_fault old mid now found (TooLarge name) is same strange = absurd strange

pub found_fault : {Honest : Type 0} (before now : Image) (fault : FindFault) → ((fault ≡ find.BadJournal) → Honest → IsFoundBad before now) → IsFaultOfRecovery Honest before now (fault_of fault)
found_fault before now find.BadJournal bad = bad refl
found_fault before now find.Device bad = tt
found_fault before now find.OutOfMemory bad = tt

-- the same fault of files that hold the same
fault_as : {Honest : Type 0} (before mid now : Image) (fault : OpenFault) → (Honest → mid ≡ before) → IsFaultOfRecovery Honest mid now fault → IsFaultOfRecovery Honest before now fault
fault_as before mid now BadJournal same is = λ h. subst (λ (f : Image). IsFoundBad f now) (same h) (is h)
fault_as before mid now (Changed name) same is = λ h. subst (λ (f : Image). IsFoundOver name f now) (same h) (is h)
fault_as before mid now (Outside name) same is = λ h. subst (λ (f : Image). IsFoundOver name f now) (same h) (is h)
fault_as before mid now Device same is = tt
fault_as before mid now OutOfMemory same is = tt
fault_as before mid now TooManyFiles same is = is
fault_as before mid now (TooLarge name) same is = is

pub fault_over : {Honest : Type 0} (before mid now : Image) (result : Result (Unit {0}) OpenFault) → (Honest → mid ≡ before) → IfErr result (IsFaultOfRecovery Honest mid now)
    → IfErr result (IsFaultOfRecovery Honest before now)
fault_over before mid now (Ok done) same is = is
fault_over before mid now (Err fault) same is = fault_as before mid now fault same is

-- a record names what one of its files is called
pub strange_as : {This Named : List ℕ → Type 0} {One Other : Type 0} → ((name : List ℕ) → This name → Named name) → (One → Other) → (fault : OpenFault) → IsStrange This One fault
    → IsStrange Named Other fault
strange_as fewer unfit (Changed name) strange = fewer name strange
strange_as fewer unfit (Outside name) strange = fewer name strange
strange_as fewer unfit Device strange = tt
strange_as fewer unfit OutOfMemory strange = tt
strange_as fewer unfit TooManyFiles strange = strange
strange_as fewer unfit BadJournal strange = unfit strange
strange_as fewer unfit (TooLarge name) strange = strange

-- what a `?` passed on
pub fault_passed : {U : Type 0} (P : OpenFault → Type 0) (answer : Result U OpenFault) (fault : OpenFault) → IsErrAnd answer (λ y. y ≡ fault) → P fault → IfErr answer P
fault_passed P (Ok x) fault is held = absurd is
fault_passed P (Err f) fault is held = subst P (sym is) held

-- an entry of a record is named by it
pub entry_named : (entries : List Entry) (i : ℕ) (entry : Entry) → slice_get entries i ≡ Some entry → IsTrue (is_named entry.name entries)
entry_named entries i entry is = elim (cases_Bool (is_named entry.name entries)) [
  | inl named ↦ named
  | inr none ↦ absurd (named_apart entries i entry entry.name none is refl)
]
