-- Causes of faults, passed on.
use Rattle.std.proofs.Common.{◌≡◌, ℕ, List, Some, string_bytes, subst, sym}
use Rattle.std.specs.Prelude.{Result, Ok, Err, IfErr, IsErrAnd}
use Rattle.org_fault.specs.declared.fault.Fault as call
use Rattle.org_fault.specs.declared.fault.Fault.TheVariants as why
use Rattle.org_fileset.specs.declared.open.OpenFault.TheVariants as refused
use Rattle.org_folder.specs.declared.list.ListFault.TheVariants as list
use Rattle.org_folder.specs.declared.lock.Locked as lock
use Rattle.org_program.specs.Causes.{IsCause, IsCauseOfNames, IsOfFolder, NameAStore, first_bad}
use Rattle.org_program.specs.declared.arguments.Arguments.{Arguments}
use Rattle.org_program.specs.declared.fault.Fault.{Fault}
use Rattle.org_program.specs.declared.fault.Fault.TheVariants.{Usage, BadName, BadStates, Locked, Inside, SameFile, Linked, Open, Ended}

-- what a `?` passed on is the fault that it says
pub passed_reported : {A E : Type 0} (e : E) (P : E → Type 0) (answer : Result A E) → IsErrAnd answer (λ y. y ≡ e) → P e → IfErr answer P
passed_reported e P (Ok x) is held = absurd is
passed_reported e P (Err f) is held = subst P (sym is) held

-- the cause that some names are, for all of which it is the first bad one
pub of_all : (some all : List (List ℕ)) → ((found : List ℕ) → first_bad some ≡ Some found → first_bad all ≡ Some found)
    → (fault : Fault) → IsCauseOfNames some fault → IsCauseOfNames all fault
of_all some all first (BadName name) is = first (string_bytes name) is
of_all some all first (Open refused.OutOfMemory) is = tt
of_all some all first (Open refused.Device) is = is
of_all some all first (Open refused.TooManyFiles) is = is
of_all some all first (Open refused.BadJournal) is = is
of_all some all first (Open (refused.Changed name)) is = is
of_all some all first (Open (refused.Outside name)) is = is
of_all some all first (Open (refused.TooLarge name)) is = is
of_all some all first (Usage reported) is = is
of_all some all first BadStates is = is
of_all some all first Locked is = is
of_all some all first (Inside store) is = is
of_all some all first (SameFile name) is = is
of_all some all first Linked is = is
of_all some all first (Ended end) is = is

-- what comes of the folder is told after the words
pub of_folder : (arguments : Arguments) → NameAStore arguments → (fault : Fault) → IsOfFolder fault → IsCause arguments fault
of_folder arguments good Locked is = good
of_folder arguments good (Inside store) is = good
of_folder arguments good (Open refused.Device) is = good
of_folder arguments good (Open refused.OutOfMemory) is = tt
of_folder arguments good (Open refused.TooManyFiles) is = absurd is
of_folder arguments good (Open refused.BadJournal) is = absurd is
of_folder arguments good (Open (refused.Changed name)) is = absurd is
of_folder arguments good (Open (refused.Outside name)) is = absurd is
of_folder arguments good (Open (refused.TooLarge name)) is = absurd is
of_folder arguments good (Usage reported) is = absurd is
of_folder arguments good (BadName name) is = absurd is
of_folder arguments good BadStates is = absurd is
of_folder arguments good (SameFile name) is = absurd is
of_folder arguments good Linked is = absurd is
of_folder arguments good (Ended end) is = absurd is

pub of_folder_passed : {A : Type 0} (arguments : Arguments) → NameAStore arguments → (e : Fault) (answer : Result A Fault) → IsErrAnd answer (λ y. y ≡ e) → IsOfFolder e → IfErr answer (IsCause arguments)
of_folder_passed arguments good e answer is why = passed_reported e (IsCause arguments) answer is (of_folder arguments good e why)
