-- What the calls of a store do to its session, and what a crash may leave.
use Rattle.std.proofs.Common.{◌≡◌, ℕ, true, false, List, map, refl, sym, subst, inl, inr, ⊎_elim, Result}
use Rattle.org_disk.specs.Disk.{FileState, AreImages}
use Rattle.org_journal.specs.Recovered.{Image, SameFiles, contents}
use Rattle.org_fileset.specs.Replay.{IsAtRest}
use Rattle.org_fileset.proofs.Commits.{at_rest_recovers}
use Rattle.org_fault.specs.declared.refusal.Refusal.TheVariants.{TooLarge}
use Rattle.org_commands.specs.Files.{has_large}
use Rattle.org_commands.specs.InOrder.{texts_of, with_all, with_texts}
use Rattle.org_commands.specs.Session.{Session, Holds}
use Rattle.org_commands.specs.Outcome.{Refuses, changed, counted, Outcome}
use Rattle.org_commands.proofs.InOrder.{reported_by_texts, holds_reported}
use Rattle.org_commands.specs.declared.command.RunFault.{RunFault}
use Rattle.org_store.specs.Left.{IsLeft, MayHaveWritten}

-- what a crash leaves of files at rest
pub at_rest_holds : (s : Session) (files : List ℕ → FileState) → IsAtRest files → (image : Image) → AreImages files image → Holds s (contents files) (texts_of (contents files) s.names) image
at_rest_holds s files rest image left = holds_reported s.names (contents files) (contents files) image (λ name outside. refl) (at_rest_recovers files rest image left)

pub others_same : (names : List (List ℕ)) (files : Image) → SameFiles files (with_texts names (texts_of files names) files)
others_same names files name not = reported_by_texts names files files name (λ outside. refl)

-- files that no call wrote, and the store's texts of them
pub others_unwritten : (names : List (List ℕ)) (settled : List (List ℕ)) (old new : List ℕ → FileState) → settled ≡ texts_of (contents new) names → new ≡ old
    → SameFiles (contents new) (with_texts names settled (contents old))
others_unwritten names settled old new own same =
    rw own (subst (λ (f : List ℕ → FileState). SameFiles (contents new) (with_texts names (texts_of (contents new) names) (contents f))) same (others_same names (contents new)))

-- what a crash leaves of the files of a store at rest
pub left_at_rest : (s : Session) (files : List ℕ → FileState) → s.settled ≡ texts_of (contents files) s.names → IsAtRest files → (image : Image) → AreImages files image → Holds s (contents files) s.settled image
left_at_rest s files own rest image left = subst (λ texts. Holds s (contents files) texts image) (sym own) (at_rest_holds s files rest image left)

-- the same is left of a call that wrote, if at all, where this one did
pub left_as : {A B : Type 0} (s : Session) (others : Image) (outcome : Outcome) (answer : Result A RunFault) (given : Result B RunFault) (accepted : ℕ) (image : Image) → (MayHaveWritten answer → MayHaveWritten given)
    → IsLeft s others outcome answer accepted image → IsLeft s others outcome given accepted image
left_as s others outcome answer given accepted image wrote left = ⊎_elim (λ held. inl held) (λ put. inr (wrote put.0, put.1)) left

-- texts that are put, and what is refused of them
pub counts_small : (s : Session) (changes : List (List ℕ × List ℕ)) → has_large changes ≡ false → changed s changes ≡ counted s (map (λ change. change.0) changes) (with_all s.names s.files changes)
counts_small s changes small = rw small refl

pub refuses_large : (s : Session) (changes : List (List ℕ × List ℕ)) → has_large changes ≡ true → changed s changes ≡ Refuses TooLarge
refuses_large s changes large = rw large refl
