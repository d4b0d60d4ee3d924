-- Commits of texts, by the texts of a store's files.
use Rattle.std.proofs.Common.{arith, ◌≡◌, inl, ℕ, false, List, refl, ◌∙◌}
use Rattle.std.proofs.lemmas.Grind.{common_steps}
use Rattle.org_disk.specs.Disk.{AreImages, FileState, LeavesOnly}
use Rattle.org_disk.proofs.Moments.{passes_as}
use Rattle.org_journal.specs.Recovered.{Image, SameFiles, contents}
use Rattle.org_fileset.specs.Replay.{IsAtRest, IsBeforeOrAfter}
use Rattle.org_fileset.proofs.Commits.{at_rest_recovers}
use Rattle.org_commands.specs.InOrder.{HoldsEither, texts_of, is_name, with_texts}
use Rattle.org_commands.proofs.InOrder.{reported_by_texts, holds_reported}

pub leaves_as : {m n : ℕ} {s u : ℕ → Image → Type 0} {P Q : Image → Type 0} → LeavesOnly m n s u P → ((image : Image) → P image → Q image) → LeavesOnly m n s u Q
leaves_as time weaker = record { each = λ image left. weaker image (time.each image left); passes = passes_as time.passes weaker }

-- what a crash leaves within a commit that makes these files
pub left_by_commit : (names : List (List ℕ)) (files after : Image) → ((name : List ℕ) → is_name names name ≡ false → after name ≡ files name) → (image : Image) → IsBeforeOrAfter files after image
    → HoldsEither names files (texts_of after names) image
left_by_commit names files after outside image left = grind (arith, common_steps, holds_reported)

-- what a crash leaves of files at rest
pub left_at_rest : (names texts : List (List ℕ)) (files : List ℕ → FileState) → IsAtRest files → (image : Image) → AreImages files image → HoldsEither names (contents files) texts image
left_at_rest names texts files rest image left = inl (holds_reported names (contents files) (contents files) image (λ name outside. refl) (at_rest_recovers files rest image left))

-- what is there after it
pub others_committed : (names : List (List ℕ)) (old new after : Image) → ((name : List ℕ) → is_name names name ≡ false → after name ≡ old name) → SameFiles new after
    → SameFiles new (with_texts names (texts_of new names) old)
others_committed names old new after outside same name not =
    reported_by_texts names new old name (λ out. same name not ∙ outside name out)
