-- A run of calls, and what a crash may have left where it began.
use Rattle.std.proofs.Common.{ℕ, List}
use Rattle.org_disk.specs.Disk.{FileState, AreImages, Passes, LeavesOnly}
use Rattle.org_disk.proofs.Moments.{Image, leaves_only}

-- an honest disk, each image of which had P when the run began
pub since_start : {m n : ℕ} {past since : ℕ → Image → Type 0} {P : Image → Type 0} → Passes m n past since P → {Honest : Type 0} (files : List ℕ → FileState)
    → ((image : Image) → Honest → past m image → AreImages files image) → Honest → ((image : Image) → AreImages files image → P image) → LeavesOnly m n past since P
since_start passes files only_now honest stands = leaves_only passes (λ image left. stands image (only_now image honest left))
