-- What the trait `Disk` says of its own calls, of what is seen of a disk of the type D: inside the
-- trait its members are named one by one.
use Rattle.std.specs.Prelude.{◌≡◌, ℕ, List, Result, OnOk, OnErr}
use Rattle.org_disk.specs.Disk.{FileState, Passes, AreImages, IsCounted}
use Rattle.org_disk.specs.declared.disk.DiskFault.{DiskFault}

-- What a call makes of a disk's honesty, and of its count of failures, to which a failure adds
-- exactly one.
pub record AccountsOfCall {D : Type 0} {A : Type 0} (truthful : Type 0) (honest : D → Type 0)
    (failures : D → ℕ) (old new : D) (result : Result A DiskFault) : Type 0 where
  -- a wrong answer may end honesty, and nothing brings it back
  pub was_honest : honest new → honest old
  -- a truthful disk stays honest
  pub stays_honest : truthful → honest old → honest new
  pub kept : OnOk result (failures new ≡ failures old)
  pub counted : OnErr result (IsCounted (failures old) (failures new))

-- Time goes on from the one disk to the other, and a crash meanwhile leaves nothing new but what
-- has P.
abbrev pub PassesInCall : {D : Type 0} → (D → ℕ) → (D → ℕ → (List ℕ → List ℕ) → Type 0)
    → D → D → ((List ℕ → List ℕ) → Type 0) → Type 0
PassesInCall instant left_since old new P =
    Passes (instant old) (instant new) (left_since old) (left_since new) P

-- A call that only looks: the files stay, and a crash meanwhile leaves an image of them.
pub record LooksInCall {D : Type 0} (files : D → List ℕ → FileState) (instant : D → ℕ)
    (left_since : D → ℕ → (List ℕ → List ℕ) → Type 0) (old new : D) : Type 0 where
  pub same : files new ≡ files old
  pub time : PassesInCall instant left_since old new (AreImages (files old))
