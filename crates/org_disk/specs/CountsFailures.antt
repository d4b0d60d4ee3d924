-- What every call over a disk says of it, said once. A clause hands these words all that is seen of
-- a disk of the type D, as `D.Disk`, and the disk before the call and after it.
--
-- What is said of contents and of crashes is said of a disk that is honest after the call. A word
-- that ends in Over speaks of such a disk; the same word without it says so itself.
use Rattle.std.specs.Prelude.{◌≡◌, ℕ, ◌≤◌, List}
use Rattle.org_disk.specs.Calls.{LooksInCall, PassesInCall}
use Rattle.org_disk.specs.Disk.{LeavesOnly, HasRisen}
use Rattle.org_disk.specs.declared.disk.Disk.{Ghosts}

-- What a call makes of a disk's honesty and of its count of failures: the count rises, or is at its
-- greatest, where the call answers the disk's fault (`Failed`), and stays where it doesn't.
pub record CountsFailures {D : Type 0} (g : Ghosts D) (old new : D) (Failed : Type 0) : Type 0 where
  -- a wrong answer may end honesty, and nothing brings it back
  pub was_honest : g.honest new → g.honest old
  -- a truthful disk stays honest
  pub stays_honest : g.truthful → g.honest old → g.honest new
  pub no_less : g.failures old ≤ g.failures new
  pub risen : Failed → HasRisen (g.failures old) (g.failures new)
  pub equal : (Failed → ⊥) → g.failures new ≡ g.failures old

module _ {D : Type 0} (g : Ghosts D) (old new : D) where
  -- Time goes on from the one disk to the other, and a crash meanwhile leaves nothing new but what
  -- has P.
  abbrev pub PassesOver : ((List ℕ → List ℕ) → Type 0) → Type 0
  PassesOver P = PassesInCall g.instant g.left_since old new P

  -- A crash at any moment since the one disk leaves what has P.
  abbrev pub LeavesOver : ((List ℕ → List ℕ) → Type 0) → Type 0
  LeavesOver P =
      LeavesOnly (g.instant old) (g.instant new) (g.left_since old) (g.left_since new) P

  -- a call that only looks
  abbrev pub LooksOver : Type 0
  LooksOver = LooksInCall g.files g.instant g.left_since old new

  abbrev pub Looks : Type 0
  Looks = g.honest new → LooksOver
