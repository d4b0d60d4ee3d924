-- Files that no call wrote, cut or synced, taken as on the device at first.
use Rattle.std.specs.Prelude.{ℕ, Bool, List, if◌then◌else◌, IsTrue}
use Rattle.org_disk.specs.Disk.{stable}
use Rattle.org_folder.specs.Calls.{Event, World, IsLeftAlone}

-- the folder where these files were on the device at first, as they read then
abbrev pub with_stable : (List ℕ → Bool) → World → World
with_stable these world = record {
  start = λ name. if these name then stable (world.start name).content else world.start name;
  left = world.left;
}

-- the image with these files as they read at first
abbrev pub with_first : (List ℕ → Bool) → World → (List ℕ → List ℕ) → List ℕ → List ℕ
with_first these world image name =
    if these name then (world.start name).content else image name

-- no call among these wrote, cut or synced one of these files
abbrev pub AreLeftAlone : (List ℕ → Bool) → List Event → Type 0
AreLeftAlone these calls = (name : List ℕ) → IsTrue (these name) → IsLeftAlone name calls
