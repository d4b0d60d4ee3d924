-- Opening again what a crash left of a store's disk.
use Rattle.std.specs.Prelude.{◌≡◌, ◌≤◌, ◌↔◌, ℕ, List, length, None}
use Rattle.std.specs.List.{All, Contains}
use Rattle.org_disk.specs.declared.disk.Disk.{Ghosts}
use Rattle.org_disk.specs.Disk.{HasRisen}
use Rattle.org_fileset.specs.Names.{with_archives, AreSorted, AreFew, first_large, limit}
use Rattle.org_journal.specs.Recovered.{Image, RecoversTo}

-- the same names, in whatever order and however often
abbrev pub AreSameNames : List (List ℕ) → List (List ℕ) → Type 0
AreSameNames one other = (name : List ℕ) → Contains one name ↔ Contains other name

-- The given names are few, and the image recovers to files of which none of these names, nor of an
-- archive file's, is past the limit.
pub record IsOpenable (given : List (List ℕ)) (image : Image) : Type 0 where
  pub few : AreFew given
  pub names : List (List ℕ)
  pub sorted : AreSorted (with_archives given) names
  pub texts : Image
  pub recovers_to : RecoversTo texts image
  pub small : first_large texts names ≡ None

-- a text for each name, none of them past the limit
pub record AreSmall (names texts : List (List ℕ)) : Type 0 where
  pub one_each : length texts ≡ length names
  pub small : All (λ text. length text ≤ limit) texts

-- the disk counted a failure meanwhile
abbrev pub CountsFailure : {D : Type 0} → Ghosts D → D → D → Type 0
CountsFailure g before now = HasRisen (g.failures before) (g.failures now)
