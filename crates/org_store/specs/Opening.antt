-- What opening a store answers.
use Rattle.std.specs.Prelude.{◌≡◌, ◌⊎◌, ℕ, false, List, [], Result}
use Rattle.org_disk.specs.declared.disk.Disk.{Ghosts}
use Rattle.org_journal.specs.Recovered.{Image, contents}
use Rattle.org_fileset.specs.Opening.{IsFoundOver, IsOpenedFor, disk_in}
use Rattle.org_fileset.specs.declared.open.OpenFault.{OpenFault}
use Rattle.org_fileset.specs.declared.open.OpenRefused.{OpenRefused}
use Rattle.org_fileset.specs.declared.open.OpenFault.TheVariants.{Changed, Outside, Device, OutOfMemory}
use Rattle.org_outline.specs.States.{Keywords}
use Rattle.org_commands.specs.declared.tally.Group.TheVariants.{Of}
use Rattle.org_commands.specs.InOrder.{texts_of}
use Rattle.org_commands.specs.Session.{Session, StoreView}

-- a store that was just opened, over files of these names that have these texts
abbrev pub opened : Keywords → List (List ℕ) → List (List ℕ) → Session
opened states names texts =
    record {
      states = states;
      names = names;
      files = texts;
      settled = texts;
      accepted = 0;
      acknowledged = 0;
      group = Of 1;
      broken = false;
    }

-- the disk in the store that was opened, or the one that was handed back
abbrev pub disk_of : {D : Type 0} → Result (StoreView D) (OpenRefused D) → D
disk_of result = disk_in result (λ store. store.disk)

-- A store that was just opened with these states and the given names.
pub record IsOpened {D : Type 0} (g : Ghosts D) (states : Keywords) (given : List (List ℕ))
    (store : StoreView D) : Type 0 where
  pub session : store.session
      ≡ opened states store.session.names
      (texts_of (contents (g.files store.disk)) store.session.names)
  pub set : IsOpenedFor given store.session.names (g.honest store.disk)
      (contents (g.files store.disk))
  pub dirty_files : store.dirty ≡ []

-- An opening was refused for the sake of a file that an open journal's record names: another
-- program changed it since, or it leads out of the folder. Nothing was changed.
abbrev pub IsWithheld : Image → OpenFault → Type 0
IsWithheld image (Changed name) = IsFoundOver name image image
IsWithheld image (Outside name) = IsFoundOver name image image
IsWithheld image fault = ⊥

-- Memory or the disk failed: another opening may succeed.
abbrev pub IsTransient : OpenFault → Type 0
IsTransient fault = (fault ≡ OutOfMemory) ⊎ (fault ≡ Device)
