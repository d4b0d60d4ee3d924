-- The disk of a folder, over the calls of a system; `g` is all that is seen of these, as the record
-- of the calls and what the folder held at first.
use Rattle.std.specs.Prelude.{length}
use Rattle.org_disk.specs.declared.disk.Disk.{Ghosts}
use Rattle.org_folder.specs.Calls.{LeftSince, failed_calls}
use Rattle.org_folder.specs.Right.{file_of, HasBeenRight}
use Rattle.org_folder.specs.declared.system.System as calls
use Rattle.org_folder.specs.declared.disk.CallsDisk.{CallsDisk}

-- all that is seen of the disk: what the impl of `Disk` says of it
abbrev pub seen_of : {C F : Type 0} (g : calls.Ghosts C F) → Ghosts (CallsDisk C F g)
seen_of g = record {
  honest = λ disk. HasBeenRight g disk.folder.system;
  truthful = ⊥;
  files = λ disk. file_of g disk.folder.system;
  instant = λ disk. length (g.history disk.folder.system);
  left_since = λ disk. LeftSince g.world (g.history disk.folder.system);
  failures = λ disk. failed_calls (g.history disk.folder.system);
}
