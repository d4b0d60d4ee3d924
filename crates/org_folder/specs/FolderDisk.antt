-- The record of the calls that a disk has made.
use Rattle.std.specs.Prelude.{List}
use Rattle.org_folder.specs.Calls.{Event}
use Rattle.org_folder.specs.declared.system.System.{Ghosts}
use Rattle.org_folder.specs.declared.disk.CallsDisk.{CallsDisk}

-- The newest call is first. The disk is honest where the answers in this record were right. A
-- clause hands this word all that is seen of calls of the type S, as `S.System`.
abbrev pub record_of : {C F : Type 0} (g : Ghosts C F) → CallsDisk C F g → List Event
record_of g disk = g.history disk.folder.system
