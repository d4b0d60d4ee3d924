-- A run of the program over the folder that its arguments name. `world` is what the folder held at
-- first, and what calls that failed left.
use Rattle.std.specs.Prelude.{◌≡◌, ◌≢◌, ℕ, List, [], ◌∷◌, ◌++◌, string_bytes, All, Result, IfErr, IsErrOf}
use Rattle.org_disk.specs.CountsFailures.{CountsFailures}
use Rattle.org_disk.specs.Names.{IsOrgFile}
use Rattle.org_disk.specs.declared.disk.Disk as of_disk
use Rattle.org_fileset.specs.Forgetting.{ForgetsOver, IsTransient}
use Rattle.org_fileset.specs.declared.open.OpenFault.{OpenFault}
use Rattle.org_fileset.specs.declared.open.OpenFault.TheVariants as refused
use Rattle.org_folder.specs.Calls.{Event, OnlyLooks, failed_calls}
use Rattle.org_folder.specs.Calls.Event.{Alone, Filled, Locked}
use Rattle.org_folder.specs.Listing.{Lists}
use Rattle.org_folder.specs.declared.system.System.{Ghosts}
use Rattle.org_folder.specs.declared.disk.CallsDisk.{CallsDisk}
use Rattle.org_serve.specs.declared.end.ServeEnd.{ServeEnd}
use Rattle.org_serve.specs.declared.whole.Setup.{Setup}
use Rattle.org_serve.specs.Pipes.{Exchange}
use Rattle.org_serve.specs.Promises.{Promises}
use Rattle.org_serve.specs.Whole.{RunsSynced}
use Rattle.org_program.specs.declared.arguments.Arguments.{Arguments}
use Rattle.org_program.specs.declared.fault.Fault.{Fault}
use Rattle.org_program.specs.Causes.{forgetting, reported}
use Rattle.org_program.specs.Folder.{seen_of}
use Rattle.org_program.specs.Lists.{names_in, states_in, AreListed}
use Rattle.org_program.specs.Words.{adopts}

-- the most reads of an input
abbrev pub max_reads : ℕ
max_reads = 4294967295

-- The folder was listed, and these names are what the list adds to those that are given; or no call
-- was made, where `--only` is given.
pub record ListsNames (arguments : Arguments) (listed : List (List ℕ)) (old new : List Event)
    : Type 0 where
  pub all : arguments.only.items ≡ [] → Lists listed old new
  pub only : arguments.only.items ≢ [] → new ≡ old

-- A store is set up as the arguments say: its names are those given and, where `--only` isn't,
-- those that were listed of the folder and those below, once it was locked and no store was found
-- above it. Since then calls only looked.
pub record IsSetUp (arguments : Arguments) (setup : Setup) (old new : List Event) : Type 0 where
  pub listed : List (List ℕ)
  pub listing : List Event
  pub are_listed : AreListed arguments listed
  pub lists : ListsNames arguments listed
      (Alone ∷ Locked (string_bytes arguments.folder) ∷ old) listing
  pub since : OnlyLooks listing new
  pub openable : All IsOrgFile setup.names.items
  pub names : setup.names.items ≡ names_in arguments ++ listed
  pub states : setup.states ≡ states_in arguments
  pub group : setup.group ≡ arguments.group

-- the folder at a path was locked before every other call since, and these only looked
abbrev pub LocksFirst : List ℕ → List Event → List Event → Type 0
LocksFirst path old new = OnlyLooks (Locked path ∷ old) new

-- The locked folder was found to be a store itself, or none above would list a file in it: nothing
-- but its lock was asked before that.
abbrev pub IsAlone : List ℕ → List Event → List Event → Type 0
IsAlone path old new = OnlyLooks (Alone ∷ Locked path ∷ old) new

-- Lines were served over the folder of these calls, by a store that was set up as the arguments
-- say. Before that the folder that the arguments name was locked, and then the calls only looked.
pub record ServesFolder {C F : Type 0} (g : Ghosts C F) (found : C)
    (arguments : Arguments) (now : CallsDisk C F g)
    (end : Result ServeEnd OpenFault) (io : Exchange) : Type 0 where
  pub disk : CallsDisk C F g
  pub locks : LocksFirst (string_bytes arguments.folder)
      (Filled (string_bytes arguments.folder) ∷ g.history found) (g.history disk.folder.system)
  pub alone : IsAlone (string_bytes arguments.folder)
      (Filled (string_bytes arguments.folder) ∷ g.history found) (g.history disk.folder.system)
  -- .. and none failed
  pub failures : failed_calls (g.history disk.folder.system) ≡ failed_calls (g.history found)
  -- an opening takes files as they are only where the arguments say so
  pub adopting : disk.adopts ≡ adopts arguments.recovery
  pub setup : Setup
  pub is_set_up : IsSetUp arguments setup
      (Filled (string_bytes arguments.folder) ∷ g.history found) (g.history disk.folder.system)
  -- README's six sentences
  pub promises : Promises (seen_of g) setup disk now end io
  -- .. and all that is known of the run
  pub runs : RunsSynced (seen_of g) setup max_reads disk now end io

-- .. and what is reported of how that ended: success exactly where the input was served to its end,
-- and all is settled
pub record RunsFolder {C F : Type 0} (g : Ghosts C F) (found : C)
    (arguments : Arguments) (now : CallsDisk C F g)
    (ended : Result (Unit {0}) Fault) (io : Exchange)
    : Type 0 where
  pub end : Result ServeEnd OpenFault
  pub is_reported : ended ≡ reported end
  pub serves : ServesFolder g found arguments now end io

-- What a crash cut short was forgotten over a disk: an open gate is closed, and every file but the
-- journal is as it was, at each moment. What is reported says how that ended.
pub record Forgets {D : Type 0} (g : of_disk.Ghosts D) (old new : D)
    (ended : Result (Unit {0}) Fault) : Type 0 where
  pub end : Result (Unit {0}) OpenFault
  pub is_reported : ended ≡ forgetting end
  pub forgets : g.honest new → ForgetsOver g old new end
  pub fault : IfErr end IsTransient
  pub accounts : CountsFailures g old new (IsErrOf end refused.Device)

-- .. over the folder of these calls. Before that the folder that the arguments name was locked, and
-- then the calls only looked.
pub record ForgetsFolder {C F : Type 0} (g : Ghosts C F) (found : C)
    (arguments : Arguments) (now : CallsDisk C F g)
    (ended : Result (Unit {0}) Fault) : Type 0 where
  pub disk : CallsDisk C F g
  pub locks : LocksFirst (string_bytes arguments.folder)
      (Filled (string_bytes arguments.folder) ∷ g.history found) (g.history disk.folder.system)
  pub alone : IsAlone (string_bytes arguments.folder)
      (Filled (string_bytes arguments.folder) ∷ g.history found) (g.history disk.folder.system)
  -- .. and none failed
  pub failures : failed_calls (g.history disk.folder.system) ≡ failed_calls (g.history found)
  pub forgets : Forgets (seen_of g) disk now ended
