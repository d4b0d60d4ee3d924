-- What it is to forget what a crash cut short.
use Rattle.std.specs.Prelude.{◌≡◌, ◌≢◌, ℕ, ◌∷◌, List, drop, Result, OnOk, IsFalse, if◌then◌else◌}
use Rattle.org_disk.specs.declared.disk.Disk.{Ghosts}
use Rattle.org_disk.specs.Disk.{AreImages}
use Rattle.org_disk.specs.CountsFailures.{LeavesOver}
use Rattle.org_disk.specs.Names.{journal_name}
use Rattle.org_journal.specs.Gate.{is_open}
use Rattle.org_journal.specs.Recovered.{contents}
use Rattle.org_fileset.specs.Writes.{LeavesAlone}
use Rattle.org_fileset.specs.declared.open.OpenFault.{OpenFault}
use Rattle.org_fileset.specs.declared.open.OpenFault.TheVariants.{Device, OutOfMemory}

-- the fault says nothing of the journal
abbrev pub IsTransient : OpenFault → Type 0
IsTransient Device = Unit {0}
IsTransient OutOfMemory = Unit {0}
IsTransient fault = ⊥

-- the journal, of which an open gate is closed
abbrev pub shut_journal : List ℕ → List ℕ
shut_journal journal = if is_open journal then 0 ∷ drop 1 journal else journal

-- An open gate is closed, and every file but the journal is as it was, whatever is answered: a
-- crash meanwhile leaves of it what it might have left before. If the gate was closed, that holds
-- of the journal too.
pub record ForgetsOver {D A E : Type 0} (g : Ghosts D) (old new : D) (result : Result A E)
    : Type 0 where
  pub done : OnOk result (contents (g.files new) journal_name
      ≡ shut_journal (contents (g.files old) journal_name))
  pub alone : LeavesAlone g (λ name. name ≢ journal_name) old new
  pub idle : IsFalse (is_open (contents (g.files old) journal_name))
      → LeavesOver g old new (AreImages (g.files old))
