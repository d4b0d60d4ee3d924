-- What is seen of a reader and a writer at one moment, and of a run over them.
use Rattle.std.specs.Prelude.{◌≡◌, ◌≢◌, ℕ, ◌+◌, ◌^◌, ◌≤◌, ◌⊎◌, List, ◌++◌, length, Option, Result, Ok}
use Rattle.std.specs.Io.KnownBytes.{Appends, Consumes}
use Rattle.org_disk.specs.Disk.{IsCounted}
use Rattle.org_fileset.specs.declared.open.OpenFault.{OpenFault}
use Rattle.org_serve.specs.declared.end.ServeEnd.{ServeEnd}
use Rattle.org_serve.specs.declared.end.ServeEnd.TheVariants.{Read, Write}

-- A reader and a writer at one moment.
pub record Pipes : Type 0 where
  -- the bytes that reads give from here on, where they are known
  pub left : Option (List ℕ)
  -- how many reads were made, and how many of them failed
  pub reads : ℕ
  pub failed_reads : ℕ
  -- the bytes that were written, where they are known
  pub written : Option (List ℕ)
  -- how many calls of the writer failed
  pub failed_writes : ℕ

-- What a run reads and writes: its reader and its writer before it and after it.
pub record Exchange : Type 0 where
  pub before : Pipes
  pub after : Pipes

-- What a call writes: the bytes that were written before it and after it, where they are known.
pub record Output : Type 0 where
  pub before : Option (List ℕ)
  pub after : Option (List ℕ)

abbrev pub output_of : Exchange → Output
output_of io = record { before = io.before.written; after = io.after.written }

-- these bytes were written
abbrev pub Adds : Output → List ℕ → Type 0
Adds output bytes = Appends output.before output.after bytes

-- some of the bytes were written, from the first on
abbrev pub AppendsSome : Option (List ℕ) → Option (List ℕ) → List ℕ → Type 0
AppendsSome old new bytes =
    (part : List ℕ) × (rest : List ℕ) × (bytes ≡ part ++ rest) × Appends old new part

abbrev pub AddsSome : Output → List ℕ → Type 0
AddsSome output bytes = AppendsSome output.before output.after bytes

-- a count rose by n, or stands at its greatest value
abbrev pub HasRisenBy : ℕ → ℕ → ℕ → Type 0
HasRisenBy n before now = (before + n ≡ now) ⊎ (2 ^ 64 ≤ now + 1)

-- at least so many bytes were read
abbrev pub HasRead : ℕ → Option (List ℕ) → Option (List ℕ) → Type 0
HasRead n left left' = (input : List ℕ) × Consumes left left' input × (n ≤ length input)

-- A run ends with Read or Write for a cause alone, and a call of the reader or the writer that
-- failed is always reported. The counts of the two say it. One failure is counted where one ends
-- the run, so neither is called once it has failed.
pub record EndsForCause (max_reads : ℕ) (end : Result ServeEnd OpenFault) (io : Exchange)
    : Type 0 where
  -- a read failed, or all reads were made that may be and each gave bytes: so the end of the input
  -- wasn't met
  pub read_cause : end ≡ Ok Read
      → IsCounted io.before.failed_reads io.after.failed_reads
      ⊎ (HasRisenBy max_reads io.before.reads io.after.reads
      × HasRead max_reads io.before.left io.after.left)
  -- there are at most so many reads
  pub within_max_reads : io.after.reads ≤ io.before.reads + max_reads
  -- a read that failed is reported
  pub read_reported : end ≢ Ok Read → io.after.failed_reads ≡ io.before.failed_reads
  -- a write or a flush failed
  pub write_cause : end ≡ Ok Write → IsCounted io.before.failed_writes io.after.failed_writes
  -- one that failed is reported
  pub write_reported : end ≢ Ok Write → io.after.failed_writes ≡ io.before.failed_writes
