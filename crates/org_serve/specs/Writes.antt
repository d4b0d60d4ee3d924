-- What is said of a reader and a writer by what is seen of them: a clause hands these words
-- `R.Source` and `W.Sink`.
use Rattle.std.specs.Prelude.{◌≡◌, List, ℕ, Result, OnOk, OnErr}
use Rattle.std.specs.Io.KnownBytes.{Appends}
use Rattle.org_disk.specs.Disk.{IsCounted}
use Rattle.org_serve.specs.declared.pipes.Source as sources
use Rattle.org_serve.specs.declared.pipes.Sink as sinks
use Rattle.org_serve.specs.Pipes.{AppendsSome, Exchange, Output, Pipes}

-- a reader and a writer at one moment
abbrev pub pipes : {R W : Type 0} → sources.Ghosts R → sinks.Ghosts W → R → W → Pipes
pipes r w reader writer = record {
  left = r.left reader;
  reads = r.reads reader;
  failed_reads = r.failures reader;
  written = w.written writer;
  failed_writes = w.failures writer;
}

-- the reader and the writer of a run, before it and after it
abbrev pub exchange : {R W : Type 0} → sources.Ghosts R → sinks.Ghosts W → R → R → W → W → Exchange
exchange r w reader reader' writer writer' =
    record { before = pipes r w reader writer; after = pipes r w reader' writer' }

-- the writer of a call, before it and after it
abbrev pub output : {W : Type 0} → sinks.Ghosts W → W → W → Output
output w old new = record { before = w.written old; after = w.written new }

-- A call of the writer that failed is counted, and is the only one.
pub record CountsFailure {W A E : Type 0} (w : sinks.Ghosts W) (old new : W) (result : Result A E)
    : Type 0 where
  pub same : OnOk result (w.failures new ≡ w.failures old)
  pub counted : OnErr result (IsCounted (w.failures old) (w.failures new))

-- A text was written: all of it, or, where a call of the writer failed, which is counted then, some
-- of it from the first byte on.
pub record Writes {W A E : Type 0} (w : sinks.Ghosts W) (old new : W) (result : Result A E)
    (text : List ℕ) : Type 0 where
  pub ok : OnOk result (Appends (w.written old) (w.written new) text)
  pub part : OnErr result (AppendsSome (w.written old) (w.written new) text)
  pub same : OnOk result (w.failures new ≡ w.failures old)
  pub counted : OnErr result (IsCounted (w.failures old) (w.failures new))
