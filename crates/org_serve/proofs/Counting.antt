-- How counts rise.
use Rattle.std.proofs.Common.{◌≡◌, ◌⊎◌, ℕ, ◌+◌, ◌≤◌, ◌<◌, List, [], length, Option, Result, Ok, Err, inl, inr, refl, arith, ◌≢◌, ◌∙◌, ap, subst}
use Rattle.std.proofs.lemmas.Grind.{common_steps}
use Rattle.std.proofs.lemmas.List.{length-append}
use Rattle.std.specs.Io.KnownBytes.{Consumes}
use Rattle.org_disk.specs.Disk.{IsCounted}
use Rattle.org_fileset.specs.declared.open.OpenFault.{OpenFault}
use Rattle.org_serve.specs.Pipes.{Exchange, Pipes, HasRisenBy, HasRead, EndsForCause}
use Rattle.org_serve.specs.declared.end.ServeEnd.{ServeEnd}
use Rattle.org_serve.specs.declared.end.ServeEnd.TheVariants.{Read, Write}
use Rattle.org_serve.proofs.Joins.{Consumes-append, Consumes-none}

pub HasRisenBy-counted : (n old mid new : ℕ) → HasRisenBy n old mid → IsCounted mid new → HasRisenBy (n + 1) old new
HasRisenBy-counted n old mid new rose counted = grind (arith, common_steps)

-- one read more
pub within_counted : (n old mid new : ℕ) → mid ≤ old + n → IsCounted mid new → new ≤ old + (n + 1)
within_counted n old mid new le counted = elim counted [ inl one ↦ omega arith | inr full ↦ omega (arith, full.0, full.1) ]

-- the first of the reads are no more than all
pub within_all : (max_reads n old new : ℕ) → new ≤ old + (n + 1) → n < max_reads → new ≤ old + max_reads
within_all max_reads n old new le less = omega arith

pub read_none : (left : Option (List ℕ)) → HasRead 0 left left
read_none left = ([], Consumes-none left, omega arith)

-- one read more, which gave bytes
pub read_more : (n : ℕ) (left between left' : Option (List ℕ)) (piece : List ℕ) → HasRead n left between → Consumes between left' piece → 0 < length piece → HasRead (n + 1) left left'
read_more n left between left' piece had read some = grind (arith, common_steps, length-append, Consumes-append)

-- Why a run ended, by its counts.

served_so : {end other : ServeEnd} → ◌≡◌ {A = Result ServeEnd OpenFault} (Ok end) (Ok other) → end ≡ other
served_so same = cc

wasnt_served : {fault : OpenFault} {end : ServeEnd} → ◌≡◌ {A = Result ServeEnd OpenFault} (Err fault) (Ok end) → ⊥
wasnt_served same = cc

pub read_apart : Read ≡ Write → ⊥
read_apart same = cc

-- a read failed, or no more reads may be made
pub ended_read : {max_reads : ℕ} (io : Exchange) {mid : ℕ} → mid ≡ io.before.failed_reads
    → IsCounted mid io.after.failed_reads ⊎ (HasRisenBy max_reads io.before.reads io.after.reads × HasRead max_reads io.before.left io.after.left)
    → io.after.reads ≤ io.before.reads + max_reads → io.after.failed_writes ≡ io.before.failed_writes → EndsForCause max_reads (Ok Read) io
ended_read {max_reads} io before cause within same = grind (arith, common_steps)

-- no read failed
pub ended_otherwise : {max_reads : ℕ} (io : Exchange) {mid : ℕ} (end : ServeEnd) → end ≢ Read → io.after.reads ≤ io.before.reads + max_reads → io.after.failed_reads ≡ io.before.failed_reads
    → mid ≡ io.before.failed_writes → (end ≡ Write → IsCounted mid io.after.failed_writes) → (end ≢ Write → io.after.failed_writes ≡ mid) → EndsForCause max_reads (Ok end) io
ended_otherwise io end none within same before failed reported = record {
  read_cause = λ is. absurd (none (served_so is));
  within_max_reads = within;
  read_reported = λ not. same;
  write_cause = λ is. subst (λ n. IsCounted n io.after.failed_writes) before (failed (served_so is));
  write_reported = λ not. reported (λ is. not (ap Ok is)) ∙ before;
}

-- nothing was served
pub ended_unserved : {max_reads : ℕ} (seen : Pipes) {fault : OpenFault} → EndsForCause max_reads (Err fault) (record { before = seen; after = seen })
ended_unserved seen = record { read_cause = λ is. absurd (wasnt_served is); within_max_reads = omega arith; read_reported = λ not. refl; write_cause = λ is. absurd (wasnt_served is); write_reported = λ not. refl }
