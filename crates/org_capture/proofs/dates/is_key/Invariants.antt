use Rattle.std.proofs.Common.{◌≡◌, drop}
use Rattle.org_capture.specs.Dates.{is_key_from}
use Rattle.org_capture.proofs.dates.is_key.Given as goal

abbrev pub invariant-loop-index : goal.invariant-loop-index
invariant-loop-index l = is_key_from 0 l.bytes ≡ is_key_from l.index (drop l.index l.bytes)
