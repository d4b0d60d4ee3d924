use Rattle.std.proofs.Common.{◌≡◌, ◌<◌, ◌^◌, true, drop}
use Rattle.org_headings.specs.Beginnings.{hash_from}
use Rattle.org_headings.proofs.beginnings.title_hash.Given as goal

abbrev pub invariant-loop-byte : goal.invariant-loop-byte
invariant-loop-byte l = (l.hash < 2 ^ 15) × (hash_from l.hash l.apart (drop l.byte-index l.text) ≡ hash_from 0 true l.text)
