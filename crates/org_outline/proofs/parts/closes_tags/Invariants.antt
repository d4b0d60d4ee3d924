use Rattle.std.proofs.Common.{◌≡◌, drop, false}
use Rattle.org_outline.specs.Parts.{are_closed_tags}
use Rattle.org_outline.proofs.parts.closes_tags.Given as goal

abbrev pub invariant-loop-byte : goal.invariant-loop-byte
invariant-loop-byte l = are_closed_tags l.inside (drop l.byte-index l.tags) ≡ are_closed_tags false l.tags
