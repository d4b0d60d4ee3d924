use Rattle.std.proofs.Common.{arith}
use Rattle.org_outline.proofs.parts.closes_tags.Goals as goal

pub bounds-tags-byte-index : goal.bounds-tags-byte-index
bounds-tags-byte-index c = omega arith
