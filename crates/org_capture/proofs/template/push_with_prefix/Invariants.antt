use Rattle.std.proofs.Common.{◌≡◌, ◌++◌, take}
use Rattle.org_capture.specs.Template.{with_prefix}
use Rattle.org_capture.proofs.template.push_with_prefix.Given as goal

abbrev pub invariant-loop-byte : goal.invariant-loop-byte
invariant-loop-byte l = l.text.items ≡ l.initial.text.items ++ with_prefix l.prefix (take l.byte-index l.bytes)
