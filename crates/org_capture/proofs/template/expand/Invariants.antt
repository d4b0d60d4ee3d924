use Rattle.std.proofs.Common.{◌≡◌, length}
use Rattle.org_capture.specs.Template.{expanded, filled, pieces_of}
use Rattle.org_capture.proofs.template.expand.Given as goal

abbrev pub invariant-loop-text : goal.invariant-loop-text
invariant-loop-text l = filled l.moment l.initial_text l.text.items (pieces_of l.rest) ≡ expanded l.template l.moment l.initial_text

abbrev pub decreases-loop-text : goal.decreases-loop-text
decreases-loop-text l = length l.rest
