use Rattle.std.proofs.Common.{◌∙◌, sym, arith}
use Rattle.org_fileset.proofs.Noted.{length_later, length_past}
use Rattle.org_fileset.proofs.lengths.length_of.Goals as goal
use Rattle.org_fileset.proofs.lengths.length_of.Goals.{else-index-lengths-via-then-index-lengths+else-eq, else-index-lengths-via-else-index-lengths}

pub loop-index-preserved : goal.loop-index-preserved
loop-index-preserved c =
    let names = c.args.names.now in
    let lengths = c.args.lengths.now in
    let name = c.args.name.now in
    let i = c.loop-index.index in
    elim c.else-index-lengths.branch [
      | else-index-lengths-via-then-index-lengths+else-eq w ↦
          sym (length_later names lengths name w.index-names-index.result i c.loop-index-test.true w.index-names-index.is w.if-index-lengths.true (sym w.eq.ensures ∙ w.if-eq.false)) ∙ c.loop-index.invariant
      | else-index-lengths-via-else-index-lengths w ↦ sym (length_past names lengths name i (omega (arith, w.if-index-lengths.false))) ∙ c.loop-index.invariant
    ]
