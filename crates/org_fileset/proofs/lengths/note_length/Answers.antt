use Rattle.std.proofs.Common.{◌≡◌, ◌<◌, ◌∙◌, ℕ, List, length, set, sym, ap, arith}
use Rattle.org_fileset.proofs.Noted.{length-with, with_here, with_none, with_other, with_past}
use Rattle.org_fileset.proofs.lengths.note_length.Goals as goal
use Rattle.org_fileset.proofs.lengths.note_length.Goals.{then-index-lengths+then-eq, else-index-lengths, else-index-lengths-via-then-index-lengths+else-eq, else-index-lengths-via-else-index-lengths}

pub loop-index-init : goal.loop-index-init
loop-index-init c = sym (with_none c.args.lengths.now c.args.name.now c.args.length)

pub loop-index-preserved : goal.loop-index-preserved
loop-index-preserved c =
    let names = c.args.names.now in
    let first = c.args.lengths.now in
    let name = c.args.name.now in
    let size = c.args.length in
    let i = c.loop-index.index in
    let sofar = c.loop-index.invariant in
    let same : length c.loop-index.lengths ≡ length first = ap length sofar ∙ length-with _ first name size in
    elim c.if-index-lengths.branch [
      | then-index-lengths+then-eq w ↦
          let within : i < length first = omega (arith, w.if-index-lengths.true, same) in
          w.lengths-is ∙ ap (λ (l : List ℕ). set l i size) sofar
          ∙ with_here names first name w.index-names-index.result size i c.loop-index-test.true w.index-names-index.is within (sym w.eq.ensures ∙ w.if-eq.true)
      | else-index-lengths w ↦ w.lengths-is ∙ sofar ∙ elim w.else-index-lengths.branch [
        | else-index-lengths-via-then-index-lengths+else-eq v ↦
            with_other names first name v.index-names-index.result size i c.loop-index-test.true v.index-names-index.is (sym v.eq.ensures ∙ v.if-eq.false)
        | else-index-lengths-via-else-index-lengths v ↦ with_past names first name size i (omega (arith, v.if-index-lengths.false, same))
      ]
    ]
