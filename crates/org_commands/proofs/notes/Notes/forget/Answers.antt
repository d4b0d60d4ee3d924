use Rattle.std.proofs.Common.{◌≡◌, ℕ, ◌+◌, ◌<◌, ◌≤◌, List, length, get_or, slice_get, Some, None, false, sym, ◌∙◌, ap, subst, arith}
use Rattle.std.proofs.lemmas.Option.{get_or_from_slice_get, slice_get-get_or}
use Rattle.std.specs.Str.{bytes_eq}
use Rattle.org_commands.proofs.Noted.{LowersBelow, lowers_all, lowers_other, lowers_past, lowers_this, none_lowered}
use Rattle.org_commands.proofs.notes.Notes.forget.Goals as goal
use Rattle.org_commands.proofs.notes.Notes.forget.Goals.{then-index-len+then-eq, else-index-len, else-index-len-via-then-index-len+else-eq, else-index-len-via-else-index-len}

pub loop-index-preserved : goal.loop-index-preserved
loop-index-preserved c size edits =
    let names = c.args.names.now in
    let file = c.args.file.now in
    let index = c.loop-index.index in
    let old = c.self.inside.notes.items in
    let mid = c.loop-index.self-inside.notes.items in
    let next = c.if-index-len.self-inside.notes.items in
    let sofar = c.loop-index.invariant size edits in
    elim c.if-index-len.branch [
      | then-index-len+then-eq w ↦
          let within : index < length mid = omega (arith, c.len.ensures, w.if-index-len.true) in
          let here : slice_get mid index ≡ Some (get_or mid index None) = slice_get-get_or mid index None within in
          lowers_this names file size edits index old mid next (get_or mid index None) None within here (ap (λ q. q.notes.items) w.self-inside-is) (none_lowered (get_or mid index None) size edits) sofar
      | else-index-len w ↦
          let same : mid ≡ next = sym (ap (λ q. q.notes.items) w.self-inside-is) in
          elim w.else-index-len.branch [
            | else-index-len-via-then-index-len+else-eq v ↦
                let apart : bytes_eq file c.index-names-index.result ≡ false = sym v.eq.ensures ∙ v.if-eq.false in
                subst (LowersBelow names file size edits (index + 1) old) same
                (lowers_other names file size edits index old mid
                (λ name is. let this : c.index-names-index.result ≡ name = c.index-names-index.is ∙ get_or_from_slice_get names index name c.index-names-index.result is in subst (λ (n : List ℕ). bytes_eq file n ≡ false) this apart)
                sofar)
            | else-index-len-via-else-index-len v ↦
                let past : length mid ≤ index = omega (arith, c.len.ensures, v.if-index-len.false) in
                subst (LowersBelow names file size edits (index + 1) old) same (lowers_past names file size edits index (index + 1) old mid past sofar)
          ]
    ]

pub returns : goal.returns
returns c = rw (← c.self.view_is) (λ size edits. lowers_all c.args.names.now c.args.file.now size edits c.loop-index.index c.self.inside.notes.items c.loop-index.self-inside.notes.items c.loop-index-test.false (c.loop-index.invariant size edits))
