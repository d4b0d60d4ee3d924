use Rattle.std.proofs.Common.{◌≡◌, ◌≢◌, ◌<◌, ◌∙◌, ◌++◌, ℕ, List, Vec, Global, length, get_or, eq-eqb, refl, ap, arith}
use Rattle.std.proofs.lemmas.Bool.Decides.{nat_tests}
use Rattle.std.proofs.Common.{false, eqb}
use Rattle.org_capture.proofs.Filling.{pushed_plain, pushed_newline}
use Rattle.org_capture.proofs.template.push_with_prefix.Goals as goal
use Rattle.org_capture.proofs.template.push_with_prefix.Goals.{then-byte-eq10+in_ok-extend_from_slice, else-byte-eq10}

not_newline : (b : ℕ) → b ≢ 10 → eqb b 10 ≡ false
not_newline b other = grind (arith, nat_tests)

pub loop-byte-preserved : goal.loop-byte-preserved
loop-byte-preserved c =
    let start : List ℕ = c.args.text.now.items in
    let prefix : List ℕ = c.args.prefix.now in
    let bytes : List ℕ = c.args.bytes.now in
    let i : ℕ = c.loop-byte.byte-index in
    let b : ℕ = get_or bytes i 0 in
    let lt : i < length bytes = omega arith in
    elim c.if-byte-eq10.branch [
      | then-byte-eq10+in_ok-extend_from_slice w ↦
          pushed_newline start prefix bytes c.loop-byte.text.items c.if-byte-eq10.text.items i b lt refl (eq-eqb b 10 w.if-byte-eq10.true) c.loop-byte.invariant
          (ap (λ (v : Vec ℕ Global). v.items) w.text-is ∙ w.in_ok-extend_from_slice.ensures.items ∙ ap (λ l. l ++ prefix) c.in_ok-push.ensures.items)
      | else-byte-eq10 w ↦
          let other = not_newline b w.if-byte-eq10.false in
          pushed_plain start prefix bytes c.loop-byte.text.items c.if-byte-eq10.text.items i b lt refl other c.loop-byte.invariant
          (ap (λ (v : Vec ℕ Global). v.items) w.text-is ∙ c.in_ok-push.ensures.items)
    ]
