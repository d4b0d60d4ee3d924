use Rattle.std.proofs.Common.{sym, ◌≡◌, ◌++◌, ◌∷◌, [], ◌+◌, drop, get_or, ◌∙◌, arith, add-one, drop-cons, ◌<◌, length}
use Rattle.org_serve.specs.Grammar.{unescaped}
use Rattle.org_serve.proofs.Escapes.{in_front-nothing, step-escaped, step-backslash, step-plain, escape-none, ended-plain, ended-escaped}
use Rattle.org_serve.proofs.field.read_escapes.Goals as goal
use Rattle.org_serve.proofs.field.read_escapes.Goals.{then-is_escaped+in-Some+in_ok-push, else-is_escaped+then-b-eq92, else-is_escaped+else-b-eq92+in_ok-push-2}

pub loop-b-init : goal.loop-b-init
loop-b-init c = in_front-nothing c.in_ok-text.text.items _ c.in_ok-text.ensures.items

pub loop-b-preserved : goal.loop-b-preserved
loop-b-preserved c =
    let text = c.loop-b.text.items in
    let x = get_or c.args.field.now c.loop-b.b-index 0 in
    let more = drop (c.loop-b.b-index + 1) c.args.field.now in
    let within : c.loop-b.b-index < length c.args.field.now = omega arith in
    let front : drop c.loop-b.b-index c.args.field.now ≡ x ∷ more = rw add-one (drop-cons c.args.field.now c.loop-b.b-index 0 within) in
    let before = rw front at c.loop-b.invariant in
    elim c.if-is_escaped.branch [
      | then-is_escaped+in-Some+in_ok-push w ↦
          rw (w.text-is, w.is_escaped-is, w.in_ok-push.ensures.items) (step-escaped text x w.in-Some.c more w.in-Some.ensures ∙ (rw w.if-is_escaped.true at before))
      | else-is_escaped+then-b-eq92 w ↦
          rw (w.text-is, w.is_escaped-is) (step-backslash text x more w.if-b-eq92.true ∙ (rw w.if-is_escaped.false at before))
      | else-is_escaped+else-b-eq92+in_ok-push-2 w ↦
          let pushed : w.push-else-b-eq92.new.self.items ≡ text ++ x ∷ [] = w.in_ok-push-2.ensures.items in
          rw (w.text-is, w.is_escaped-is, w.if-is_escaped.false, pushed) (step-plain text x more w.if-b-eq92.false ∙ (rw w.if-is_escaped.false at before))
    ]

pub returns-in_default : goal.returns-in_default
returns-in_default c =
    let x = get_or c.args.field.now c.loop-b.b-index 0 in
    let more = drop (c.loop-b.b-index + 1) c.args.field.now in
    let within : c.loop-b.b-index < length c.args.field.now = omega arith in
    let front : drop c.loop-b.b-index c.args.field.now ≡ x ∷ more = rw add-one (drop-cons c.args.field.now c.loop-b.b-index 0 within) in
    let before = rw front at c.loop-b.invariant in
    escape-none c.loop-b.text.items x more (unescaped c.args.field.now) (sym c.escape.ensures ∙ c.in_default.is) (rw c.if-is_escaped.true at before)

pub returns-then-is_escaped-2 : goal.returns-then-is_escaped-2
returns-then-is_escaped-2 c =
    ended-escaped c.loop-b.text.items c.args.field.now c.loop-b.b-index c.loop-b-test.false (rw c.if-is_escaped-2.true at c.loop-b.invariant)

pub returns : goal.returns
returns c =
    ended-plain c.loop-b.text.items c.args.field.now c.loop-b.b-index c.loop-b-test.false (rw c.if-is_escaped-2.false at c.loop-b.invariant)
