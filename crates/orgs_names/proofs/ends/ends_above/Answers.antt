use Rattle.std.proofs.Common.{◌≡◌, ◌<◌, ◌≤◌, ◌+◌, ◌-◌, ℕ, List, Bool, Option, Some, true, false, length, sym, ap, ◌∙◌, arith}
use Rattle.std.specs.Str.{bytes_eq}
use Rattle.org_outline.specs.Tree.{node_count, tree}
use Rattle.orgs_entries.proofs.Upward.{some_parent}
use Rattle.orgs_names.specs.Ways.{folded_at}
use Rattle.orgs_names.proofs.Upward.{title_missing, title_other, title_passed}
use Rattle.orgs_names.proofs.ends.ends_above.Goals as goal

pub returns-in_default : goal.returns-in_default
returns-in_default c =
    let none = title_missing c.args.entries.now.states (tree c.args.entries.now.text) c.args.titles.now c.loop-left.left c.loop-left.up c.loop-left-test.true c.loop-left.invariant.within c.in_default.is in
    sym (c.loop-left.invariant.rest ∙ none)

pub returns-else-eq : goal.returns-else-eq
returns-else-eq c =
    let s = c.args.entries.now.states in
    let d = tree c.args.entries.now.text in
    let asked : List ℕ = c.index-titles-left.result in
    let own : c.as_slice-in-loop-left.result.now ≡ folded_at s d c.in-Some.index = c.as_slice-in-loop-left.ensures.value ∙ c.in_ok-title.ensures in
    let test : bytes_eq (folded_at s d c.in-Some.index) asked ≡ false =
    ap (λ (t : List ℕ). bytes_eq t asked) (sym own) ∙ ap (λ (t : List ℕ). bytes_eq c.as_slice-in-loop-left.result.now t) (sym c.as_slice-asked.ensures) ∙ sym c.eq.ensures ∙ c.if-eq.false in
    let more : 1 < c.loop-left.left = omega (arith, c.loop-left-test.true, c.if-left-eq0.false) in
    sym (c.loop-left.invariant.rest ∙ title_other s d c.args.titles.now c.loop-left.left c.in-Some.index asked c.loop-left.up more c.loop-left.invariant.within c.index-titles-left.is c.in-Some.is test)

pub loop-left-preserved : goal.loop-left-preserved
loop-left-preserved c =
    let s = c.args.entries.now.states in
    let d = tree c.args.entries.now.text in
    let asked : List ℕ = c.index-titles-left.result in
    let own : c.as_slice-in-loop-left.result.now ≡ folded_at s d c.in-Some.index = c.as_slice-in-loop-left.ensures.value ∙ c.in_ok-title.ensures in
    let test : bytes_eq (folded_at s d c.in-Some.index) asked ≡ true =
    ap (λ (t : List ℕ). bytes_eq t asked) (sym own) ∙ ap (λ (t : List ℕ). bytes_eq c.as_slice-in-loop-left.result.now t) (sym c.as_slice-asked.ensures) ∙ sym c.eq.ensures ∙ c.if-eq.true in
    let more : 1 < c.loop-left.left = omega (arith, c.loop-left-test.true, c.if-left-eq0.false) in
    record {
      within = omega (arith, c.loop-left.invariant.within);
      there = some_parent c.parent-up.result (node_count d) c.parent-up.ensures.within;
      rest = c.loop-left.invariant.rest
          ∙ title_passed s d c.args.titles.now c.loop-left.left c.in-Some.index asked c.loop-left.up c.parent-up.result more c.loop-left.invariant.within c.index-titles-left.is c.in-Some.is test c.parent-up.ensures.value;
    }
