use Rattle.std.proofs.Common.{◌≡◌, ◌<◌, ◌≤◌, ◌+◌, ◌-◌, ◌&&◌, ℕ, List, Bool, Option, Some, true, false, nat_eq, nat_lt, length, reverse, take, refl, sym, ap, ◌∙◌, arith, IfOk}
use Rattle.std.specs.List.{starts_with}
use Rattle.std.proofs.lemmas.Grind.{common_steps}
use Rattle.std.proofs.lemmas.Bool.Decides.{nat_tests}
use Rattle.org_outline.specs.Tree.{node_count, parent_of, tree}
use Rattle.orgs_names.specs.Ways.{ends_above, ends_path, folded_at}
use Rattle.orgs_names.proofs.Upward.{ends_result, not_empty, path_goes_on, path_other, path_short}
use Rattle.orgs_names.proofs.ends.ends_path.Goals as goal

pub returns-then-titles-lt2 : goal.returns-then-titles-lt2
returns-then-titles-lt2 c = sym (path_short c.args.entries.now.states (tree c.args.entries.now.text) c.args.titles.now c.args.index c.if-titles-lt2.true)

pub returns : goal.returns
returns c =
    let s = c.args.entries.now.states in
    let d = tree c.args.entries.now.text in
    let own : c.as_slice.result.now ≡ folded_at s d c.args.index = c.as_slice.ensures.value ∙ c.in_ok-title.ensures in
    let test : starts_with nat_eq (folded_at s d c.args.index) c.index-titles-end.result ≡ false =
    ap (λ (t : List ℕ). starts_with nat_eq t c.index-titles-end.result) (sym own) ∙ ap (starts_with nat_eq c.as_slice.result.now) (sym c.as_slice-asked.ensures) ∙ sym c.starts_with.ensures.value ∙ c.if-starts_with.false in
    sym (path_other s d c.args.titles.now c.args.index _ c.index-titles-end.result (omega (arith, c.if-titles-lt2.false)) refl c.index-titles-end.is test)

pub returns-then-starts_with : goal.returns-then-starts_with
returns-then-starts_with c =
    let s = c.args.entries.now.states in
    let d = tree c.args.entries.now.text in
    let last : List ℕ = c.index-titles-end.result in
    let own : c.as_slice.result.now ≡ folded_at s d c.args.index = c.as_slice.ensures.value ∙ c.in_ok-title.ensures in
    let test : starts_with nat_eq (folded_at s d c.args.index) last ≡ true =
    ap (λ (t : List ℕ). starts_with nat_eq t last) (sym own) ∙ ap (starts_with nat_eq c.as_slice.result.now) (sym c.as_slice-asked.ensures) ∙ sym c.starts_with.ensures.value ∙ c.if-starts_with.true in
    let some : 0 < length last = not_empty c.as_slice-asked.result.now last c.as_slice-asked.ensures (c.is_empty.result) c.is_empty.ensures c.if-is_empty.false in
    ends_result c.ends_above.result _ _ c.ends_above.ensures
    (ap (λ (ts : List (List ℕ)). ends_above s d (reverse ts) c.parent.result) c.split_at.ensures.front ∙ ap (ends_above s d (reverse (take (length c.args.titles.now - 1) c.args.titles.now))) c.parent.ensures.value
    ∙ sym (path_goes_on s d c.args.titles.now c.args.index (length c.args.titles.now - 1) last (omega (arith, c.if-titles-lt2.false)) refl c.index-titles-end.is some test))
