use Rattle.std.proofs.Common.{◌≡◌, ◌∙◌, ◌+◌, ◌≤◌, ◌<◌, ◌^◌, ◌-◌, ◌++◌, [], true, drop, take, length, length-append, refl, ap, subst, List, arith, ℕ}
use Rattle.std.specs.Prelude.{OnErr, Result, Ok, Err}
use Rattle.std.specs.declared.alloc.AllocError.{AllocError}
use Rattle.std.proofs.lemmas.List.{length-drop, length-take}
use Rattle.std.proofs.lemmas.Result.{on_ok_weaker}
use Rattle.org_headings.specs.declared.heads.Heading.{Heading}
use Rattle.org_headings.specs.Headings.{headings_of, heads_from}
use Rattle.org_headings.proofs.Edits.{rising_now, makes_now, can_move_now, edited_now, appended_now}
use Rattle.org_headings.proofs.heads.Heads.edited.Goals as goal

pub overflow_add-to : goal.overflow_add-to
overflow_add-to c =
    let small = c.requires.before_small in
    let within = c.requires.removed_in in
    let bounds = c.line_end-to.ensures.within in
    let behind = ap (λ (l : List ℕ). length l) c.requires.back in
    omega (arith, small, within, bounds.0, bounds.1, behind, length-drop (c.args.at + c.args.added) c.args.after.now, length-drop (c.args.at + c.args.removed) c.requires.before)

pub starts_before-first-requires : goal.starts_before-first-requires
starts_before-first-requires c = rising_now _ _ _ _ _ _ c.requires (c.as_slice.ensures.value ∙ c.self.view_is)

pub starts_before-last-requires : goal.starts_before-last-requires
starts_before-last-requires c = rising_now _ _ _ _ _ _ c.requires (c.as_slice-2.ensures.value ∙ c.self.view_is)

pub returns-then-first-len-clause-ok : goal.returns-then-first-len-clause-ok
returns-then-first-len-clause-ok c =
    let small : length c.args.after.now < 2 ^ 64 = omega arith in
    let from = c.line_start-from.result in
    let found = heads_from from true (take (c.line_end-to.result - from) (drop from c.args.after.now)) in
    let held = c.self.inside.headings in
    let all = c.append.new.self in
    on_ok_weaker {P = all ≡ c.args.self.now ++ found} {Q = all ≡ headings_of c.args.after.now} c.append.result
    (λ is. appended_now _ _ _ _ _ _ _ _ _ _ _ c.requires small (c.line_start-from.ensures.within, c.line_start-from.ensures.begins) c.line_end-to.ensures.within c.line_end-to.ensures.ends
    (c.as_slice.ensures.value ∙ c.self.view_is) refl c.starts_before-first.ensures.count (c.if-first-len.true ∙ c.len.ensures ∙ held.ok.0 ∙ ap (λ (l : List Heading). length l) c.self.view_is) is) c.append.ensures.ok

-- what was put after no headings
behind_none : (all held found : List Heading) → all ≡ held ++ found → held ≡ [] → all ≡ found
behind_none all held found is none = is ∙ ap (λ hs. hs ++ found) none

pub replace-requires-clause-ordered : goal.replace-requires-clause-ordered
replace-requires-clause-ordered c =
    let small : length c.args.after.now < 2 ^ 64 = omega arith in
    let m = makes_now _ _ _ _ _ _ _ _ _ _ _ _ c.requires small (c.line_start-from.ensures.within, c.line_start-from.ensures.begins) c.line_end-to.ensures.within c.line_end-to.ensures.ends
    (c.as_slice.ensures.value ∙ c.self.view_is) (c.as_slice-2.ensures.value ∙ c.self.view_is) c.starts_before-first.ensures.count c.starts_before-last.ensures.count (behind_none _ _ _ c.in_ok-scan.ensures.ok c.new-fresh.ensures.items) in
    m.ordered

pub move_from-requires-clause-room : goal.move_from-requires-clause-room
move_from-requires-clause-room c =
    let small : length c.args.after.now < 2 ^ 64 = omega arith in
    let m = makes_now _ _ _ _ _ _ _ _ _ _ _ _ c.requires small (c.line_start-from.ensures.within, c.line_start-from.ensures.begins) c.line_end-to.ensures.within c.line_end-to.ensures.ends
    (c.as_slice.ensures.value ∙ c.self.view_is) (c.as_slice-2.ensures.value ∙ c.self.view_is) c.starts_before-first.ensures.count c.starts_before-last.ensures.count (behind_none _ _ _ c.in_ok-scan.ensures.ok c.new-fresh.ensures.items) in
    can_move_now _ _ _ _ _ _ _ _ _ _ m (c.len-2.ensures ∙ c.scan.new.headings.ok.0) c.in_ok-replace.ensures.ok

pub returns-clause-ok : goal.returns-clause-ok
returns-clause-ok c =
    let small : length c.args.after.now < 2 ^ 64 = omega arith in
    let m = makes_now _ _ _ _ _ _ _ _ _ _ _ _ c.requires small (c.line_start-from.ensures.within, c.line_start-from.ensures.begins) c.line_end-to.ensures.within c.line_end-to.ensures.ends
    (c.as_slice.ensures.value ∙ c.self.view_is) (c.as_slice-2.ensures.value ∙ c.self.view_is) c.starts_before-first.ensures.count c.starts_before-last.ensures.count (behind_none _ _ _ c.in_ok-scan.ensures.ok c.new-fresh.ensures.items) in
    edited_now _ _ _ _ _ _ _ _ _ _ _ m (c.len-2.ensures ∙ c.scan.new.headings.ok.0) c.in_ok-replace.ensures.ok c.move_from.ensures

pub overflow_add-at : goal.overflow_add-at
overflow_add-at c = omega arith

pub slice_bounds-lines-count : goal.slice_bounds-lines-count
slice_bounds-lines-count c = omega arith

pub overflow_sub-to : goal.overflow_sub-to
overflow_sub-to c = omega arith

pub overflow_add-behind : goal.overflow_add-behind
overflow_add-behind c = omega arith

-- what is so whatever a call answered is so where it failed
on_err : {P : Type 0} (r : Result (Unit {0}) AllocError) → P → OnErr r P
on_err (Ok _) so = tt
on_err (Err _) so = so

-- headings that were put in leave room for all that stand before and among them
cut_within : (held fresh all : List Heading) (first last count : ℕ) → first ≤ length held → count ≡ length fresh → all ≡ take first held ++ (fresh ++ drop last held) → first + count ≤ length all
cut_within held fresh all first last count low size is =
    let behind = length-append fresh (drop last held) in
    omega (arith, low, size, ap (λ (l : List Heading). length l) is, length-append (take first held) (fresh ++ drop last held), behind, length-take first held)

pub returns-then-first-len-clause-err : goal.returns-then-first-len-clause-err
returns-then-first-len-clause-err c = c.append.ensures.err

pub returns-in_err-scan-clause-err : goal.returns-in_err-scan-clause-err
returns-in_err-scan-clause-err c = on_err c.from_residual.result refl

pub returns-in_err-replace-clause-err : goal.returns-in_err-replace-clause-err
returns-in_err-replace-clause-err c = on_err c.from_residual-in_err-replace.result c.in_err-replace.ensures.err

pub move_from-requires-clause-within : goal.move_from-requires-clause-within
move_from-requires-clause-within c =
    let held = c.args.self.now in
    let low : c.starts_before-first.result ≤ length held = subst (λ (hs : List Heading). c.starts_before-first.result ≤ length hs) (c.as_slice.ensures.value ∙ c.self.view_is) c.starts_before-first.ensures.within in
    cut_within held _ _ _ _ _ low (c.len-2.ensures ∙ c.scan.new.headings.ok.0) c.in_ok-replace.ensures.ok

pub replace-requires-clause-within : goal.replace-requires-clause-within
replace-requires-clause-within c =
    subst (λ (hs : List Heading). c.starts_before-last.result ≤ length hs) (c.as_slice-2.ensures.value ∙ c.self.view_is) c.starts_before-last.ensures.within
