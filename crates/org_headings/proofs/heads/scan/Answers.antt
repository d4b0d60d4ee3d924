use Rattle.std.proofs.Common.{◌≡◌, ◌∙◌, ◌++◌, Bool, true, false, take, ap, sym, arith, refl}
use Rattle.std.specs.Prelude.{OnOk, OnErr, Result, Ok, Err}
use Rattle.std.specs.Result.{is_err}
use Rattle.std.proofs.lemmas.List.{take_at}
use Rattle.std.specs.declared.alloc.AllocError.{AllocError}
use Rattle.org_headings.proofs.HeadsFrom.{onto_more, scanned_heading, scanned_other, scanned_all, run_room}
use Rattle.org_headings.proofs.heads.scan.Goals as goal
use Rattle.org_headings.proofs.heads.scan.Goals.{else-is_line_start-via-then-is_line_start+else-has_space, else-is_line_start-via-else-is_line_start}

-- what is so after a call that didn't fail
ok_is : {P : Type 0} (r : Result (Unit {0}) AllocError) (failed : Bool) → OnOk r P → failed ≡ is_err r → failed ≡ false → P
ok_is (Ok _) failed so is none = so
ok_is (Err _) failed so is none = absurd cc

err_is : {P : Type 0} (r : Result (Unit {0}) AllocError) (failed : Bool) → OnErr r P → failed ≡ is_err r → failed ≡ true → P
err_is (Ok _) failed so is failing = absurd cc
err_is (Err _) failed so is failing = so

pub overflow_add-from : goal.overflow_add-from
overflow_add-from c =
    let room = run_room _ _ _ _ _ c.loop-skipped.invariant.scanned.within (record { first = c.memchr.ensures }) c.in-Some.is c.star_count-level.ensures in
    omega (arith, room)

pub loop-skipped-preserved-then-has_space : goal.loop-skipped-preserved-then-has_space
loop-skipped-preserved-then-has_space c =
    let i = c.loop-skipped.invariant in
    let pushed = ok_is c.push.result _ c.push.ensures.ok c.is_err.ensures.value c.if-is_err.false in
    onto_more _ _ _ _ _ _ _ _ i pushed
    (scanned_heading _ _ _ _ _ _ _ _ _ _ i.scanned (record { first = c.memchr.ensures }) c.in-Some.is c.star_count-level.ensures c.is_line_start.ensures c.has_space.ensures c.if-is_line_start.true c.if-has_space.true c.split_at.ensures.back)

pub loop-skipped-preserved : goal.loop-skipped-preserved
loop-skipped-preserved c =
    let i = c.loop-skipped.invariant in
    elim c.else-is_line_start.branch [
      | else-is_line_start-via-then-is_line_start+else-has_space w ↦ record {
        found = i.found;
        behind = i.behind;
        scanned = scanned_other _ _ _ _ _ _ _ _ _ i.scanned (record { first = c.memchr.ensures }) c.in-Some.is c.star_count-level.ensures c.is_line_start.ensures w.has_space.ensures
            (rw (w.if-is_line_start.true, w.if-has_space.false) refl);
      }
      | else-is_line_start-via-else-is_line_start w ↦ record {
        found = i.found;
        behind = i.behind;
        scanned = scanned_other _ _ _ _ _ _ _ _ _ i.scanned (record { first = c.memchr.ensures }) c.in-Some.is c.star_count-level.ensures c.is_line_start.ensures refl
            (rw w.if-is_line_start.false refl);
      }
    ]

pub returns-clause-ok : goal.returns-clause-ok
returns-clause-ok c =
    let i = c.loop-skipped.invariant in
    i.behind ∙ ap (λ hs. c.args.headings.now.items ++ hs) (scanned_all _ _ _ _ _ i.scanned (record { first = c.memchr.ensures }) c.in_default.is)

pub returns-then-is_err-clause-err : goal.returns-then-is_err-clause-err
returns-then-is_err-clause-err c =
    let held = c.args.headings.now in
    let i = c.loop-skipped.invariant in
    c.truncate.ensures.items ∙ ap (take c.len-count.result) (err_is c.push.result _ c.push.ensures.err c.is_err.ensures.value c.if-is_err.true ∙ i.behind)
    ∙ take_at held.items i.found c.len-count.result (sym (c.len-count.ensures ∙ held.ok.0))
