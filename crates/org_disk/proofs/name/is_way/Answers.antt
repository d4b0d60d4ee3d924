use Rattle.std.proofs.Common.{◌≡◌, ◌≤◌, ◌+◌, ◌&&◌, true, false, sym, ap, ◌∙◌, take, drop, get_or, arith}
use Rattle.std.proofs.lemmas.List.{take_rest}
use Rattle.org_disk.specs.Names.{is_slash, is_part, is_folder_part, ends_in_org}
use Rattle.org_disk.proofs.Parts.{way_after, no_way_after, no_slash_at, last_way, between}
use Rattle.org_disk.proofs.name.is_way.Goals as goal

pub returns-then-not-is_folder_part : goal.returns-then-not-is_folder_part
returns-then-not-is_folder_part c =
    let before = c.loop-at.invariant in
    let slash : is_slash (get_or c.args.name.now c.loop-at.at 0) ≡ true = sym c.is_slash.ensures ∙ c.if-not-is_slash.false in
    let bad : is_folder_part (drop c.loop-at.start (take c.loop-at.at c.args.name.now)) ≡ false = sym (ap is_folder_part (between c.args.name.now c.loop-at.start c.loop-at.at before.0)) ∙ sym c.is_folder_part.ensures ∙ c.if-not-is_folder_part.true in
    sym (no_way_after c.args.name.now c.loop-at.start c.loop-at.at before.0 c.loop-at-test.true before.1 slash bad) ∙ before.2

pub loop-at-preserved : goal.loop-at-preserved
loop-at-preserved c =
    let before = c.loop-at.invariant in
    let slash : is_slash (get_or c.args.name.now c.loop-at.at 0) ≡ true = sym c.is_slash.ensures ∙ c.if-not-is_slash.false in
    let good : is_folder_part (drop c.loop-at.start (take c.loop-at.at c.args.name.now)) ≡ true = sym (ap is_folder_part (between c.args.name.now c.loop-at.start c.loop-at.at before.0)) ∙ sym c.is_folder_part.ensures ∙ c.if-not-is_folder_part.false in (
      omega arith,
      no_slash_at c.args.name.now (c.loop-at.at + 1) (omega (arith, c.loop-at-test.true)),
      sym (way_after c.args.name.now c.loop-at.start c.loop-at.at before.0 c.loop-at-test.true before.1 slash good) ∙ before.2,
    )

pub returns-then-is_part : goal.returns-then-is_part
returns-then-is_part c =
    let before = c.loop-at.invariant in
    let file = drop c.loop-at.start c.args.name.now in
    let part : is_part file ≡ true = sym (ap is_part (take_rest c.args.name.now c.loop-at.start)) ∙ sym c.is_part.ensures ∙ c.if-is_part.true in
    c.ends_in_org.ensures
    ∙ ap ends_in_org (take_rest c.args.name.now c.loop-at.start)
    ∙ sym (ap (λ b. b && ends_in_org file) part)
    ∙ sym (last_way c.args.name.now c.loop-at.start c.loop-at.at (omega (arith, c.loop-at-test.false)) before.1)
    ∙ before.2

pub returns-else-is_part : goal.returns-else-is_part
returns-else-is_part c =
    let before = c.loop-at.invariant in
    let file = drop c.loop-at.start c.args.name.now in
    let part : is_part file ≡ false = sym (ap is_part (take_rest c.args.name.now c.loop-at.start)) ∙ sym c.is_part.ensures ∙ c.if-is_part.false in
    c.if-is_part.false
    ∙ sym (ap (λ b. b && ends_in_org file) part)
    ∙ sym (last_way c.args.name.now c.loop-at.start c.loop-at.at (omega (arith, c.loop-at-test.false)) before.1)
    ∙ before.2
