use Rattle.std.proofs.Common.{◌≡◌, [], ℕ, List, subst}
use Rattle.org_splice.specs.declared.edit.Edit.{Edit}
use Rattle.org_texts.specs.Plan.{with_edits}
use Rattle.org_commands.specs.Noted.{AreKnown, Lowers}
use Rattle.org_commands.proofs.Noted.{forgotten, plan_of_both, plan_of_first, stays_lowered}
use Rattle.org_commands.proofs.notes.Notes.forget_plan.Goals as goal

pub returns-in_default-clause-stays : goal.returns-in_default-clause-stays
returns-in_default-clause-stays c = stays_lowered c.args.names.now c.name.result.now 0 [] c.args.self.now c.forget.new.self (c.forget.ensures 0 [])

pub returns-in-Some-clause-stays : goal.returns-in-Some-clause-stays
returns-in-Some-clause-stays c set are =
    stays_lowered c.args.names.now c.name-in-Some.result.now 0 [] c.forget.new.self c.forget-in-Some.new.self (c.forget-in-Some.ensures 0 []) set
    (stays_lowered c.args.names.now c.name.result.now 0 [] c.args.self.now c.forget.new.self (c.forget.ensures 0 []) set are)

pub returns-in_default-clause-follows : goal.returns-in_default-clause-follows
returns-in_default-clause-follows c set are =
    let plan = c.args.plan.now in
    let names = c.args.names.now in
    let file : c.name.result.now ≡ plan.first.file = c.name.ensures in
    let lowers = λ (size : ℕ) (edits : List Edit). subst (λ (n : List ℕ). Lowers names n size edits c.args.self.now c.forget.new.self) file (c.forget.ensures size edits) in
    subst (AreKnown names c.forget.new.self) (plan_of_first plan c.in_default.is set) (forgotten names plan.first c.args.self.now c.forget.new.self set lowers are)

pub returns-in-Some-clause-follows : goal.returns-in-Some-clause-follows
returns-in-Some-clause-follows c set are =
    let plan = c.args.plan.now in
    let names = c.args.names.now in
    let change = c.in-Some.change in
    let mid = c.forget.new.self in
    let new = c.forget-in-Some.new.self in
    let file : c.name.result.now ≡ plan.first.file = c.name.ensures in
    let second : c.name-in-Some.result.now ≡ change.file = c.name-in-Some.ensures in
    let lowers = λ (size : ℕ) (edits : List Edit). subst (λ (n : List ℕ). Lowers names n size edits c.args.self.now mid) file (c.forget.ensures size edits) in
    let more = λ (size : ℕ) (edits : List Edit). subst (λ (n : List ℕ). Lowers names n size edits mid new) second (c.forget-in-Some.ensures size edits) in
    subst (AreKnown names new) (plan_of_both plan change c.in-Some.is set)
    (forgotten names change mid new (with_edits plan.first set) more (forgotten names plan.first c.args.self.now mid set lowers are))
