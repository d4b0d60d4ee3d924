use Rattle.std.proofs.Common.{◌≡◌, ◌≢◌, ℕ, ◌≤◌, List, length, true, sym, ◌∙◌, subst, arith}
use Rattle.std.specs.Option.{ForSome}
use Rattle.std.specs.Str.{bytes_eq}
use Rattle.std.proofs.lemmas.Bool.{false≢true}
use Rattle.org_disk.proofs.Names.{same_name}
use Rattle.org_splice.specs.Texts.{EditedText}
use Rattle.org_texts.specs.Texts.{text_of}
use Rattle.org_commands.specs.Noted.{AreKnown, Lowers}
use Rattle.org_commands.proofs.Noted.{first_lowered, plan_of_first, second_lowered}
use Rattle.org_commands.proofs.notes.Notes.lower_plan.Goals as goal
use Rattle.org_commands.proofs.notes.Notes.lower_plan.Goals.{then-eq, else-eq}

pub returns-in_default-clause-follows : goal.returns-in_default-clause-follows
returns-in_default-clause-follows c are =
    let plan = c.args.plan.now in
    let held = c.args.texts.now.now in
    let of_lines = c.requires.lines c.if-not-plan.false in
    let names = c.args.names.now in
    let new = c.lower.new.self in
    let file : c.name-first.result.now ≡ plan.first.file = c.name-first.ensures in
    let lowers = subst (λ (n : List ℕ). Lowers names n c.size_of.result plan.first.edits.items c.args.self.now new) file c.lower.ensures in
    let long = subst (λ (n : List ℕ). ForSome (text_of held n) (λ (text : EditedText). c.size_of.result ≤ length text.bytes)) file c.size_of.ensures in
    subst (AreKnown names new) (plan_of_first plan c.in_default.is held)
    (first_lowered plan names c.size_of.result c.args.self.now new held of_lines lowers long are)

pub returns-then-not-plan-clause-follows : goal.returns-then-not-plan-clause-follows
returns-then-not-plan-clause-follows c are = c.forget_plan.ensures.follows c.args.texts.now.now are

pub returns-after-eq-clause-follows : goal.returns-after-eq-clause-follows
returns-after-eq-clause-follows c are =
    let plan = c.args.plan.now in
    let change = c.in-Some.change in
    let held = c.args.texts.now.now in
    let of_lines = c.requires.lines c.if-not-plan.false in
    let names = c.args.names.now in
    let mid = c.lower.new.self in
    let new = c.lower-in-Some.new.self in
    let size : ℕ = c.if-eq.size in
    let file : c.name-first.result.now ≡ plan.first.file = c.name-first.ensures in
    let second : c.name-second.result.now ≡ change.file = c.name-second.ensures in
    let lowers = subst (λ (n : List ℕ). Lowers names n c.size_of.result plan.first.edits.items c.args.self.now mid) file c.lower.ensures in
    let long = subst (λ (n : List ℕ). ForSome (text_of held n) (λ (text : EditedText). c.size_of.result ≤ length text.bytes)) file c.size_of.ensures in
    let lowers_more = subst (λ (n : List ℕ). Lowers names n size change.edits.items mid new) second c.lower-in-Some.ensures in
    let same_file : plan.first.file ≡ change.file → size ≡ 0 = λ same. elim c.if-eq.branch [
      | then-eq w ↦ w.size-is
      | else-eq w ↦
          let one : c.name-second.result.now ≡ c.name-first.result.now = second ∙ sym same ∙ sym file in
          let yes : bytes_eq c.name-second.result.now c.name-first.result.now ≡ true = subst (λ (n : List ℕ). bytes_eq c.name-second.result.now n ≡ true) one (same_name c.name-second.result.now) in
          absurd (false≢true (sym w.if-eq.false ∙ c.eq.ensures ∙ yes))
    ] in
    let other_file : plan.first.file ≢ change.file → ForSome (text_of held change.file) (λ (text : EditedText). size ≤ length text.bytes) = λ apart text at. elim c.if-eq.branch [
      | then-eq w ↦ let none : size ≡ 0 = w.size-is in omega (arith, none)
      | else-eq w ↦
          let is : size ≡ w.size_of-size.result = w.size-is in
          let there = subst (λ (n : List ℕ). ForSome (text_of held n) (λ (text : EditedText). w.size_of-size.result ≤ length text.bytes)) second w.size_of-size.ensures in
          omega (arith, is, there text at)
    ] in
    second_lowered plan change names size mid new held of_lines c.in-Some.is lowers_more same_file other_file
    (first_lowered plan names c.size_of.result c.args.self.now mid held of_lines lowers long are)
