use Rattle.std.proofs.Common.{◌≡◌, ◌∙◌, inr, ap, sym, ℕ, List, true, false, None, Some, Bor, codes}
use Rattle.std.specs.Prelude.{option_map, unwrap_or}
use Rattle.org_program.specs.Words.{group_in, whole_in}
use Rattle.org_program.proofs.Words.{first_given, read_or, is_whole_given, both_given, is_size_given, no_size_given}
use Rattle.org_program.proofs.arguments.group.Goals as goal

pub returns-in-None-clause-group : goal.returns-in-None-clause-group
returns-in-None-clause-group c = λ words rows.
    let first = first_given words c.args.matches.now rows in
    let whole : whole_in words ≡ true = sym (c.is_set.ensures words rows) ∙ c.if-is_set.true in
    let text : group_in words ≡ None = sym (c.get_str-text.ensures ∙ first _) ∙ ap (option_map (λ (r : Bor (List ℕ)). r.now)) c.in-None.is in
    is_whole_given (whole_in words) (group_in words) whole text

pub returns-in_ok-error-in-Some-clause-fault : goal.returns-in_ok-error-in-Some-clause-fault
returns-in_ok-error-in-Some-clause-fault c = inr (λ words rows taken.
    let first = first_given words c.args.matches.now rows in
    let whole : whole_in words ≡ true = sym (c.is_set.ensures words rows) ∙ c.if-is_set.true in
    let text : group_in words ≡ Some c.in-Some.field-0.now = sym (c.get_str-text.ensures ∙ first _) ∙ ap (option_map (λ (r : Bor (List ℕ)). r.now)) c.in-Some.is in
    both_given (whole_in words) (group_in words) c.in-Some.field-0.now whole text taken)

pub returns-in-Some-size_of-clause-group : goal.returns-in-Some-size_of-clause-group
returns-in-Some-size_of-clause-group c = λ words rows.
    let first = first_given words c.args.matches.now rows in
    let whole : whole_in words ≡ false = sym (c.is_set.ensures words rows) ∙ c.if-is_set.false in
    let text : c.unwrap_or.result.now ≡ unwrap_or (group_in words) (codes "1") =
    ap (λ (r : Bor (List ℕ)). r.now) c.unwrap_or.ensures ∙ read_or (λ (r : Bor (List ℕ)). r.now) c.get_str-text.result _ _ (c.get_str-text.ensures ∙ first _) in
    is_size_given (whole_in words) (group_in words) c.unwrap_or.result.now c.in-Some-size_of.size whole text c.in-Some-size_of.ensures.0 c.in-Some-size_of.ensures.1

pub returns-in_ok-error-in-None-size_of-clause-fault : goal.returns-in_ok-error-in-None-size_of-clause-fault
returns-in_ok-error-in-None-size_of-clause-fault c = inr (λ words rows taken.
    let first = first_given words c.args.matches.now rows in
    let whole : whole_in words ≡ false = sym (c.is_set.ensures words rows) ∙ c.if-is_set.false in
    let text : c.unwrap_or.result.now ≡ unwrap_or (group_in words) (codes "1") =
    ap (λ (r : Bor (List ℕ)). r.now) c.unwrap_or.ensures ∙ read_or (λ (r : Bor (List ℕ)). r.now) c.get_str-text.result _ _ (c.get_str-text.ensures ∙ first _) in
    no_size_given (whole_in words) (group_in words) c.unwrap_or.result.now whole text c.in-None-size_of.ensures taken)
