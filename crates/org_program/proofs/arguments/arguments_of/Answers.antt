use Rattle.std.proofs.Common.{◌≡◌, ◌∙◌, ap, ℕ, List, map, Bor}
use Rattle.org_program.specs.Words.{folder_in, new_in, only_in, todo_in, done_in}
use Rattle.org_program.proofs.Words.{first_given, all_given, read_or}
use Rattle.org_program.proofs.arguments.arguments_of.Goals as goal

pub returns-clause-said : goal.returns-clause-said
returns-clause-said c words rows none =
    let first = first_given words c.args.matches.now rows in
    let group = c.in_ok-group.ensures.group words rows in
    let recovery = c.in_ok-recovery.ensures.recovery words rows in
    let folder_is : c.unwrap_or.result.now ≡ folder_in words =
    ap (λ (r : Bor (List ℕ)). r.now) c.unwrap_or.ensures ∙ read_or (λ (r : Bor (List ℕ)). r.now) c.get_str.result _ _ (c.get_str.ensures ∙ first _) in
    let new_is : map (λ word. word.now) c.unwrap_or-2.result.now ≡ new_in words =
    ap (λ (r : Bor (List (Bor (List ℕ)))). map (λ word. word.now) r.now) c.unwrap_or-2.ensures
    ∙ read_or (λ (r : Bor (List (Bor (List ℕ)))). map (λ word. word.now) r.now) c.get_strs.result _ _
    (c.get_strs.ensures ∙ all_given words c.args.matches.now rows _) in
    let only_is : map (λ word. word.now) c.unwrap_or-3.result.now ≡ only_in words =
    ap (λ (r : Bor (List (Bor (List ℕ)))). map (λ word. word.now) r.now) c.unwrap_or-3.ensures
    ∙ read_or (λ (r : Bor (List (Bor (List ℕ)))). map (λ word. word.now) r.now) c.get_strs-2.result _ _
    (c.get_strs-2.ensures ∙ all_given words c.args.matches.now rows _) in
    let todo_is : c.unwrap_or-4.result.now ≡ todo_in words =
    ap (λ (r : Bor (List ℕ)). r.now) c.unwrap_or-4.ensures ∙ read_or (λ (r : Bor (List ℕ)). r.now) c.get_str-2.result _ _ (c.get_str-2.ensures ∙ first _) in
    let done_is : c.unwrap_or-5.result.now ≡ done_in words =
    ap (λ (r : Bor (List ℕ)). r.now) c.unwrap_or-5.ensures ∙ read_or (λ (r : Bor (List ℕ)). r.now) c.get_str-3.result _ _ (c.get_str-3.ensures ∙ first _) in
    record {
      taken = (none, group.0, recovery.0);
      folder = c.in_ok-from_str.ensures.ok ∙ folder_is;
      new = c.in_ok-owned.ensures ∙ new_is;
      only = c.in_ok-owned-2.ensures ∙ only_is;
      todo = c.in_ok-from_str-2.ensures.ok ∙ todo_is;
      done = c.in_ok-from_str-3.ensures.ok ∙ done_is;
      group = group.1;
      recovery = recovery.1;
    }
