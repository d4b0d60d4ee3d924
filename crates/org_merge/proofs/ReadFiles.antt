-- Files as they are read, and the account of a merge over them.
use Rattle.std.proofs.Common.{◌≡◌, ℕ, List, [], ◌∷◌, ◌++◌, append_assoc, map, subst, sym, ap, ◌∙◌}
use Rattle.org_splice.specs.Lines.{lines_of, print_lines, terminated}
use Rattle.org_splice.proofs.Lines.{terminated-print_lines}
use Rattle.org_outline.specs.States.{Keywords}
use Rattle.org_account.specs.declared.table.Row.{Row}
use Rattle.org_account.specs.Units.{File}
use Rattle.org_account.specs.Account.{IsAccountOf}
use Rattle.org_merge.specs.declared.file.Source.{Source}
use Rattle.org_merge.specs.Reading.{bare, as_read}
use Rattle.org_merge.specs.Merge.{read_source, IsAccounted}

-- one more line of a text
pub bare_more : (out new left rest line whole : List ℕ) → lines_of left ≡ line ∷ lines_of rest → new ≡ out ++ (bare line ++ 10 ∷ []) → out ++ print_lines (map bare (lines_of left)) ≡ whole → new ++ print_lines (map bare (lines_of rest)) ≡ whole
bare_more out new left rest line whole e made was =
    let more : List ℕ = print_lines (map bare (lines_of rest)) in
    ap (λ (x : List ℕ). x ++ more) made
    ∙ append_assoc out (bare line ++ 10 ∷ []) more
    ∙ ap (λ (x : List ℕ). out ++ x) (append_assoc (bare line) (10 ∷ []) more)
    ∙ sym (ap (λ (ls : List (List ℕ)). out ++ print_lines (map bare ls)) e)
    ∙ was

pub bare_whole : (out text : List ℕ) → out ≡ as_read text → terminated out ≡ out
bare_whole out text e =
    let P : List ℕ → Type 0 = λ x. terminated x ≡ x in
    subst P (sym e) (terminated-print_lines (map bare (lines_of text)))

-- an account of the same files
pub account_of_same : (states : Keywords) (rows : List Row) (report : List ℕ) (b o t m b2 o2 t2 m2 : List File) → b ≡ b2 → o ≡ o2 → t ≡ t2 → m ≡ m2 → IsAccountOf states rows report b o t m → IsAccountOf states rows report b2 o2 t2 m2
account_of_same states rows report b o t m b2 o2 t2 m2 eb eo et em h =
    let P1 : List File → Type 0 = λ x. IsAccountOf states rows report x o t m in
    let P2 : List File → Type 0 = λ x. IsAccountOf states rows report b2 x t m in
    let P3 : List File → Type 0 = λ x. IsAccountOf states rows report b2 o2 x m in
    let P4 : List File → Type 0 = λ x. IsAccountOf states rows report b2 o2 t2 x in
    subst P4 em (subst P3 et (subst P2 eo (subst P1 eb h)))

pub accounted_by : (states : Keywords) (rows : List Row) (report : List ℕ) (b o t m : List File) (base ours theirs : List Source) (merged : List File) → b ≡ map read_source base → o ≡ map read_source ours → t ≡ map read_source theirs → m ≡ merged → IsAccountOf states rows report b o t m → IsAccounted states base ours theirs merged report
accounted_by states rows report b o t m base ours theirs merged eb eo et em h =
    (rows, account_of_same states rows report b o t m _ _ _ _ eb eo et em h)

-- the same result and the same report
pub accounted_same : (states : Keywords) (base ours theirs : List Source) (m m2 : List File) (report report2 : List ℕ) → m ≡ m2 → report ≡ report2 → IsAccounted states base ours theirs m report → IsAccounted states base ours theirs m2 report2
accounted_same states base ours theirs m m2 report report2 em er h =
    let P1 : List File → Type 0 = λ x. IsAccounted states base ours theirs x report in
    let P2 : List ℕ → Type 0 = λ x. IsAccounted states base ours theirs m2 x in
    subst P2 er (subst P1 em h)
