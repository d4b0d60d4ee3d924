-- A pass over the rows of a table, and the report as they tell it.
use Rattle.std.proofs.Common.{◌≡◌, ℕ, ◌+◌, ◌<◌, ◌≤◌, List, [], ◌∷◌, ◌++◌, true, refl, length, take, drop, get_or, Some, sym, ap, subst, ◌∙◌, arith, inl, inr}
use Rattle.std.specs.Prelude.{◌⊎◌, slice_get}
use Rattle.std.specs.Str.{bytes_eq}
use Rattle.std.proofs.lemmas.Bool.{cases_eq}
use Rattle.std.proofs.lemmas.Option.{same_Some, slice_get_within, slice_get-get_or}
use Rattle.std.proofs.lemmas.List.{take-append-drop, drop_more, drop_all}
use Rattle.std.proofs.lemmas.Slice.Eq.{bytes_eq-Decides}
use Rattle.org_account.specs.declared.table.Row.{Row}
use Rattle.org_account.specs.Table.{report_of}
use Rattle.org_account.specs.Account.{EachRow}

below_or : (j k : ℕ) → j < k + 1 → (j < k) ⊎ (j ≡ k)
below_or j k lt = elim (cases_eq j k) [ inl same ↦ inr same | inr other ↦ inl (omega (arith, other)) ]

-- one row more, whichever it is
pub each_next : (P : ℕ → Row → Type 0) (table : List Row) (k : ℕ) → ((row : Row) → slice_get table k ≡ Some row → P k row)
    → ((j : ℕ) (row : Row) → j < k → slice_get table j ≡ Some row → P j row)
    → (j : ℕ) (row : Row) → j < k + 1 → slice_get table j ≡ Some row → P j row
each_next P table k here before j row lt at = elim (below_or j k lt) [
  | inl less ↦ before j row less at
  | inr same ↦ subst (λ (n : ℕ). P n row) (sym same) (here row (ap (slice_get table) (sym same) ∙ at))
]

-- one row more
pub each_more : (P : ℕ → Row → Type 0) (table : List Row) (k : ℕ) (d : Row) → k < length table → P k (get_or table k d)
    → ((j : ℕ) (row : Row) → j < k → slice_get table j ≡ Some row → P j row)
    → (j : ℕ) (row : Row) → j < k + 1 → slice_get table j ≡ Some row → P j row
each_more P table k d within here before j row lt at = elim (below_or j k lt) [
  | inl less ↦ before j row less at
  | inr same ↦ let is : get_or table k d ≡ row = same_Some (get_or table k d) row (sym (slice_get-get_or table k d within) ∙ ap (slice_get table) (sym same) ∙ at) in
      subst (λ (n : ℕ). P n row) (sym same) (subst (λ (r : Row). P k r) is here)
]

pub each_all : (P : ℕ → Row → Type 0) (table : List Row) (k : ℕ) → length table ≤ k
    → ((j : ℕ) (row : Row) → j < k → slice_get table j ≡ Some row → P j row) → EachRow table P
each_all P table k long all j row at = all j row (omega (arith, slice_get_within table j row at, long)) at

-- the report goes on with what a row tells
pub report_more : (table : List Row) (k : ℕ) (d : Row) (rest more : List ℕ) → k < length table
    → bytes_eq (take (length (get_or table k d).told.now) rest) (get_or table k d).told.now ≡ true → more ≡ drop (length (get_or table k d).told.now) rest
    → more ≡ report_of (drop (k + 1) table) → rest ≡ report_of (drop k table)
report_more table k d rest more within same is told =
    let row : Row = get_or table k d in
    sym (take-append-drop (length row.told.now) rest)
    ∙ ap (λ x. x ++ drop (length row.told.now) rest) ((bytes_eq-Decides (take (length row.told.now) rest) row.told.now).0 same)
    ∙ ap (λ x. row.told.now ++ x) (sym is ∙ told)
    ∙ sym (ap report_of (drop_more table k d within))

pub report_end : (table : List Row) (k : ℕ) (rest : List ℕ) → length table ≤ k → length rest ≡ 0 → rest ≡ report_of (drop k table)
report_end table k rest long empty = none rest empty ∙ sym (ap report_of (drop_all k table long))
  where
    none : (rest : List ℕ) → length rest ≡ 0 → rest ≡ []
    none [] e = refl
    none (b ∷ bs) e = absurd (omega arith)
