-- The rows of units, as they are filled in.
use Rattle.std.proofs.Common.{◌≡◌, ℕ, ◌+◌, ◌<◌, ◌≤◌, List, length, get_or, Option, None, Some, sym, ap, ◌∙◌, arith, inl, inr}
use Rattle.std.specs.Prelude.{◌≢◌, ◌⊎◌, slice_get}
use Rattle.std.proofs.Math.ListN.{set}
use Rattle.std.proofs.lemmas.Bool.{cases_eq}
use Rattle.std.proofs.lemmas.Option.{same_Some, none-some, slice_get_within, slice_get-get_or}
use Rattle.std.proofs.lemmas.List.{get_or-set_same, get_or-set_other}
use Rattle.org_account.specs.declared.table.Row.{Row}
use Rattle.org_account.specs.declared.table.Folder.{Folder}
use Rattle.org_account.specs.Table.{AreRowsOf, AreFilled, named}

below_or : (j k : ℕ) → j < k + 1 → (j < k) ⊎ (j ≡ k)
below_or j k lt = elim (cases_eq j k) [ inl same ↦ inr same | inr other ↦ inl (omega (arith, other)) ]

module _ (folder : Folder) (table : List Row) (count : ℕ) where
  -- before the first
  pub filled_none : (rows : List ℕ) → ((i : ℕ) → i < count → get_or rows i 0 ≡ length table) → AreFilled folder table count 0 rows
  filled_none rows empty = record {
    below = λ i lt there. absurd (omega (arith, empty i lt, there));
    only = λ j i row lt at names. absurd (omega arith);
  }

  same_row : (j k : ℕ) (row other : Row) → j ≡ k → slice_get table k ≡ Some row → slice_get table j ≡ Some other → row ≡ other
  same_row j k row other same is at = same_Some row other (sym is ∙ ap (slice_get table) (sym same) ∙ at)

  -- a row that names none
  pub filled_over : (k : ℕ) (rows : List ℕ) (row : Row) → slice_get table k ≡ Some row → named folder row ≡ None → AreFilled folder table count k rows → AreFilled folder table count (k + 1) rows
  filled_over k rows row is nothing f = record {
    below = λ i lt there. let b = f.below i lt there in let less : get_or rows i 0 < k = b.0 in (omega arith, b.1);
    only = λ j i other lt at names. elim (below_or j k lt) [
      | inl less ↦ f.only j i other less at names
      | inr same ↦ absurd (none-some i (sym nothing ∙ ap (named folder) (same_row j k row other same is at) ∙ names))
    ];
  }

  -- a row that names a unit that had none
  pub filled_more : (k u : ℕ) (rows : List ℕ) (row : Row) → slice_get table k ≡ Some row → named folder row ≡ Some u → length rows ≡ count → u < count → length table ≤ get_or rows u 0
      → AreFilled folder table count k rows → AreFilled folder table count (k + 1) (set rows u k)
  filled_more k u rows row is names_u long within fresh f =
      let room : u < length rows = omega arith in
      let here : get_or (set rows u k) u 0 ≡ k = get_or-set_same rows u k 0 room in
      let in_table : k < length table = slice_get_within table k row is in
      record {
        below = λ i lt there. elim (cases_eq i u) [
          | inl same ↦ let at_k : get_or (set rows u k) i 0 ≡ k = ap (λ n. get_or (set rows u k) n 0) same ∙ here in
              (omega arith, (row, ap (slice_get table) at_k ∙ is, names_u ∙ ap Some (sym same)))
          | inr other ↦ let kept : get_or (set rows u k) i 0 ≡ get_or rows i 0 = get_or-set_other rows u i k 0 other in
              let b = f.below i lt (omega (arith, kept, there)) in
              let less : get_or rows i 0 < k = b.0 in
              (omega arith, (b.1.0, ap (slice_get table) kept ∙ b.1.1, b.1.2))
        ];
        only = λ j i other lt at names. elim (below_or j k lt) [
          | inl less ↦ let o = f.only j i other less at names in
              let was : get_or rows i 0 ≡ j = o.1 in
              let differs : i ≢ u = λ same. let e : get_or rows i 0 ≡ get_or rows u 0 = ap (λ n. get_or rows n 0) same in omega arith in
              (o.0, get_or-set_other rows u i k 0 differs ∙ was)
          | inr same ↦ let unit : u ≡ i = same_Some u i (sym names_u ∙ ap (named folder) (same_row j k row other same is at) ∙ names) in
              (omega (arith, unit, within), ap (λ n. get_or (set rows u k) n 0) (sym unit) ∙ here ∙ sym same)
        ];
      }

  -- the same as the code says it
  pub row_over : (k : ℕ) (rows : List ℕ) (d : Row) (r : Option ℕ) → k < length table → r ≡ named folder (get_or table k d) → r ≡ None → AreFilled folder table count k rows → AreFilled folder table count (k + 1) rows
  row_over k rows d r lt e nothing f = filled_over k rows (get_or table k d) (slice_get-get_or table k d lt) (sym e ∙ nothing) f

  pub row_more : (k u : ℕ) (rows : List ℕ) (d : Row) (r : Option ℕ) → k < length table → r ≡ named folder (get_or table k d) → r ≡ Some u → length rows ≡ count → u < count → length table ≤ get_or rows u 0
      → AreFilled folder table count k rows → AreFilled folder table count (k + 1) (set rows u k)
  row_more k u rows d r lt e names long within fresh f = filled_more k u rows (get_or table k d) (slice_get-get_or table k d lt) (sym e ∙ names) long within fresh f

  -- all units have one
  pub rows_are : (rows : List ℕ) → length rows ≡ count → AreFilled folder table count (length table) rows → ((i : ℕ) → i < length rows → get_or rows i 0 < length table) → AreRowsOf folder table count rows
  rows_are rows long f there = record {
    all = long;
    each = λ i lt. (f.below i lt (there i (omega arith))).1;
    only = λ k i row at names. f.only k i row (slice_get_within table k row at) at names;
  }
