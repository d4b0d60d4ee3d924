-- A row that both sides have, and the tag CONFLICT.
use Rattle.std.proofs.Common.{◌≡◌, ℕ, ◌-◌, [], ◌∷◌, List, true, Option, None, Some, length, take, drop, refl, sym, ap, ◌∙◌, subst, inl, inr}
use Rattle.std.specs.Prelude.{nat_eq, IsTrue}
use Rattle.std.specs.List.{ends_with}
use Rattle.std.specs.Str.{bytes_eq}
use Rattle.org_outline.specs.States.{Keywords}
use Rattle.org_account.specs.Table.{Seen}
use Rattle.org_account.specs.Account.{IsMarked, IsMerged, IsRight, IsLined, IsWritten, MayUnite}
use Rattle.org_account.specs.Heading.{IsComposed}
use Rattle.org_account.specs.Text.{Changed, IsTaken, IsUnion}
use Rattle.org_account.proofs.EachLine.{ended_of}

-- the two marks, as the code finds them
pub marked_first : (l h : List ℕ) → bytes_eq (drop (length l - 11) l) (32 ∷ 58 ∷ 67 ∷ 79 ∷ 78 ∷ 70 ∷ 76 ∷ 73 ∷ 67 ∷ 84 ∷ 58 ∷ []) ≡ true → h ≡ take (length l - 11) l → IsMarked h l
marked_first l h same front = inl (ended_of l (32 ∷ 58 ∷ 67 ∷ 79 ∷ 78 ∷ 70 ∷ 76 ∷ 73 ∷ 67 ∷ 84 ∷ 58 ∷ []) h same front)

pub marked_more : (l h : List ℕ) → bytes_eq (drop (length l - 9) l) (67 ∷ 79 ∷ 78 ∷ 70 ∷ 76 ∷ 73 ∷ 67 ∷ 84 ∷ 58 ∷ []) ≡ true → h ≡ take (length l - 9) l → IsTrue (ends_with nat_eq h (58 ∷ [])) → IsMarked h l
marked_more l h same front tags = inr (tags, ended_of l (67 ∷ 79 ∷ 78 ∷ 70 ∷ 76 ∷ 73 ∷ 67 ∷ 84 ∷ 58 ∷ []) h same front)

-- a row that both sides have
pub right_of : (states : Keywords) (told : List ℕ) (b po pt pr : Option Seen) (o t r : Seen) → po ≡ Some o → pt ≡ Some t → pr ≡ Some r → IsMerged states told b o t r → IsRight states told b po pt pr
right_of states told b po pt pr o t r eo et er h =
    subst (λ (x : Option Seen). IsRight states told b x pt pr) (sym eo)
    (subst (λ (x : Option Seen). IsRight states told b (Some o) x pr) (sym et)
    (subst (λ (x : Option Seen). IsRight states told b (Some o) (Some t) x) (sym er) h))

-- the line of a unit, by the parts that the code takes out
pub lined_of : (told : List ℕ) (b : Option (List ℕ)) (o t r : Seen) (ol tl rl : List ℕ) → ol ≡ o.line → tl ≡ t.line → rl ≡ r.line
    → IsLined told b ol tl rl → IsLined told b o.line t.line r.line
lined_of told b o t r ol tl rl ol_is tl_is rl_is lined =
    subst (λ (x : List ℕ). IsLined told b x t.line r.line) ol_is
    (subst (λ (x : List ℕ). IsLined told b ol x r.line) tl_is
    (subst (λ (x : List ℕ). IsLined told b ol tl x) rl_is lined))

-- the same by the parts of a heading
pub composed_of : (states : Keywords) (told : List ℕ) (above : Option ℕ) (b : Option (List ℕ)) (o t r : Seen) (ol tl rl : List ℕ) → above ≡ r.above → ol ≡ o.line → tl ≡ t.line → rl ≡ r.line
    → IsComposed states told above b ol tl rl → IsComposed states told r.above b o.line t.line r.line
composed_of states told above b o t r ol tl rl above_is ol_is tl_is rl_is composed =
    subst (λ (x : Option ℕ). IsComposed states told x b o.line t.line r.line) above_is
    (subst (λ (x : List ℕ). IsComposed states told above b x t.line r.line) ol_is
    (subst (λ (x : List ℕ). IsComposed states told above b ol x r.line) tl_is
    (subst (λ (x : List ℕ). IsComposed states told above b ol tl x) rl_is composed)))

pub written_by : (told : List ℕ) (b : Option Seen) (o t : Seen) (x y : List ℕ) → x ≡ y → IsWritten told b o t x → IsWritten told b o t y
written_by told b o t x y same written = subst (λ (z : List ℕ). IsWritten told b o t z) same written

-- the text of a unit that base has
pub over_taken : (told : List ℕ) (b o t : Seen) (r bs os ts : List ℕ) → bs ≡ b.section → os ≡ o.section → ts ≡ t.section
    → IsTaken (Some bs) os ts r → IsWritten told (Some b) o t r
over_taken told b o t r bs os ts bs_is os_is ts_is taken =
    inl (subst (λ (x : List ℕ). IsTaken (Some x) o.section t.section r) bs_is
    (subst (λ (x : List ℕ). IsTaken (Some bs) x t.section r) os_is
    (subst (λ (x : List ℕ). IsTaken (Some bs) os x r) ts_is taken)))

abbrev united : (told ol tl bs os ts r : List ℕ) → Changed
united told ol tl bs os ts r = record { told = told; ours_line = ol; theirs_line = tl; base = bs; ours = os; theirs = ts; merged = r }

same_united : (told r : List ℕ) (ol ol' tl tl' bs bs' os os' ts ts' : List ℕ) → ol ≡ ol' → tl ≡ tl' → bs ≡ bs' → os ≡ os' → ts ≡ ts'
    → united told ol tl bs os ts r ≡ united told ol' tl' bs' os' ts' r
same_united told r ol ol' tl tl' bs bs' os os' ts ts' a b c d e =
    ap (λ (x : List ℕ). united told x tl bs os ts r) a
    ∙ ap (λ (x : List ℕ). united told ol' x bs os ts r) b
    ∙ ap (λ (x : List ℕ). united told ol' tl' x os ts r) c
    ∙ ap (λ (x : List ℕ). united told ol' tl' bs' x ts r) d
    ∙ ap (λ (x : List ℕ). united told ol' tl' bs' os' x r) e

pub over_united : (told : List ℕ) (b o t : Seen) (r bs os ts ol tl : List ℕ) → bs ≡ b.section → os ≡ o.section → ts ≡ t.section → ol ≡ o.line → tl ≡ t.line
    → MayUnite told (Some bs) os ts → IsUnion (record { told = told; ours_line = ol; theirs_line = tl; base = bs; ours = os; theirs = ts; merged = r }) → IsWritten told (Some b) o t r
over_united told b o t r bs os ts ol tl bs_is os_is ts_is ol_is tl_is may union =
    inr (
      subst (λ (x : List ℕ). MayUnite told (Some x) o.section t.section) bs_is
          (subst (λ (x : List ℕ). MayUnite told (Some bs) x t.section) os_is
          (subst (λ (x : List ℕ). MayUnite told (Some bs) os x) ts_is may)),
      subst IsUnion (same_united told r ol o.line tl t.line bs b.section os o.section ts t.section ol_is tl_is bs_is os_is ts_is) union,
    )

-- the text of a unit that both sides added
pub new_taken : (told : List ℕ) (o t : Seen) (r os ts : List ℕ) → os ≡ o.section → ts ≡ t.section → IsTaken None os ts r → IsWritten told None o t r
new_taken told o t r os ts os_is ts_is taken =
    inl (subst (λ (x : List ℕ). IsTaken None x t.section r) os_is (subst (λ (x : List ℕ). IsTaken None os x r) ts_is taken))

pub new_united : (told : List ℕ) (o t : Seen) (r os ts ol tl : List ℕ) → os ≡ o.section → ts ≡ t.section → ol ≡ o.line → tl ≡ t.line
    → MayUnite told None os ts → IsUnion (record { told = told; ours_line = ol; theirs_line = tl; base = []; ours = os; theirs = ts; merged = r }) → IsWritten told None o t r
new_united told o t r os ts ol tl os_is ts_is ol_is tl_is may union =
    inr (
      subst (λ (x : List ℕ). MayUnite told None x t.section) os_is (subst (λ (x : List ℕ). MayUnite told None os x) ts_is may),
      subst IsUnion (same_united told r ol o.line tl t.line [] [] os o.section ts t.section ol_is tl_is refl os_is ts_is) union,
    )

pub written_at : (told : List ℕ) (p b : Option Seen) (o t : Seen) (r : List ℕ) → p ≡ b → IsWritten told b o t r → IsWritten told p o t r
written_at told p b o t r same written = subst (λ (x : Option Seen). IsWritten told x o t r) (sym same) written
