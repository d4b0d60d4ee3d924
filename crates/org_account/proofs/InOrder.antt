-- A side's lines, found in the merged text in their order.
use Rattle.std.proofs.Common.{◌≡◌, ℕ, List, [], ◌∷◌, ◌++◌, true, false, cond, length, arith, map, refl, sym, ap, subst, ◌∙◌, inl, inr}
use Rattle.std.specs.Prelude.{Bool, ◌&&◌, not}
use Rattle.std.specs.Borrow.{Bor}
use Rattle.std.proofs.lemmas.List.{map-append}
use Rattle.org_splice.specs.Lines.{lines_of}
use Rattle.org_account.specs.Text.{StandsBefore, StandIn, IsAfter, unlogged, is_end, is_log_start, has_end}

stands : (line : List ℕ) (P : List (List ℕ) → Type 0) (lines more : List (List ℕ)) → IsAfter line lines more → P more → StandsBefore line P lines
stands line P [] more after holds = absurd after
stands line P (r ∷ rs) more after holds = elim after [
  | inl here ↦ inl (here.0, subst P (sym here.1) holds)
  | inr later ↦ inr (stands line P rs more later holds)
]

module _ (May : List (List ℕ) → List ℕ → Type 0) (missing : List (List ℕ)) (line left later rest : List ℕ) where
  -- a line of a drawer
  pub on_logged : (log : Bool) → lines_of left ≡ line ∷ lines_of later → log ≡ not (is_end line)
      → StandIn May missing (unlogged log (lines_of later)) (lines_of rest) → StandIn May missing (unlogged true (lines_of left)) (lines_of rest)
  on_logged log is e stands =
      subst (λ (ls : List (List ℕ)). StandIn May missing (unlogged true ls) (lines_of rest)) (sym is)
      (subst (λ (b : Bool). StandIn May missing (unlogged b (lines_of later)) (lines_of rest)) e stands)

  by_start : (b : Bool) → is_log_start line && has_end (lines_of later) ≡ b → (ls : List (List ℕ)) → StandIn May missing ls (lines_of rest)
      → ls ≡ cond b (unlogged true (lines_of later)) (line ∷ unlogged false (lines_of later))
      → StandIn May missing (unlogged false (line ∷ lines_of later)) (lines_of rest)
  by_start b is ls stands e = subst (λ (xs : List (List ℕ)). StandIn May missing xs (lines_of rest)) (e ∙ ap (λ (q : Bool). cond q (unlogged true (lines_of later)) (line ∷ unlogged false (lines_of later))) (sym is)) stands

  pub on_start : lines_of left ≡ line ∷ lines_of later → is_log_start line && has_end (lines_of later) ≡ true
      → StandIn May missing (unlogged true (lines_of later)) (lines_of rest) → StandIn May missing (unlogged false (lines_of left)) (lines_of rest)
  on_start is starts stands =
      subst (λ (ls : List (List ℕ)). StandIn May missing (unlogged false ls) (lines_of rest)) (sym is) (by_start true starts (unlogged true (lines_of later)) stands refl)

  pub on_missing : lines_of left ≡ line ∷ lines_of later → is_log_start line && has_end (lines_of later) ≡ false → May missing line
      → StandIn May (missing ++ line ∷ []) (unlogged false (lines_of later)) (lines_of rest) → StandIn May missing (unlogged false (lines_of left)) (lines_of rest)
  on_missing is plain may stand =
      subst (λ (ls : List (List ℕ)). StandIn May missing (unlogged false ls) (lines_of rest)) (sym is) (by_start false plain (line ∷ unlogged false (lines_of later)) (inl (may, stand)) refl)

  pub on_found : (more : List ℕ) → lines_of left ≡ line ∷ lines_of later → is_log_start line && has_end (lines_of later) ≡ false → IsAfter line (lines_of rest) (lines_of more)
      → StandIn May missing (unlogged false (lines_of later)) (lines_of more) → StandIn May missing (unlogged false (lines_of left)) (lines_of rest)
  on_found more is plain after stand =
      subst (λ (ls : List (List ℕ)). StandIn May missing (unlogged false ls) (lines_of rest)) (sym is)
      (by_start false plain (line ∷ unlogged false (lines_of later)) (inr (stands line (StandIn May missing (unlogged false (lines_of later))) (lines_of rest) (lines_of more) after stand)) refl)

-- no line is left
pub stand_none : (May : List (List ℕ) → List ℕ → Type 0) (missing : List (List ℕ)) (log : Bool) (left rest : List ℕ) → length left ≡ 0 → StandIn May missing (unlogged log (lines_of left)) (lines_of rest)
stand_none May missing true [] rest e = tt
stand_none May missing false [] rest e = tt
stand_none May missing log (b ∷ bs) rest e = absurd (omega arith)

-- the same by another name of what says whether a drawer is open
pub with_log : (May : List (List ℕ) → List ℕ → Type 0) (missing lines rest : List (List ℕ)) (log other : Bool) → log ≡ other → StandIn May missing (unlogged log lines) rest → StandIn May missing (unlogged other lines) rest
with_log May missing lines rest log other same stand = subst (λ (b : Bool). StandIn May missing (unlogged b lines) rest) same stand

-- one missing line more
pub pushed : (May : List (List ℕ) → List ℕ → Type 0) (items new : List (Bor (List ℕ))) (x : Bor (List ℕ)) (lines rest : List (List ℕ)) → new ≡ items ++ x ∷ []
    → StandIn May (map (λ (y : Bor (List ℕ)). y.now) new) lines rest → StandIn May (map (λ (y : Bor (List ℕ)). y.now) items ++ x.now ∷ []) lines rest
pushed May items new x lines rest made stand =
    subst (λ (m : List (List ℕ)). StandIn May m lines rest) (ap (map (λ (y : Bor (List ℕ)). y.now)) made ∙ map-append (λ (y : Bor (List ℕ)). y.now) items (x ∷ [])) stand
