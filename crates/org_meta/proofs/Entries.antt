-- Planning entries, one after the other.
use Rattle.std.proofs.Common.{◌≡◌, ℕ, zero, suc, ◌+◌, ◌-◌, ◌<◌, ◌≤◌, true, false, Bool, ◌||◌, ◌&&◌, Option, Some, None, List, [], ◌∷◌, ◌++◌, refl, sym, ap, ◌∙◌, arith, append_assoc, append-nil}
use Rattle.std.proofs.lemmas.Grind.{common_steps}
use Rattle.std.specs.Prelude.{not}
use Rattle.std.specs.List.{list_all}
use Rattle.org_stamp.specs.Parts.{◌>>=◌}
use Rattle.org_splice.specs.Blanks.{is_trailing}
use Rattle.org_meta.specs.Planning.{PlanningEntry, entries_at, entry_at, is_closed, has_others}

-- what was read, and then the rest
abbrev pub with_front : List PlanningEntry → Option (List PlanningEntry × List ℕ) → Option (List PlanningEntry × List ℕ)
with_front es o = o >>= λ r. Some (es ++ r.0, r.1)

with_none : (o : Option (List PlanningEntry × List ℕ)) → with_front [] o ≡ o
with_none None = refl
with_none (Some r) = refl

with_more : (es : List PlanningEntry) (e : PlanningEntry) (o : Option (List PlanningEntry × List ℕ)) → with_front es (o >>= λ r. Some (e ∷ r.0, r.1)) ≡ with_front (es ++ e ∷ []) o
with_more es e None = refl
with_more es e (Some r) = ap (λ (xs : List PlanningEntry). Some (xs, r.1)) (sym (append_assoc es (e ∷ []) r.0))

-- with nothing left of the line, all was read
entries_end : (n : ℕ) (text : List ℕ) → list_all is_trailing text ≡ true → entries_at n text ≡ Some ([], text)
entries_end zero text end = rw end refl
entries_end (suc n) text end = rw end refl

pub read_none : (text : List ℕ) → with_front [] (entries_at (3 - 0) text) ≡ entries_at 3 text
read_none text = with_none (entries_at 3 text)

-- one more
pub read_more : (es : List PlanningEntry) (k : ℕ) (text rest : List ℕ) (e : PlanningEntry) (whole : Option (List PlanningEntry × List ℕ)) → k < 3 → with_front es (entries_at (3 - k) text) ≡ whole → list_all is_trailing text ≡ false
    → Some (e, rest) ≡ entry_at text → with_front (es ++ e ∷ []) (entries_at (3 - (k + 1)) rest) ≡ whole
read_more es k text rest e whole lt was other is =
    let n : 3 - k ≡ suc (3 - (k + 1)) = omega arith in
    let step : entries_at (suc (3 - (k + 1))) text ≡ (entries_at (3 - (k + 1)) rest >>= λ r. Some (e ∷ r.0, r.1)) = rw (other, ← is) refl in
    sym (with_more es e (entries_at (3 - (k + 1)) rest)) ∙ sym (ap (with_front es) (ap (λ m. entries_at m text) n ∙ step)) ∙ was

pub read_odd : (es : List PlanningEntry) (k : ℕ) (text : List ℕ) (whole : Option (List PlanningEntry × List ℕ)) → k < 3 → with_front es (entries_at (3 - k) text) ≡ whole → list_all is_trailing text ≡ false → None ≡ entry_at text → whole ≡ None
read_odd es k text whole lt was other is = grind (arith, common_steps)

pub read_end : (es : List PlanningEntry) (n : ℕ) (text : List ℕ) (whole : Option (List PlanningEntry × List ℕ)) → with_front es (entries_at n text) ≡ whole → list_all is_trailing text ≡ true → whole ≡ Some (es, text)
read_end es n text whole was end = sym was ∙ ap (with_front es) (entries_end n text end) ∙ ap (λ (xs : List PlanningEntry). Some (xs, text)) (append-nil es)

-- a fourth
pub read_full : (es : List PlanningEntry) (k : ℕ) (text : List ℕ) (whole : Option (List PlanningEntry × List ℕ)) → 3 ≤ k → with_front es (entries_at (3 - k) text) ≡ whole → list_all is_trailing text ≡ false → whole ≡ None
read_full es k text whole le was other = grind (arith, common_steps)

-- ---- entries of one kind

not_and : (a b : Bool) → not (a && b) ≡ (not a || not b)
not_and true b = refl
not_and false b = refl

-- where not all are CLOSED, there are others
pub not_all_closed : (es : List PlanningEntry) → not (list_all is_closed es) ≡ has_others es
not_all_closed [] = refl
not_all_closed (e ∷ es) = not_and (is_closed e) (list_all is_closed es) ∙ ap (λ b. not (is_closed e) || b) (not_all_closed es)
