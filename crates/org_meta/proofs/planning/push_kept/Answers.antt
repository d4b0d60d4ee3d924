use Rattle.std.proofs.Common.{◌≡◌, ◌++◌, ◌∙◌, ℕ, ◌+◌, ◌<◌, ◌≤◌, true, false, List, ◌∷◌, length, drop, get_or, refl, sym, ap, append_assoc, append-nil}
use Rattle.std.specs.Prelude.{Vec}
use Rattle.std.specs.Global.{Global}
use Rattle.std.proofs.lemmas.List.{at_drop_more, at_drop_all}
use Rattle.org_meta.specs.Planning.{PlanningEntry, is_closed, entry_text, kept_text}
use Rattle.org_meta.proofs.planning.push_kept.Goals as goal
use Rattle.org_meta.proofs.planning.push_kept.Goals.{then-not-is_closed+in_ok-push_entry, else-not-is_closed}

kept_here : (es : List PlanningEntry) (i : ℕ) (e : PlanningEntry) → i < length es → e ≡ get_or es i e → kept_text (drop i es) ≡ kept_text (e ∷ drop (i + 1) es)
kept_here es i e lt is = at_drop_more kept_text es i e lt ∙ ap (λ (x : PlanningEntry). kept_text (x ∷ drop (i + 1) es)) (sym is)

kept_other : (e : PlanningEntry) (es : List PlanningEntry) → is_closed e ≡ false → kept_text (e ∷ es) ≡ entry_text e ++ kept_text es
kept_other e es other = rw other refl

kept_closed : (e : PlanningEntry) (es : List PlanningEntry) → is_closed e ≡ true → kept_text (e ∷ es) ≡ kept_text es
kept_closed e es closed = rw closed refl

other_put : (out new whole : List ℕ) (es : List PlanningEntry) (i : ℕ) (e : PlanningEntry) → i < length es → e ≡ get_or es i e → is_closed e ≡ false → new ≡ out ++ entry_text e → out ++ kept_text (drop i es) ≡ whole
    → new ++ kept_text (drop (i + 1) es) ≡ whole
other_put out new whole es i e lt is other put so_far =
    ap (λ (t : List ℕ). t ++ kept_text (drop (i + 1) es)) put ∙ append_assoc out (entry_text e) (kept_text (drop (i + 1) es))
    ∙ ap (λ (t : List ℕ). out ++ t) (sym (kept_here es i e lt is ∙ kept_other e (drop (i + 1) es) other)) ∙ so_far

closed_left_out : (out new whole : List ℕ) (es : List PlanningEntry) (i : ℕ) (e : PlanningEntry) → i < length es → e ≡ get_or es i e → is_closed e ≡ true → new ≡ out → out ++ kept_text (drop i es) ≡ whole
    → new ++ kept_text (drop (i + 1) es) ≡ whole
closed_left_out out new whole es i e lt is closed same so_far =
    ap (λ (t : List ℕ). t ++ kept_text (drop (i + 1) es)) same
    ∙ ap (λ (t : List ℕ). out ++ t) (sym (kept_here es i e lt is ∙ kept_closed e (drop (i + 1) es) closed)) ∙ so_far

all_put : (out whole : List ℕ) (es : List PlanningEntry) (i : ℕ) → length es ≤ i → out ++ kept_text (drop i es) ≡ whole → out ≡ whole
all_put out whole es i le so_far = sym (append-nil out) ∙ ap (λ (t : List ℕ). out ++ t) (sym (at_drop_all kept_text es i le)) ∙ so_far

pub loop-entry-preserved : goal.loop-entry-preserved
loop-entry-preserved c =
    let items : Vec ℕ Global → List ℕ = λ v. v.items in
    elim c.if-not-is_closed.branch [
      | then-not-is_closed+in_ok-push_entry w ↦ other_put c.loop-entry.out.items c.if-not-is_closed.out.items _ c.args.entries.now c.loop-entry.entry-index c.entry-item.result c.loop-entry-test.true c.entry-item.is (sym c.is_closed.ensures ∙ w.if-not-is_closed.true) (ap items w.out-is ∙ w.in_ok-push_entry.ensures) c.loop-entry.invariant
      | else-not-is_closed w ↦ closed_left_out c.loop-entry.out.items c.if-not-is_closed.out.items _ c.args.entries.now c.loop-entry.entry-index c.entry-item.result c.loop-entry-test.true c.entry-item.is (sym c.is_closed.ensures ∙ w.if-not-is_closed.false) (ap items w.out-is) c.loop-entry.invariant
    ]

pub returns : goal.returns
returns c = all_put c.loop-entry.out.items _ c.args.entries.now c.loop-entry.entry-index c.loop-entry-test.false c.loop-entry.invariant
