-- Two sections of one text edited, the later first.
use Rattle.std.proofs.Common.{◌≡◌, eqb, ℕ, zero, suc, ◌+◌, ◌-◌, ◌<◌, ◌≤◌, ltb, true, false, Option, Some, Result, Ok, Err, List, [], ◌∷◌, ◌++◌, length, refl, sym, ap, subst, ◌∙◌, arith, inl, inr, None}
use Rattle.std.proofs.lemmas.Grind.{common_steps}
use Rattle.std.specs.Prelude.{◌≢◌, ◌⊎◌}
use Rattle.std.specs.Result.{result_map_both}
use Rattle.std.proofs.lemmas.Bool.{cases_Bool, eqb-true}
use Rattle.std.proofs.lemmas.Bool.Decides.{nat_tests}
use Rattle.org_splice.specs.Lines.{terminated, print_lines}
use Rattle.org_splice.specs.declared.edit.Edit.{Edit}
use Rattle.org_splice.specs.Edits.{AreEdits}
use Rattle.org_splice.proofs.Places.{AreEdits-join}
use Rattle.org_stamp.specs.Calendar.{Moment}
use Rattle.org_headings.specs.Text.{heading_line}
use Rattle.org_outline.specs.Tree.{Forest, Empty, Tree, Document, print, tree, lines, total, node_at, node_count}
use Rattle.org_outline.specs.Moves.{from_node, with_own, with_own_lines}
use Rattle.org_outline.specs.Numbers.{OwnParts}
use Rattle.org_outline.proofs.ByNumber.{start_of, count-is, at-is}
use Rattle.org_outline.proofs.Rewriting.{count-rewritten, others-rewritten}
use Rattle.org_meta.specs.Edits.{Rewrites}
use Rattle.org_meta.specs.Sections.{split, joined}
use Rattle.org_meta.specs.Clocking.{opened}
use Rattle.org_fault.specs.declared.refusal.Refusal.{Refusal}
use Rattle.org_state.specs.Edits.{section_start, moved, EditsSection}
use Rattle.org_fault.specs.declared.fault.Fault.{Fault}
use Rattle.org_fault.specs.declared.fault.Fault.TheVariants.{OutOfMemory, Refused}
use Rattle.org_state.specs.Answers.{Makes}
use Rattle.org_state.specs.Clock.{with_section_at, opened_section, with_opened, with_closed, switched, ClosesSection, AnswersSwitch}
use Rattle.org_state.proofs.Steps.{prints}
use Rattle.org_state.proofs.Switching.{section_made_in}

-- ---- other own lines of a later node

total_same : (r : List ℕ) (s : List (List ℕ)) (m : ℕ) (f : Forest) → total (from_node (with_own r s) m f) ≡ total f
total_same r s m f =
    let d : Document = record { preamble = []; forest = f } in
    sym (count-is (with_own_lines m r s d)) ∙ count-rewritten m r s d ∙ count-is d

-- where a node before it begins
start_before : (r : List ℕ) (s : List (List ℕ)) (k m : ℕ) (f : Forest) → k < m → start_of k (from_node (with_own r s) m f) ≡ start_of k f
start_before r s k m Empty lt = refl
start_before r s k zero (Tree n q t kids later) lt = absurd (omega arith)
start_before r s zero (suc m) (Tree n q t kids later) lt = elim (cases_Bool (ltb m (total kids))) [ inl e ↦ rw e refl | inr e ↦ rw e refl ]
start_before r s (suc k) (suc m) (Tree n q t kids later) lt =
    let less : k < m = omega (arith, lt) in
    elim (cases_Bool (ltb m (total kids))) [
      | inl e ↦
          let low : m < total kids = grind (arith, nat_tests) in
          let g : ltb k (total kids) ≡ true = grind (arith, nat_tests) in
          rw (e, total_same r s m kids, g) (ap (λ j. length (print_lines (heading_line n q ∷ t)) + j) (start_before r s k m kids less))
      | inr e ↦
          let past : total kids ≤ m = grind (arith, nat_tests) in
          elim (cases_Bool (ltb k (total kids))) [
            | inl g ↦ rw (e, g) refl
            | inr g ↦
                let behind : total kids ≤ k = grind (arith, nat_tests) in
                rw (e, g) (ap (λ j. length (print_lines (heading_line n q ∷ t ++ lines kids)) + j) (start_before r s (k - total kids) (m - total kids) later (omega (arith, less, past, behind))))
          ]
    ]

-- other own lines of both, in either order
in_either_order : (q r : List ℕ) (t s : List (List ℕ)) (k m : ℕ) (f : Forest) → k < m → from_node (with_own q t) k (from_node (with_own r s) m f) ≡ from_node (with_own r s) m (from_node (with_own q t) k f)
in_either_order q r t s k m Empty lt = refl
in_either_order q r t s k zero (Tree n a b kids later) lt = absurd (omega arith)
in_either_order q r t s zero (suc m) (Tree n a b kids later) lt = elim (cases_Bool (ltb m (total kids))) [ inl e ↦ rw e refl | inr e ↦ rw e refl ]
in_either_order q r t s (suc k) (suc m) (Tree n a b kids later) lt =
    let less : k < m = omega (arith, lt) in
    elim (cases_Bool (ltb m (total kids))) [
      | inl e ↦
          let low : m < total kids = grind (arith, nat_tests) in
          let g : ltb k (total kids) ≡ true = grind (arith, nat_tests) in
          rw (e, g, total_same r s m kids, total_same q t k kids, g, e) (ap (λ f. Tree n a b f later) (in_either_order q r t s k m kids less))
      | inr e ↦
          let past : total kids ≤ m = grind (arith, nat_tests) in
          elim (cases_Bool (ltb k (total kids))) [
            | inl g ↦ rw (e, g, total_same q t k kids, e) refl
            | inr g ↦
                let behind : total kids ≤ k = grind (arith, nat_tests) in
                rw (e, g, e) (ap (Tree n a b kids) (in_either_order q r t s (k - total kids) (m - total kids) later (omega (arith, less, past, behind))))
          ]
    ]

-- ---- in a document

module _ (d : Document) (m : ℕ) (r : List ℕ) (s : List (List ℕ)) where
  pub own_rest : (k : ℕ) → m ≢ k → (node_at (with_own_lines m r s d) k).node.rest ≡ (node_at d k).node.rest
  own_rest k ne = ap (λ (o : OwnParts). o.rest) (others-rewritten m k r s d ne)

  pub own_section : (k : ℕ) → m ≢ k → (node_at (with_own_lines m r s d) k).node.section ≡ (node_at d k).node.section
  own_section k ne = ap (λ (o : OwnParts). o.section) (others-rewritten m k r s d ne)

  own_level : (k : ℕ) → m ≢ k → (node_at (with_own_lines m r s d) k).node.level ≡ (node_at d k).node.level
  own_level k ne = ap (λ (o : OwnParts). o.level) (others-rewritten m k r s d ne)

  begins_same : (k : ℕ) → k < m → k < node_count d → section_start (with_own_lines m r s d) k ≡ section_start d k
  begins_same k less lt =
      let ne : m ≢ k = λ same. absurd (omega (arith, less, same)) in
      let new : Document = with_own_lines m r s d in
      let at : (node_at new k).at ≡ (node_at d k).at =
      at-is new k (omega (arith, lt, count-rewritten m r s d)) ∙ ap (λ n. length (print_lines d.preamble) + n) (start_before r s k m d.forest less) ∙ sym (at-is d k lt) in
      ap (λ n. n + length (heading_line (node_at new k).node.level (node_at new k).node.rest) + 1) at
      ∙ ap (λ n. (node_at d k).at + length (heading_line n (node_at new k).node.rest) + 1) (own_level k ne)
      ∙ ap (λ t. (node_at d k).at + length (heading_line (node_at d k).node.level t) + 1) (own_rest k ne)

  -- an edit of the section of a node before it
  pub earlier_made : (k : ℕ) (e : Edit) (new : List (List ℕ)) → k < m → k < node_count d → EditsSection e d k new
      → AreEdits (e ∷ []) (print (with_own_lines m r s d)) (print (with_section_at k (with_own_lines m r s d) new))
  earlier_made k e new less lt edits =
      let ne : m ≢ k = λ same. absurd (omega (arith, less, same)) in
      section_made_in (with_own_lines m r s d) k e new (omega (arith, lt, count-rewritten m r s d))
      (record {
        own = edits.own;
        is = edits.is ∙ ap (λ n. moved n edits.own) (sym (begins_same k less lt));
        gives = subst (λ (ls : List (List ℕ)). Rewrites edits.own (print_lines ls) new) (sym (own_section k ne)) edits.gives;
      })

-- ---- a clock closed, and another one opened

not_same : (i from : ℕ) → i ≢ from → eqb i from ≡ false
not_same i from other = elim (cases_Bool (eqb i from)) [ inl e ↦ absurd (other (eqb-true i from e)) | inr e ↦ e ]

pub switched_none : (now : Moment) (from : ℕ) (d : Document) (i : ℕ) → i ≡ from → switched now from d i ≡ Ok None
switched_none now from d i same = let yes : eqb i from ≡ true = grind (arith, nat_tests) in rw yes refl

switched_by : (now : Moment) (from : ℕ) (d : Document) (i : ℕ) (r : Result Document Refusal) → i ≢ from → with_closed now from d ≡ r
    → switched now from d i ≡ result_map_both (λ terminated. Some (with_opened now i terminated)) (λ why. why) r
switched_by now from d i r other is = rw (not_same i from other) (ap (result_map_both (λ terminated. Some (with_opened now i terminated)) (λ why. why)) is)

pub switch_refused : (now : Moment) (t u : List ℕ) (from i : ℕ) (fault : Fault Refusal) → u ≡ t → i ≢ from → ClosesSection now (tree u) from (Err fault) → AnswersSwitch now t from i (Err fault)
switch_refused now t u from i fault text other a = by_fault fault (subst (λ (u : List ℕ). ClosesSection now (tree u) from (Err fault)) text a)
  where
    by_fault : (fault : Fault Refusal) → ClosesSection now (tree t) from (Err fault) → AnswersSwitch now t from i (Err fault)
    by_fault (Refused why) a = switched_by now from (tree t) i (Err why) other (ap (result_map_both (with_section_at from (tree t)) (λ why. why)) a)
    by_fault OutOfMemory a =
        (with_opened now i (with_section_at from (tree t) a.0), switched_by now from (tree t) i (Ok (with_section_at from (tree t) a.0)) other (ap (result_map_both (with_section_at from (tree t)) (λ why. why)) a.1))

-- there was no memory once the clock that runs can be closed
pub switch_starved : (now : Moment) (t u : List ℕ) (from i : ℕ) (closing : Edit) (fault : Fault Refusal) → u ≡ t → i ≢ from → ClosesSection now (tree u) from (Ok closing) → fault ≡ OutOfMemory → AnswersSwitch now t from i (Err fault)
switch_starved now t u from i closing fault text other closes memory = grind (arith, common_steps, switch_refused)

module _ (t : List ℕ) (i from : ℕ) (now : Moment) (opening closing : Edit) (new : List (List ℕ)) (stays_terminated : terminated t ≡ t) (lt : i < node_count (tree t)) (there : from < node_count (tree t))
    (opens : EditsSection opening (tree t) i (opened_section now (tree t) i)) (closes : EditsSection closing (tree t) from new) where
  -- what both make
  both_is : i ≢ from → with_own_lines i (node_at (tree t) i).node.rest (opened_section now (tree t) i) (with_section_at from (tree t) new) ≡ with_opened now i (with_section_at from (tree t) new)
  both_is other =
      let d : Document = tree t in
      let ne : from ≢ i = λ same. other (sym same) in
      let middle : Document = with_section_at from d new in
      let rest : (node_at middle i).node.rest ≡ (node_at d i).node.rest = own_rest d from (node_at d from).node.rest new i ne in
      let section : opened_section now middle i ≡ opened_section now d i = ap (λ ls. joined (opened now (split ls))) (own_section d from (node_at d from).node.rest new i ne) in
      ap (λ r. with_own_lines i r (opened_section now d i) middle) (sym rest) ∙ ap (λ s. with_own_lines i (node_at middle i).node.rest s middle) (sym section)

  pub closed_behind : i < from → AreEdits (closing ∷ opening ∷ []) t (print (with_opened now i (with_section_at from (tree t) new)))
  closed_behind less =
      let d : Document = tree t in
      let other : i ≢ from = λ same. absurd (omega (arith, less, same)) in
      let ne : from ≢ i = λ same. other (sym same) in
      let middle : Document = with_section_at from d new in
      let first = section_made_in d from closing new there closes in
      let second = earlier_made d from (node_at d from).node.rest new i opening (opened_section now d i) less lt opens in
      let rest : (node_at middle i).node.rest ≡ (node_at d i).node.rest = own_rest d from (node_at d from).node.rest new i ne in
      let last : with_section_at i middle (opened_section now d i) ≡ with_opened now i middle = ap (λ r. with_own_lines i r (opened_section now d i) middle) rest ∙ both_is other in
      subst (λ (u : List ℕ). AreEdits (closing ∷ opening ∷ []) u (print (with_opened now i middle))) (prints t stays_terminated)
      (AreEdits-join (closing ∷ []) (opening ∷ []) (print d) (print middle) (print (with_opened now i middle)) first
      (subst (λ (n : Document). AreEdits (opening ∷ []) (print middle) (print n)) last second))

  pub opened_behind : from < i → AreEdits (opening ∷ closing ∷ []) t (print (with_opened now i (with_section_at from (tree t) new)))
  opened_behind less =
      let d : Document = tree t in
      let other : i ≢ from = λ same. absurd (omega (arith, less, same)) in
      let section : List (List ℕ) = opened_section now d i in
      let rest : List ℕ = (node_at d i).node.rest in
      let head : List ℕ = (node_at d from).node.rest in
      let middle : Document = with_section_at i d section in
      let final : Document = with_opened now i (with_section_at from d new) in
      let first = section_made_in d i opening section lt opens in
      let second = earlier_made d i rest section from closing new less there closes in
      let D : Forest → Document = λ f. record { preamble = d.preamble; forest = f } in
      let last : with_section_at from middle new ≡ final =
      ap (λ r. with_own_lines from r new middle) (own_rest d i rest section from other)
      ∙ ap D (in_either_order head rest new section from i d.forest less) ∙ both_is other in
      subst (λ (u : List ℕ). AreEdits (opening ∷ closing ∷ []) u (print final)) (prints t stays_terminated)
      (AreEdits-join (opening ∷ []) (closing ∷ []) (print d) (print middle) (print final) first
      (subst (λ (n : Document). AreEdits (closing ∷ []) (print middle) (print n)) last second))

pub switch_made : (t u : List ℕ) (i from : ℕ) (now : Moment) (opening closing : Edit) (items : List Edit) → u ≡ t → terminated t ≡ t → i < node_count (tree t) → from < node_count (tree t) → i ≢ from
    → EditsSection opening (tree t) i (opened_section now (tree t) i) → ClosesSection now (tree u) from (Ok closing)
    → ((from < i) × (items ≡ opening ∷ closing ∷ [])) ⊎ ((i ≤ from) × (items ≡ closing ∷ opening ∷ []))
    → (new : Option Document) × (switched now from (tree t) i ≡ Ok new) × Makes new t items
switch_made t u i from now opening closing items text stays_terminated lt there other opens closes order =
    let d : Document = tree t in
    let c = subst (λ (u : List ℕ). ClosesSection now (tree u) from (Ok closing)) text closes in
    let final : Document = with_opened now i (with_section_at from d c.0) in
    let is : switched now from d i ≡ Ok (Some final) =
    switched_by now from d i (Ok (with_section_at from d c.0)) other (ap (result_map_both (with_section_at from d) (λ why. why)) c.1) in (
      Some final,
      is,
      elim order [
        | inl o ↦ made (opening ∷ closing ∷ []) items final o.1 (λ none. absurd cc) (opened_behind t i from now opening closing c.0 stays_terminated lt there opens c.2 o.0)
        | inr o ↦ made (closing ∷ opening ∷ []) items final o.1 (λ none. absurd cc) (closed_behind t i from now opening closing c.0 stays_terminated lt there opens c.2 (apart i from o.0 other))
      ],
    )
  where
    made : (es items : List Edit) (final : Document) → items ≡ es → es ≢ [] → AreEdits es t (print final) → (items ≢ []) × AreEdits items t (print final)
    made es items final same some edits = (λ none. some (sym same ∙ none), subst (λ (es : List Edit). AreEdits es t (print final)) (sym same) edits)

    apart : (i from : ℕ) → i ≤ from → i ≢ from → i < from
    apart i from low other = omega (arith, low, other)
