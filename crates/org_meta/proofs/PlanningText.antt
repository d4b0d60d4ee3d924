-- A well formed planning line is its indentation, the texts of its entries and its tail.
use Rattle.std.proofs.Common.{arith, ◌≡◌, ℕ, zero, suc, true, false, Bool, ◌||◌, Option, Some, None, List, [], ◌∷◌, ◌++◌, length, take, drop, refl, sym, ap, subst, ◌∙◌, append_assoc, take-append-drop, inl, inr}
use Rattle.std.proofs.lemmas.Grind.{common_steps}
use Rattle.std.specs.Prelude.{codes, nat_eq}
use Rattle.std.specs.List.{starts_with, list_all, list_any}
use Rattle.std.proofs.lemmas.Bool.{cases_Bool}
use Rattle.std.proofs.lemmas.Slice.Eq.{bytes_eq-Decides}
use Rattle.org_splice.specs.Blanks.{is_blank, is_trailing, front, behind}
use Rattle.org_splice.proofs.Ends.{front_behind}
use Rattle.org_stamp.specs.Parts.{◌>>=◌}
use Rattle.org_stamp.specs.Front.{stamp_at}
use Rattle.org_stamp.specs.Stamp.{IsStampText}
use Rattle.org_stamp.proofs.Exact.{stamp_sound}
use Rattle.org_meta.specs.declared.entry.Word.{Word}
use Rattle.org_meta.specs.declared.entry.Word.TheVariants.{Closed, Deadline, Scheduled}
use Rattle.org_meta.specs.Sections.{is_planning}
use Rattle.org_meta.specs.Planning.{word_text, word_at, PlanningEntry, PlanningLine, entry_at, entries_at, each_once, planning_of, is_closed, has_closed, has_others, entry_text, entries_text, kept_text, without_closed}

-- ---- what an option that has a value was made of

pub some_is : {A : Type 0} (x y : A) → Some x ≡ Some y → x ≡ y
some_is x y e = cc

pub none_some : {A : Type 0} {x : A} → None ≡ Some x → ⊥
none_some e = cc

pub bind_some : {A B : Type 0} (o : Option A) (f : A → Option B) (r : B) → (o >>= f) ≡ Some r → (x : A) × (o ≡ Some x) × (f x ≡ Some r)
bind_some None f r e = absurd (none_some e)
bind_some (Some x) f r e = (x, refl, e)

-- ---- words

pub starts_front : (text mark : List ℕ) → starts_with nat_eq text mark ≡ true → text ≡ mark ++ drop (length mark) text
starts_front text mark starts = grind (arith, common_steps, bytes_eq-Decides, take-append-drop)

word_front : (text : List ℕ) (w : Word) → word_at text ≡ Some w → text ≡ word_text w ++ drop (length (word_text w)) text
word_front text w e =
    elim (cases_Bool (starts_with nat_eq text (codes "CLOSED:"))) [
      | inl c ↦ let is : Some Closed ≡ Some w = sym (closed_first text c) ∙ e in rw (← some_is Closed w is) (starts_front text (codes "CLOSED:") c)
      | inr c ↦
          elim (cases_Bool (starts_with nat_eq text (codes "DEADLINE:"))) [
            | inl d ↦ let is : Some Deadline ≡ Some w = sym (deadline_first text c d) ∙ e in rw (← some_is Deadline w is) (starts_front text (codes "DEADLINE:") d)
            | inr d ↦
                elim (cases_Bool (starts_with nat_eq text (codes "SCHEDULED:"))) [
                  | inl s ↦ let is : Some Scheduled ≡ Some w = sym (scheduled_first text c d s) ∙ e in rw (← some_is Scheduled w is) (starts_front text (codes "SCHEDULED:") s)
                  | inr s ↦ absurd (none_some (sym (no_word text c d s) ∙ e))
                ]
          ]
    ] where
      closed_first : (text : List ℕ) → starts_with nat_eq text (codes "CLOSED:") ≡ true → word_at text ≡ Some Closed
      closed_first text c = rw c refl

      deadline_first : (text : List ℕ) → starts_with nat_eq text (codes "CLOSED:") ≡ false → starts_with nat_eq text (codes "DEADLINE:") ≡ true → word_at text ≡ Some Deadline
      deadline_first text c d = rw (c, d) refl

      scheduled_first : (text : List ℕ) → starts_with nat_eq text (codes "CLOSED:") ≡ false → starts_with nat_eq text (codes "DEADLINE:") ≡ false → starts_with nat_eq text (codes "SCHEDULED:") ≡ true → word_at text ≡ Some Scheduled
      scheduled_first text c d s = rw (c, d, s) refl

      no_word : (text : List ℕ) → starts_with nat_eq text (codes "CLOSED:") ≡ false → starts_with nat_eq text (codes "DEADLINE:") ≡ false → starts_with nat_eq text (codes "SCHEDULED:") ≡ false → word_at text ≡ None
      no_word text c d s = rw (c, d, s) refl

-- ---- entries

-- an entry that is read is what is before the rest, and the text of its stamp is a stamp's
pub entry_read : (text rest : List ℕ) (e : PlanningEntry) → entry_at text ≡ Some (e, rest) → (text ≡ entry_text e ++ rest) × IsStampText e.text e.stamp
entry_read text rest e is =
    let w = bind_some (word_at text) _ (e, rest) is in
    let inner = drop (length (word_text w.0)) text in
    let bytes = behind is_blank inner in
    let s = bind_some (stamp_at bytes) _ (e, rest) w.2 in
    let tail = drop s.0.1 bytes in
    let read : PlanningEntry = record { word = w.0; gap = front is_blank inner; stamp = s.0.0; text = take s.0.1 bytes; after = front is_blank tail } in
    let same : (read, behind is_blank tail) ≡ (e, rest) = some_is (read, behind is_blank tail) (e, rest) s.2 in
    let parts : text ≡ word_text w.0 ++ (front is_blank inner ++ (take s.0.1 bytes ++ (front is_blank tail ++ behind is_blank tail))) =
    word_front text w.0 w.1
    ∙ ap (λ (t : List ℕ). word_text w.0 ++ t)
    (front_behind is_blank inner
    ∙ ap (λ (t : List ℕ). front is_blank inner ++ t) (sym (take-append-drop s.0.1 bytes) ∙ ap (λ (t : List ℕ). take s.0.1 bytes ++ t) (front_behind is_blank tail))) in
    let shape : word_text w.0 ++ (front is_blank inner ++ (take s.0.1 bytes ++ (front is_blank tail ++ behind is_blank tail))) ≡ entry_text read ++ behind is_blank tail = simp append_assoc in
    (parts ∙ shape ∙ ap (λ (r : PlanningEntry × List ℕ). entry_text r.0 ++ r.1) same, subst (λ (r : PlanningEntry × List ℕ). IsStampText r.0.text r.0.stamp) same (stamp_sound bytes s.0.0 s.0.1 s.1).is_text)

pub entries_ended : (n : ℕ) (text : List ℕ) → list_all is_trailing text ≡ true → entries_at n text ≡ Some ([], text)
entries_ended zero text end = rw end refl
entries_ended (suc n) text end = rw end refl

pub entries_full : (text : List ℕ) → list_all is_trailing text ≡ false → entries_at 0 text ≡ None
entries_full text other = rw other refl

pub entries_next : (n : ℕ) (text : List ℕ) → list_all is_trailing text ≡ false → entries_at (suc n) text ≡ (entry_at text >>= λ e. entries_at n e.1 >>= λ es. Some (e.0 ∷ es.0, es.1))
entries_next n text other = rw other refl

entries_front : (n : ℕ) (text : List ℕ) (r : List PlanningEntry × List ℕ) → entries_at n text ≡ Some r → text ≡ entries_text r.0 ++ r.1
entries_front zero text r is = grind (arith, common_steps)
entries_front (suc n) text r is =
    elim (cases_Bool (list_all is_trailing text)) [
      | inl end ↦ ap (λ (q : List PlanningEntry × List ℕ). entries_text q.0 ++ q.1) (some_is ([], text) r (sym (entries_ended (suc n) text end) ∙ is))
      | inr other ↦
          let e = bind_some (entry_at text) _ r (sym (entries_next n text other) ∙ is) in
          let es = bind_some (entries_at n e.0.1) _ r e.2 in
          let same : (e.0.0 ∷ es.0.0, es.0.1) ≡ r = some_is (e.0.0 ∷ es.0.0, es.0.1) r es.2 in
          (entry_read text e.0.1 e.0.0 e.1).0
          ∙ ap (λ (t : List ℕ). entry_text e.0.0 ++ t) (entries_front n e.0.1 es.0 es.1)
          ∙ sym (append_assoc (entry_text e.0.0) (entries_text es.0.0) es.0.1)
          ∙ ap (λ (q : List PlanningEntry × List ℕ). entries_text q.0 ++ q.1) same
    ]

-- ---- lines

-- what a planning line was read from
pub record IsRead (line : List ℕ) (p : PlanningLine) : Type 0 where
  pub indentation : p.indentation ≡ front is_blank line
  pub entries : entries_at 3 (behind is_blank line) ≡ Some (p.entries, p.tail)

pub planning_read : (line : List ℕ) (p : PlanningLine) → planning_of line ≡ Some p → IsRead line p
planning_read line p is =
    let es = bind_some (entries_at 3 (behind is_blank line)) _ p is in
    let made : PlanningLine = record { indentation = front is_blank line; entries = es.0.0; tail = es.0.1 } in
    elim (cases_Bool (each_once es.0.0)) [
      | inl each ↦
          let same : made ≡ p = some_is made p (rw each at es.2) in
          record { indentation = sym (ap (λ (q : PlanningLine). q.indentation) same); entries = es.1 ∙ ap (λ (q : PlanningLine). Some (q.entries, q.tail)) same }
      | inr twice ↦ absurd (none_some (rw twice at es.2))
    ]

pub planning_text : (line : List ℕ) (p : PlanningLine) → planning_of line ≡ Some p → p.indentation ++ (entries_text p.entries ++ p.tail) ≡ line
planning_text line p is =
    let r = planning_read line p is in
    ap (λ (t : List ℕ). t ++ (entries_text p.entries ++ p.tail)) r.indentation
    ∙ ap (λ (t : List ℕ). front is_blank line ++ t) (sym (entries_front 3 (behind is_blank line) (p.entries, p.tail) r.entries))
    ∙ sym (front_behind is_blank line)

-- ---- a line without a CLOSED entry

or_false : (x y : Bool) → x || y ≡ false → (x ≡ false) × (y ≡ false)
or_false true y e = absurd cc
or_false false y e = (refl, e)

kept_all : (es : List PlanningEntry) → has_closed es ≡ false → kept_text es ≡ entries_text es
kept_all [] none = refl
kept_all (e ∷ es) none =
    let n = or_false (is_closed e) (list_any is_closed es) none in
    rw n.0 (ap (λ (t : List ℕ). entry_text e ++ t) (kept_all es n.1))

-- where there are entries and none is CLOSED, there are others
others : (e : PlanningEntry) (es : List PlanningEntry) → has_closed (e ∷ es) ≡ false → has_others (e ∷ es) ≡ true
others e es none = let n = or_false (is_closed e) (list_any is_closed es) none in rw n.0 refl

-- a planning line begins with a word, so something is read
begins : (body rest mark : List ℕ) → body ≡ mark ++ rest → list_all is_trailing (mark ++ rest) ≡ false → list_all is_trailing body ≡ false
begins body rest mark is not = ap (list_all is_trailing) is ∙ not

not_ended : (line : List ℕ) → is_planning line ≡ true → list_all is_trailing (behind is_blank line) ≡ false
not_ended line planning = grind (arith, common_steps)

some_entry : (body : List ℕ) (es : List PlanningEntry) (tail : List ℕ) → list_all is_trailing body ≡ false → entries_at 3 body ≡ Some (es, tail) → (e : PlanningEntry) × (more : List PlanningEntry) × (es ≡ e ∷ more)
some_entry body es tail other is =
    let e = bind_some (entry_at body) _ (es, tail) (sym (entries_next 2 body other) ∙ is) in
    let more = bind_some (entries_at 2 e.0.1) _ (es, tail) e.2 in
    (e.0.0, more.0.0, sym (ap (λ (q : List PlanningEntry × List ℕ). q.0) (some_is (e.0.0 ∷ more.0.0, more.0.1) (es, tail) more.2)))

kept_line : (p : PlanningLine) → has_others p.entries ≡ true → without_closed p ≡ (p.indentation ++ (kept_text p.entries ++ p.tail)) ∷ []
kept_line p some = rw some refl

-- so nothing goes where there is no CLOSED
pub nothing_goes : (line : List ℕ) (p : PlanningLine) → is_planning line ≡ true → planning_of line ≡ Some p → has_closed p.entries ≡ false → without_closed p ≡ line ∷ []
nothing_goes line p planning is none =
    let r = planning_read line p is in
    let some = some_entry (behind is_blank line) p.entries p.tail (not_ended line planning) r.entries in
    let more : has_others p.entries ≡ true = ap has_others some.2 ∙ others some.0 some.1 (sym (ap has_closed some.2) ∙ none) in
    kept_line p more
    ∙ ap (λ (t : List ℕ). (p.indentation ++ (t ++ p.tail)) ∷ []) (kept_all p.entries none)
    ∙ ap (λ (t : List ℕ). t ∷ []) (planning_text line p is)
