-- A planning line is read where it is well formed, and only there.
use Rattle.std.proofs.Common.{◌≡◌, ℕ, zero, suc, ◌+◌, ◌≤◌, Bool, true, false, Option, Some, None, List, [], ◌∷◌, ◌++◌, length, take, drop, refl, sym, ap, subst, ◌∙◌, arith, inl, inr, append_assoc}
use Rattle.std.proofs.lemmas.Grind.{common_steps}
use Rattle.std.specs.Prelude.{count_by, nat_le, if◌then◌else◌}
use Rattle.std.specs.List.{AllByRecursion, list_all, prefix_len}
use Rattle.std.proofs.lemmas.Bool.{cases_Bool}
use Rattle.std.proofs.lemmas.Bool.Decides.{nat_tests}
use Rattle.std.proofs.lemmas.List.{take_at, drop_at}
use Rattle.std.proofs.lemmas.List.Sums.{sum_by-cons}
use Rattle.org_splice.specs.Blanks.{is_blank, is_trailing, front, behind}
use Rattle.org_splice.proofs.Ends.{both, front_passes}
use Rattle.org_stamp.specs.Parts.{◌>>=◌}
use Rattle.org_stamp.specs.Front.{stamp_at}
use Rattle.org_stamp.specs.Stamp.{StampValue}
use Rattle.org_stamp.proofs.Exact.{stamp_complete, stamp_sound}
use Rattle.org_meta.specs.declared.entry.Word.{Word}
use Rattle.org_meta.specs.declared.entry.Word.TheVariants.{Closed, Deadline, Scheduled}
use Rattle.org_meta.specs.Planning.{word_text, word_at, PlanningEntry, PlanningLine, entry_at, entries_at, is_word, each_once, planning_of, entry_text, entries_text}
use Rattle.org_meta.specs.WellFormed.{IsEntry, IsPlanning}
use Rattle.org_meta.proofs.ClosedClocks.{stamp_first}
use Rattle.org_meta.proofs.PlanningText.{some_is, none_some, bind_some, entries_ended, entries_next, planning_read, planning_text}
use Rattle.org_meta.proofs.Trims.{behind_step, behind_stop, behind_front, front_front}

-- ---- what is read

begins_behind : (p : ℕ → Bool) (l : List ℕ) → prefix_len p (behind p l) ≡ 0
begins_behind p [] = refl
begins_behind p (x ∷ l) = grind (arith, common_steps, cases_Bool, behind_step, behind_stop, begins_behind p l)

entry_sound : (text rest : List ℕ) (e : PlanningEntry) → entry_at text ≡ Some (e, rest) → IsEntry e × (prefix_len is_blank rest ≡ 0)
entry_sound text rest e is =
    let w = bind_some (word_at text) _ (e, rest) is in
    let inner = drop (length (word_text w.0)) text in
    let bytes = behind is_blank inner in
    let s = bind_some (stamp_at bytes) _ (e, rest) w.2 in
    let tail = drop s.0.1 bytes in
    let read : PlanningEntry = record { word = w.0; gap = front is_blank inner; stamp = s.0.0; text = take s.0.1 bytes; after = front is_blank tail } in
    let same : (read, behind is_blank tail) ≡ (e, rest) = some_is (read, behind is_blank tail) (e, rest) s.2 in
    let entry : IsEntry read = record { gap_blank = front_passes is_blank inner; stamp = (stamp_sound bytes s.0.0 s.0.1 s.1).is_text; after_blank = front_passes is_blank tail } in
    subst (λ (r : PlanningEntry × List ℕ). IsEntry r.0 × (prefix_len is_blank r.1 ≡ 0)) same (entry, begins_behind is_blank tail)

record AreRead (r : List PlanningEntry × List ℕ) : Type 0 where
  entries : AllByRecursion IsEntry r.0
  trailing : list_all is_trailing r.1 ≡ true
  whole : prefix_len is_blank r.1 ≡ 0

ended : (text : List ℕ) (r : List PlanningEntry × List ℕ) → prefix_len is_blank text ≡ 0 → list_all is_trailing text ≡ true → Some ([], text) ≡ Some r → AreRead r
ended text r whole end is = grind (arith, common_steps)

entries_sound : (n : ℕ) (text : List ℕ) (r : List PlanningEntry × List ℕ) → prefix_len is_blank text ≡ 0 → entries_at n text ≡ Some r → AreRead r
entries_sound zero text r whole is = grind (arith, common_steps)
entries_sound (suc n) text r whole is =
    elim (cases_Bool (list_all is_trailing text)) [
      | inl end ↦ ended text r whole end (sym (entries_ended (suc n) text end) ∙ is)
      | inr other ↦
          let e = bind_some (entry_at text) _ r (sym (entries_next n text other) ∙ is) in
          let es = bind_some (entries_at n e.0.1) _ r e.2 in
          let first = entry_sound text e.0.1 e.0.0 e.1 in
          let later = entries_sound n e.0.1 es.0 first.1 es.1 in
          let all : AreRead (e.0.0 ∷ es.0.0, es.0.1) = record { entries = (first.0, later.entries); trailing = later.trailing; whole = later.whole } in
          subst AreRead (some_is (e.0.0 ∷ es.0.0, es.0.1) r es.2) all
    ]

once_read : (line : List ℕ) (p : PlanningLine) → planning_of line ≡ Some p → each_once p.entries ≡ true
once_read line p is =
    let es = bind_some (entries_at 3 (behind is_blank line)) _ p is in
    let made : PlanningLine = record { indentation = front is_blank line; entries = es.0.0; tail = es.0.1 } in
    elim (cases_Bool (each_once es.0.0)) [
      | inl each ↦ let same : made ≡ p = some_is made p (rw each at es.2) in ap (λ (q : PlanningLine). each_once q.entries) (sym same) ∙ each
      | inr twice ↦ absurd (none_some (rw twice at es.2))
    ]

pub planning_sound : (line : List ℕ) (p : PlanningLine) → planning_of line ≡ Some p → IsPlanning line p
planning_sound line p is =
    let r = planning_read line p is in
    let all = entries_sound 3 (behind is_blank line) (p.entries, p.tail) (begins_behind is_blank line) r.entries in
    record {
      bytes = sym (planning_text line p is);
      indentation_blank = ap (list_all is_blank) r.indentation ∙ front_passes is_blank line;
      entries = all.entries;
      once = once_read line p is;
      tail_trailing = all.trailing;
      tail_whole = all.whole;
    }

-- ---- what is well formed

word_is : (w : Word) (more : List ℕ) → word_at (word_text w ++ more) ≡ Some w
word_is Closed more = refl
word_is Deadline more = refl
word_is Scheduled more = refl

word_begins : (w : Word) (x y : List ℕ) → prefix_len is_blank ((word_text w ++ x) ++ y) ≡ 0
word_begins Closed x y = refl
word_begins Deadline x y = refl
word_begins Scheduled x y = refl

word_solid : (w : Word) (x y : List ℕ) → list_all is_trailing ((word_text w ++ x) ++ y) ≡ false
word_solid Closed x y = refl
word_solid Deadline x y = refl
word_solid Scheduled x y = refl

-- what is read after a word, and after its blanks
abbrev behind_gap : Word → List ℕ → List ℕ → Option (PlanningEntry × List ℕ)
behind_gap w gap bytes =
    stamp_at bytes >>= λ r.
    let tail = drop r.1 bytes in
    Some (record { word = w; gap = gap; stamp = r.0; text = take r.1 bytes; after = front is_blank tail }, behind is_blank tail)

abbrev behind_word : List ℕ → Word → Option (PlanningEntry × List ℕ)
behind_word text w = let inner = drop (length (word_text w)) text in behind_gap w (front is_blank inner) (behind is_blank inner)

abbrev made : Word → List ℕ → StampValue → List ℕ → List ℕ → List ℕ → Option (PlanningEntry × List ℕ)
made w gap s text after rest = Some (record { word = w; gap = gap; stamp = s; text = text; after = after }, rest)

entry_complete : (e : PlanningEntry) (rest : List ℕ) → IsEntry e → prefix_len is_blank rest ≡ 0 → entry_at (entry_text e ++ rest) ≡ Some (e, rest)
entry_complete e rest is whole =
    let w = e.word in
    let tail : List ℕ = e.after ++ rest in
    let bytes : List ℕ = e.text ++ tail in
    let inner : List ℕ = e.gap ++ bytes in
    let shape : entry_text e ++ rest ≡ word_text w ++ inner = simp append_assoc in
    let first : prefix_len is_blank bytes ≡ 0 = stamp_first e.text tail e.stamp is.stamp in
    let size : ℕ = length e.text in
    ap entry_at shape
    ∙ ap (λ (o : Option Word). o >>= behind_word (word_text w ++ inner)) (word_is w inner)
    ∙ ap (λ (i : List ℕ). behind_gap w (front is_blank i) (behind is_blank i)) (drop_at (word_text w) inner (length (word_text w)) refl)
    ∙ ap (λ (g : List ℕ). behind_gap w g (behind is_blank inner)) (front_front is_blank e.gap bytes is.gap_blank first)
    ∙ ap (behind_gap w e.gap) (behind_front is_blank e.gap bytes is.gap_blank first)
    ∙ ap (λ (o : Option (StampValue × ℕ)). o >>= λ r. let t = drop r.1 bytes in made w e.gap r.0 (take r.1 bytes) (front is_blank t) (behind is_blank t)) (stamp_complete e.text tail e.stamp is.stamp)
    ∙ ap (λ (t : List ℕ). made w e.gap e.stamp (take size bytes) (front is_blank t) (behind is_blank t)) (drop_at e.text tail size refl)
    ∙ ap (λ (t : List ℕ). made w e.gap e.stamp t (front is_blank tail) (behind is_blank tail)) (take_at e.text tail size refl)
    ∙ ap (λ (t : List ℕ). made w e.gap e.stamp e.text t (behind is_blank tail)) (front_front is_blank e.after rest is.after_blank whole)
    ∙ ap (made w e.gap e.stamp e.text e.after) (behind_front is_blank e.after rest is.after_blank whole)

-- after an entry stands the next one, or the tail: no blank
rest_begins : (es : List PlanningEntry) (tail : List ℕ) → prefix_len is_blank tail ≡ 0 → prefix_len is_blank (entries_text es ++ tail) ≡ 0
rest_begins [] tail whole = whole
rest_begins (e ∷ es) tail whole =
    ap (prefix_len is_blank) (append_assoc (entry_text e) (entries_text es) tail) ∙ word_begins e.word (e.gap ++ (e.text ++ e.after)) (entries_text es ++ tail)

entries_complete : (n : ℕ) (es : List PlanningEntry) (tail : List ℕ) → length es ≤ n → AllByRecursion IsEntry es → list_all is_trailing tail ≡ true → prefix_len is_blank tail ≡ 0
    → entries_at n (entries_text es ++ tail) ≡ Some (es, tail)
entries_complete n [] tail few all trailing whole = entries_ended n tail trailing
entries_complete zero (e ∷ es) tail few all trailing whole = absurd (omega arith)
entries_complete (suc n) (e ∷ es) tail few all trailing whole = grind (arith, common_steps, append_assoc, entries_next, word_solid, entry_complete, rest_begins, entries_complete n es tail (omega arith) all.1 trailing whole)

-- ---- where each word stands at most once, there are three entries at most

abbrev one_if : Bool → ℕ
one_if b = if b then 1 else 0

abbrev times : Word → List PlanningEntry → ℕ
times word entries = count_by (λ e. is_word word e.word) entries

times-cons : (word : Word) (e : PlanningEntry) (es : List PlanningEntry) → times word (e ∷ es) ≡ one_if (is_word word e.word) + times word es
times-cons word e es = sum_by-cons (λ e. one_if (is_word word e.word)) e es

one_word : (w : Word) → one_if (is_word Closed w) + one_if (is_word Deadline w) + one_if (is_word Scheduled w) ≡ 1
one_word Closed = refl
one_word Deadline = refl
one_word Scheduled = refl

all_words : (es : List PlanningEntry) → times Closed es + times Deadline es + times Scheduled es ≡ length es
all_words [] = refl
all_words (e ∷ es) =
    let later : times Closed es + times Deadline es + times Scheduled es ≡ length es = all_words es in
    let first : one_if (is_word Closed e.word) + one_if (is_word Deadline e.word) + one_if (is_word Scheduled e.word) ≡ 1 = one_word e.word in
    sum_of (times Closed (e ∷ es)) (times Deadline (e ∷ es)) (times Scheduled (e ∷ es)) (one_if (is_word Closed e.word)) (one_if (is_word Deadline e.word)) (one_if (is_word Scheduled e.word)) (times Closed es) (times Deadline es) (times Scheduled es) (length es)
    (times-cons Closed e es) (times-cons Deadline e es) (times-cons Scheduled e es) first later
  where
    sum_of : (c d s c1 d1 s1 c2 d2 s2 n : ℕ) → c ≡ c1 + c2 → d ≡ d1 + d2 → s ≡ s1 + s2 → c1 + d1 + s1 ≡ 1 → c2 + d2 + s2 ≡ n → c + d + s ≡ suc n
    sum_of c d s c1 d1 s1 c2 d2 s2 n e1 e2 e3 e4 e5 = omega arith

low : (n : ℕ) → nat_le n 1 ≡ true → n ≤ 1
low n e = grind (arith, nat_tests)

three : (es : List PlanningEntry) → each_once es ≡ true → length es ≤ 3
three es once = grind (arith, common_steps, both, all_words, low)

abbrev lined : List ℕ → Option (List PlanningEntry × List ℕ) → Option PlanningLine
lined indentation o = o >>= λ es. if each_once es.0 then Some (record { indentation = indentation; entries = es.0; tail = es.1 }) else None

pub planning_complete : (line : List ℕ) (p : PlanningLine) → IsPlanning line p → planning_of line ≡ Some p
planning_complete line p is =
    let body : List ℕ = entries_text p.entries ++ p.tail in
    let begins : prefix_len is_blank body ≡ 0 = rest_begins p.entries p.tail is.tail_whole in
    let once = is.once in
    ap (λ (l : List ℕ). lined (front is_blank l) (entries_at 3 (behind is_blank l))) is.bytes
    ∙ ap (λ (i : List ℕ). lined i (entries_at 3 (behind is_blank (p.indentation ++ body)))) (front_front is_blank p.indentation body is.indentation_blank begins)
    ∙ ap (λ (b : List ℕ). lined p.indentation (entries_at 3 b)) (behind_front is_blank p.indentation body is.indentation_blank begins)
    ∙ ap (lined p.indentation) (entries_complete 3 p.entries p.tail (three p.entries is.once) is.entries is.tail_trailing is.tail_whole)
    ∙ rw once refl
