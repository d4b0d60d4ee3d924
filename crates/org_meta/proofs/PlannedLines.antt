-- The lines that a change of a section makes: none has a newline, and none begins with a star.
use Rattle.std.proofs.Common.{◌≡◌, eqb, ℕ, zero, suc, Bool, true, false, Option, Some, None, Result, Ok, Err, List, [], ◌∷◌, ◌++◌, length, refl, sym, ap, subst, ◌∙◌, append_assoc, inl, inr}
use Rattle.std.specs.Prelude.{codes, filter, if◌then◌else◌, ◌==◌, nat_le, not, ◌&&◌, ◌-◌}
use Rattle.std.specs.List.{AllByRecursion, list_all}
use Rattle.std.specs.Result.{result_map_both}
use Rattle.std.proofs.lemmas.Bool.{cases_Bool, false≢true}
use Rattle.org_splice.specs.Blanks.{is_blank, is_trailing, front, behind}
use Rattle.org_splice.proofs.Ends.{front_behind, front_passes}
use Rattle.org_stamp.specs.Calendar.{Moment, weekday_of}
use Rattle.org_fault.specs.declared.refusal.Refusal.{Refusal}
use Rattle.org_fault.specs.declared.refusal.Refusal.TheVariants.{BadRepeat, DateRange}
use Rattle.org_stamp.specs.declared.kind.Times.{Times}
use Rattle.org_stamp.specs.declared.kind.Base.{Base}
use Rattle.org_stamp.specs.declared.kind.Base.TheVariants.{Minutes}
use Rattle.org_stamp.specs.declared.kind.Unit.{Unit}
use Rattle.org_stamp.specs.declared.kind.Unit.TheVariants.{Hour}
use Rattle.org_stamp.specs.declared.kind.Mark.{Mark}
use Rattle.org_stamp.specs.declared.kind.Mark.TheVariants.{Cumulate, CatchUp, Restart}
use Rattle.org_stamp.specs.declared.kind.Interval.{Interval}
use Rattle.org_stamp.specs.declared.kind.Repeater.{Repeater}
use Rattle.org_stamp.specs.Stamp.{Part, StampValue, IsStampText, HasParts, is_cookie, has_one_time, first_repeater, opening, closing, clock_text, date_text, day_name, time_text, end_text, cookies_text, stamp_text}
use Rattle.org_stamp.specs.Repeat.{in_base, is_hour, in_range, moved, restarted, repeated, repeated_as, repeated_by}
use Rattle.org_meta.specs.declared.entry.Word.{Word}
use Rattle.org_meta.specs.declared.entry.Word.TheVariants.{Closed, Deadline, Scheduled}
use Rattle.org_meta.specs.Moments.{moment_text}
use Rattle.org_meta.specs.Notes.{quoted, note_line}
use Rattle.org_meta.specs.Planning.{PlanningEntry, PlanningLine, AreRepeated, replanned, replanned_line, clear_closed, set_closed, has_repeater, word_text, entry_at, entries_at, planning_of, is_closed, is_repeating, has_others, entry_text, entry_with, kept_text, without_closed, closed_text, with_closed, behind_first, repeated_entry, repeated_entries}
use Rattle.org_meta.specs.Replans.{repeated_line}
use Rattle.org_meta.specs.Sections.{SectionParts, property_line}
use Rattle.org_meta.proofs.ClosedClocks.{NoStar, begins_plainly, blanks_line, moment_line}
use Rattle.org_meta.proofs.Computed.{entries_repeat}
use Rattle.org_meta.proofs.Flat.{Flat, empty_line, both_lines, with_first_byte, tested, day_line, date_line, clock_text_line}
use Rattle.org_meta.proofs.Keeping.{AllParts}
use Rattle.org_meta.proofs.PlanningText.{some_is, none_some, bind_some, entry_read, entries_ended, entries_full, entries_next, planning_read}
use Rattle.org_meta.proofs.Replanned.{BeginsWithWord, others_later, others_repeat, repeated_begins, same_text}

-- a line that may stand in a section
pub record SectionLine (l : List ℕ) : Type 0 where
  pub flat : Flat l
  pub begins : NoStar l

-- ---- parts of lines

pub front_line : (a b : List ℕ) → Flat (a ++ b) → Flat a
front_line [] b p = empty_line
front_line (x ∷ a) b p = record { flat = (p.flat.0, (front_line a b (record { flat = p.flat.1 })).flat) }

pub back_line : (a b : List ℕ) → Flat (a ++ b) → Flat b
back_line [] b p = p
back_line (x ∷ a) b p = back_line a b (record { flat = p.flat.1 })

-- ---- stamps

abbrev FlatPart : Part → Type 0
FlatPart p = Flat p.run

parts_flat : (bytes : List ℕ) (ps : List Part) → HasParts bytes ps → Flat bytes → AllByRecursion FlatPart ps
parts_flat bytes [] has p = tt
parts_flat bytes (x ∷ ps) has p =
    let all : Flat (has.0 ++ (x.run ++ has.1)) = subst Flat has.2 p in
    let behind_blanks = back_line has.0 (x.run ++ has.1) all in
    (front_line x.run has.1 behind_blanks, parts_flat has.1 ps has.5 (back_line x.run has.1 behind_blanks))

kept_flat : (test : Part → Bool) (ps : List Part) → AllByRecursion FlatPart ps → AllByRecursion FlatPart (filter test ps)
kept_flat test [] all = tt
kept_flat test (p ∷ ps) all =
    elim (cases_Bool (test p)) [
      | inl e ↦ rw e (all.0, kept_flat test ps all.1)
      | inr e ↦ rw e (kept_flat test ps all.1)
    ]

-- those of a stamp that is written in a line
cookies_flat : (text : List ℕ) (s : StampValue) → IsStampText text s → Flat text → AllByRecursion FlatPart s.cookies
cookies_flat text s is p =
    let all : Flat ((opening s.active ∷ is.date) ++ (is.tail ++ closing s.active ∷ [])) = subst Flat is.split p in
    let tail = front_line is.tail (closing s.active ∷ []) (back_line (opening s.active ∷ is.date) (is.tail ++ closing s.active ∷ []) all) in
    subst (AllByRecursion FlatPart) is.says.cookies (kept_flat (λ p. is_cookie p.kind) is.parts (parts_flat is.tail is.parts is.has_parts tail))

cookies_line : (ps : List Part) → AllByRecursion FlatPart ps → Flat (cookies_text ps)
cookies_line [] all = empty_line
cookies_line (p ∷ ps) all = with_first_byte 32 _ refl (both_lines p.run (cookies_text ps) all.0 (cookies_line ps all.1))

end_line : (o : Option ℕ) → Flat (end_text o)
end_line None = empty_line
end_line (Some n) = with_first_byte 45 _ refl (clock_text_line n)

time_line : (o : Option Times) → Flat (time_text o)
time_line None = empty_line
time_line (Some t) = with_first_byte 32 _ refl (both_lines (clock_text t.start) (end_text t.end) (clock_text_line t.start) (end_line t.end))

opening_line : (active : Bool) (l : List ℕ) → Flat l → Flat (opening active ∷ l)
opening_line true l p = with_first_byte 60 l refl p
opening_line false l p = with_first_byte 91 l refl p

closing_byte : (active : Bool) → Flat (closing active ∷ [])
closing_byte true = with_first_byte 62 [] refl empty_line
closing_byte false = with_first_byte 93 [] refl empty_line

stamp_line : (s : StampValue) → AllByRecursion FlatPart s.cookies → Flat (stamp_text s)
stamp_line s all =
    let day : List ℕ = 32 ∷ day_name (weekday_of s.day) in
    opening_line s.active _
    (both_lines (((date_text s.day ++ day) ++ time_text s.time) ++ cookies_text s.cookies) (closing s.active ∷ [])
    (both_lines ((date_text s.day ++ day) ++ time_text s.time) (cookies_text s.cookies)
    (both_lines (date_text s.day ++ day) (time_text s.time) (both_lines (date_text s.day) day (date_line s.day) (with_first_byte 32 _ refl (day_line (weekday_of s.day)))) (time_line s.time))
    (cookies_line s.cookies all))
    (closing_byte s.active))

-- ---- a stamp that repeats keeps its cookies

in_range_is : (x s : StampValue) → in_range x ≡ Ok s → x ≡ s
in_range_is x s e = by_year (nat_le x.day.year 9999) e
  where
    by_year : (b : Bool) → ◌≡◌ {A = Result StampValue Refusal} (if b then Ok x else Err DateRange) (Ok s) → x ≡ s
    by_year true e = cc
    by_year false e = absurd cc

moved_cookies : (s : StampValue) (base : Base) (n : ℕ) → (moved s base n).cookies ≡ s.cookies
moved_cookies s Minutes n = refl
moved_cookies s base n = refl

restarted_cookies : (s : StampValue) (unit : Unit) (now : Moment) → (restarted s unit now).cookies ≡ s.cookies
restarted_cookies s Hour now = refl
restarted_cookies s unit now = refl

by_mark_cookies : (mark : Mark) (i : Interval) (s new : StampValue) (now : Moment) → repeated_by mark i s now ≡ Ok new → new.cookies ≡ s.cookies
by_mark_cookies Cumulate i s new now e = ap (λ (s : StampValue). s.cookies) (sym (in_range_is _ new e)) ∙ moved_cookies s (in_base i.unit i.value).0 _
by_mark_cookies CatchUp i s new now e = ap (λ (s : StampValue). s.cookies) (sym (in_range_is _ new e)) ∙ moved_cookies s (in_base i.unit i.value).0 _
by_mark_cookies Restart i s new now e =
    ap (λ (s : StampValue). s.cookies) (sym (in_range_is _ new e)) ∙ moved_cookies (restarted s i.unit now) (in_base i.unit i.value).0 _ ∙ restarted_cookies s i.unit now

as_cookies : (o : Option Repeater) (s new : StampValue) (now : Moment) → repeated_as o s now ≡ Ok new → new.cookies ≡ s.cookies
as_cookies None s new now e = let same : s ≡ new = cc in ap (λ (s : StampValue). s.cookies) (sym same)
as_cookies (Some p) s new now e = by_tests (p.interval.value == 0) (is_hour p.interval.unit && not (has_one_time s.time)) e
  where
    by_tests : (a b : Bool) → ◌≡◌ {A = Result StampValue Refusal} (if a then Ok s else (if b then Err BadRepeat else repeated_by p.mark p.interval s now)) (Ok new) → new.cookies ≡ s.cookies
    by_tests true b e = let same : s ≡ new = cc in ap (λ (s : StampValue). s.cookies) (sym same)
    by_tests false true e = absurd cc
    by_tests false false e = by_mark_cookies p.mark p.interval s new now e

repeated_cookies : (s new : StampValue) (now : Moment) → repeated s now ≡ Ok new → new.cookies ≡ s.cookies
repeated_cookies s new now e = as_cookies (first_repeater s.cookies) s new now e

-- ---- planning lines

-- an entry without a newline
record FlatEntry (e : PlanningEntry) : Type 0 where
  gap : Flat e.gap
  text : Flat e.text
  after : Flat e.after
  cookies : AllByRecursion FlatPart e.stamp.cookies

entry_flat : (text rest : List ℕ) (e : PlanningEntry) → entry_at text ≡ Some (e, rest) → Flat text → FlatEntry e × Flat rest
entry_flat text rest e is p =
    let all : Flat (entry_text e ++ rest) = subst Flat (entry_read text rest e is).0 p in
    let inner = back_line (word_text e.word) (e.gap ++ (e.text ++ e.after)) (front_line (entry_text e) rest all) in
    let stamped = back_line e.gap (e.text ++ e.after) inner in
    let text_flat = front_line e.text e.after stamped in (
      record { gap = front_line e.gap (e.text ++ e.after) inner; text = text_flat; after = back_line e.text e.after stamped; cookies = cookies_flat e.text e.stamp (entry_read text rest e is).1 text_flat },
      back_line (entry_text e) rest all,
    )

abbrev FlatRead : List PlanningEntry × List ℕ → Type 0
FlatRead r = AllByRecursion FlatEntry r.0 × Flat r.1

entries_flat : (n : ℕ) (text : List ℕ) (r : List PlanningEntry × List ℕ) → entries_at n text ≡ Some r → Flat text → FlatRead r
entries_flat zero text r is p =
    elim (cases_Bool (list_all is_trailing text)) [
      | inl end ↦ subst FlatRead (some_is ([], text) r (sym (entries_ended zero text end) ∙ is)) (tt, p)
      | inr other ↦ absurd (none_some (sym (entries_full text other) ∙ is))
    ]
entries_flat (suc n) text r is p =
    elim (cases_Bool (list_all is_trailing text)) [
      | inl end ↦ subst FlatRead (some_is ([], text) r (sym (entries_ended (suc n) text end) ∙ is)) (tt, p)
      | inr other ↦
          let e = bind_some (entry_at text) _ r (sym (entries_next n text other) ∙ is) in
          let es = bind_some (entries_at n e.0.1) _ r e.2 in
          let first = entry_flat text e.0.1 e.0.0 e.1 p in
          let more = entries_flat n e.0.1 es.0 es.1 first.1 in
          subst FlatRead (some_is (e.0.0 ∷ es.0.0, es.0.1) r es.2) ((first.0, more.0), more.1)
    ]

record FlatPlanning (p : PlanningLine) : Type 0 where
  indentation : Flat p.indentation
  blank : list_all is_blank p.indentation ≡ true
  entries : AllByRecursion FlatEntry p.entries
  tail : Flat p.tail

planned : (line : List ℕ) (p : PlanningLine) → planning_of line ≡ Some p → Flat line → FlatPlanning p
planned line p is flat =
    let r = planning_read line p is in
    let all : Flat (front is_blank line ++ behind is_blank line) = subst Flat (front_behind is_blank line) flat in
    let read = entries_flat 3 (behind is_blank line) (p.entries, p.tail) r.entries (back_line (front is_blank line) (behind is_blank line) all) in
    record {
      indentation = subst Flat (sym r.indentation) (front_line (front is_blank line) (behind is_blank line) all);
      blank = ap (list_all is_blank) r.indentation ∙ front_passes is_blank line;
      entries = read.0;
      tail = read.1;
    }

word_line : (w : Word) → Flat (word_text w)
word_line Closed = tested (codes "CLOSED:") refl
word_line Deadline = tested (codes "DEADLINE:") refl
word_line Scheduled = tested (codes "SCHEDULED:") refl

entry_line : (e : PlanningEntry) → FlatEntry e → Flat (entry_text e)
entry_line e p = both_lines (word_text e.word) _ (word_line e.word) (both_lines e.gap _ p.gap (both_lines e.text e.after p.text p.after))

entry_with_line : (e : PlanningEntry) (s : StampValue) → FlatEntry e → AllByRecursion FlatPart s.cookies → Flat (entry_with e s)
entry_with_line e s p all = both_lines (word_text e.word) _ (word_line e.word) (both_lines e.gap _ p.gap (both_lines (stamp_text s) e.after (stamp_line s all) p.after))

-- a line that begins, after blanks, with a word
word_begins : (indentation : List ℕ) (w : Word) (more : List ℕ) → list_all is_blank indentation ≡ true → NoStar (indentation ++ (word_text w ++ more))
word_begins indentation Closed more blank = begins_plainly indentation 67 (codes "LOSED:" ++ more) blank refl
word_begins indentation Deadline more blank = begins_plainly indentation 68 (codes "EADLINE:" ++ more) blank refl
word_begins indentation Scheduled more blank = begins_plainly indentation 83 (codes "CHEDULED:" ++ more) blank refl

-- a planning line with these bytes as its entries
entries_section_line : (p : PlanningLine) (text : List ℕ) → FlatPlanning p → Flat text → BeginsWithWord text → SectionLine (p.indentation ++ (text ++ p.tail))
entries_section_line p text flat line b =
    let shape : p.indentation ++ (text ++ p.tail) ≡ p.indentation ++ (word_text b.word ++ (b.more ++ p.tail)) =
    ap (λ (t : List ℕ). p.indentation ++ (t ++ p.tail)) b.is ∙ ap (λ (t : List ℕ). p.indentation ++ t) (append_assoc (word_text b.word) b.more p.tail) in
    record {
      flat = both_lines p.indentation (text ++ p.tail) flat.indentation (both_lines text p.tail line flat.tail);
      begins = subst NoStar (sym shape) (word_begins p.indentation b.word (b.more ++ p.tail) flat.blank);
    }

-- ---- without CLOSED, and with it

kept_line : (es : List PlanningEntry) → AllByRecursion FlatEntry es → Flat (kept_text es)
kept_line [] all = empty_line
kept_line (e ∷ es) all =
    elim (cases_Bool (is_closed e)) [
      | inl closed ↦ rw closed (kept_line es all.1)
      | inr kept ↦ rw kept (both_lines (entry_text e) (kept_text es) (entry_line e all.0) (kept_line es all.1))
    ]

kept_begins : (es : List PlanningEntry) → has_others es ≡ true → BeginsWithWord (kept_text es)
kept_begins [] some = absurd (false≢true some)
kept_begins (e ∷ es) some =
    elim (cases_Bool (is_closed e)) [
      | inl closed ↦ same_text (kept_text es) _ (without e es closed) (kept_begins es (others_later e es closed some))
      | inr kept ↦ record { word = e.word; more = (e.gap ++ (e.text ++ e.after)) ++ kept_text es; is = with_entry e es kept ∙ append_assoc (word_text e.word) (e.gap ++ (e.text ++ e.after)) (kept_text es) }
    ]
  where
    without : (e : PlanningEntry) (es : List PlanningEntry) → is_closed e ≡ true → kept_text es ≡ kept_text (e ∷ es)
    without e es closed = rw closed refl

    with_entry : (e : PlanningEntry) (es : List PlanningEntry) → is_closed e ≡ false → kept_text (e ∷ es) ≡ entry_text e ++ kept_text es
    with_entry e es kept = rw kept refl

pub without_closed_lines : (line : List ℕ) (p : PlanningLine) → planning_of line ≡ Some p → Flat line → AllByRecursion SectionLine (without_closed p)
without_closed_lines line p is flat =
    let f = planned line p is flat in
    elim (cases_Bool (has_others p.entries)) [
      | inl some ↦ rw some (entries_section_line p (kept_text p.entries) f (kept_line p.entries f.entries) (kept_begins p.entries some), tt)
      | inr none ↦ rw none tt
    ]

pub closed_text_line : (now : Moment) → SectionLine (closed_text now)
closed_text_line now = record {
  flat = both_lines (codes "CLOSED: ") (moment_text now) (tested (codes "CLOSED: ") refl) (moment_line now);
  begins = record { first = 67; others = codes "LOSED: " ++ moment_text now; is = refl; other = refl };
}

pub with_closed_line : (now : Moment) (line : List ℕ) (p : PlanningLine) → planning_of line ≡ Some p → Flat line → SectionLine (with_closed now p)
with_closed_line now line p is flat =
    let f = planned line p is flat in
    let kept : List ℕ = kept_text p.entries ++ p.tail in
    let whole : SectionLine (p.indentation ++ (closed_text now ++ (32 ∷ kept))) = record {
      flat = both_lines p.indentation _ f.indentation
          (both_lines (closed_text now) (32 ∷ kept) (closed_text_line now).flat (with_first_byte 32 kept refl (both_lines (kept_text p.entries) p.tail (kept_line p.entries f.entries) f.tail)));
      begins = begins_plainly p.indentation 67 ((codes "LOSED: " ++ moment_text now) ++ (32 ∷ kept)) f.blank refl;
    } in
    elim (cases_Bool (has_others p.entries)) [
      | inl some ↦ rw some whole
      | inr none ↦ rw none (closed_text_line now)
    ]

-- ---- repeated

repeated_stamp_line : (now : Moment) (e : PlanningEntry) (text : List ℕ) (r : Result StampValue Refusal) → repeated e.stamp now ≡ r → result_map_both (entry_with e) (λ why. why) r ≡ Ok text → FlatEntry e → Flat text
repeated_stamp_line now e text (Ok s) same is p =
    let whole : entry_with e s ≡ text = cc in
    subst Flat whole (entry_with_line e s p (subst (AllByRecursion FlatPart) (sym (repeated_cookies e.stamp s now same)) p.cookies))
repeated_stamp_line now e text (Err fault) same is p = absurd cc

repeated_entry_line : (now : Moment) (e : PlanningEntry) (text : List ℕ) → repeated_entry now e ≡ Ok text → FlatEntry e → Flat text
repeated_entry_line now e text is p = by_tests (is_closed e) (is_repeating e) is
  where
    by_tests : (a b : Bool) → (if a then Ok [] else (if b then result_map_both (entry_with e) (λ why. why) (repeated e.stamp now) else Ok (entry_text e))) ≡ Ok text → Flat text
    by_tests true b is = let none : [] ≡ text = cc in subst Flat none empty_line
    by_tests false true is = repeated_stamp_line now e text (repeated e.stamp now) refl is p
    by_tests false false is = let same : entry_text e ≡ text = cc in subst Flat same (entry_line e p)

both_texts : (first more : Result (List ℕ) Refusal) (text : List ℕ) → behind_first first more ≡ Ok text → ((t : List ℕ) → first ≡ Ok t → Flat t) → ((t : List ℕ) → more ≡ Ok t → Flat t) → Flat text
both_texts (Ok a) (Ok b) text is front back = let whole : a ++ b ≡ text = cc in subst Flat whole (both_lines a b (front a refl) (back b refl))
both_texts (Ok a) (Err fault) text is front back = absurd cc
both_texts (Err fault) more text is front back = absurd cc

repeated_entries_line : (now : Moment) (es : List PlanningEntry) (text : List ℕ) → repeated_entries now es ≡ Ok text → AllByRecursion FlatEntry es → Flat text
repeated_entries_line now [] text is all = let none : [] ≡ text = cc in subst Flat none empty_line
repeated_entries_line now (e ∷ es) text is all =
    both_texts (repeated_entry now e) (repeated_entries now es) text is (λ t first. repeated_entry_line now e t first all.0) (λ t more. repeated_entries_line now es t more all.1)

pub repeated_is_line : (now : Moment) (line : List ℕ) (p : PlanningLine) (text : List ℕ) → planning_of line ≡ Some p → has_repeater p.entries ≡ true → repeated_entries now p.entries ≡ Ok text
    → Flat line → SectionLine (repeated_line p text)
repeated_is_line now line p text is some made flat =
    let f = planned line p is flat in
    let are : AreRepeated p.entries now (Ok text) = subst (AreRepeated p.entries now) made (entries_repeat now p.entries) in
    entries_section_line p text f (repeated_entries_line now p.entries text made f.entries) (repeated_begins p.entries now text (others_repeat p.entries some) are)

-- ---- the other lines

quoted_line : (state : List ℕ) → Flat state → Flat (quoted state)
quoted_line state p = with_first_byte 34 _ refl (both_lines state _ p (with_first_byte 34 _ refl (blanks_line (10 - length state))))

pub note_is_line : (new old : List ℕ) (now : Moment) → Flat new → Flat old → SectionLine (note_line new old now)
note_is_line new old now is was =
    let tail : List ℕ = quoted new ++ (codes " from " ++ (quoted old ++ (32 ∷ moment_text now))) in
    record {
      flat = both_lines (codes "- State ") tail (tested (codes "- State ") refl)
          (both_lines (quoted new) _ (quoted_line new is)
          (both_lines (codes " from ") _ (tested (codes " from ") refl) (both_lines (quoted old) _ (quoted_line old was) (with_first_byte 32 _ refl (moment_line now)))));
      begins = record { first = 45; others = codes " State " ++ tail; is = refl; other = refl };
    }

pub property_is_line : (name value : List ℕ) → Flat name → Flat value → SectionLine (property_line name value)
property_is_line name value is says = by_test (length value == 0)
  where
    with_colon : (tail : List ℕ) → Flat tail → SectionLine (58 ∷ (name ++ 58 ∷ tail))
    with_colon tail p = record {
      flat = with_first_byte 58 _ refl (both_lines name (58 ∷ tail) is (with_first_byte 58 tail refl p));
      begins = record { first = 58; others = name ++ 58 ∷ tail; is = refl; other = refl };
    }

    by_test : (b : Bool) → SectionLine (if b then 58 ∷ (name ++ 58 ∷ []) else 58 ∷ (name ++ (58 ∷ 32 ∷ value)))
    by_test true = with_colon [] empty_line
    by_test false = with_colon (32 ∷ value) (with_first_byte 32 value refl says)

pub tested_line : (b : ℕ) (l : List ℕ) → eqb b 42 ≡ false → list_all (λ b. not (eqb b 10)) (b ∷ l) ≡ true → SectionLine (b ∷ l)
tested_line b l other all = record { flat = tested (b ∷ l) all; begins = record { first = b; others = l; is = refl; other = other } }

-- ---- a section whose planning changes: what holds of lines that may stand in it, and of its
-- lines, holds of all

module _ (P : List ℕ → Type 0) (flat : (l : List ℕ) → P l → Flat l) (own : (l : List ℕ) → SectionLine l → P l) where
  all_own : (ls : List (List ℕ)) → AllByRecursion SectionLine ls → AllByRecursion P ls
  all_own [] all = tt
  all_own (l ∷ ls) all = (own l all.0, all_own ls all.1)

  replanned_parts : (none : List (List ℕ)) (some : PlanningLine → List (List ℕ)) (parts new : SectionParts) → AllByRecursion SectionLine none
      → ((line : List ℕ) (p : PlanningLine) → planning_of line ≡ Some p → Flat line → AllByRecursion SectionLine (some p))
      → AllParts P parts → replanned none some parts parts.planning ≡ Ok new → AllParts P new
  replanned_parts none some parts new first made a e = by_lines parts.planning a.planning e
    where
      by_plan : (l : List ℕ) (o : Option PlanningLine) → planning_of l ≡ o → P l → replanned_line some parts o ≡ Ok new → AllParts P new
      by_plan l None is all e = absurd cc
      by_plan l (Some p) is all e =
          let same : record parts { planning = some p } ≡ new = cc in
          subst (AllParts P) same (record { planning = all_own (some p) (made l p is (flat l all)); drawer = a.drawer; rest = a.rest })

      by_lines : (ls : List (List ℕ)) → AllByRecursion P ls → replanned none some parts ls ≡ Ok new → AllParts P new
      by_lines [] all e =
          let same : record parts { planning = none } ≡ new = cc in
          subst (AllParts P) same (record { planning = all_own none first; drawer = a.drawer; rest = a.rest })
      by_lines (l ∷ ls) all e = by_plan l (planning_of l) refl all.0 e

  pub cleared_parts : (parts new : SectionParts) → AllParts P parts → clear_closed parts ≡ Ok new → AllParts P new
  cleared_parts parts new a e = replanned_parts [] without_closed parts new tt without_closed_lines a e

  pub closed_parts : (now : Moment) (parts new : SectionParts) → AllParts P parts → set_closed now parts ≡ Ok new → AllParts P new
  closed_parts now parts new a e =
      replanned_parts (closed_text now ∷ []) (λ p. with_closed now p ∷ []) parts new (closed_text_line now, tt) (λ line p is flat. (with_closed_line now line p is flat, tt)) a e
