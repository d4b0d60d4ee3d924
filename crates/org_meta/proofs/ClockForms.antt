-- A clock line is read where it is well formed, and only there.
use Rattle.std.proofs.Common.{rules, ◌≡◌, ℕ, ◌+◌, ◌-◌, ◌≤◌, Bool, true, false, Option, Some, None, List, [], ◌∷◌, ◌++◌, length, take, drop, refl, sym, ap, subst, ◌∙◌, arith, inl, inr, append_assoc, append-nil}
use Rattle.std.proofs.lemmas.Grind.{common_steps}
use Rattle.std.specs.Prelude.{◌⊎◌, codes, if◌then◌else◌}
use Rattle.std.specs.Option.{option_map_or}
use Rattle.std.specs.Char.{is_ascii_digit}
use Rattle.std.specs.List.{list_all, prefix_len}
use Rattle.std.proofs.Math.Dec.{eqb-suc-zero}
use Rattle.std.proofs.lemmas.Bool.{cases_Bool}
use Rattle.std.proofs.lemmas.Bool.Decides.{nat_tests}
use Rattle.std.proofs.lemmas.List.{drop_at, take-append-drop}
use Rattle.org_splice.specs.Blanks.{is_blank, is_trailing, front, behind, end_of, trimmed_end}
use Rattle.org_splice.proofs.Ends.{both, front_behind, front_passes, end_passes, kept_end}
use Rattle.org_stamp.specs.Calendar.{Moment}
use Rattle.org_stamp.specs.Parts.{◌>>=◌}
use Rattle.org_stamp.specs.Stamp.{closing, opening}
use Rattle.org_stamp.proofs.Found.{bind_ok}
use Rattle.org_meta.specs.declared.clock.Running.{Running}
use Rattle.org_meta.specs.declared.clock.Clock.{Clock}
use Rattle.org_meta.specs.declared.clock.Clock.TheVariants.{Open, Closed}
use Rattle.org_meta.specs.Clocks.{clock_stamp_at, behind_some, behind_mark, are_minutes, is_duration, closed_minutes, clock_from, clock_of, minutes_between}
use Rattle.org_meta.specs.WellFormed.{IsSome, IsClockStamp, IsClockFront, IsDuration, IsOpenClock, IsClosedClock, IsClockLine}
use Rattle.org_meta.proofs.ClosedClocks.{same_some, marked, gone, some_pass, stamped, clock_front, clock_again, clock_stamp_again, from_minutes}
use Rattle.org_meta.proofs.Trims.{behind_front, trim_all, trim_behind}

-- ---- one or more bytes

gone_some : (test : ℕ → Bool) (text more : List ℕ) → behind_some test text ≡ Some more → (l : List ℕ) × IsSome test l × (text ≡ l ++ more)
gone_some test text more e =
    let g = gone test text more e in
    (g.first ∷ g.others, record { some = omega arith; all = g.pass }, g.is)

some_gone : (test : ℕ → Bool) (l more : List ℕ) → IsSome test l → prefix_len test more ≡ 0 → behind_some test (l ++ more) ≡ Some more
some_gone test [] more is none = absurd (let some = is.some in omega arith)
some_gone test (b ∷ l) more is none =
    some_pass test b (l ++ more) (both (test b) (list_all test l) is.all).0 ∙ ap (λ (t : List ℕ). Some t) (behind_front test (b ∷ l) more is.all none)

-- ---- durations

two_digits_read : (text : List ℕ) → are_minutes text ≡ true → (a : ℕ) × (b : ℕ) × (text ≡ 58 ∷ a ∷ b ∷ []) × (list_all is_ascii_digit (a ∷ b ∷ []) ≡ true)
two_digits_read [] e = absurd cc
two_digits_read (c ∷ []) e = absurd cc
two_digits_read (c ∷ a ∷ []) e = absurd cc
two_digits_read (c ∷ a ∷ b ∷ d ∷ more) e = absurd cc
two_digits_read (c ∷ a ∷ b ∷ []) e = grind (arith, common_steps)

passing : (o : Option (List ℕ)) → option_map_or are_minutes o false ≡ true → (text : List ℕ) × (o ≡ Some text) × (are_minutes text ≡ true)
passing None e = absurd cc
passing (Some text) e = (text, refl, e)

duration_sound : (text : List ℕ) → is_duration text ≡ true → IsDuration text
duration_sound text e = search (rules, arith, passing, bind_ok, gone_some, two_digits_read, marked)

digit_solid : (hours more : List ℕ) → IsSome is_ascii_digit hours → prefix_len is_blank (hours ++ more) ≡ 0
digit_solid [] more is = absurd (let some = is.some in omega arith)
digit_solid (d ∷ hours) more is = grind (arith, common_steps)

minutes_read : (a b : ℕ) → list_all is_ascii_digit (a ∷ b ∷ []) ≡ true → are_minutes (58 ∷ a ∷ b ∷ []) ≡ true
minutes_read a b all = grind (arith, common_steps)

duration_complete : (text : List ℕ) → IsDuration text → is_duration text ≡ true
duration_complete text d = grind (arith, common_steps, some_gone, digit_solid, minutes_read)

-- ---- what closes a clock

record Closes (start : Moment) (text : List ℕ) (minutes : ℕ) : Type 0 where
  second : List ℕ
  duration : List ℕ
  end : Moment
  is : text ≡ codes "--" ++ (second ++ duration)
  ends : IsClockStamp second end
  lasts : IsDuration duration
  between : minutes_between start end ≡ Some minutes

stamp_sound : (text : List ℕ) (start : Moment) (size : ℕ) → clock_stamp_at text ≡ Some (start, size) → IsClockStamp (take size text) start
stamp_sound text start size e = let s = stamped text start size e in record { value = s.value; is_text = s.is_text; clock = s.clock; starts = s.start_is }

closes_sound : (start : Moment) (text : List ℕ) (minutes : ℕ) → closed_minutes start text ≡ Some minutes → Closes start text minutes
closes_sound start text minutes e =
    let second = bind_ok (behind_mark (codes "--") text) (λ second. clock_stamp_at second >>= λ end. if is_duration (drop end.1 second) then minutes_between start end.0 else None) minutes e in
    let end = bind_ok (clock_stamp_at second.0) (λ end. if is_duration (drop end.1 second.0) then minutes_between start end.0 else None) minutes second.2 in
    let size : ℕ = end.0.1 in
    elim (cases_Bool (is_duration (drop size second.0))) [
      | inl lasts ↦
          record {
            second = take size second.0;
            duration = drop size second.0;
            end = end.0.0;
            is = marked (codes "--") text second.0 second.1 ∙ ap (λ (t : List ℕ). codes "--" ++ t) (sym (take-append-drop size second.0));
            ends = stamp_sound second.0 end.0.0 size end.1;
            lasts = duration_sound (drop size second.0) lasts;
            between = rw lasts at end.2;
          }
      | inr other ↦ let none : None ≡ Some minutes = rw other at end.2 in absurd cc
    ]

closes_complete : (start : Moment) (second duration : List ℕ) (end : Moment) (minutes : ℕ) → IsClockStamp second end → IsDuration duration → minutes_between start end ≡ Some minutes
    → closed_minutes start (codes "--" ++ (second ++ duration)) ≡ Some minutes
closes_complete start second duration end minutes s lasts between = grind (arith, common_steps, clock_stamp_again, drop_at, duration_complete)

-- ---- the line

-- what a clock is made of after its first stamp
from_parts : (start : Moment) (head : ℕ) (text : List ℕ) (clock : Clock) → clock_from start head text ≡ Some clock
    → ((text ≡ []) × (clock ≡ Open (record { start = start; head = head }))) ⊎ ((minutes : ℕ) × (closed_minutes start text ≡ Some minutes) × (clock ≡ Closed minutes))
from_parts start head [] clock e = inl (refl, sym (same_some (Open (record { start = start; head = head })) clock e))
from_parts start head (b ∷ text) clock e =
    let read = bind_ok (closed_minutes start (b ∷ text)) (λ minutes. Some (Closed minutes)) clock (rw (eqb-suc-zero (length text)) at e) in
    inr (read.0, read.1, sym (same_some (Closed read.0) clock read.2))

-- how long the front is, of the lengths that are counted
head_size : (body head before text : List ℕ) (size : ℕ) → size ≤ length text → head ≡ before ++ take size text → body ≡ head ++ drop size text → length body - length text + size ≡ length head
head_size body head before text size within head_is body_is = grind (arith, common_steps)

record Begun (line : List ℕ) (clock : Clock) : Type 0 where
  front : List ℕ
  more : List ℕ
  start : Moment
  is : line ≡ front ++ (more ++ end_of is_trailing line)
  begins : IsClockFront front start
  says : clock_from start (length front) more ≡ Some clock

begun : (line : List ℕ) (clock : Clock) → clock_of line ≡ Some clock → Begun line clock
begun line clock e =
    let body : List ℕ = trimmed_end line in
    let after = bind_ok (behind_mark (codes "CLOCK:") (behind is_blank body))
    (λ after. behind_some is_blank after >>= λ text. clock_stamp_at text >>= λ start. clock_from start.0 (length body - length text + start.1) (drop start.1 text)) clock e in
    let text = bind_ok (behind_some is_blank after.0) (λ text. clock_stamp_at text >>= λ start. clock_from start.0 (length body - length text + start.1) (drop start.1 text)) clock after.2 in
    let start = bind_ok (clock_stamp_at text.0) (λ start. clock_from start.0 (length body - length text.0 + start.1) (drop start.1 text.0)) clock text.2 in
    let size : ℕ = start.0.1 in
    let g = gone_some is_blank after.0 text.0 text.1 in
    let s = stamped text.0 start.0.0 size start.1 in
    let within : size ≤ length text.0 = s.within in
    let indentation : List ℕ = front is_blank body in
    let stamp : List ℕ = take size text.0 in
    let more : List ℕ = drop size text.0 in
    let head : List ℕ = indentation ++ (codes "CLOCK:" ++ (g.0 ++ stamp)) in
    let body_is : body ≡ indentation ++ (codes "CLOCK:" ++ (g.0 ++ (stamp ++ more))) =
    front_behind is_blank body
    ∙ ap (λ (t : List ℕ). indentation ++ t)
    (marked (codes "CLOCK:") (behind is_blank body) after.0 after.1
    ∙ ap (λ (t : List ℕ). codes "CLOCK:" ++ t) (g.2 ∙ ap (λ (t : List ℕ). g.0 ++ t) (sym (take-append-drop size text.0)))) in
    let shape : indentation ++ (codes "CLOCK:" ++ (g.0 ++ (stamp ++ more))) ≡ head ++ more = simp append_assoc in
    let whole : body ≡ head ++ more = body_is ∙ shape in
    let front_is : head ≡ (indentation ++ (codes "CLOCK:" ++ g.0)) ++ stamp = simp append_assoc in
    let n : length body - length text.0 + size ≡ length head = head_size body head (indentation ++ (codes "CLOCK:" ++ g.0)) text.0 size within front_is whole in
    record {
      front = head;
      more = more;
      start = start.0.0;
      is = kept_end is_trailing line ∙ ap (λ (t : List ℕ). t ++ end_of is_trailing line) whole ∙ append_assoc head more (end_of is_trailing line);
      begins = record {
        indentation = indentation;
        gap = g.0;
        stamp = stamp;
        is = refl;
        indentation_blank = front_passes is_blank body;
        gap_blank = g.1;
        stamped = stamp_sound text.0 start.0.0 size start.1;
      };
      says = ap (λ k. clock_from start.0.0 k more) (sym n) ∙ start.2;
    }

pub clock_sound : (line : List ℕ) (clock : Clock) → clock_of line ≡ Some clock → IsClockLine line clock
clock_sound line clock e =
    let b = begun line clock e in
    let tail : List ℕ = end_of is_trailing line in
    let trailing = end_passes is_trailing line in
    elim (from_parts b.start (length b.front) b.more clock b.says) [
      | inl only ↦
          subst (IsClockLine line) (sym only.1) (record { front = b.front; tail = tail; is = b.is ∙ ap (λ (t : List ℕ). b.front ++ (t ++ tail)) only.0; begins = b.begins; head = refl; tail_trailing = trailing })
      | inr closed ↦
          let c = closes_sound b.start b.more closed.0 closed.1 in
          subst (IsClockLine line) (sym closed.2)
          (record {
            front = b.front;
            second = c.second;
            duration = c.duration;
            tail = tail;
            start = b.start;
            end = c.end;
            is = b.is ∙ ap (λ (t : List ℕ). b.front ++ (t ++ tail)) c.is;
            begins = b.begins;
            ends = c.ends;
            lasts = c.lasts;
            between = c.between;
            tail_trailing = trailing;
          })
    ]

-- ---- read again

-- only what is left without blanks at its end counts
abbrev clock_in : List ℕ → Option Clock
clock_in body =
    behind_mark (codes "CLOCK:") (behind is_blank body) >>= λ after. behind_some is_blank after >>= λ text. clock_stamp_at text >>= λ start.
    clock_from start.0 (length body - length text + start.1) (drop start.1 text)

same_body : (a b : List ℕ) → trimmed_end a ≡ trimmed_end b → clock_of a ≡ clock_of b
same_body a b e = ap clock_in e

trim_tail : (xs : List ℕ) (b : ℕ) (tail : List ℕ) → is_trailing b ≡ false → list_all is_trailing tail ≡ true → trimmed_end (xs ++ b ∷ tail) ≡ xs ++ b ∷ []
trim_tail xs b tail solid trailing = trim_behind is_trailing xs b tail solid ∙ ap (λ (t : List ℕ). xs ++ b ∷ t) (trim_all is_trailing tail trailing)

-- a text that ends in such a byte is read as it is with a tail
trimmed_line : (text tail xs : List ℕ) (b : ℕ) → text ≡ xs ++ b ∷ [] → is_trailing b ≡ false → list_all is_trailing tail ≡ true → (trimmed_end (text ++ tail) ≡ text) × (trimmed_end text ≡ text)
trimmed_line text tail xs b is solid trailing = grind (arith, common_steps, append_assoc, trim_tail)

begins_again : (text more : List ℕ) (start : Moment) → (f : IsClockFront text start) → trimmed_end (text ++ more) ≡ text ++ more → clock_of (text ++ more) ≡ clock_from start (length text) more
begins_again text more start f trimmed = by_gap f.gap f.gap_blank f.is
  where
    by_gap : (gap : List ℕ) → IsSome is_blank gap → text ≡ f.indentation ++ (codes "CLOCK:" ++ (gap ++ f.stamp)) → clock_of (text ++ more) ≡ clock_from start (length text) more
    by_gap [] is e = absurd (let some = is.some in omega arith)
    by_gap (b ∷ gap) is e =
        let s = f.stamped in
        let whole : List ℕ = clock_front f.indentation (b ∷ gap) f.stamp in
        ap (λ (t : List ℕ). clock_of (t ++ more)) e
        ∙ clock_again f.indentation b gap f.stamp more s.value f.indentation_blank is.all s.is_text s.clock (ap (λ (t : List ℕ). trimmed_end (t ++ more)) (sym e) ∙ trimmed ∙ ap (λ (t : List ℕ). t ++ more) e)
        ∙ ap (λ (m : Moment). clock_from m (length whole) more) s.starts ∙ ap (λ (t : List ℕ). clock_from start (length t) more) (sym e)

closing_solid : (active : Bool) → is_trailing (closing active) ≡ false
closing_solid true = refl
closing_solid false = refl

-- the front ends in a bracket
front_ends : (text : List ℕ) (start : Moment) → IsClockFront text start → (xs : List ℕ) × (b : ℕ) × (text ≡ xs ++ b ∷ []) × (is_trailing b ≡ false)
front_ends text start f =
    let s = f.stamped in
    let i = s.is_text in
    let a = s.value.active in
    let before : List ℕ = f.indentation ++ (codes "CLOCK:" ++ (f.gap ++ opening a ∷ (i.date ++ i.tail))) in
    let shape : f.indentation ++ (codes "CLOCK:" ++ (f.gap ++ opening a ∷ (i.date ++ (i.tail ++ closing a ∷ [])))) ≡ before ++ closing a ∷ [] = simp append_assoc in
    (before, closing a, f.is ∙ ap (λ (t : List ℕ). f.indentation ++ (codes "CLOCK:" ++ (f.gap ++ t))) i.split ∙ shape, closing_solid a)

-- the duration ends in a digit
duration_ends : (head second duration : List ℕ) → (d : IsDuration duration) → (xs : List ℕ) × (head ++ (codes "--" ++ (second ++ duration)) ≡ xs ++ d.ones ∷ []) × (is_trailing d.ones ≡ false)
duration_ends head second duration d =
    let before : List ℕ = head ++ (codes "--" ++ (second ++ (d.before ++ (codes "=>" ++ (d.gap ++ (d.hours ++ 58 ∷ d.tens ∷ [])))))) in
    let shape : head ++ (codes "--" ++ (second ++ (d.before ++ (codes "=>" ++ (d.gap ++ (d.hours ++ 58 ∷ d.tens ∷ d.ones ∷ [])))))) ≡ before ++ d.ones ∷ [] = simp append_assoc in
    let last : is_ascii_digit d.ones ≡ true = (both (is_ascii_digit d.ones) true (both (is_ascii_digit d.tens) (list_all is_ascii_digit (d.ones ∷ [])) d.minutes).1).0 in
    (before, ap (λ (t : List ℕ). head ++ (codes "--" ++ (second ++ t))) d.is ∙ shape, solid_digit d.ones last)
  where
    solid_digit : (b : ℕ) → is_ascii_digit b ≡ true → is_trailing b ≡ false
    solid_digit b digit = grind (arith, nat_tests)

open_complete : (line : List ℕ) (r : Running) → IsOpenClock line r → clock_of line ≡ Some (Open r)
open_complete line r o =
    let ends = front_ends o.front r.start o.begins in
    let trims = trimmed_line o.front o.tail ends.0 ends.1 ends.2 ends.3 o.tail_trailing in
    let none : o.front ++ [] ≡ o.front = append-nil o.front in
    ap clock_of o.is ∙ same_body (o.front ++ o.tail) (o.front ++ []) (trims.0 ∙ sym trims.1 ∙ ap trimmed_end (sym none))
    ∙ begins_again o.front [] r.start o.begins (ap trimmed_end none ∙ trims.1 ∙ sym none) ∙ ap (λ n. Some (Open (record { start = r.start; head = n }))) (sym o.head)

closed_complete : (line : List ℕ) (minutes : ℕ) → IsClosedClock line minutes → clock_of line ≡ Some (Closed minutes)
closed_complete line minutes c =
    let more : List ℕ = codes "--" ++ (c.second ++ c.duration) in
    let ends = duration_ends c.front c.second c.duration c.lasts in
    let trims = trimmed_line (c.front ++ more) c.tail ends.0 c.lasts.ones ends.1 ends.2 c.tail_trailing in
    ap clock_of (c.is ∙ sym (append_assoc c.front more c.tail)) ∙ same_body ((c.front ++ more) ++ c.tail) (c.front ++ more) (trims.0 ∙ sym trims.1)
    ∙ begins_again c.front more c.start c.begins trims.1
    ∙ from_minutes c.start (length c.front) 45 (45 ∷ (c.second ++ c.duration)) minutes (closes_complete c.start c.second c.duration c.end minutes c.ends c.lasts c.between)

pub clock_complete : (line : List ℕ) (clock : Clock) → IsClockLine line clock → clock_of line ≡ Some clock
clock_complete line (Open r) is = open_complete line r is
clock_complete line (Closed minutes) is = closed_complete line minutes is
