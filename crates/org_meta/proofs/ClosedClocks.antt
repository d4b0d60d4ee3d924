-- What an open clock line is made of, and what it says once it is closed.
use Rattle.std.proofs.Common.{◌≡◌, eqb, ℕ, zero, suc, ◌+◌, ◌-◌, ◌/◌, ◌%◌, ◌<◌, ◌≤◌, Bool, true, false, Option, Some, None, Ok, List, [], ◌∷◌, ◌++◌, length, take, drop, refl, sym, ap, subst, ◌∙◌, arith, inl, inr, append_assoc, append-nil, length-append}
use Rattle.std.proofs.lemmas.Grind.{common_steps}
use Rattle.std.specs.Prelude.{codes, is_some, nat_lt, replicate, if◌then◌else◌, ◌==◌}
use Rattle.std.specs.Option.{option_map_or}
use Rattle.std.specs.Char.{is_ascii_digit}
use Rattle.std.specs.Fmt.{decimal, digits, digits_onto, digit_glyph}
use Rattle.std.specs.List.{list_all, prefix_len}
use Rattle.std.proofs.Math.Dec.{eqb-suc-zero}
use Rattle.std.proofs.lemmas.Bool.{cases_Bool, false≢true}
use Rattle.std.proofs.lemmas.Bool.Decides.{nat_tests}
use Rattle.std.proofs.lemmas.List.{drop_at, length-drop, take-append-drop}
use Rattle.org_splice.specs.Blanks.{is_blank, is_trailing, front, behind, end_of, trimmed_end}
use Rattle.org_splice.specs.Lines.{IsLine}
use Rattle.org_splice.proofs.Ends.{both, front_behind, front_passes, kept_end}
use Rattle.org_stamp.specs.Calendar.{Moment, IsDay, weekday_of}
use Rattle.org_stamp.specs.Parts.{◌>>=◌}
use Rattle.org_stamp.specs.Stamp.{StampValue, IsStamp, IsStampText, opening, start_of, stamp_of, date_text, day_name, clock_text, duration_text}
use Rattle.org_stamp.specs.Front.{stamp_at}
use Rattle.org_stamp.proofs.Exact.{stamp_complete, stamp_sound}
use Rattle.org_stamp.proofs.Found.{bind_ok}
use Rattle.org_stamp.proofs.Print.{digit_is, print_is}
use Rattle.org_meta.specs.declared.clock.Running.{Running}
use Rattle.org_meta.specs.declared.clock.Clock.{Clock}
use Rattle.org_meta.specs.declared.clock.Clock.TheVariants.{Open, Closed}
use Rattle.org_meta.specs.Moments.{moment_text}
use Rattle.org_meta.specs.Clocks.{is_clock_stamp, clock_stamp_at, behind_some, behind_mark, behind_hours, are_minutes, is_duration, closed_minutes, clock_from, clock_of, running_of, running_clock, is_open, minutes_between, minutes_in}
use Rattle.org_meta.specs.Clocking.{clock_line, closing_text, closed_after, closed_clock, closed_line, minutes_run}
use Rattle.org_splice.proofs.AllLines.{AllByRecursion-take}
use Rattle.org_meta.proofs.Flat.{Flat, tested, empty_line, both_lines, with_first_byte, two_line}
use Rattle.org_meta.proofs.PlanningText.{starts_front}
use Rattle.org_meta.proofs.Trims.{behind_front, trim_behind}

-- ---- what each step of reading says

pub same_some : {X : Type 0} (x y : X) → Some x ≡ Some y → x ≡ y
same_some x y e = cc

open_clock : (o : Option Clock) (r : Running) → running_of o ≡ Some r → o ≡ Some (Open r)
open_clock None r e = absurd cc
open_clock (Some (Open x)) r e = ap (λ (x : Running). Some (Open x)) (same_some x r e)
open_clock (Some (Closed n)) r e = absurd cc

none_opens : (o : Option ℕ) (r : Running) → (o >>= λ minutes. Some (Closed minutes)) ≡ Some (Open r) → ⊥
none_opens None r e = absurd cc
none_opens (Some n) r e = absurd cc

-- nothing follows the timestamp of an open clock
open_from : (start : Moment) (head : ℕ) (text : List ℕ) (r : Running) → clock_from start head text ≡ Some (Open r) → (text ≡ []) × (record { start = start; head = head } ≡ r)
open_from start head [] r e = (refl, let same : Some (Open (record { start = start; head = head })) ≡ Some (Open r) = e in cc)
open_from start head (b ∷ text) r e = absurd (none_opens (closed_minutes start (b ∷ text)) r (rw (eqb-suc-zero (length text)) at e))

-- what follows makes it none
closed_from : (start : Moment) (head b : ℕ) (text : List ℕ) → is_some (running_of (clock_from start head (b ∷ text))) ≡ false
closed_from start head b text = rw (eqb-suc-zero (length text)) (by_minutes (closed_minutes start (b ∷ text)))
  where
    by_minutes : (o : Option ℕ) → is_some (running_of (o >>= λ minutes. Some (Closed minutes))) ≡ false
    by_minutes None = refl
    by_minutes (Some n) = refl

pub marked : (mark text after : List ℕ) → behind_mark mark text ≡ Some after → text ≡ mark ++ after
marked mark text after e = grind (arith, common_steps, cases_Bool, starts_front, same_some)

-- at least one byte passes
pub record Gone (test : ℕ → Bool) (text more : List ℕ) : Type 0 where
  pub first : ℕ
  pub others : List ℕ
  pub is : text ≡ (first ∷ others) ++ more
  pub pass : list_all test (first ∷ others) ≡ true

pub some_pass : (test : ℕ → Bool) (b : ℕ) (bs : List ℕ) → test b ≡ true → behind_some test (b ∷ bs) ≡ Some (behind test (b ∷ bs))
some_pass test b bs holds = rw holds refl

pub gone : (test : ℕ → Bool) (text more : List ℕ) → behind_some test text ≡ Some more → Gone test text more
gone test [] more e = absurd cc
gone test (b ∷ bs) more e =
    elim (cases_Bool (test b)) [
      | inl holds ↦
          let same : behind test (b ∷ bs) ≡ more = same_some (behind test (b ∷ bs)) more (sym (some_pass test b bs holds) ∙ e) in
          let size : prefix_len test (b ∷ bs) ≡ suc (prefix_len test bs) = rw holds (omega arith) in
          let front_is : front test (b ∷ bs) ≡ b ∷ front test bs = ap (λ n. take n (b ∷ bs)) size in
          record {
            first = b;
            others = front test bs;
            is = front_behind test (b ∷ bs) ∙ ap (λ (t : List ℕ). front test (b ∷ bs) ++ t) same ∙ ap (λ (t : List ℕ). t ++ more) front_is;
            pass = ap (list_all test) (sym front_is) ∙ front_passes test (b ∷ bs);
          }
      | inr fails ↦ let none : None ≡ Some more = rw fails at e in absurd cc
    ]

pub record Stamped (text : List ℕ) (start : Moment) (size : ℕ) : Type 0 where
  pub value : StampValue
  pub clock : is_clock_stamp value ≡ true
  pub start_is : start_of value ≡ start
  pub is_text : IsStampText (take size text) value
  pub within : size ≤ length text

pair_is : (x y : Moment × ℕ) → Some x ≡ Some y → (x.0 ≡ y.0) × (x.1 ≡ y.1)
pair_is x y e = let same : x ≡ y = cc in (ap (λ (p : Moment × ℕ). p.0) same, ap (λ (p : Moment × ℕ). p.1) same)

pub stamped : (text : List ℕ) (start : Moment) (size : ℕ) → clock_stamp_at text ≡ Some (start, size) → Stamped text start size
stamped text start size e =
    let read = bind_ok (stamp_at text) (λ r. if is_clock_stamp r.0 then Some (start_of r.0, r.1) else None) (start, size) e in
    elim (cases_Bool (is_clock_stamp read.0.0)) [
      | inl holds ↦
          let same = pair_is (start_of read.0.0, read.0.1) (start, size) (rw holds at read.2) in
          let at : stamp_at text ≡ Some (read.0.0, size) = read.1 ∙ ap (λ n. Some (read.0.0, n)) same.1 in
          let sound = stamp_sound text read.0.0 size at in
          record { value = read.0.0; clock = holds; start_is = same.0; is_text = sound.is_text; within = sound.within }
      | inr fails ↦ let none : None ≡ Some (start, size) = rw fails at read.2 in absurd cc
    ]

-- ---- what an open clock line is made of

-- the line up to its timestamp's end: blanks, `CLOCK:`, blanks and the timestamp
abbrev pub clock_front : List ℕ → List ℕ → List ℕ → List ℕ
clock_front indentation gap stamp = indentation ++ (codes "CLOCK:" ++ (gap ++ stamp))

record OpenLine (line : List ℕ) (r : Running) : Type 0 where
  indentation : List ℕ
  first : ℕ
  others : List ℕ
  stamp : List ℕ
  value : StampValue
  blank : list_all is_blank indentation ≡ true
  gap : list_all is_blank (first ∷ others) ≡ true
  clock : is_clock_stamp value ≡ true
  is_text : IsStampText stamp value
  start : r.start ≡ start_of value
  head : r.head ≡ length (clock_front indentation (first ∷ others) stamp)
  tail : List ℕ
  is : line ≡ clock_front indentation (first ∷ others) stamp ++ tail

open_line_is : (line : List ℕ) (r : Running) → running_clock line ≡ Some r → OpenLine line r
open_line_is line r runs =
    let body : List ℕ = trimmed_end line in
    let after = bind_ok (behind_mark (codes "CLOCK:") (behind is_blank body))
    (λ after. behind_some is_blank after >>= λ text. clock_stamp_at text >>= λ start. clock_from start.0 (length body - length text + start.1) (drop start.1 text))
    (Open r) (open_clock (clock_of line) r runs) in
    let text = bind_ok (behind_some is_blank after.0) (λ text. clock_stamp_at text >>= λ start. clock_from start.0 (length body - length text + start.1) (drop start.1 text)) (Open r) after.2 in
    let start = bind_ok (clock_stamp_at text.0) (λ start. clock_from start.0 (length body - length text.0 + start.1) (drop start.1 text.0)) (Open r) text.2 in
    let size : ℕ = start.0.1 in
    let left = open_from start.0.0 (length body - length text.0 + size) (drop size text.0) r start.2 in
    let g = gone is_blank after.0 text.0 text.1 in
    let s = stamped text.0 start.0.0 size start.1 in
    let indentation : List ℕ = front is_blank body in
    let gap : List ℕ = g.first ∷ g.others in
    let whole : take size text.0 ≡ text.0 = sym (append-nil (take size text.0)) ∙ ap (λ (t : List ℕ). take size text.0 ++ t) (sym left.0) ∙ take-append-drop size text.0 in
    let none : length text.0 - size ≡ 0 = sym (length-drop size text.0) ∙ ap length left.0 in
    let body_is : body ≡ clock_front indentation gap text.0 =
    front_behind is_blank body ∙ ap (λ (t : List ℕ). indentation ++ t) (marked (codes "CLOCK:") (behind is_blank body) after.0 after.1 ∙ ap (λ (t : List ℕ). codes "CLOCK:" ++ t) g.is) in
    let at_start : start.0.0 ≡ r.start = ap (λ (r : Running). r.start) left.1 in
    let at_head : length body - length text.0 + size ≡ r.head = ap (λ (r : Running). r.head) left.1 in
    let long : length text.0 ≤ length body =
    omega (arith, ap length body_is, length-append indentation (codes "CLOCK:" ++ (gap ++ text.0)), length-append gap text.0, length-append g.others text.0) in
    record {
      indentation = indentation;
      first = g.first;
      others = g.others;
      stamp = text.0;
      value = s.value;
      blank = front_passes is_blank body;
      gap = g.pass;
      clock = s.clock;
      is_text = subst (λ (t : List ℕ). IsStampText t s.value) whole s.is_text;
      start = sym (s.start_is ∙ at_start);
      head = omega (arith, at_head, none, s.within, long, ap length body_is);
      tail = end_of is_trailing line;
      is = kept_end is_trailing line ∙ ap (λ (t : List ℕ). t ++ end_of is_trailing line) body_is;
    }

-- ---- read again, with something after it

opening_solid : (active : Bool) → is_blank (opening active) ≡ false
opening_solid true = refl
opening_solid false = refl

pub clock_stamp_again : (stamp more : List ℕ) (s : StampValue) → IsStampText stamp s → is_clock_stamp s ≡ true → clock_stamp_at (stamp ++ more) ≡ Some (start_of s, length stamp)
clock_stamp_again stamp more s is_text clock =
    ap (λ (o : Option (StampValue × ℕ)). o >>= λ r. if is_clock_stamp r.0 then Some (start_of r.0, r.1) else None) (stamp_complete stamp more s is_text) ∙ rw clock refl

-- a timestamp begins with no blank
pub stamp_first : (stamp more : List ℕ) (s : StampValue) → IsStampText stamp s → prefix_len is_blank (stamp ++ more) ≡ 0
stamp_first stamp more s is_text =
    ap (λ (t : List ℕ). prefix_len is_blank (t ++ more)) is_text.split ∙ rw (opening_solid s.active) refl

pub clock_again : (indentation : List ℕ) (first : ℕ) (others stamp more : List ℕ) (s : StampValue)
    → list_all is_blank indentation ≡ true → list_all is_blank (first ∷ others) ≡ true → IsStampText stamp s → is_clock_stamp s ≡ true
    → trimmed_end (clock_front indentation (first ∷ others) stamp ++ more) ≡ clock_front indentation (first ∷ others) stamp ++ more
    → clock_of (clock_front indentation (first ∷ others) stamp ++ more) ≡ clock_from (start_of s) (length (clock_front indentation (first ∷ others) stamp)) more
clock_again indentation first others stamp more s blank gap is_text clock trimmed =
    let mark : List ℕ = codes "CLOCK:" in
    let front : List ℕ = clock_front indentation (first ∷ others) stamp in
    let line : List ℕ = front ++ more in
    let text : List ℕ = stamp ++ more in
    let after : List ℕ = (first ∷ others) ++ text in
    let whole : line ≡ indentation ++ (mark ++ after) = simp append_assoc in
    let body : behind is_blank line ≡ mark ++ after = ap (behind is_blank) whole ∙ behind_front is_blank indentation (mark ++ after) blank refl in
    let read_mark : behind_mark mark (behind is_blank line) ≡ Some after = ap (behind_mark mark) body ∙ refl in
    let some : is_blank first ≡ true = (both (is_blank first) (list_all is_blank others) gap).0 in
    let read_gap : behind_some is_blank after ≡ Some text =
    some_pass is_blank first (others ++ text) some ∙ ap (λ (t : List ℕ). Some t) (behind_front is_blank (first ∷ others) text gap (stamp_first stamp more s is_text)) in
    let size : length line - length text + length stamp ≡ length front =
    omega (arith, length-append front more, length-append stamp more, length-append indentation (mark ++ ((first ∷ others) ++ stamp)), length-append others stamp) in
    let F : List ℕ → Option (List ℕ) → Option Clock = λ body o. o >>= λ after. behind_some is_blank after >>= λ text. clock_stamp_at text >>= λ start.
    clock_from start.0 (length body - length text + start.1) (drop start.1 text) in
    ap (λ (body : List ℕ). F body (behind_mark mark (behind is_blank body))) trimmed
    ∙ ap (F line) read_mark
    ∙ ap (λ (o : Option (List ℕ)). o >>= λ text. clock_stamp_at text >>= λ start. clock_from start.0 (length line - length text + start.1) (drop start.1 text)) read_gap
    ∙ ap (λ (o : Option (Moment × ℕ)). o >>= λ start. clock_from start.0 (length line - length text + start.1) (drop start.1 text)) (clock_stamp_again stamp more s is_text clock)
    ∙ ap (λ n. clock_from (start_of s) n (drop (length stamp) text)) size
    ∙ ap (clock_from (start_of s) (length front)) (drop_at stamp more (length stamp) refl)

-- ---- closed

-- a closed clock line ends in a digit
closed_ends : (text : List ℕ) (now : Moment) (minutes : ℕ) → trimmed_end (text ++ closing_text now minutes) ≡ text ++ closing_text now minutes
closed_ends text now minutes = grind (arith, common_steps)

-- what a line that is closed becomes
record Closing (now : Moment) (line new : List ℕ) (r : Running) : Type 0 where
  minutes : ℕ
  run : minutes_between r.start now ≡ Some minutes
  is : new ≡ take r.head line ++ closing_text now minutes

closing_of : (now : Moment) (line new : List ℕ) (r : Running) (o : Option ℕ) → minutes_between r.start now ≡ o → closed_after now (take r.head line) o ≡ Ok new → Closing now line new r
closing_of now line new r None run e = absurd cc
closing_of now line new r (Some minutes) run e =
    record { minutes = minutes; run = run; is = let same : Ok (take r.head line ++ closing_text now minutes) ≡ Ok new = e in cc }

closing_is : (now : Moment) (line new : List ℕ) (r : Running) → running_clock line ≡ Some r → closed_line now line ≡ Ok new → Closing now line new r
closing_is now line new r runs e = closing_of now line new r (minutes_between r.start now) refl (ap (closed_clock now line) (sym runs) ∙ e)

head_is : (line : List ℕ) (r : Running) → (o : OpenLine line r) → take r.head line ≡ clock_front o.indentation (o.first ∷ o.others) o.stamp
head_is line r o = grind (arith, common_steps)

-- the clock that it says
closed_clock_is : (now : Moment) (line new : List ℕ) (r : Running) → running_clock line ≡ Some r → (c : Closing now line new r)
    → clock_of new ≡ clock_from r.start r.head (closing_text now c.minutes)
closed_clock_is now line new r runs c =
    let o = open_line_is line r runs in
    let front : List ℕ = clock_front o.indentation (o.first ∷ o.others) o.stamp in
    let text : List ℕ = closing_text now c.minutes in
    ap clock_of (c.is ∙ ap (λ (t : List ℕ). t ++ text) (head_is line r o))
    ∙ clock_again o.indentation o.first o.others o.stamp text o.value o.blank o.gap o.is_text o.clock (closed_ends front now c.minutes)
    ∙ ap (λ start. clock_from start (length front) text) (sym o.start) ∙ ap (λ n. clock_from r.start n text) (sym o.head)

run_of : (line : List ℕ) → is_open line ≡ true → (r : Running) × (running_clock line ≡ Some r)
run_of line e = by_clock (running_clock line) refl e
  where
    by_clock : (o : Option Running) → running_clock line ≡ o → is_some o ≡ true → (r : Running) × (running_clock line ≡ Some r)
    by_clock None is e = absurd (false≢true e)
    by_clock (Some r) is e = (r, is)

pub not_run : (now : Moment) (line new : List ℕ) → is_open line ≡ false → closed_line now line ≡ Ok new → line ≡ new
not_run now line new e = by_clock (running_clock line) e
  where
    by_clock : (o : Option Running) → is_some o ≡ false → closed_clock now line o ≡ Ok new → line ≡ new
    by_clock None e is = let same : Ok line ≡ Ok new = is in cc
    by_clock (Some r) e is = absurd (false≢true (sym e))

-- a line that was closed is no open clock
pub closed_is_not_open : (now : Moment) (line new : List ℕ) → closed_line now line ≡ Ok new → is_open new ≡ false
closed_is_not_open now line new e =
    elim (cases_Bool (is_open line)) [
      | inl runs ↦
          let r = run_of line runs in
          let c = closing_is now line new r.0 r.1 e in
          ap (λ (o : Option Clock). is_some (running_of o)) (closed_clock_is now line new r.0 r.1 c)
          ∙ closed_from r.0.start r.0.head 45 (45 ∷ (moment_text now ++ (codes " => " ++ duration_text c.minutes 2)))
      | inr other ↦ ap is_open (sym (not_run now line new other e)) ∙ other
    ]

-- ---- opened

stamp_is : (now : Moment) → IsDay now.day → now.minute < 1440 → IsStamp (stamp_of now false true)
stamp_is now day minute = record { day = day; behind = record { time = (minute, tt); cookies = tt; apart = tt } }

moment_is : (now : Moment) → IsDay now.day → now.minute < 1440 → IsStampText (moment_text now) (stamp_of now false true)
moment_is now day minute = print_is (stamp_of now false true) (stamp_is now day minute)

-- a moment's clock line is open
pub opened_is_open : (now : Moment) → IsDay now.day → now.minute < 1440 → is_open (clock_line now) ≡ true
opened_is_open now day minute =
    let stamp : List ℕ = moment_text now in
    let d = now.day in
    let inside : List ℕ = date_text d ++ (32 ∷ day_name (weekday_of d)) ++ (32 ∷ (clock_text now.minute ++ [])) ++ [] in
    let trimmed : trimmed_end (clock_line now) ≡ clock_line now = trim_behind is_trailing (codes "CLOCK: " ++ (91 ∷ inside)) 93 [] refl in
    let line : clock_front [] (32 ∷ []) stamp ++ [] ≡ clock_line now = append-nil (clock_line now) in
    ap is_open (sym line)
    ∙ ap (λ (o : Option Clock). is_some (running_of o))
    (clock_again [] 32 [] stamp [] (stamp_of now false true) refl refl (moment_is now day minute) refl (ap trimmed_end line ∙ trimmed ∙ sym line))

-- ---- the minutes of a closed clock

glyph_digit : (n : ℕ) → is_ascii_digit (digit_glyph false (n % 10)) ≡ true
glyph_digit n = let small : nat_lt (n % 10) 10 ≡ true = grind (arith, nat_tests) in rw small (digit_is n)

onto_digits : (k n : ℕ) (acc : List ℕ) → list_all is_ascii_digit acc ≡ true → list_all is_ascii_digit (digits_onto k 10 false n acc) ≡ true
onto_digits zero n acc all = all
onto_digits (suc k) n acc all =
    let more : list_all is_ascii_digit (digit_glyph false (n % 10) ∷ acc) ≡ true = rw (glyph_digit n) all in
    elim (cases_Bool (n / 10 == 0)) [
      | inl e ↦ rw e more
      | inr e ↦ rw e (onto_digits k (n / 10) (digit_glyph false (n % 10) ∷ acc) more)
    ]

-- a list that has a first element
record Some_first (l : List ℕ) : Type 0 where
  first : ℕ
  others : List ℕ
  is : l ≡ first ∷ others

onto_first : (k n b : ℕ) (acc : List ℕ) → Some_first (digits_onto k 10 false n (b ∷ acc))
onto_first zero n b acc = record { first = b; others = acc; is = refl }
onto_first (suc k) n b acc = grind (arith, common_steps, onto_first k (n / 10) (digit_glyph false (n % 10)) (b ∷ acc))

decimal_digits : (n : ℕ) → list_all is_ascii_digit (decimal n) ≡ true
unfolding digits
decimal_digits n = onto_digits 64 n [] refl

digits_first : (k n : ℕ) → Some_first (digits_onto (suc k) 10 false n [])
digits_first k n = grind (arith, common_steps, cases_Bool, onto_first)

decimal_first : (n : ℕ) → Some_first (decimal n)
unfolding digits
decimal_first n = digits_first 63 n

blanks_all : (n : ℕ) → list_all is_blank (replicate n 32) ≡ true
blanks_all zero = refl
blanks_all (suc n) = blanks_all n

digit_solid : (d : ℕ) → is_ascii_digit d ≡ true → is_blank d ≡ false
digit_solid d e = grind (arith, nat_tests)

-- an arrow, hours and minutes are a duration
arrow_is : (n first : ℕ) (others hours : List ℕ) (a b : ℕ) → hours ≡ first ∷ others → list_all is_ascii_digit hours ≡ true → is_ascii_digit a ≡ true → is_ascii_digit b ≡ true
    → is_duration (codes " => " ++ ((replicate n 32 ++ hours) ++ (58 ∷ a ∷ b ∷ []))) ≡ true
arrow_is n first others hours a b is all ok_a ok_b =
    let tail : List ℕ = 58 ∷ a ∷ b ∷ [] in
    let pad : List ℕ = replicate n 32 in
    let rest : List ℕ = (pad ++ hours) ++ tail in
    let digit : is_ascii_digit first ≡ true = (both (is_ascii_digit first) (list_all is_ascii_digit others) (ap (list_all is_ascii_digit) (sym is) ∙ all)).0 in
    let solid : prefix_len is_blank (hours ++ tail) ≡ 0 = ap (λ (t : List ℕ). prefix_len is_blank (t ++ tail)) is ∙ rw (digit_solid first digit) refl in
    let gap : behind_some is_blank (32 ∷ rest) ≡ Some (hours ++ tail) =
    ap (λ (t : List ℕ). Some (behind is_blank (32 ∷ t))) (append_assoc pad hours tail)
    ∙ ap (λ (t : List ℕ). Some t) (behind_front is_blank (32 ∷ pad) (hours ++ tail) (blanks_all n) solid) in
    let some : behind_some is_ascii_digit (hours ++ tail) ≡ Some (behind is_ascii_digit (hours ++ tail)) =
    ap (λ (t : List ℕ). behind_some is_ascii_digit (t ++ tail)) is ∙ rw digit refl ∙ ap (λ (t : List ℕ). Some (behind is_ascii_digit (t ++ tail))) (sym is) in
    let last : behind_some is_ascii_digit (hours ++ tail) ≡ Some tail = some ∙ ap (λ (t : List ℕ). Some t) (behind_front is_ascii_digit hours tail all refl) in
    let read : behind_hours (codes " => " ++ rest) ≡ Some tail =
    ap (λ (o : Option (List ℕ)). o >>= λ hours. behind_some is_ascii_digit hours) gap ∙ last in
    ap (λ (o : Option (List ℕ)). option_map_or are_minutes o false) read ∙ rw (ok_a, ok_b) refl

duration_is : (minutes : ℕ) → is_duration (codes " => " ++ duration_text minutes 2) ≡ true
duration_is minutes =
    let hours : List ℕ = decimal (minutes / 60) in
    let first = decimal_first (minutes / 60) in
    arrow_is (2 - length hours) first.first first.others hours _ _ first.is (decimal_digits (minutes / 60)) (digit_is (minutes % 60 / 10)) (digit_is (minutes % 60))

-- what closes a clock says its minutes
closing_says : (start now : Moment) (minutes : ℕ) → IsDay now.day → now.minute < 1440 → closed_minutes start (closing_text now minutes) ≡ minutes_between start now
closing_says start now minutes day minute =
    let stamp : List ℕ = moment_text now in
    let more : List ℕ = codes " => " ++ duration_text minutes 2 in
    let F : Moment × ℕ → Option ℕ = λ end. if is_duration (drop end.1 (stamp ++ more)) then minutes_between start end.0 else None in
    ap (λ (o : Option (Moment × ℕ)). o >>= F) (clock_stamp_again stamp more (stamp_of now false true) (moment_is now day minute) refl)
    ∙ ap (λ (t : List ℕ). if is_duration t then minutes_between start now else None) (drop_at stamp more (length stamp) refl)
    ∙ rw (duration_is minutes) refl

minutes_closed : (line : List ℕ) (minutes : ℕ) → clock_of line ≡ Some (Closed minutes) → minutes_in line ≡ minutes
minutes_closed line minutes e = rw e refl

minutes_open : (line : List ℕ) (r : Running) → clock_of line ≡ Some (Open r) → minutes_in line ≡ 0
minutes_open line r e = rw e refl

pub from_minutes : (start : Moment) (head b : ℕ) (text : List ℕ) (minutes : ℕ) → closed_minutes start (b ∷ text) ≡ Some minutes → clock_from start head (b ∷ text) ≡ Some (Closed minutes)
from_minutes start head b text minutes e = rw (eqb-suc-zero (length text)) (ap (λ (o : Option ℕ). o >>= λ minutes. Some (Closed minutes)) e)

-- a line that was closed says the minutes from its start to the moment
pub closed_says : (now : Moment) (line new : List ℕ) (minutes : ℕ) → IsDay now.day → now.minute < 1440 → minutes_run now line ≡ Some minutes → closed_line now line ≡ Ok new → minutes_in new ≡ minutes
closed_says now line new minutes day minute run e =
    let r = bind_ok (running_clock line) (λ running. minutes_between running.start now) minutes run in
    let c = closing_is now line new r.0 r.1 e in
    let says : closed_minutes r.0.start (closing_text now c.minutes) ≡ Some minutes = closing_says r.0.start now c.minutes day minute ∙ r.2 in
    minutes_closed new minutes (closed_clock_is now line new r.0 r.1 c ∙ from_minutes r.0.start r.0.head 45 (45 ∷ (moment_text now ++ (codes " => " ++ duration_text c.minutes 2))) minutes says)

-- an open one says none, and has run for some
pub open_says : (line : List ℕ) → is_open line ≡ true → minutes_in line ≡ 0
open_says line runs = let r = run_of line runs in minutes_open line r.0 (open_clock (clock_of line) r.0 r.1)

-- ---- they are lines, and no heading lines

number_line : (l : List ℕ) → list_all is_ascii_digit l ≡ true → Flat l
number_line [] all = empty_line
number_line (b ∷ l) all =
    let parts = both (is_ascii_digit b) (list_all is_ascii_digit l) all in
    record { flat = (λ e. let none : is_ascii_digit b ≡ false = rw e refl in absurd (false≢true (sym none ∙ parts.0)), (number_line l parts.1).flat) }

pub blanks_line : (n : ℕ) → Flat (replicate n 32)
blanks_line zero = empty_line
blanks_line (suc n) = with_first_byte 32 (replicate n 32) refl (blanks_line n)

pub moment_line : (now : Moment) → Flat (moment_text now)
moment_line now = grind (arith, common_steps)

closing_line : (now : Moment) (minutes : ℕ) → Flat (closing_text now minutes)
closing_line now minutes =
    let hours : List ℕ = decimal (minutes / 60) in
    let pad : List ℕ = replicate (2 - length hours) 32 in
    both_lines (codes "--") _ (tested (codes "--") refl)
    (both_lines (moment_text now) _ (moment_line now)
    (both_lines (codes " => ") _ (tested (codes " => ") refl)
    (both_lines (pad ++ hours) _ (both_lines pad hours (blanks_line (2 - length hours)) (number_line hours (decimal_digits (minutes / 60))))
    (with_first_byte 58 _ refl (two_line (minutes % 60))))))

pub opened_is_line : (now : Moment) → IsLine (clock_line now)
opened_is_line now = (both_lines (codes "CLOCK: ") (moment_text now) (tested (codes "CLOCK: ") refl) (moment_line now)).flat

pub closed_is_line : (now : Moment) (line new : List ℕ) → closed_line now line ≡ Ok new → IsLine line → IsLine new
closed_is_line now line new e whole = grind (arith, common_steps, cases_Bool, run_of, closing_is, front, AllByRecursion-take, both_lines, closing_line, not_run)

blank_no_star : (b : ℕ) → is_blank b ≡ true → eqb b 42 ≡ false
blank_no_star b blank = grind (arith, common_steps)

-- the first byte, which is no star
pub record NoStar (l : List ℕ) : Type 0 where
  pub first : ℕ
  pub others : List ℕ
  pub is : l ≡ first ∷ others
  pub other : eqb first 42 ≡ false

begin_shape : (indentation l gap stamp text : List ℕ) (b : ℕ) → (indentation ++ (b ∷ (l ++ (gap ++ stamp)))) ++ text ≡ indentation ++ (b ∷ (l ++ ((gap ++ stamp) ++ text)))
begin_shape indentation l gap stamp text b = simp append_assoc

-- blanks, and after them a byte that is no star
pub begins_plainly : (indentation : List ℕ) (b : ℕ) (more : List ℕ) → list_all is_blank indentation ≡ true → eqb b 42 ≡ false → NoStar (indentation ++ (b ∷ more))
begins_plainly [] b more all other = record { first = b; others = more; is = refl; other = other }
begins_plainly (c ∷ cs) b more all other = record { first = c; others = cs ++ (b ∷ more); is = refl; other = blank_no_star c (both (is_blank c) (list_all is_blank cs) all).0 }

pub closed_begins : (now : Moment) (line new : List ℕ) → is_open line ≡ true → closed_line now line ≡ Ok new → NoStar new
closed_begins now line new runs e =
    let r = run_of line runs in
    let c = closing_is now line new r.0 r.1 e in
    let o = open_line_is line r.0 r.1 in
    let text : List ℕ = closing_text now c.minutes in
    let tail : List ℕ = codes "LOCK:" ++ (((o.first ∷ o.others) ++ o.stamp) ++ text) in
    let shape : clock_front o.indentation (o.first ∷ o.others) o.stamp ++ text ≡ o.indentation ++ (67 ∷ tail) = begin_shape o.indentation (codes "LOCK:") (o.first ∷ o.others) o.stamp text 67 in
    subst NoStar (sym (c.is ∙ ap (λ (t : List ℕ). t ++ text) (head_is line r.0 o) ∙ shape)) (begins_plainly o.indentation 67 tail o.blank refl)
