-- What is read is a timestamp, and every timestamp is read.
use Rattle.std.proofs.Common.{◌≡◌, ◌≢◌, ℕ, suc, ◌+◌, ◌-◌, ◌*◌, ◌<◌, ◌≤◌, ◌==◌, inl, inr, Bool, true, false, not, ◌&&◌, ◌||◌, cond, IsTrue, Option, None, Some, List, [], ◌∷◌, ◌++◌, length, map, position, slice_index, get_or, fold, take, drop, nat_lt, nat_le, append_assoc, refl, sym, ap, ◌∙◌, subst, arith}
use Rattle.std.specs.Char.{is_ascii_digit}
use Rattle.std.specs.List.{slice_split, list_all, position_or_len}
use Rattle.std.proofs.lemmas.Bool.Decides.{nat_tests}
use Rattle.std.proofs.lemmas.List.{take-append-drop, drop-drop, drop_more, length-append, take_at, drop_at, take_more}
use Rattle.std.proofs.lemmas.Option.{some_pair_parts}
use Rattle.std.proofs.Math.Seq.{get_or-append_seam, take-append_seam}
use Rattle.org_stamp.specs.Calendar.{CivilDay}
use Rattle.org_stamp.specs.Parts.{◌>>=◌, is_blank, is_closing, number_of, date_of, day_if_any}
use Rattle.org_stamp.specs.Stamp.{StampValue, IsStampText, opening, closing, Part, IsRun, HasParts, Says}
use Rattle.org_stamp.specs.Front.{inside_of, active_of, closed_of, stamp_at}
use Rattle.org_stamp.specs.Reading.{Gathered, nothing, value_of, tail_of, found_with, pieces_with}
use Rattle.org_stamp.proofs.Runs.{is_plain, not_true}
use Rattle.org_stamp.proofs.Cut.{HasRuns, IsWord, EndsPlain, both, first_blank, pieces_are}
use Rattle.org_stamp.proofs.Found.{IsOpen, open_parts, open_until, tail_found, adds, bind_ok, bind_same, chosen, same_some, runs_with, parts_with, skip}
use Rattle.org_stamp.proofs.Said.{gives, inside_said}

apart : (a b c : Bool) → IsTrue (not (a || b) && c) → (a ≡ false) × (b ≡ false) × IsTrue c
apart a b c k = grind arith

plain_of : (xs : List ℕ) → IsTrue (list_all (λ b. not (is_blank b || is_closing b)) xs) → IsTrue (list_all is_plain xs) × IsOpen xs
plain_of [] h = (refl, refl)
plain_of (x ∷ xs) h =
    let parts = apart (is_blank x) (is_closing x) (list_all (λ b. not (is_blank b || is_closing b)) xs) h in
    let more = plain_of xs parts.2 in
    (rw parts.0 more.0, rw parts.1 more.1)

word_of : (run : List ℕ) → IsRun run → IsWord run
word_of run h = record { some = h.some; plain = (plain_of run h.plain).0 }

has_runs : (bytes : List ℕ) (ps : List Part) → HasParts bytes ps → HasRuns bytes (map (λ p. p.run) ps)
has_runs bytes [] h = h
has_runs bytes (p ∷ ps) h = (h.0, h.1, h.2, h.3, word_of p.run h.4.run, has_runs h.1 ps h.5)

runs_are : (bytes : List ℕ) (ps : List Part) (g : Gathered) → HasParts bytes ps → runs_with g (map (λ p. p.run) ps) ≡ parts_with g ps
runs_are bytes [] g h = refl
runs_are bytes (p ∷ ps) g h =
    let kind = h.4.kind in
    rw kind (bind_same (found_with g p.run p.kind) (λ k. runs_with k (map (λ q. q.run) ps)) (λ k. parts_with k ps) (λ k. runs_are h.1 ps k h.5))

-- cutting the bytes at their blanks finds the parts
pieces_of_parts : (bytes : List ℕ) (ps : List Part) (g : Gathered) → HasParts bytes ps → pieces_with g (slice_split is_blank bytes) ≡ parts_with g ps
pieces_of_parts bytes ps g h =
    skip g (slice_split is_blank bytes) ∙ ap (runs_with g) (pieces_are bytes (map (λ p. p.run) ps) (has_runs bytes ps h)) ∙ runs_are bytes ps g h

-- ---- the bytes after a date

ends_both : (xs ys : List ℕ) → EndsPlain xs → EndsPlain ys → EndsPlain (xs ++ ys)
ends_both [] ys h k = k
ends_both (x ∷ []) [] h k = h
ends_both (x ∷ []) (y ∷ ys) h k = k
ends_both (x ∷ z ∷ xs) ys h k = ends_both (z ∷ xs) ys h k

ends_after : (xs ys : List ℕ) → ys ≢ [] → EndsPlain ys → EndsPlain (xs ++ ys)
ends_after [] ys some k = k
ends_after (x ∷ []) [] some k = absurd (some refl)
ends_after (x ∷ []) (y ∷ ys) some k = k
ends_after (x ∷ z ∷ xs) ys some k = ends_after (z ∷ xs) ys some k

ends_run : (xs : List ℕ) → IsTrue (list_all is_plain xs) → EndsPlain xs
ends_run [] h = tt
ends_run (x ∷ []) h = (not_true (is_blank x) true h).0
ends_run (x ∷ y ∷ xs) h = ends_run (y ∷ xs) (not_true (is_blank x) (list_all is_plain (y ∷ xs)) h).1

some_append : (xs ys : List ℕ) → xs ≢ [] → xs ++ ys ≢ []
some_append [] ys some e = some refl
some_append (x ∷ xs) ys some e = absurd (cc)

parts_end : (bytes : List ℕ) (ps : List Part) → HasParts bytes ps → EndsPlain bytes
parts_end bytes [] h = subst EndsPlain (sym h) tt
parts_end bytes (p ∷ ps) h =
    let w = word_of p.run h.4.run in
    let run_ends = ends_both p.run h.1 (ends_run p.run w.plain) (parts_end h.1 ps h.5) in
    subst EndsPlain (sym h.2) (ends_after h.0 (p.run ++ h.1) (some_append p.run h.1 w.some) run_ends)

last_plain : (x : ℕ) (xs : List ℕ) → EndsPlain (x ∷ xs) → is_blank (get_or (x ∷ xs) (length (x ∷ xs) - 1) 0) ≡ false
last_plain x [] h = h
last_plain x (y ∷ ys) h =
    let k : length (x ∷ y ∷ ys) - 1 ≡ suc (length (y ∷ ys) - 1) = omega arith in
    rw k (last_plain y ys h)

tail_of_parts : (b : ℕ) (after : List ℕ) → is_blank b ≡ true → EndsPlain (b ∷ after) → (h : Gathered) → pieces_with nothing (slice_split is_blank (b ∷ after)) ≡ Some h → tail_of (b ∷ after) ≡ Some h
tail_of_parts b after e ends h found =
    let some : (length (b ∷ after) == 0) ≡ false = grind arith in
    let last = last_plain b after ends in
    rw (some, e, last) (rw e at found)

-- parts are gathered
pub tail_complete : (tail : List ℕ) (ps : List Part) (h : Gathered) → HasParts tail ps → parts_with nothing ps ≡ Some h → tail_of tail ≡ Some h
tail_complete tail [] h has e = ap tail_of has ∙ e
tail_complete tail (p ∷ ps) h has e =
    let first = first_blank has.0 (p.run ++ has.1) has.3 in
    let is : tail ≡ first.0 ∷ first.1 = has.2 ∙ first.2 in
    let ends = subst EndsPlain is (parts_end tail (p ∷ ps) has) in
    let found = subst (λ (l : List ℕ). pieces_with nothing (slice_split is_blank l) ≡ Some h) is (pieces_of_parts tail (p ∷ ps) nothing has ∙ e) in
    ap tail_of is ∙ tail_of_parts first.0 first.1 first.3 ends h found

pub open_append : (xs ys : List ℕ) → IsOpen xs → IsOpen ys → IsOpen (xs ++ ys)
open_append [] ys h k = k
open_append (x ∷ xs) ys h k =
    let parts = not_true (is_closing x) (list_all (λ b. not (is_closing b)) xs) h in
    rw parts.0 (open_append xs ys parts.1 k)

blank_open : (b : ℕ) → is_blank b ≡ true → is_closing b ≡ false
blank_open b e = grind (arith, nat_tests)

all_open : (test : ℕ → Bool) → ((b : ℕ) → test b ≡ true → is_closing b ≡ false) → (bytes : List ℕ) → IsTrue (list_all test bytes) → IsOpen bytes
all_open test open_is [] h = refl
all_open test open_is (b ∷ bs) h =
    let parts = both (test b) (list_all test bs) h in
    rw (open_is b parts.0) (all_open test open_is bs parts.1)

blanks_open : (bytes : List ℕ) → IsTrue (list_all is_blank bytes) → IsOpen bytes
blanks_open bytes h = all_open is_blank blank_open bytes h

pub parts_open : (bytes : List ℕ) (ps : List Part) → HasParts bytes ps → IsOpen bytes
parts_open bytes [] h = subst IsOpen (sym h) refl
parts_open bytes (p ∷ ps) h =
    subst IsOpen (sym h.2) (open_append h.0 (p.run ++ h.1) (blanks_open h.0 h.3.blank) (open_append p.run h.1 (plain_of p.run h.4.run.plain).1 (parts_open h.1 ps h.5)))

-- ---- the date

digit_open : (b : ℕ) → is_ascii_digit b ≡ true → is_closing b ≡ false
digit_open b e = grind (arith, nat_tests)

digits_open : (bytes : List ℕ) → IsTrue (list_all is_ascii_digit bytes) → IsOpen bytes
digits_open bytes h = all_open is_ascii_digit digit_open bytes h

number_open : (text : List ℕ) (n : ℕ) → number_of text ≡ Some n → IsOpen text
number_open text n e =
    elim (chosen (nat_le 1 (length text) && nat_le (length text) 4 && list_all is_ascii_digit text) (Some (fold (λ n b. 10 * n + (b - 48)) 0 text)) None (Some n) e) [
      | inl h ↦ digits_open text (both (nat_le 1 (length text) && nat_le (length text) 4) (list_all is_ascii_digit text) h.0).1
      | inr h ↦ absurd (cc)
    ]

date_parts : (text : List ℕ) → length text ≡ 10 → text ≡ take 4 text ++ (get_or text 4 0 ∷ (take 2 (drop 5 text) ++ (get_or text 7 0 ∷ drop 8 text)))
date_parts text e =
    let lower : 4 < length text = omega arith in
    let upper : 7 < length text = omega arith in
    let after = sym (take-append-drop 2 (drop 5 text)) ∙ ap (λ l. take 2 (drop 5 text) ++ l) (drop-drop 2 5 text ∙ drop_more text 7 0 upper) in
    sym (take-append-drop 4 text) ∙ ap (λ l. take 4 text ++ l) (drop_more text 4 0 lower ∙ ap (λ l. get_or text 4 0 ∷ l) after)

eq_of : (a b : ℕ) → (a == b) ≡ true → a ≡ b
eq_of a b e = grind (arith, nat_tests)

pub date_open : (text : List ℕ) (d : CivilDay) → date_of text ≡ Some d → (length text ≡ 10) × IsOpen text
date_open text d e =
    let read : Option CivilDay = number_of (take 4 text) >>= λ y. number_of (take 2 (drop 5 text)) >>= λ m. number_of (drop 8 text) >>= λ n. day_if_any y m n in
    elim (chosen ((length text == 10) && (slice_index text 4 == 45) && (slice_index text 7 == 45)) read None (Some d) e) [
      | inl h ↦
          let seams = both ((length text == 10) && (slice_index text 4 == 45)) (slice_index text 7 == 45) h.0 in
          let lower = both (length text == 10) (slice_index text 4 == 45) seams.0 in
          let size = eq_of (length text) 10 lower.0 in
          let four : slice_index text 4 ≡ 45 = eq_of (slice_index text 4) 45 lower.1 in
          let seven : slice_index text 7 ≡ 45 = eq_of (slice_index text 7) 45 seams.1 in
          let years = bind_ok (number_of (take 4 text)) (λ y. number_of (take 2 (drop 5 text)) >>= λ m. number_of (drop 8 text) >>= λ n. day_if_any y m n) d h.1 in
          let months = bind_ok (number_of (take 2 (drop 5 text))) (λ m. number_of (drop 8 text) >>= λ n. day_if_any years.0 m n) d years.2 in
          let days = bind_ok (number_of (drop 8 text)) (λ n. day_if_any years.0 months.0 n) d months.2 in
          let last : IsOpen (slice_index text 7 ∷ drop 8 text) = rw seven (number_open (drop 8 text) days.0 days.1) in
          let behind : IsOpen (slice_index text 4 ∷ (take 2 (drop 5 text) ++ (slice_index text 7 ∷ drop 8 text))) = rw four (open_append (take 2 (drop 5 text)) _ (number_open (take 2 (drop 5 text)) months.0 months.1) last) in
          (size, subst IsOpen (sym (date_parts text size)) (open_append (take 4 text) _ (number_open (take 4 text) years.0 years.1) behind))
      | inr h ↦ absurd (cc)
    ]

-- ---- whole timestamps

closing_closes : (active : Bool) → is_closing (closing active) ≡ true
closing_closes true = refl
closing_closes false = refl

active_is : (active : Bool) → active_of (opening active) ≡ Some active
active_is true = refl
active_is false = refl

opening_is : (b : ℕ) (active : Bool) → active_of b ≡ Some active → b ≡ opening active
opening_is b active e =
    elim (chosen (b == 60) (Some true) (cond (b == 91) (Some false) None) (Some active) e) [
      | inl h ↦ let same : true ≡ active = cc in rw (← same) (eq_of b 60 h.0)
      | inr h ↦ elim (chosen (b == 91) (Some false) None (Some active) h.1) [
        | inl k ↦ let same : false ≡ active = cc in rw (← same) (eq_of b 91 k.0)
        | inr k ↦ absurd (cc)
      ]
    ]

first_closing : (xs : List ℕ) (c : ℕ) (ys : List ℕ) → IsOpen xs → is_closing c ≡ true → position_or_len is_closing (xs ++ (c ∷ ys)) ≡ length xs
first_closing [] c ys h e = rw e refl
first_closing (x ∷ xs) c ys h e =
    let parts = not_true (is_closing x) (list_all (λ b. not (is_closing b)) xs) h in
    rw (parts.0, first_closing xs c ys parts.1 e) (omega arith)

position_at : (xs : List ℕ) (c : ℕ) (ys : List ℕ) → IsOpen xs → is_closing c ≡ true → position is_closing (xs ++ (c ∷ ys)) ≡ Some (length xs)
position_at xs c ys h e =
    let at = first_closing xs c ys h e in
    let within : nat_lt (length xs) (length (xs ++ (c ∷ ys))) ≡ true = grind (arith, nat_tests, length-append xs (c ∷ ys)) in
    rw (at, within) refl

inside_complete : (active : Bool) (date tail : List ℕ) (s : StampValue) (parts : List Part) → s.active ≡ active → date_of date ≡ Some s.day → HasParts tail parts → Says parts s → inside_of active (date ++ tail) ≡ Some s
inside_complete active date tail s parts same day has says =
    let size = (date_open date s.day day).0 in
    let front : take 10 (date ++ tail) ≡ date = take_at date tail 10 size in
    let back : drop 10 (date ++ tail) ≡ tail = drop_at date tail 10 size in
    let found = gives parts nothing s.time s.cookies (omega (arith, says.name)) says.time says.cookies says.apart in
    let all = tail_complete tail parts _ has found.1 in
    sym (inside_said active (date ++ tail)) ∙ rw (front, back, day, all, ← same) refl

-- every timestamp is read, whatever follows it
pub stamp_complete : (text rest : List ℕ) (s : StampValue) → IsStampText text s → stamp_at (text ++ rest) ≡ Some (s, length text)
stamp_complete text rest s h =
    let inside = h.date ++ h.tail in
    let c = closing s.active in
    let clear : IsOpen inside = open_append h.date h.tail (date_open h.date s.day h.day).1 (parts_open h.tail h.parts h.has_parts) in
    let behind : (h.date ++ (h.tail ++ (c ∷ []))) ++ rest ≡ inside ++ (c ∷ rest) = simp append_assoc in
    let whole : text ++ rest ≡ opening s.active ∷ (inside ++ (c ∷ rest)) = ap (λ l. l ++ rest) h.split ∙ ap (λ l. opening s.active ∷ l) behind in
    let at = position_at inside c rest clear (closing_closes s.active) in
    let byte : get_or (inside ++ (c ∷ rest)) (length inside) 0 ≡ c = get_or-append_seam inside c rest 0 in
    let front : take (length inside) (inside ++ (c ∷ rest)) ≡ inside = take-append_seam inside (c ∷ rest) in
    let same : (c == c) ≡ true = grind (arith, nat_tests) in
    let read = inside_complete s.active h.date h.tail s h.parts refl h.day h.has_parts h.says in
    let tails : length (h.tail ++ (c ∷ [])) ≡ length h.tail + 1 = length-append h.tail (c ∷ []) in
    let sum : length text ≡ length (h.date ++ (h.tail ++ (c ∷ []))) + 1 = ap length h.split ∙ omega arith in
    let size : length inside + 2 ≡ length text = omega (arith, sum, tails, length-append h.date (h.tail ++ (c ∷ [])), length-append h.date h.tail) in
    ap stamp_at whole ∙ rw (active_is s.active, at, byte, same, front, read, size) refl

-- what stands between the brackets, as a timestamp has it
record Inside (active : Bool) (inside : List ℕ) (s : StampValue) : Type 0 where
  date : List ℕ
  tail : List ℕ
  parts : List Part
  same : s.active ≡ active
  split : inside ≡ date ++ tail
  day : date_of date ≡ Some s.day
  has_parts : HasParts tail parts
  says : Says parts s

inside_sound : (active : Bool) (inside : List ℕ) (s : StampValue) → IsOpen inside → inside_of active inside ≡ Some s → Inside active inside s
inside_sound active inside s clear e =
    let day = bind_ok (date_of (take 10 inside)) (λ day. tail_of (drop 10 inside) >>= λ g. Some (value_of active day g)) s (inside_said active inside ∙ e) in
    let behind = bind_ok (tail_of (drop 10 inside)) (λ g. Some (value_of active day.0 g)) s day.2 in
    let halves = open_parts (take 10 inside) (drop 10 inside) (subst IsOpen (sym (take-append-drop 10 inside)) clear) in
    let found = tail_found (drop 10 inside) behind.0 halves.1 behind.1 in
    let a = adds found.parts nothing behind.0 found.all in
    let is = same_some _ _ behind.2 in
    rw (← is) (record {
      date = take 10 inside;
      tail = drop 10 inside;
      parts = found.parts;
      same = refl;
      split = sym (take-append-drop 10 inside);
      day = day.1;
      has_parts = found.has_parts;
      says = record { name = omega (arith, a.name); time = sym a.time; cookies = sym a.cookies; apart = a.apart tt };
    })

position_within : (p : ℕ → Bool) (xs : List ℕ) (i : ℕ) → position p xs ≡ Some i → i < length xs
position_within p xs i e =
    elim (chosen (nat_lt (position_or_len p xs) (length xs)) (Some (position_or_len p xs)) None (Some i) e) [
      | inl h ↦ let same = same_some _ _ h.1 in let lt : position_or_len p xs < length xs = grind (arith, nat_tests, h.0) in omega (arith, same, lt)
      | inr h ↦ absurd (cc)
    ]

pub record IsRead (text : List ℕ) (s : StampValue) (n : ℕ) : Type 0 where
  pub is_text : IsStampText (take n text) s
  pub within : n ≤ length text

closed_sound : (active : Bool) (rest : List ℕ) (o : Option ℕ) (s : StampValue) (n : ℕ) → position is_closing rest ≡ o → closed_of active rest o ≡ Some (s, n) → IsRead (opening active ∷ rest) s n
closed_sound active rest None s n same e = absurd (cc)
closed_sound active rest (Some at) s n same e =
    elim (chosen (slice_index rest at == closing active) (inside_of active (take at rest) >>= λ t. Some (t, at + 2)) None (Some (s, n)) e) [
      | inl h ↦
          let read = bind_ok (inside_of active (take at rest)) (λ t. Some (t, at + 2)) (s, n) h.1 in
          let pair = some_pair_parts read.0 s (at + 2) n read.2 in
          let i = inside_sound active (take at rest) s (open_until rest at same) (read.1 ∙ ap (λ t. Some t) pair.0) in
          let within = position_within is_closing rest at same in
          let byte : get_or rest at 0 ≡ closing active = eq_of (slice_index rest at) (closing active) h.0 in
          let next : at + 2 ≡ suc (at + 1) = omega arith in
          let front : take (at + 1) rest ≡ take at rest ++ (closing active ∷ []) = take_more rest at 0 within ∙ ap (λ b. take at rest ++ (b ∷ [])) byte in
          let cut : take (at + 1) rest ≡ i.date ++ (i.tail ++ (closing active ∷ [])) = front ∙ ap (λ l. l ++ (closing active ∷ [])) i.split ∙ append_assoc i.date i.tail (closing active ∷ []) in
          let whole : take n (opening active ∷ rest) ≡ opening active ∷ (i.date ++ (i.tail ++ (closing active ∷ []))) = ap (λ k. take k (opening active ∷ rest)) (sym pair.1 ∙ next) ∙ ap (λ l. opening active ∷ l) cut in
          record {
            is_text = record { date = i.date; tail = i.tail; parts = i.parts; split = whole ∙ ap (λ a. opening a ∷ (i.date ++ (i.tail ++ (closing a ∷ [])))) (sym i.same); day = i.day; has_parts = i.has_parts; says = i.says };
            within = omega (arith, pair.1, within);
          }
      | inr h ↦ absurd (cc)
    ]

-- what is read is a timestamp
pub stamp_sound : (text : List ℕ) (s : StampValue) (n : ℕ) → stamp_at text ≡ Some (s, n) → IsRead text s n
stamp_sound [] s n e = absurd (cc)
stamp_sound (b ∷ rest) s n e =
    let active = bind_ok (active_of b) (λ a. closed_of a rest (position is_closing rest)) (s, n) e in
    let bracket = opening_is b active.0 active.1 in
    subst (λ (x : ℕ). IsRead (x ∷ rest) s n) (sym bracket) (closed_sound active.0 rest (position is_closing rest) s n refl active.2)
