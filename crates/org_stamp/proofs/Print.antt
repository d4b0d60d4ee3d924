-- What is printed of a value is a timestamp with that value.
use Rattle.std.proofs.Common.{◌≡◌, ℕ, ◌+◌, ◌*◌, ◌/◌, ◌%◌, ◌<◌, ◌==◌, Bool, true, false, not, ◌||◌, cond, IsTrue, Option, None, Some, List, [], ◌∷◌, ◌++◌, filter, count_by, position, take, drop, nat_lt, nat_le, append_assoc, refl, sym, ap, ◌∙◌, arith, pos}
use Rattle.std.specs.Char.{is_ascii_digit}
use Rattle.std.specs.List.{list_all, filter_map, AllByRecursion}
use Rattle.std.specs.Option.{option_to_list}
use Rattle.std.proofs.lemmas.Bool.{false≢true}
use Rattle.std.proofs.lemmas.Bool.Decides.{nat_tests}
use Rattle.jiff_core.specs.Calendar.{days_in_month}
use Rattle.jiff_core.proofs.CalendarLemmas.{days_in_month_bounds}
use Rattle.org_stamp.specs.Calendar.{CivilDay, IsDay, weekday_of}
use Rattle.org_stamp.proofs.Found.{one_if, count-cons}
use Rattle.org_stamp.specs.declared.kind.Times.{Times}
use Rattle.org_stamp.specs.declared.kind.Kind.{Kind}
use Rattle.org_stamp.specs.declared.kind.Kind.TheVariants.{Name, Clock, Repeat, Delay}
use Rattle.org_stamp.specs.Parts.{◌>>=◌, is_blank, is_closing, is_name_byte, kind_of, number_of, date_of, day_if_any, minute_if_any, clock_of, times_of, times_cut}
use Rattle.org_stamp.specs.Stamp.{StampValue, Part, IsStamp, IsStampText, IsTime, IsCookie, IsPart, IsRun, IsBlanks, HasParts, Says, is_cookie, is_name, times_in, opening, closing, two_digits, date_text, day_name, clock_text, end_text, time_text, cookies_text, stamp_text}

-- a digit's byte, and what it is not
pub digit_is : (n : ℕ) → is_ascii_digit (48 + n % 10) ≡ true
digit_is n = grind (arith, nat_tests)

pub number_two : (n : ℕ) → n < 100 → number_of (two_digits n) ≡ Some n
number_two n h =
    let high = digit_is (n / 10) in
    let low = digit_is n in
    rw (high, low) (ap (λ k. Some k) (omega arith))

pub number_four : (n : ℕ) → n < 10000 → number_of (two_digits (n / 100) ++ two_digits n) ≡ Some n
number_four n h =
    let a = digit_is (n / 100 / 10) in
    let b = digit_is (n / 100) in
    let c = digit_is (n / 10) in
    let d = digit_is n in
    rw (a, b, c, d) (ap (λ k. Some k) (omega arith))

day_is : (d : CivilDay) → IsDay d → day_if_any d.year d.month d.day ≡ Some d
day_is d h =
    let a : nat_le 1 d.year ≡ true = grind (arith, nat_tests) in
    let b : nat_le d.year 9999 ≡ true = grind (arith, nat_tests) in
    let c : nat_le 1 d.month ≡ true = grind (arith, nat_tests) in
    let e : nat_le d.month 12 ≡ true = grind (arith, nat_tests) in
    let f : nat_le 1 d.day ≡ true = grind (arith, nat_tests) in
    let g : nat_le d.day (days_in_month (pos d.year) d.month) ≡ true = grind (arith, nat_tests) in
    rw (a, b, c, e, f, g) refl

days_bound : (d : CivilDay) → IsDay d → d.day < 100
days_bound d h = omega (arith, days_in_month_bounds (pos d.year) d.month)

pub date_is : (d : CivilDay) → IsDay d → date_of (date_text d) ≡ Some d
date_is d h =
    let text = date_text d in
    ap (λ o. o >>= λ y. number_of (take 2 (drop 5 text)) >>= λ m. number_of (drop 8 text) >>= λ n. day_if_any y m n) (number_four d.year (omega arith))
    ∙ ap (λ o. o >>= λ m. number_of (drop 8 text) >>= λ n. day_if_any d.year m n) (number_two d.month (omega arith))
    ∙ ap (λ o. o >>= λ n. day_if_any d.year d.month n) (number_two d.day (days_bound d h))
    ∙ day_is d h

minute_is : (n : ℕ) → n < 1440 → minute_if_any (n / 60) (n % 60) ≡ Some n
minute_is n h =
    let hours : nat_lt (n / 60) 24 ≡ true = grind (arith, nat_tests) in
    let minutes : nat_lt (n % 60) 60 ≡ true = grind (arith, nat_tests) in
    let sum : n / 60 * 60 + n % 60 ≡ n = omega arith in
    rw (hours, minutes, sum) refl

pub clock_is : (n : ℕ) → n < 1440 → clock_of (clock_text n) ≡ Some n
clock_is n h =
    let text = clock_text n in
    ap (λ o. o >>= λ a. number_of (drop 3 text) >>= λ b. minute_if_any a b) (number_two (n / 60) (omega arith))
    ∙ ap (λ o. o >>= λ b. minute_if_any (n / 60) b) (number_two (n % 60) (omega arith))
    ∙ minute_is n h

not_dash : (n : ℕ) → (48 + n % 10 == 45) ≡ false
not_dash n = grind (arith, nat_tests)

not_name : (n : ℕ) → is_name_byte (48 + n % 10) ≡ false
not_name n = grind (arith, nat_tests)

plain_digit : (n : ℕ) → (is_blank (48 + n % 10) || is_closing (48 + n % 10)) ≡ false
plain_digit n = grind (arith, nat_tests)

-- no `-` in a clock time
dash_none : (n : ℕ) → position (λ b. b == 45) (clock_text n) ≡ None
dash_none n =
    let a = not_dash (n / 60 / 10) in
    let b = not_dash (n / 60) in
    let c = not_dash (n % 60 / 10) in
    let d = not_dash (n % 60) in
    rw (a, b, c, d) refl

dash_at : (n m : ℕ) → position (λ b. b == 45) (clock_text n ++ (45 ∷ clock_text m)) ≡ Some 5
dash_at n m =
    let a = not_dash (n / 60 / 10) in
    let b = not_dash (n / 60) in
    let c = not_dash (n % 60 / 10) in
    let d = not_dash (n % 60) in
    rw (a, b, c, d) refl

times_are : (start : ℕ) (end : Option ℕ) → IsTime (Some (record { start = start; end = end })) → times_of (clock_text start ++ end_text end) ≡ Some (record { start = start; end = end })
times_are start None h =
    ap (times_cut (clock_text start)) (dash_none start) ∙ ap (λ o. o >>= λ n. Some (record { start = n; end = None })) (clock_is start h.0)
times_are start (Some m) h =
    let text = clock_text start ++ (45 ∷ clock_text m) in
    ap (times_cut text) (dash_at start m)
    ∙ ap (λ o. o >>= λ n. clock_of (drop 6 text) >>= λ e. Some (record { start = n; end = Some e })) (clock_is start h.0)
    ∙ ap (λ o. o >>= λ e. Some (record { start = start; end = Some e })) (clock_is m h.1.0)

kind_times : (start : ℕ) (end : Option ℕ) → IsTime (Some (record { start = start; end = end })) → kind_of (clock_text start ++ end_text end) ≡ Some (Clock (record { start = start; end = end }))
kind_times start end h =
    let name = not_name (start / 60 / 10) in
    let digit = digit_is (start / 60 / 10) in
    let times = times_are start end h in
    rw (name, digit) (ap (λ o. o >>= λ u. Some (Clock u)) times)

run_times : (start : ℕ) (end : Option ℕ) → IsRun (clock_text start ++ end_text end)
run_times start None =
    let a = plain_digit (start / 60 / 10) in
    let b = plain_digit (start / 60) in
    let c = plain_digit (start % 60 / 10) in
    let d = plain_digit (start % 60) in
    record { some = λ e. absurd (cc); plain = rw (a, b, c, d) refl }
run_times start (Some m) =
    let a = plain_digit (start / 60 / 10) in
    let b = plain_digit (start / 60) in
    let c = plain_digit (start % 60 / 10) in
    let d = plain_digit (start % 60) in
    let e = plain_digit (m / 60 / 10) in
    let f = plain_digit (m / 60) in
    let g = plain_digit (m % 60 / 10) in
    let h = plain_digit (m % 60) in
    record { some = λ e. absurd (cc); plain = rw (a, b, c, d, e, f, g, h) refl }

abbrev IsNameRun : List ℕ → Type 0
IsNameRun run = IsPart (record { run = run; kind = Name })

pick : (b : Bool) (x y : List ℕ) → IsNameRun x → IsNameRun y → IsNameRun (cond b x y)
pick true x y p q = p
pick false x y p q = q

name_run : (b : ℕ) (bs : List ℕ) → IsTrue (list_all (λ c. not (is_blank c || is_closing c)) (b ∷ bs)) → kind_of (b ∷ bs) ≡ Some Name → IsNameRun (b ∷ bs)
name_run b bs plain kind = record { run = record { some = λ e. absurd (cc); plain = plain }; kind = kind }

name_part : (w : ℕ) → IsNameRun (day_name w)
name_part w =
    pick (w == 0) _ _ (name_run 77 (111 ∷ 110 ∷ []) refl refl)
    (pick (w == 1) _ _ (name_run 84 (117 ∷ 101 ∷ []) refl refl)
    (pick (w == 2) _ _ (name_run 87 (101 ∷ 100 ∷ []) refl refl)
    (pick (w == 3) _ _ (name_run 84 (104 ∷ 117 ∷ []) refl refl)
    (pick (w == 4) _ _ (name_run 70 (114 ∷ 105 ∷ []) refl refl)
    (pick (w == 5) _ _ (name_run 83 (97 ∷ 116 ∷ []) refl refl) (name_run 83 (117 ∷ 110 ∷ []) refl refl))))))

one_space : IsBlanks (32 ∷ [])
one_space = record { some = λ e. absurd (cc); blank = refl }

cookies_parts : (cs : List Part) → AllByRecursion IsCookie cs → HasParts (cookies_text cs) cs
cookies_parts [] h = refl
cookies_parts (p ∷ ps) h = (32 ∷ [], cookies_text ps, refl, one_space, h.0.part, cookies_parts ps h.1)

-- the parts that are printed after the day's name
time_parts : Option Times → List Part → List Part
time_parts None cs = cs
time_parts (Some t) cs = record { run = clock_text t.start ++ end_text t.end; kind = Clock t } ∷ cs

has_time_parts : (time : Option Times) (cs : List Part) → IsTime time → AllByRecursion IsCookie cs → HasParts (time_text time ++ cookies_text cs) (time_parts time cs)
unfolding time_parts
has_time_parts None cs t h = cookies_parts cs h
has_time_parts (Some t) cs w h =
    (32 ∷ [], cookies_text cs, refl, one_space, record { run = run_times t.start t.end; kind = kind_times t.start t.end w }, cookies_parts cs h)

no_name : (k : Kind) → is_cookie k ≡ true → (is_name k ≡ false) × (times_in k ≡ None)
no_name Name e = absurd (false≢true e)
no_name (Clock t) e = absurd (false≢true e)
no_name (Repeat r) e = (refl, refl)
no_name Delay e = (refl, refl)

cookies_say : (cs : List Part) → AllByRecursion IsCookie cs → (count_by (λ p. is_name p.kind) cs ≡ 0) × (filter_map (λ p. times_in p.kind) cs ≡ []) × (filter (λ p. is_cookie p.kind) cs ≡ cs)
cookies_say [] h = (refl, refl, refl)
cookies_say (p ∷ ps) h =
    let more = cookies_say ps h.1 in
    let no = no_name p.kind h.0.cookie in
    let cookie = h.0.cookie in
    let count : count_by (λ q. is_name q.kind) (p ∷ ps) ≡ 0 = count-cons p ps ∙ ap (λ n. one_if (is_name p.kind) + n) more.0 ∙ ap (λ b. one_if b + 0) no.0 in
    (count, rw no.1 more.1, rw cookie (ap (λ l. p ∷ l) more.2))

name_of : ℕ → Part
name_of w = record { run = day_name w; kind = Name }

said : (s : StampValue) → IsStamp s → Says (name_of (weekday_of s.day) ∷ time_parts s.time s.cookies) s
unfolding name_of time_parts
said s h = by_time s.time refl (cookies_say s.cookies h.behind.cookies)
  where
    by_time : (time : Option Times) → s.time ≡ time → (count_by (λ p. is_name p.kind) s.cookies ≡ 0) × (filter_map (λ p. times_in p.kind) s.cookies ≡ []) × (filter (λ p. is_cookie p.kind) s.cookies ≡ s.cookies) → Says (name_of (weekday_of s.day) ∷ time_parts time s.cookies) s
    by_time None e cs = record {
      name = omega (arith, count-cons (name_of (weekday_of s.day)) s.cookies, cs.0);
      time = cs.1 ∙ ap option_to_list (sym e);
      cookies = cs.2;
      apart = h.behind.apart;
    }
    by_time (Some t) e cs =
        let timed : Part = record { run = clock_text t.start ++ end_text t.end; kind = Clock t } in
        record {
          name = omega (arith, count-cons (name_of (weekday_of s.day)) (timed ∷ s.cookies), count-cons timed s.cookies, cs.0);
          time = ap (λ l. t ∷ l) cs.1 ∙ ap option_to_list (sym e);
          cookies = cs.2;
          apart = h.behind.apart;
        }

regroup : (d n t c e : List ℕ) → d ++ n ++ t ++ c ++ e ≡ d ++ ((n ++ (t ++ c)) ++ e)
regroup d n t c e = simp append_assoc

-- the printed text is a timestamp with that value
pub print_is : (s : StampValue) → IsStamp s → IsStampText (stamp_text s) s
unfolding name_of
print_is s h =
    let w = weekday_of s.day in
    let behind = time_text s.time ++ cookies_text s.cookies in
    record {
      date = date_text s.day;
      tail = (32 ∷ day_name w) ++ behind;
      parts = name_of w ∷ time_parts s.time s.cookies;
      split = ap (λ l. opening s.active ∷ l) (regroup (date_text s.day) (32 ∷ day_name w) (time_text s.time) (cookies_text s.cookies) (closing s.active ∷ []));
      day = date_is s.day h.day;
      has_parts = (32 ∷ [], behind, refl, one_space, name_part w, has_time_parts s.time s.cookies h.behind.time h.behind.cookies);
      says = said s h;
    }

-- what is pushed in turn is the text
pub pushed : (o c a b : ℕ) (day time cookies v0 v1 v2 v3 v4 v5 : List ℕ) → a ≡ o → b ≡ c → v0 ≡ [] → v1 ≡ v0 ++ (a ∷ []) → v2 ≡ v1 ++ day → v3 ≡ v2 ++ time → v4 ≡ v3 ++ cookies → v5 ≡ v4 ++ (b ∷ []) →
    v5 ≡ o ∷ (day ++ time ++ cookies ++ c ∷ [])
pushed o c a b day time cookies v0 v1 v2 v3 v4 v5 f g e0 e1 e2 e3 e4 e5 =
    let all : v5 ≡ (((([] ++ (o ∷ [])) ++ day) ++ time) ++ cookies) ++ (c ∷ []) = cc in
    all ∙ simp append_assoc
