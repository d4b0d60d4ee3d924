-- The parts of a timestamp, by what the readers find in turn.
use Rattle.std.proofs.Common.{◌≡◌, ℕ, ◌+◌, ◌==◌, Bool, true, false, ◌&&◌, if◌then◌else◌, Option, None, Some, List, length, slice_index, take, drop, position, eq-eqb, refl, ap, ◌∙◌, sym}
use Rattle.org_stamp.specs.Calendar.{CivilDay}
use Rattle.std.specs.Option.{option_and}
use Rattle.org_stamp.specs.Parts.{◌>>=◌, number_of, day_if_any, date_of, clock_of, times_of, times_cut, interval_of, intervals_cut, first_interval_of}
use Rattle.std.proofs.lemmas.Bool.{ne_eqb}
use Rattle.org_stamp.specs.declared.kind.Interval.{Interval}

unless_second : {A : Type 0} (a b c : Bool) (o : Option A) → b ≡ false → None ≡ (if a && b && c then o else None)
unless_second true b c o e = sym (ap (λ t. if t && c then o else None) e)
unless_second false b c o e = refl

unless_third : {A : Type 0} (a b c : Bool) (o : Option A) → c ≡ false → None ≡ (if a && b && c then o else None)
unless_third true true c o e = sym (ap (λ t. if t then o else None) e)
unless_third true false c o e = refl
unless_third false b c o e = refl

when_all : {A : Type 0} (a b c : Bool) (o : Option A) → a ≡ true → b ≡ true → c ≡ true → o ≡ (if a && b && c then o else None)
when_all true true true o d e f = refl
when_all true true false o d e f = absurd (cc)
when_all true false c o d e f = absurd (cc)
when_all false b c o d e f = absurd (cc)

-- what the numbers of a date say
abbrev pub date_body : List ℕ → Option CivilDay
date_body text = number_of (take 4 text) >>= λ y. number_of (take 2 (drop 5 text)) >>= λ m. number_of (drop 8 text) >>= λ d. day_if_any y m d

pub other_length : (text : List ℕ) → (length text ≡ 10 → ⊥) → None ≡ date_of text
other_length text other =
    sym (ap (λ t. if t && (slice_index text 4 == 45) && (slice_index text 7 == 45) then date_body text else None) (ne_eqb (length text) 10 other))

pub no_first_hyphen : (text : List ℕ) → (slice_index text 4 ≡ 45 → ⊥) → None ≡ date_of text
no_first_hyphen text other =
    unless_second (length text == 10) (slice_index text 4 == 45) (slice_index text 7 == 45) (date_body text) (ne_eqb (slice_index text 4) 45 other)

pub no_second_hyphen : (text : List ℕ) → (slice_index text 7 ≡ 45 → ⊥) → None ≡ date_of text
no_second_hyphen text other =
    unless_third (length text == 10) (slice_index text 4 == 45) (slice_index text 7 == 45) (date_body text) (ne_eqb (slice_index text 7) 45 other)

pub date_read : (text : List ℕ) (y m d : Option ℕ) → length text ≡ 10 → slice_index text 4 ≡ 45 → slice_index text 7 ≡ 45 →
    y ≡ number_of (take 4 text) → m ≡ number_of (take 2 (drop 5 text)) → d ≡ number_of (drop 8 text) →
    (y >>= λ a. m >>= λ b. d >>= λ c. day_if_any a b c) ≡ date_of text
date_read text y m d ten first second year month day =
    let years : (y >>= λ a. m >>= λ b. d >>= λ c. day_if_any a b c) ≡ (number_of (take 4 text) >>= λ a. m >>= λ b. d >>= λ c. day_if_any a b c) = ap (λ o. o >>= λ a. m >>= λ b. d >>= λ c. day_if_any a b c) year in
    let months : (number_of (take 4 text) >>= λ a. m >>= λ b. d >>= λ c. day_if_any a b c) ≡ (number_of (take 4 text) >>= λ a. number_of (take 2 (drop 5 text)) >>= λ b. d >>= λ c. day_if_any a b c) = ap (λ o. number_of (take 4 text) >>= λ a. o >>= λ b. d >>= λ c. day_if_any a b c) month in
    let days : (number_of (take 4 text) >>= λ a. number_of (take 2 (drop 5 text)) >>= λ b. d >>= λ c. day_if_any a b c) ≡ date_body text = ap (λ o. number_of (take 4 text) >>= λ a. number_of (take 2 (drop 5 text)) >>= λ b. o >>= λ c. day_if_any a b c) day in
    years ∙ months ∙ days ∙ when_all (length text == 10) (slice_index text 4 == 45) (slice_index text 7 == 45) (date_body text) (eq-eqb (length text) 10 ten) (eq-eqb (slice_index text 4) 45 first) (eq-eqb (slice_index text 7) 45 second)

pub one_time : (text : List ℕ) (start : Option ℕ) → None ≡ position (λ b. b == 45) text → start ≡ clock_of text → (start >>= λ s. Some (record { start = s; end = None })) ≡ times_of text
one_time text start none read = ap (λ o. o >>= λ s. Some (record { start = s; end = None })) read ∙ ap (λ o. times_cut text o) none

pub two_times : (text : List ℕ) (at : ℕ) (start end : Option ℕ) → Some at ≡ position (λ b. b == 45) text → start ≡ clock_of (take at text) → end ≡ clock_of (drop (at + 1) text) →
    (start >>= λ s. end >>= λ e. Some (record { start = s; end = Some e })) ≡ times_of text
two_times text at start end some first second =
    let starts : (start >>= λ s. end >>= λ e. Some (record { start = s; end = Some e })) ≡ (clock_of (take at text) >>= λ s. end >>= λ e. Some (record { start = s; end = Some e })) = ap (λ o. o >>= λ s. end >>= λ e. Some (record { start = s; end = Some e })) first in
    let ends : (clock_of (take at text) >>= λ s. end >>= λ e. Some (record { start = s; end = Some e })) ≡ times_cut text (Some at) = ap (λ o. clock_of (take at text) >>= λ s. o >>= λ e. Some (record { start = s; end = Some e })) second in
    starts ∙ ends ∙ ap (λ o. times_cut text o) some

-- the first where the second is there too
both : {A B : Type 0} (first : Option A) (second : Option B) → option_and second first ≡ (first >>= λ i. second >>= λ j. Some i)
both None None = refl
both None (Some j) = refl
both (Some i) None = refl
both (Some i) (Some j) = refl

pub two_intervals : (text : List ℕ) (at : ℕ) (first second : Option Interval) → Some at ≡ position (λ b. b == 47) text → first ≡ interval_of (take at text) → second ≡ interval_of (drop (at + 1) text) → option_and second first ≡ first_interval_of text
two_intervals text at first second some one two =
    both first second ∙ ap (λ o. o >>= λ i. second >>= λ j. Some i) one ∙ ap (λ o. interval_of (take at text) >>= λ i. o >>= λ j. Some i) two ∙ ap (λ o. intervals_cut text o) some
