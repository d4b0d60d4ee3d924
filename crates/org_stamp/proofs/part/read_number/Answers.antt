use Rattle.std.proofs.Common.{◌≡◌, ℕ, zero, suc, ◌+◌, ◌-◌, ◌*◌, ◌^◌, ◌<◌, ◌≤◌, Bool, true, false, ◌&&◌, Option, Some, None, List, length, get_or, fold, refl, sym, ap, ◌∙◌, arith, add-one}
use Rattle.std.specs.Prelude.{◌==◌, nat_le, if◌then◌else◌}
use Rattle.std.specs.List.{list_all}
use Rattle.std.specs.Char.{is_ascii_digit}
use Rattle.std.proofs.Math.Nat.{pow-succ'}
use Rattle.std.proofs.lemmas.List.{take_all}
use Rattle.std.proofs.lemmas.List.Sums.{fold_more}
use Rattle.std.proofs.lemmas.List.Folds.{list_all_more, list_all_at}
use Rattle.org_stamp.specs.Parts.{number_of}
use Rattle.org_stamp.proofs.part.read_number.Goals as goal
use Rattle.org_stamp.proofs.part.read_number.Goals.{then-is_empty-via-then-is_empty, then-is_empty-via-else-is_empty+then-digits-gt4}

below_four : (i : ℕ) → i ≤ 3 → 10 ^ i ≤ 1000
below_four zero le = omega arith
below_four (suc zero) le = omega arith
below_four (suc (suc zero)) le = omega arith
below_four (suc (suc (suc zero))) le = omega arith
below_four (suc (suc (suc (suc i)))) le = absurd (omega (arith, le))

abbrev more : ℕ → ℕ → ℕ
more n b = 10 * n + (b - 48)

abbrev if_all : Bool → Bool → Bool → ℕ → Option ℕ
if_all some few digits n = if some && few && digits then Some n else None

long_none : (some digits : Bool) (n : ℕ) → None ≡ if_all some false digits n
long_none true digits n = refl
long_none false digits n = refl

other_none : (some few : Bool) (n : ℕ) → None ≡ if_all some few false n
other_none true true n = refl
other_none true false n = refl
other_none false few n = refl

no_number : (text : List ℕ) → length text ≡ 0 → None ≡ number_of text
no_number text none = let e : nat_le 1 (length text) ≡ false = grind arith in rw e refl

long_number : (text : List ℕ) → 4 < length text → None ≡ number_of text
long_number text long =
    let e : nat_le (length text) 4 ≡ false = grind arith in
    long_none (nat_le 1 (length text)) (list_all is_ascii_digit text) (fold more 0 text) ∙ ap (λ b. if_all (nat_le 1 (length text)) b (list_all is_ascii_digit text) (fold more 0 text)) (sym e)

odd_number : (text : List ℕ) → list_all is_ascii_digit text ≡ false → None ≡ number_of text
odd_number text odd =
    other_none (nat_le 1 (length text)) (nat_le (length text) 4) (fold more 0 text) ∙ ap (λ b. if_all (nat_le 1 (length text)) (nat_le (length text) 4) b (fold more 0 text)) (sym odd)

number_is : (text : List ℕ) (n : ℕ) → 0 < length text → length text ≤ 4 → n ≡ fold more 0 text → list_all is_ascii_digit text ≡ true → Some n ≡ number_of text
number_is text n some few is digits =
    let one : nat_le 1 (length text) ≡ true = grind arith in
    let four : nat_le (length text) 4 ≡ true = grind arith in
    rw (one, four, digits) (ap (λ n. Some n) is)

some_bytes : (n : ℕ) → (n == 0) ≡ false → 0 < n
some_bytes n some = grind arith

no_bytes : (n : ℕ) → (n == 0) ≡ true → n ≡ 0
no_bytes n none = grind arith

last_digit : (b : ℕ) → is_ascii_digit b ≡ true → b ≤ 57
last_digit b digit = grind arith

more_below : (i n d b : ℕ) → n < 10 ^ i → d ≡ b - 48 → is_ascii_digit b ≡ true → 10 * n + d < 10 ^ (i + 1)
more_below i n d b below is digit =
    let tenfold : 10 ^ (i + 1) ≡ 10 * 10 ^ i = rw add-one (pow-succ' 10 i) in
    omega (arith, last_digit b digit, tenfold)

both_true : (a b : Bool) → a ≡ true → b ≡ true → (a && b) ≡ true
both_true a b one other = rw (one, other) refl

pub overflow_mul-value : goal.overflow_mul-value
overflow_mul-value c = omega (arith, below_four c.loop-byte.byte-index (omega arith), c.loop-byte.invariant.bound)

pub overflow_add-value : goal.overflow_add-value
overflow_add-value c = omega (arith, below_four c.loop-byte.byte-index (omega arith), c.loop-byte.invariant.bound)

pub returns-then-is_empty-clause-value : goal.returns-then-is_empty-clause-value
returns-then-is_empty-clause-value c =
    elim c.then-is_empty.branch [
      | then-is_empty-via-then-is_empty w ↦ no_number c.args.digits.now (no_bytes _ (sym c.is_empty.ensures ∙ w.if-is_empty.true))
      | then-is_empty-via-else-is_empty+then-digits-gt4 w ↦ long_number c.args.digits.now w.if-digits-gt4.true
    ]

pub returns-then-not-is_ascii_digit-clause-value : goal.returns-then-not-is_ascii_digit-clause-value
returns-then-not-is_ascii_digit-clause-value c =
    odd_number c.args.digits.now (list_all_at is_ascii_digit c.args.digits.now c.loop-byte.byte-index 0 c.loop-byte-test.true (sym c.is_ascii_digit.ensures.value ∙ c.if-not-is_ascii_digit.true))

pub loop-byte-preserved : goal.loop-byte-preserved
loop-byte-preserved c =
    let text = c.args.digits.now in
    let i = c.loop-byte.byte-index in
    let digit : is_ascii_digit (get_or text i 0) ≡ true = sym c.is_ascii_digit.ensures.value ∙ c.if-not-is_ascii_digit.false in
    record {
      value = ap (λ d. 10 * c.loop-byte.value + d) c.from.ensures ∙ ap (λ n. more n (get_or text i 0)) c.loop-byte.invariant.value ∙ sym (fold_more more 0 text i 0 c.loop-byte-test.true);
      bound = more_below i c.loop-byte.value c.from.result (get_or text i 0) c.loop-byte.invariant.bound c.from.ensures digit;
      digits = list_all_more is_ascii_digit text i 0 c.loop-byte-test.true ∙ both_true _ _ c.loop-byte.invariant.digits digit;
    }

pub returns-clause-value : goal.returns-clause-value
returns-clause-value c =
    let text = c.args.digits.now in
    let all = take_all c.loop-byte.byte-index text c.loop-byte-test.false in
    number_is text c.loop-byte.value (some_bytes _ (sym c.is_empty.ensures ∙ c.if-is_empty.false)) c.if-digits-gt4.false (c.loop-byte.invariant.value ∙ ap (fold more 0) all)
    (sym (ap (list_all is_ascii_digit) all) ∙ c.loop-byte.invariant.digits)
