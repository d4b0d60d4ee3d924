-- A field that is read is the field that was written, and what was written is read again.
use Rattle.std.proofs.Common.{◌≡◌, ℕ, ◌+◌, ◌-◌, ◌^◌, ◌<◌, ◌≤◌, Bool, true, false, cond, ltb, List, [], ◌∷◌, ◌++◌, length, get_or, take, drop, Option, Some, None, refl, sym, ap, subst, ◌∙◌, append_assoc, arith}
use Rattle.std.proofs.lemmas.Grind.{common_steps}
use Rattle.std.specs.Prelude.{IsTrue, IsUtf8, ◌&&◌, nat_le}
use Rattle.std.specs.Str.{is_utf8}
use Rattle.std.proofs.Math.Nat.{mod-eq_of_lt}
use Rattle.std.proofs.lemmas.Bool.{false≢true, leb-true, le-leb, ltb-false, le-ltb}
use Rattle.std.proofs.lemmas.List.{drop_at, take-append-drop, length-append, length-drop, length-take, take_all, get_or-drop}
use Rattle.std.proofs.lemmas.Nat.{be_bytes_2, be_bytes_4, be_bytes_8}
use Rattle.std.proofs.lemmas.Option.{none-some, same_Some, some_pair_parts}
use Rattle.std.proofs.lemmas.Str.{IsUtf8-from_is_utf8, is_utf8-from_IsUtf8}
use Rattle.byteorder.specs.Endian.{big_bytes, big_number}
use Rattle.byteorder.specs.Numbers.{big_from-take, big_from-lt, big_number-reads_back, length-bytes_high_first}
use Rattle.org_disk.specs.Names.{is_file_name}
use Rattle.org_journal.specs.Record.{name_bytes, counted_bytes, context_bytes, most_context}
use Rattle.org_journal.specs.Reading.{◌>>=◌, number_at, bytes_at, counted_at, context_at, name_at}

abbrev pub IsBytes : List ℕ → Type 0
IsBytes bytes = (i : ℕ) → get_or bytes i 0 < 256

pub IsBytes-drop : (n : ℕ) (bytes : List ℕ) → IsBytes bytes → IsBytes (drop n bytes)
IsBytes-drop n bytes h i = rw get_or-drop (h (n + i))

pub IsBytes-take : (n : ℕ) (bytes : List ℕ) → IsBytes bytes → IsBytes (take n bytes)
IsBytes-take n bytes h i = grind (arith, common_steps)

-- the number of patches has 4 bytes
pub patches_fit : (n : ℕ) → n ≤ 1_000 → n < 4_294_967_296
patches_fit n few = omega arith

-- what was read by a step, and by the steps after it
pub bind_some : {A B : Type 0} (r : Option A) (f : A → Option B) (y : B) → (r >>= f) ≡ Some y → (x : A) × (r ≡ Some x) × (f x ≡ Some y)
bind_some (Some x) f y e = (x, refl, e)
bind_some None f y e = absurd (none-some y e)

-- a test that was passed
pub passed : {A : Type 0} (b : Bool) (r : Option A) (y : A) → cond b r None ≡ Some y → (b ≡ true) × (r ≡ Some y)
passed true r y e = (refl, e)
passed false r y e = absurd (none-some y e)

pub not_short : {A : Type 0} (b : Bool) (r : Option A) (y : A) → cond b None r ≡ Some y → (b ≡ false) × (r ≡ Some y)
not_short true r y e = absurd (none-some y e)
not_short false r y e = (refl, e)

pub both_true : (a b : Bool) → (a && b) ≡ true → (a ≡ true) × (b ≡ true)
both_true true b e = (refl, e)
both_true false b e = absurd (false≢true e)

-- what a reader took from the front
pub record Takes (bytes text rest : List ℕ) : Type 0 where
  pub parts : bytes ≡ text ++ rest
  pub rest_fits : IsBytes rest

pub Takes-then : (a x b y c : List ℕ) → Takes a x b → Takes b y c → Takes a (x ++ y) c
Takes-then a x b y c p q = record { parts = p.parts ∙ ap (λ (t : List ℕ). x ++ t) q.parts ∙ sym (append_assoc x y c); rest_fits = q.rest_fits }

-- ---- numbers

-- the bytes of a number of n bytes that was read
abbrev pub HasBack : ℕ → Type 0
HasBack n = (bytes : List ℕ) → length bytes ≡ n → IsBytes bytes → big_bytes n (big_number n bytes) ≡ bytes

pub back1 : HasBack 1
back1 [] len fits = absurd (omega (arith, len))
back1 (b ∷ []) len fits =
    let is : big_number 1 (b ∷ []) ≡ b = omega arith in
    ap (big_bytes 1) is ∙ ap (λ (n : ℕ). n ∷ []) (mod-eq_of_lt (fits 0))
back1 (b ∷ c ∷ bytes) len fits = absurd (omega (arith, len))

pub back2 : HasBack 2
back2 bytes len fits = be_bytes_2 bytes (big_number 2 bytes) len fits (omega arith)

pub back4 : HasBack 4
back4 bytes len fits = be_bytes_4 bytes (big_number 4 bytes) len fits (omega arith)

pub back8 : HasBack 8
back8 bytes len fits = be_bytes_8 bytes (big_number 8 bytes) len fits (omega arith)

pub number_takes : (n : ℕ) → HasBack n → (bytes : List ℕ) (x : ℕ) (rest : List ℕ) → IsBytes bytes → number_at n bytes ≡ Some (x, rest) → Takes bytes (big_bytes n x) rest × (x < 256 ^ n)
number_takes n back bytes x rest fits e =
    let g = not_short (ltb (length bytes) n) (Some (big_number n bytes, drop n bytes)) (x, rest) e in
    let long : n ≤ length bytes = ltb-false _ _ g.0 in
    let parts = some_pair_parts (big_number n bytes) x (drop n bytes) rest g.1 in
    let front : big_bytes n x ≡ take n bytes =
    ap (big_bytes n) (sym parts.0 ∙ sym (big_from-take 0 n n bytes (omega arith))) ∙ back (take n bytes) (omega (arith, length-take n bytes)) (IsBytes-take n bytes fits) in
    (record { parts = rw (front, ← parts.1) (sym (take-append-drop n bytes)); rest_fits = rw (← parts.1) (IsBytes-drop n bytes fits) }, rw (← parts.0) (big_from-lt 0 n bytes fits))

pub number_again : (n x : ℕ) (rest : List ℕ) → x < 256 ^ n → number_at n (big_bytes n x ++ rest) ≡ Some (x, rest)
number_again n x rest lt =
    let len = length-bytes_high_first n x in
    let long : ltb (length (big_bytes n x ++ rest)) n ≡ false = le-ltb _ _ (omega (arith, len, length-append (big_bytes n x) rest)) in
    rw (long, drop_at (big_bytes n x) rest n len, big_number-reads_back n x rest lt) refl

-- what is read of the bytes in front, and the rest

pub number_is : (n : ℕ) (bytes : List ℕ) (x : ℕ) → n ≤ length bytes → x ≡ big_number n bytes → number_at n bytes ≡ Some (x, take (length bytes - n) (drop n bytes))
number_is n bytes x long reported = rw (le-ltb _ _ long, reported, take_all (length bytes - n) (drop n bytes) (omega (arith, length-drop n bytes))) refl

-- ---- bytes after their count

pub bytes_takes : (n : ℕ) (bytes text rest : List ℕ) → IsBytes bytes → bytes_at n bytes ≡ Some (text, rest) → Takes bytes text rest × (length text ≡ n)
bytes_takes n bytes text rest fits e = grind (arith, common_steps)

pub bytes_again : (n : ℕ) (text rest : List ℕ) → length text ≡ n → bytes_at n (text ++ rest) ≡ Some (text, rest)
bytes_again n text rest len = grind (arith, common_steps)

pub counted_takes : (bytes text rest : List ℕ) → IsBytes bytes → counted_at bytes ≡ Some (text, rest) → Takes bytes (counted_bytes text) rest × (length text < 256 ^ 8)
unfolding counted_at
counted_takes bytes text rest fits e =
    let a = bind_some (number_at 8 bytes) (λ n. bytes_at n.0 n.1) (text, rest) e in
    let count = number_takes 8 back8 bytes a.0.0 a.0.1 fits a.1 in
    let behind = bytes_takes a.0.0 a.0.1 text rest count.0.rest_fits a.2 in
    (rw behind.1 (Takes-then bytes (big_bytes 8 a.0.0) a.0.1 text rest count.0 behind.0), omega (arith, count.1, behind.1))

pub counted_again : (text rest : List ℕ) → length text < 256 ^ 8 → counted_at (counted_bytes text ++ rest) ≡ Some (text, rest)
unfolding counted_at
counted_again text rest lt = grind (arith, common_steps)

-- ---- contexts

pub context_takes : (bytes text rest : List ℕ) → IsBytes bytes → context_at bytes ≡ Some (text, rest) → Takes bytes (context_bytes text) rest × (length text ≤ most_context)
unfolding context_at
context_takes bytes text rest fits e =
    let a = bind_some (number_at 1 bytes) (λ n. cond (nat_le n.0 most_context) (bytes_at n.0 n.1) None) (text, rest) e in
    let g = passed (nat_le a.0.0 most_context) (bytes_at a.0.0 a.0.1) (text, rest) a.2 in
    let count = number_takes 1 back1 bytes a.0.0 a.0.1 fits a.1 in
    let behind = bytes_takes a.0.0 a.0.1 text rest count.0.rest_fits g.1 in
    let few = leb-true a.0.0 most_context g.0 in
    (rw behind.1 (Takes-then bytes (big_bytes 1 a.0.0) a.0.1 text rest count.0 behind.0), omega (arith, few, behind.1))

pub context_again : (text rest : List ℕ) → length text ≤ most_context → context_at (context_bytes text ++ rest) ≡ Some (text, rest)
unfolding context_at
context_again text rest short =
    let small : length text < 256 ^ 1 = omega (arith, short) in
    ap (λ (x : List ℕ). context_at x) (append_assoc (big_bytes 1 (length text)) text rest)
    ∙ rw (number_again 1 (length text) (text ++ rest) small, le-leb _ _ short, bytes_again (length text) text rest refl) refl

-- ---- names

pub name_takes : (bytes name rest : List ℕ) → IsBytes bytes → name_at bytes ≡ Some (name, rest) → Takes bytes (name_bytes name) rest × (IsUtf8 name × IsTrue (is_file_name name))
unfolding name_at
name_takes bytes name rest fits e =
    let a = bind_some (number_at 2 bytes) (λ n. bytes_at n.0 n.1 >>= λ found. cond (is_utf8 found.0 && is_file_name found.0) (Some found) None) (name, rest) e in
    let b = bind_some (bytes_at a.0.0 a.0.1) (λ found. cond (is_utf8 found.0 && is_file_name found.0) (Some found) None) (name, rest) a.2 in
    let g = passed (is_utf8 b.0.0 && is_file_name b.0.0) (Some b.0) (name, rest) b.2 in
    let parts = some_pair_parts b.0.0 name b.0.1 rest g.1 in
    let tests = both_true (is_utf8 b.0.0) (is_file_name b.0.0) g.0 in
    let count = number_takes 2 back2 bytes a.0.0 a.0.1 fits a.1 in
    let behind = bytes_takes a.0.0 a.0.1 b.0.0 b.0.1 count.0.rest_fits b.1 in
    let whole : Takes bytes (name_bytes b.0.0) b.0.1 = rw behind.1 (Takes-then bytes (big_bytes 2 a.0.0) a.0.1 b.0.0 b.0.1 count.0 behind.0) in
    subst (λ (p : List ℕ × List ℕ). Takes bytes (name_bytes p.0) p.1 × (IsUtf8 p.0 × IsTrue (is_file_name p.0))) (same_Some b.0 (name, rest) g.1)
    (whole, (IsUtf8-from_is_utf8 b.0.0 tests.0, tests.1))

pub name_again : (name rest : List ℕ) → IsUtf8 name → is_file_name name ≡ true → length name < 256 ^ 2 → name_at (name_bytes name ++ rest) ≡ Some (name, rest)
unfolding name_at
name_again name rest text accepted lt = grind (arith, common_steps, is_utf8-from_IsUtf8, append_assoc, number_again, bytes_again)
