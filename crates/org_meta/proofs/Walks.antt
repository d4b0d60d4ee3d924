-- Walks over the lines of a section: sums and the first open clock.
use Rattle.std.proofs.Common.{◌≡◌, ℕ, suc, ◌+◌, ◌-◌, ◌≤◌, true, false, Bool, Option, Some, None, List, [], ◌∷◌, ◌++◌, length, take, rules, refl, sym, ap, ◌∙◌, arith, length-append, min}
use Rattle.std.proofs.lemmas.Grind.{common_steps}
use Rattle.std.specs.List.{sum_by, position}
use Rattle.std.proofs.lemmas.List.{take_at}
use Rattle.std.specs.Option.{option_map}
use Rattle.org_splice.specs.Lines.{print_lines, lines_of}
use Rattle.org_splice.specs.declared.Span.{Span}
use Rattle.org_meta.specs.Lines.{BeginsWith}
use Rattle.org_meta.specs.Clocks.{minutes_in, total, is_open, open_line, line_span, HasOpenAt}
use Rattle.org_meta.proofs.Walk.{Passed, passed_none, passed_line, rest_shorter}

-- ---- sums

pub record SumLater (whole text : List ℕ) (minutes : ℕ) : Type 0 where
  pub fits : minutes ≤ 18_446_744_073_709_551_615
  pub sum : total (lines_of whole) ≡ min (minutes + sum_by minutes_in (lines_of text)) 18_446_744_073_709_551_615

pub sum_none : (whole : List ℕ) → SumLater whole whole 0
sum_none whole = record { fits = omega arith; sum = ap (λ n. min n 18_446_744_073_709_551_615) (let e : sum_by minutes_in (lines_of whole) ≡ 0 + sum_by minutes_in (lines_of whole) = omega arith in e) }

pub sum_line : (whole text line rest : List ℕ) (m n : ℕ) → SumLater whole text m → BeginsWith text line rest → n ≡ min (m + minutes_in line) 18_446_744_073_709_551_615 → SumLater whole rest n
sum_line whole text line rest m n s b is = grind (arith, common_steps)

pub sum_all : (whole text : List ℕ) (m : ℕ) → SumLater whole text m → text ≡ [] → m ≡ total (lines_of whole)
sum_all whole text m s none = grind (arith, common_steps)

-- ---- the first open clock

pub record OpenLater (whole text : List ℕ) : Type 0 where
  pub passed : Passed whole text
  pub place : position is_open (lines_of whole) ≡ option_map (λ n. length passed.before + n) (position is_open (lines_of text))

plus_none : (o : Option ℕ) → o ≡ option_map (λ n. 0 + n) o
plus_none None = refl
plus_none (Some n) = ap (λ n. Some n) (omega arith)

pub open_none : (whole : List ℕ) → OpenLater whole whole
unfolding passed_none
open_none whole = record { passed = passed_none whole; place = plus_none (position is_open (lines_of whole)) }

plus_one : (k : ℕ) (ls : List (List ℕ)) (l : List ℕ) (o : Option ℕ) → length ls ≡ k → option_map (λ n. k + n) (option_map suc o) ≡ option_map (λ n. length (ls ++ l ∷ []) + n) o
plus_one k ls l None long = refl
plus_one k ls l (Some n) long = ap (λ n. Some n) (omega (arith, length-append ls (l ∷ [])))

position_here : (test : List ℕ → Bool) (l : List ℕ) (ls : List (List ℕ)) → test l ≡ true → position test (l ∷ ls) ≡ Some 0
position_here test l ls found = search rules

position_later : (test : List ℕ → Bool) (l : List ℕ) (ls : List (List ℕ)) → test l ≡ false → position test (l ∷ ls) ≡ option_map suc (position test ls)
position_later test l ls other = search rules

pub open_line_passed : (whole text line rest : List ℕ) → OpenLater whole text → BeginsWith text line rest → is_open line ≡ false → OpenLater whole rest
unfolding passed_line
open_line_passed whole text line rest o b other = record {
  passed = passed_line whole text line rest o.passed b;
  place =
      o.place ∙ ap (λ ls. option_map (λ n. length o.passed.before + n) (position is_open ls)) b.lines
      ∙ ap (option_map (λ n. length o.passed.before + n)) (position_later is_open line (lines_of rest) other)
      ∙ plus_one (length o.passed.before) o.passed.before line (position is_open (lines_of rest)) refl;
}

pub open_found : (whole text line rest : List ℕ) → OpenLater whole text → BeginsWith text line rest → is_open line ≡ true
    → Some (record { start = length whole - length text; end = length whole - length rest }) ≡ open_line (lines_of whole)
unfolding passed_line
open_found whole text line rest o b found =
    let before = o.passed.before in
    let k = length before in
    let lines = lines_of whole in
    let later : Option ℕ → Option ℕ = option_map (λ n. k + n) in
    let place : position is_open lines ≡ Some k =
    o.place ∙ ap (λ ls. later (position is_open ls)) b.lines ∙ ap later (position_here is_open line (lines_of rest) found) ∙ (let same : k + 0 ≡ k = omega arith in ap (λ n. Some n) same) in
    let next = passed_line whole text line rest o.passed b in
    let first : take k lines ≡ before = ap (λ (ls : List (List ℕ)). take k ls) o.passed.lines ∙ take_at before (lines_of text) k refl in
    let second : take (k + 1) lines ≡ before ++ line ∷ [] =
    ap (λ (ls : List (List ℕ)). take (k + 1) ls) next.lines ∙ take_at (before ++ line ∷ []) (lines_of rest) (k + 1) (length-append before (line ∷ [])) in
    let start : length whole - length text ≡ length (print_lines (take k lines)) =
    let at : length whole - length text ≡ length (print_lines before) = omega (arith, ap length o.passed.bytes, length-append (print_lines before) text) in
    at ∙ sym (ap (λ ls. length (print_lines ls)) first) in
    let end : length whole - length rest ≡ length (print_lines (take (k + 1) lines)) =
    let at : length whole - length rest ≡ length (print_lines (before ++ line ∷ [])) = omega (arith, ap length next.bytes, length-append (print_lines (before ++ line ∷ [])) rest) in
    at ∙ sym (ap (λ ls. length (print_lines ls)) second) in
    let span : ℕ → ℕ → Span = λ s e. record { start = s; end = e } in
    ap (λ s. Some (span s (length whole - length rest))) start
    ∙ ap (λ e. Some (span (length (print_lines (take k lines))) e)) end
    ∙ sym (ap (option_map (line_span lines)) place)

pub open_there : (whole text line rest : List ℕ) → OpenLater whole text → BeginsWith text line rest → is_open line ≡ true → HasOpenAt whole (record { start = length whole - length text; end = length whole - length rest })
open_there whole text line rest o b found = grind (arith, common_steps)

pub open_nowhere : (whole text : List ℕ) → OpenLater whole text → text ≡ [] → None ≡ open_line (lines_of whole)
open_nowhere whole text o none =
    sym (ap (option_map (line_span (lines_of whole))) (o.place ∙ ap (λ (t : List ℕ). option_map (λ n. length o.passed.before + n) (position is_open (lines_of t))) none))

pub left_within : (whole text : List ℕ) → OpenLater whole text → length text ≤ length whole
left_within whole text o = omega (arith, ap length o.passed.bytes, length-append (print_lines o.passed.before) text)

pub rest_within : (whole text line rest : List ℕ) → OpenLater whole text → BeginsWith text line rest → length rest ≤ length whole
rest_within whole text line rest o b = omega (arith, left_within whole text o, rest_shorter text line rest b)
