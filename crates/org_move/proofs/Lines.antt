-- A line that begins with `#+ARCHIVE:` holds `#+`, so that others are passed over.
use Rattle.std.proofs.Common.{◌≡◌, ℕ, zero, suc, ◌+◌, ◌-◌, ◌<◌, ◌≤◌, Bool, true, false, eqb, ltb, ◌&&◌, ◌||◌, List, [], ◌∷◌, ◌++◌, length, take, drop, Option, Some, None, refl, sym, ap, subst, ◌∙◌, append_assoc, arith, inl, inr}
use Rattle.std.specs.Prelude.{◌⊎◌, IfNone, IfSome, codes, is_some, slice_index}
use Rattle.std.specs.Borrow.{Bor}
use Rattle.std.specs.Char.{to_ascii_lowercase}
use Rattle.std.specs.List.{AllByRecursion, find, prefix_len}
use Rattle.std.proofs.lemmas.Bool.{cases_Bool, eqb-true, false≢true}
use Rattle.std.proofs.lemmas.Bool.Decides.{nat_tests}
use Rattle.std.proofs.lemmas.List.{append-nil, append_cancel_left, drop_at, length-append, length-drop, take-append-drop, take_all, take_at}
use Rattle.memchr.specs.Find.{FindsNeedle, OccursAt}
use Rattle.org_splice.specs.Blanks.{is_blank}
use Rattle.org_splice.specs.Lines.{terminated, print_lines, IsLine, lines_of}
use Rattle.org_splice.proofs.Ends.{both}
use Rattle.org_splice.proofs.Lines.{print_lines-lines_of, lines_of-lines, lines_of-append, terminated-append, terminated-both}
use Rattle.org_splice.specs.declared.searched.Searched.TheVariants.{Ends}
use Rattle.org_splice.specs.Searched.{IsFrontWithout, IsSearched, StandsInLines}
use Rattle.org_splice.proofs.Searches.{front_of, lines_of-both}
use Rattle.org_meta.specs.Lines.{BeginsWith}
use Rattle.org_meta.specs.declared.lines.Lines.{Lines}
use Rattle.org_meta.proofs.FirstLine.{rest_terminated}
use Rattle.org_move.specs.Location.{ComesTo, IsBehindOthers, LeavesLines, has_archive_line, is_archive_line}

-- ---- `#+` in a text

abbrev mark : List ℕ
mark = 35 ∷ 43 ∷ []

abbrev has_mark : List ℕ → Bool
has_mark [] = false
has_mark (a ∷ []) = false
has_mark (a ∷ b ∷ bs) = (eqb a 35 && eqb b 43) || has_mark (b ∷ bs)

neither : (a b : Bool) → (a || b) ≡ false → (a ≡ false) × (b ≡ false)
neither true b e = absurd cc
neither false b e = (refl, e)

or_true : (a b : Bool) → b ≡ true → (a || b) ≡ true
or_true true b e = refl
or_true false b e = e

-- a line's own, and that of what follows it
mark_parts : (l r : List ℕ) → has_mark (l ++ 10 ∷ r) ≡ false → (has_mark l ≡ false) × (has_mark r ≡ false)
mark_parts [] [] h = (refl, refl)
mark_parts [] (c ∷ r) h = (refl, h)
mark_parts (a ∷ []) r h = (refl, (mark_parts [] r (neither (eqb a 35 && eqb 10 43) (has_mark (10 ∷ r)) h).1).1)
mark_parts (a ∷ b ∷ l) r h =
    let n = neither (eqb a 35 && eqb b 43) (has_mark (b ∷ (l ++ 10 ∷ r))) h in
    let more = mark_parts (b ∷ l) r n.1 in
    (rw n.0 more.0, more.1)

shift : (a : ℕ) (t needle : List ℕ) (k : ℕ) → OccursAt t needle k → OccursAt (a ∷ t) needle (suc k)
shift a t needle k o =
    record {
      fits = omega (arith, o.fits);
      reads = λ j lt. let next : suc k + j ≡ suc (k + j) = omega arith in ap (slice_index (a ∷ t)) next ∙ o.reads j lt;
    }

first_two : (a b : ℕ) (t : List ℕ) → a ≡ 35 → b ≡ 43 → (j : ℕ) → j < 2 → slice_index (a ∷ b ∷ t) j ≡ slice_index mark j
first_two a b t ea eb zero lt = ea
first_two a b t ea eb (suc zero) lt = eb
first_two a b t ea eb (suc (suc j)) lt = absurd (omega (arith, lt))

starts : (a b : ℕ) (t : List ℕ) → a ≡ 35 → b ≡ 43 → OccursAt (a ∷ b ∷ t) mark 0
starts a b t ea eb =
    record {
      fits = omega arith;
      reads = λ j lt. let same : 0 + j ≡ j = omega arith in ap (slice_index (a ∷ b ∷ t)) same ∙ first_two a b t ea eb j lt;
    }

no_mark : (t : List ℕ) (n : ℕ) → ((k : ℕ) → k < n → OccursAt t mark k → ⊥) → has_mark (take n t) ≡ false
no_mark [] zero none = refl
no_mark [] (suc n) none = refl
no_mark (a ∷ t) zero none = refl
no_mark (a ∷ []) (suc zero) none = refl
no_mark (a ∷ []) (suc (suc n)) none = refl
no_mark (a ∷ b ∷ t) (suc zero) none = refl
no_mark (a ∷ b ∷ t) (suc (suc n)) none =
    elim (cases_Bool (eqb a 35 && eqb b 43)) [
      | inl e ↦
          let two = both (eqb a 35) (eqb b 43) e in
          absurd (none 0 (omega arith) (starts a b t (eqb-true a 35 two.0) (eqb-true b 43 two.1)))
      | inr e ↦ rw e (no_mark (b ∷ t) (suc n) (λ k lt o. none (suc k) (omega (arith, lt)) (shift a (b ∷ t) mark k o)))
    ]

-- ---- an archive line has one

lower_is : (b n : ℕ) → n < 65 → eqb (to_ascii_lowercase b) n ≡ true → b ≡ n
lower_is b n small e =
    let is : to_ascii_lowercase b ≡ n = eqb-true (to_ascii_lowercase b) n e in
    elim (cases_Bool (ltb b 65)) [
      | inl low ↦ rw low at is
      | inr high ↦
          let le : 65 ≤ b = grind (arith, nat_tests) in
          elim (cases_Bool (ltb b 91)) [
            | inl letter ↦ let up : b + 32 ≡ n = rw (high, letter) at is in absurd (omega (arith, up, le, small))
            | inr other ↦ let up : b ≡ n = rw (high, other) at is in up
          ]
    ]

marked : (l : List ℕ) → is_archive_line l ≡ true → has_mark l ≡ true
marked [] e = absurd cc
marked (b ∷ []) e =
    elim (cases_Bool (is_blank b)) [
      | inl blank ↦ absurd (let bad : false ≡ true = rw blank at e in cc)
      | inr solid ↦ absurd (let f : (eqb (to_ascii_lowercase b) 35 && false) ≡ true = rw solid at e in let t = both (eqb (to_ascii_lowercase b) 35) false f in cc)
    ]
marked (b ∷ c ∷ l) e =
    let next : 1 + prefix_len is_blank (c ∷ l) ≡ suc (prefix_len is_blank (c ∷ l)) = omega arith in
    elim (cases_Bool (is_blank b)) [
      | inl blank ↦
          let more : is_archive_line (c ∷ l) ≡ true = rw (blank, next) at e in
          or_true (eqb b 35 && eqb c 43) (has_mark (c ∷ l)) (marked (c ∷ l) more)
      | inr solid ↦
          let t = both _ _ (rw solid at e) in
          let u = both _ _ t.1 in
          let first : b ≡ 35 = lower_is b 35 (omega arith) t.0 in
          let second : c ≡ 43 = lower_is c 43 (omega arith) u.0 in
          rw (first, second) refl
    ]

unmarked : (l : List ℕ) → has_mark l ≡ false → is_archive_line l ≡ false
unmarked l none =
    elim (cases_Bool (is_archive_line l)) [
      | inl e ↦ let yes = marked l e in absurd cc
      | inr e ↦ e
    ]

-- ---- lines without it are passed over

skip : (ls : List (List ℕ)) (r : List ℕ) → AllByRecursion IsLine ls → has_mark (print_lines ls) ≡ false → find is_archive_line (lines_of (print_lines ls ++ r)) ≡ find is_archive_line (lines_of r)
skip [] r p none = refl
skip (l ∷ ls) r p none =
    let parts = mark_parts l (print_lines ls) none in
    ap (λ t. find is_archive_line (lines_of t)) (append_assoc l (10 ∷ print_lines ls) r)
    ∙ ap (find is_archive_line) (lines_of-append l (print_lines ls ++ r) p.0)
    ∙ rw (unmarked l parts.0) (skip ls r p.1 parts.1)

skip_text : (t r : List ℕ) → terminated t ≡ t → has_mark t ≡ false → find is_archive_line (lines_of (t ++ r)) ≡ find is_archive_line (lines_of r)
skip_text t r whole none =
    let same : print_lines (lines_of t) ≡ t = print_lines-lines_of t ∙ whole in
    ap (λ t. find is_archive_line (lines_of (t ++ r))) (sym same) ∙ skip (lines_of t) r (lines_of-lines t) (ap has_mark same ∙ none)

pub none_marked : (t needle : List ℕ) (r : Option ℕ) → needle ≡ codes "#+" → terminated t ≡ t → FindsNeedle t needle 0 r → r ≡ None → has_archive_line t ≡ false
none_marked t needle r ne whole found is =
    let P : Option ℕ → Type 0 = λ r. FindsNeedle t mark 0 r in
    let here = subst P is (subst (λ (n : List ℕ). FindsNeedle t n 0 r) ne found) in
    let all : take (length t + 1) t ≡ t = take_all (length t + 1) t (omega arith) in
    let none : has_mark t ≡ false = ap has_mark (sym all) ∙ no_mark t (length t + 1) (λ k lt o. here k (omega arith) lt o) in
    ap has_archive_line (sym (append-nil t)) ∙ ap is_some (skip_text t [] whole none)

-- ---- what was passed over before the line in which the mark was found

abbrev pub IsFrom : List ℕ → List ℕ → ℕ → Type 0
IsFrom text left at = (left ≡ text) ⊎ ((before : List ℕ) × (text ≡ before ++ 10 ∷ left) × (length before < at))

tail_is : (b c : ℕ) (xs ys : List ℕ) → b ∷ xs ≡ c ∷ ys → xs ≡ ys
tail_is b c xs ys e = cc

-- the lines before a line, with the newline that ends them
with_newline : (text before left : List ℕ) → text ≡ before ++ 10 ∷ left → text ≡ (before ++ 10 ∷ []) ++ left
with_newline text before left split = split ∙ sym (append_assoc before (10 ∷ []) left)

left_terminated : (text before left : List ℕ) → terminated text ≡ text → text ≡ before ++ 10 ∷ left → terminated left ≡ left
left_terminated text before left whole split =
    let same : before ++ 10 ∷ terminated left ≡ before ++ 10 ∷ left = sym (terminated-append before left) ∙ ap terminated (sym split) ∙ whole ∙ split in
    tail_is 10 10 (terminated left) left (append_cancel_left before (10 ∷ terminated left) (10 ∷ left) same)

behind_line : (text left before : List ℕ) (at : ℕ) → terminated text ≡ text → FindsNeedle text mark 0 (Some at) → text ≡ before ++ 10 ∷ left → length before < at → IsBehindOthers text left
behind_line text left before at whole found split lt =
    let t = before ++ 10 ∷ [] in
    let all : text ≡ t ++ left = with_newline text before left split in
    let long : length before + 1 ≡ length t = omega (arith, length-append before (10 ∷ [])) in
    let taken : take (length before + 1) text ≡ t = ap (take (length before + 1)) all ∙ take_at t left (length before + 1) (sym long) in
    let none : has_mark t ≡ false = ap has_mark (sym taken) ∙ no_mark text (length before + 1) (λ k less o. found.0.before k (omega arith) (omega (arith, less, lt)) o) in
    record {
      before = t;
      parts = all;
      terminated_before = terminated-append before [];
      terminated_left = left_terminated text before left whole split;
      none = ap has_archive_line (sym (append-nil t)) ∙ ap is_some (skip_text t [] (terminated-append before []) none);
    }

pub none_before : (text : List ℕ) → terminated text ≡ text → IsBehindOthers text text
none_before text whole = record { before = []; parts = refl; terminated_before = refl; terminated_left = whole; none = refl }

behind_of : (text left : List ℕ) (at : ℕ) → terminated text ≡ text → FindsNeedle text mark 0 (Some at) → IsFrom text left at → IsBehindOthers text left
behind_of text left at whole found (inl same) = subst (IsBehindOthers text) (sym same) (none_before text whole)
behind_of text left at whole found (inr from) = behind_line text left from.0 at whole found from.1 from.2

-- the same as the code says it
pub passed : (text left needle : List ℕ) (r : Option ℕ) (at : ℕ) → needle ≡ codes "#+" → terminated text ≡ text → FindsNeedle text needle 0 r → r ≡ Some at → IsFrom text left at → IsBehindOthers text left
passed text left needle r at ne whole found is from =
    let P : Option ℕ → Type 0 = λ r. FindsNeedle text mark 0 r in
    behind_of text left at whole (subst P is (subst (λ (n : List ℕ). FindsNeedle text n 0 r) ne found)) from

-- a text without such a line
pub no_line : (text : List ℕ) → has_archive_line text ≡ false → find is_archive_line (lines_of text) ≡ None
no_line text none = is_none (find is_archive_line (lines_of text)) none
  where
    is_none : (o : Option (List ℕ)) → is_some o ≡ false → o ≡ None
    is_none None e = refl
    is_none (Some x) e = absurd (false≢true (sym e))

-- ---- the lines of two texts

find_later : (xs ys : List (List ℕ)) → is_some (find is_archive_line xs) ≡ false → find is_archive_line (xs ++ ys) ≡ find is_archive_line ys
find_later [] ys none = refl
find_later (x ∷ xs) ys none =
    elim (cases_Bool (is_archive_line x)) [
      | inl e ↦ let no : true ≡ false = rw e at none in absurd (false≢true (sym no))
      | inr e ↦ rw e (find_later xs ys (let left : is_some (find is_archive_line xs) ≡ false = rw e at none in left))
    ]

find_front : (xs ys : List (List ℕ)) → is_some (find is_archive_line (xs ++ ys)) ≡ false → is_some (find is_archive_line xs) ≡ false
find_front [] ys none = refl
find_front (x ∷ xs) ys none =
    elim (cases_Bool (is_archive_line x)) [
      | inl e ↦ let no : true ≡ false = rw e at none in absurd (false≢true (sym no))
      | inr e ↦ rw e (find_front xs ys (let left : is_some (find is_archive_line (xs ++ ys)) ≡ false = rw e at none in left))
    ]

-- the first line of two texts is that of the second, where the first has none
pub line_later : (a b : List ℕ) → terminated a ≡ a → has_archive_line a ≡ false → find is_archive_line (lines_of (a ++ b)) ≡ find is_archive_line (lines_of b)
line_later a b whole none = ap (find is_archive_line) (lines_of-both a b whole) ∙ find_later (lines_of a) (lines_of b) none

none_both : (a b : List ℕ) → terminated a ≡ a → has_archive_line a ≡ false → has_archive_line b ≡ false → has_archive_line (a ++ b) ≡ false
none_both a b whole none other = ap is_some (line_later a b whole none) ∙ other

parts_none : (a b : List ℕ) → terminated a ≡ a → has_archive_line (a ++ b) ≡ false → has_archive_line a ≡ false
parts_none a b whole none = find_front (lines_of a) (lines_of b) (ap (λ (ls : List (List ℕ)). is_some (find is_archive_line ls)) (sym (lines_of-both a b whole)) ∙ none)

-- such a line stands in whole lines
pub archive_lines_stand : StandsInLines has_archive_line
archive_lines_stand = record {
  none = refl;
  front = λ a b whole none. parts_none a b whole none;
  back = λ a b whole none. ap is_some (sym (line_later a b whole (parts_none a b whole none))) ∙ none;
}

-- the line that is found
line_found : (left line rest : List ℕ) → BeginsWith left line rest → is_archive_line line ≡ true → find is_archive_line (lines_of left) ≡ Some line
line_found left line rest cut is = ap (find is_archive_line) cut.lines ∙ rw is refl

line_other : (left line rest : List ℕ) → BeginsWith left line rest → is_archive_line line ≡ false → has_archive_line (line ++ 10 ∷ []) ≡ false
line_other left line rest cut is = ap (λ (ls : List (List ℕ)). is_some (find is_archive_line ls)) (lines_of-append line [] cut.unbroken) ∙ rw is refl

-- ---- one line after another

pub then_behind : (text left more : List ℕ) → IsBehindOthers text left → IsBehindOthers left more → IsBehindOthers text more
then_behind text left more one two = record {
  before = one.before ++ two.before;
  parts = one.parts ∙ ap (λ (x : List ℕ). one.before ++ x) two.parts ∙ sym (append_assoc one.before two.before more);
  terminated_before = terminated-both one.before two.before one.terminated_before two.terminated_before;
  terminated_left = two.terminated_left;
  none = none_both one.before two.before one.terminated_before one.none two.none;
}

past_line : (left line rest : List ℕ) → terminated left ≡ left → BeginsWith left line rest → is_archive_line line ≡ false → IsBehindOthers left rest
past_line left line rest whole cut is = record {
  before = line ++ 10 ∷ [];
  parts = with_newline left line rest cut.bytes;
  terminated_before = terminated-append line [];
  terminated_left = rest_terminated left line rest whole cut;
  none = line_other left line rest cut is;
}

pub next_behind : (text left line rest : List ℕ) → IsBehindOthers text left → ComesTo left line rest → is_archive_line line ≡ false → IsBehindOthers text rest
next_behind text left line rest sofar comes is =
    then_behind text left rest sofar (then_behind left comes.left rest comes.behind (past_line comes.left line rest comes.behind.terminated_left comes.begins is))

pub comes_then : (text left line rest : List ℕ) → IsBehindOthers text left → ComesTo left line rest → ComesTo text line rest
comes_then text left line rest sofar comes = record { left = comes.left; behind = then_behind text left comes.left sofar comes.behind; begins = comes.begins }

pub none_then : (text left : List ℕ) → IsBehindOthers text left → has_archive_line left ≡ false → has_archive_line text ≡ false
none_then text left sofar none = ap has_archive_line sofar.parts ∙ none_both sofar.before left sofar.terminated_before sofar.none none

pub shorter : (left line rest : List ℕ) → ComesTo left line rest → length rest < length left
shorter left line rest comes =
    omega (arith, ap length comes.behind.parts, length-append comes.behind.before comes.left, ap length comes.begins.bytes, length-append line (10 ∷ rest))

-- the same as the code says it
abbrev pub Cut : Type 0
Cut = Bor (List ℕ) × Lines

pub comes_some : (text left : List ℕ) (r : Option Cut) → IsBehindOthers text left → IfSome r (λ (p : Cut). BeginsWith left p.0.now p.1.bytes.now) → IfSome r (λ (p : Cut). ComesTo text p.0.now p.1.bytes.now)
comes_some text left None sofar begins = tt
comes_some text left (Some p) sofar begins = record { left = left; behind = sofar; begins = begins }

pub comes_none : (text left : List ℕ) (r : Option Cut) → IsBehindOthers text left → IfNone r (left ≡ []) → IfNone r (has_archive_line text ≡ false)
comes_none text left None sofar empty = none_then text left sofar (ap has_archive_line empty)
comes_none text left (Some p) sofar empty = tt

-- ---- the lines of which nothing is known

-- the lines before those that hold a place
pub record IsLinesFrom (text : List ℕ) (at : ℕ) (left : List ℕ) : Type 0 where
  pub before : List ℕ
  pub parts : text ≡ before ++ left
  pub terminated_before : terminated before ≡ before
  pub terminated_left : terminated left ≡ left
  pub short : length before ≤ at

pub lines_from : (text : List ℕ) (at : ℕ) (left : List ℕ) → terminated text ≡ text → IsFrom text left at → IsLinesFrom text at left
lines_from text at left whole (inl same) = record { before = []; parts = sym same; terminated_before = refl; terminated_left = ap terminated same ∙ whole ∙ sym same; short = omega arith }
lines_from text at left whole (inr from) = record {
  before = from.0 ++ 10 ∷ [];
  parts = with_newline text from.0 left from.1;
  terminated_before = terminated-append from.0 [];
  terminated_left = left_terminated text from.0 left whole from.1;
  short = let lt = from.2 in omega (arith, lt, length-append from.0 (10 ∷ []));
}

-- all of them, where nothing is known of the end
pub leaves_all : (text left end : List ℕ) (front back at : ℕ) → IsLinesFrom text at left → at ≤ front → end ≡ [] → LeavesLines text front back left end
leaves_all text left end front back at from le none = record {
  before = from.before;
  parts = from.parts ∙ ap (λ (x : List ℕ). from.before ++ x) (sym (append-nil left) ∙ ap (λ (x : List ℕ). left ++ x) (sym none));
  terminated_before = from.terminated_before;
  terminated_lines = from.terminated_left;
  short = let s = from.short in omega (arith, s, le);
  last = inl none;
}

-- .. and those up to the first line of the end
pub leaves_some : (text left end line rest lines behind : List ℕ) (front back at cut : ℕ) → IsLinesFrom text at left → at ≤ front → end ≡ drop cut left → cut ≡ length left - back → BeginsWith end line rest
    → lines ≡ take (length left - length rest) left → behind ≡ drop (length left - length rest) left → LeavesLines text front back lines behind
leaves_some text left end line rest lines behind front back at cut from le is_end is_cut begins is_lines is_behind =
    let head = take cut left ++ line in
    let own : left ≡ (head ++ 10 ∷ []) ++ rest =
    sym (take-append-drop cut left) ∙ ap (λ (x : List ℕ). take cut left ++ x) (sym is_end ∙ begins.bytes) ∙ sym (append_assoc (take cut left) line (10 ∷ rest)) ∙ sym (append_assoc head (10 ∷ []) rest) in
    let whole = head ++ 10 ∷ [] in
    let count : length whole ≡ length left - length rest = omega (arith, ap length own, length-append whole rest) in
    let fore : lines ≡ whole = is_lines ∙ ap (take (length left - length rest)) own ∙ take_at whole rest (length left - length rest) count in
    let aft : behind ≡ rest = is_behind ∙ ap (drop (length left - length rest)) own ∙ drop_at whole rest (length left - length rest) count in
    let end_long : length end ≡ length left - cut = ap length is_end ∙ length-drop cut left in
    record {
      before = from.before;
      parts = from.parts ∙ ap (λ (x : List ℕ). from.before ++ x) (own ∙ ap (λ (x : List ℕ). x ++ rest) (sym fore) ∙ ap (λ (x : List ℕ). lines ++ x) (sym aft));
      terminated_before = from.terminated_before;
      terminated_lines = ap terminated fore ∙ terminated-append head [] ∙ sym fore;
      short = let s = from.short in omega (arith, s, le);
      last = inr (omega (arith, is_cut, end_long, ap length aft, ap length begins.bytes, length-append line (10 ∷ rest)));
    }

-- ---- the search

module _ (text lines behind : List ℕ) (front back : ℕ) (leaves : LeavesLines text front back lines behind) (known : IsSearched has_archive_line (Ends front back) text) where
  front_none : has_archive_line leaves.before ≡ false
  front_none = known.0 leaves.before (lines ++ behind) leaves.parts leaves.terminated_before leaves.short

  back_none : has_archive_line behind ≡ false
  back_none = elim leaves.last [
    | inl none ↦ ap has_archive_line none
    | inr less ↦ known.1 (leaves.before ++ lines) behind (leaves.parts ∙ sym (append_assoc leaves.before lines behind)) (terminated-both leaves.before lines leaves.terminated_before leaves.terminated_lines) less
  ]

  -- none is found
  pub none_known : has_archive_line lines ≡ false → has_archive_line text ≡ false
  none_known none =
      ap has_archive_line leaves.parts
      ∙ none_both leaves.before (lines ++ behind) leaves.terminated_before front_none (none_both lines behind leaves.terminated_lines none back_none)

  module _ (line rest : List ℕ) (comes : ComesTo lines line rest) where
    abbrev before : List ℕ
    before = leaves.before ++ comes.behind.before

    cut : text ≡ before ++ (comes.left ++ behind)
    cut =
        leaves.parts
        ∙ ap (λ (x : List ℕ). leaves.before ++ x) (ap (λ (x : List ℕ). x ++ behind) comes.behind.parts ∙ append_assoc comes.behind.before comes.left behind)
        ∙ sym (append_assoc leaves.before comes.behind.before (comes.left ++ behind))

    whole_before : terminated before ≡ before
    whole_before = terminated-both leaves.before comes.behind.before leaves.terminated_before comes.behind.terminated_before

    before_none : has_archive_line before ≡ false
    before_none = none_both leaves.before comes.behind.before leaves.terminated_before front_none comes.behind.none

    -- one is found
    pub first_known : is_archive_line line ≡ true → find is_archive_line (lines_of text) ≡ Some line
    first_known is =
        ap (λ (x : List ℕ). find is_archive_line (lines_of x)) cut
        ∙ line_later before (comes.left ++ behind) whole_before before_none
        ∙ ap (find is_archive_line) (lines_of-both comes.left behind comes.behind.terminated_left)
        ∙ ap (λ (ls : List (List ℕ)). find is_archive_line (ls ++ lines_of behind)) comes.begins.lines ∙ rw is refl

    -- .. and where it begins
    sizes : length text ≡ length before + (length line + (1 + length rest) + length behind)
    sizes = omega (arith, ap length cut, length-append before (comes.left ++ behind), length-append comes.left behind, ap length comes.begins.bytes, length-append line (10 ∷ rest))

    pub found_known : (at : ℕ) → at ≡ length text - length behind - length rest - length line - 1 → IsSearched has_archive_line (Ends at back) text
    found_known at is =
        let here : length before ≡ at = omega (arith, is, sizes) in
        (subst (λ (n : ℕ). IsFrontWithout has_archive_line n text) here (front_of has_archive_line archive_lines_stand text before (comes.left ++ behind) cut before_none), known.1)
