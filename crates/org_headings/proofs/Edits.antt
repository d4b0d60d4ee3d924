-- The headings of an edited text: those before the lines that the edit touches, those of these
-- lines, and those after them, moved.
use Rattle.std.proofs.Common.{rules, ◌≡◌, ℕ, zero, suc, ◌+◌, ◌-◌, ◌<◌, ◌≤◌, ◌^◌, Bool, true, false, eqb, ltb, List, [], ◌∷◌, ◌++◌, length, drop, take, get_or, set, Option, Some, None, refl, sym, ap, subst, ◌∙◌, append_assoc, arith, add-zero, cond, inl, inr}
use Rattle.std.proofs.lemmas.Grind.{common_steps}
use Rattle.std.specs.Prelude.{map, ◌⊎◌}
use Rattle.std.specs.List.{AllByRecursion, prefix_len}
use Rattle.std.specs.List.Sorted.{IsNonDecreasingBy, IsPartitionPoint}
use Rattle.std.proofs.lemmas.List.Sums.{prefix_len_is}
use Rattle.std.proofs.lemmas.Bool.{cases_Bool, eqb-true}
use Rattle.std.proofs.lemmas.Bool.Decides.{nat_tests}
use Rattle.std.proofs.lemmas.List.{length-append, length-drop, length-take, length-take-le, take-append-drop, take_rest, take_more, take_at, drop_at, drop-drop, get_or-take, get_or-drop, take_all, drop_all, append-nil}
use Rattle.std.specs.declared.vec.IntoIter.{IntoIter}
use Rattle.std.specs.Vec.Iter.{into_iter_items, into_iter_len, into_iter_steps}
use Rattle.std.specs.Iterator.{Drains}
use Rattle.std.proofs.lemmas.Iterator.{items_from_drains}
use Rattle.std.proofs.lemmas.Iterator.Adapters.{YieldsList-from_vec}
use Rattle.memchr.specs.Find.{IsFirstByte, IsLastByte, Nowhere, Passes, is_byte}
use Rattle.org_headings.specs.declared.heads.Heading.{Heading}
use Rattle.org_splice.specs.Lines.{terminated, IsLine}
use Rattle.org_headings.specs.Text.{stars, level_of, line_at}
use Rattle.org_headings.specs.Beginnings.{beginnings_of}
use Rattle.org_headings.specs.Headings.{headings_of, heads_from, ends_line, with_heading, moved, CanMove, IsEdit}
use Rattle.org_splice.proofs.AllLines.{AllByRecursion-append, AllByRecursion-at}
use Rattle.org_splice.proofs.LineWalk.{line_of, tail_is}
use Rattle.org_headings.proofs.HeadsFrom.{line_at-more, ends_line-append, take-plus, heads_from-text, level_of-append}

-- ---- line starts and line ends that the code finds

pub line_begins : (t : List ℕ) (at e : ℕ) (r : Option ℕ) → IsLastByte (is_byte 10) (take at t) r → r ≡ Some e → ends_line true (take (e + 1) t) ≡ true
line_begins t at e r h is = grind (arith, common_steps, length-take, get_or-take, eqb-true, ends_line, take_more, ends_line-append)

pub line_behind : (t : List ℕ) (at from : ℕ) → at ≤ length t → Nowhere (Passes (is_byte 10) (take at t)) from (length (take at t)) → IsLine (take (at - from) (drop from t))
line_behind t at from within none = search (rules, arith, length-take-le, line_of, get_or-take, get_or-drop)

pub line_ends : (t : List ℕ) (start e : ℕ) (r : Option ℕ) → IsFirstByte (is_byte 10) (take (length t - start) (drop start t)) r → r ≡ Some e
    → (before : Bool) → ends_line before (take (start + e + 1 - start) (drop start t)) ≡ true
line_ends t start e r h is before = grind (arith, common_steps, take_rest, ends_line, take_more, eqb-true, ends_line-append)

-- ---- a slice that is moved

pub moved_more : (f : Heading → Heading) (xs : List Heading) (i : ℕ) (d : Heading) → i < length xs
    → set (map f (take i xs) ++ drop i xs) i (f (get_or (map f (take i xs) ++ drop i xs) i d)) ≡ map f (take (suc i) xs) ++ drop (suc i) xs
moved_more f [] i d lt = absurd (omega arith)
moved_more f (x ∷ xs) zero d lt = refl
moved_more f (x ∷ xs) (suc i) d lt = ap (λ hs. f x ∷ hs) (moved_more f xs i d (omega arith))

all_later : (P : Heading → Type 0) (xs : List Heading) (i : ℕ) → AllByRecursion P (drop i xs) → AllByRecursion P (drop (suc i) xs)
all_later P [] zero h = h
all_later P (x ∷ xs) zero h = h.1
all_later P [] (suc i) h = h
all_later P (x ∷ xs) (suc i) h = all_later P xs i h

pub moving : (f : Heading → Heading) (P : Heading → Type 0) (xs hs : List Heading) (i : ℕ) (d : Heading) → (hs ≡ map f (take i xs) ++ drop i xs) × AllByRecursion P (drop i xs) → i < length xs
    → (set hs i (f (get_or hs i d)) ≡ map f (take (i + 1) xs) ++ drop (i + 1) xs) × AllByRecursion P (drop (i + 1) xs)
moving f P xs hs i d inv lt = search (rules, arith, set, moved_more, all_later)

-- ---- joined parts

terminated-ends : (t : List ℕ) → terminated t ≡ t → ends_line true t ≡ true
terminated-ends [] e = refl
terminated-ends (b ∷ []) e = grind (arith, common_steps)
terminated-ends (b ∷ c ∷ bs) e = terminated-ends (c ∷ bs) (tail_is b b (terminated (c ∷ bs)) (c ∷ bs) e)

stars_short : (f : Bool) (x : ℕ) (xs : List ℕ) → ends_line f (x ∷ xs) ≡ true → stars (x ∷ xs) < length (x ∷ xs)
stars_short f x [] e = let is : x ≡ 10 = eqb-true x 10 e in rw is (omega arith)
stars_short f x (y ∷ ys) e = grind (arith, common_steps, stars_short (eqb x 10) y ys e)

-- what follows a line's end doesn't count
line_short : (f : Bool) (x : ℕ) (a b : List ℕ) → ends_line f (x ∷ a) ≡ true → line_at (x ∷ (a ++ b)) ≡ line_at (x ∷ a)
line_short f x [] b e = let is : x ≡ 10 = eqb-true x 10 e in rw is refl
line_short f x (y ∷ a) b e =
    elim (cases_Bool (eqb x 10)) [
      | inl is ↦ rw is refl
      | inr other ↦ line_at-more x (y ∷ (a ++ b)) other ∙ ap (λ (l : List ℕ). x ∷ l) (line_short (eqb x 10) y a b e) ∙ sym (line_at-more x (y ∷ a) other)
    ]

with_heading-joined : (o : Option ℕ) (at : ℕ) (line : List ℕ) (xs ys : List Heading) → with_heading o at line (xs ++ ys) ≡ with_heading o at line xs ++ ys
with_heading-joined None at line xs ys = refl
with_heading-joined (Some n) at line xs ys = refl

heads_from-append : (at : ℕ) (f : Bool) (a b : List ℕ) → ends_line f a ≡ true → heads_from at f (a ++ b) ≡ heads_from at f a ++ heads_from (at + length a) true b
heads_from-append at f [] b e = ap (λ g. heads_from at g b) e ∙ ap (λ k. heads_from k true b) (sym (add-zero at))
heads_from-append at f (x ∷ a) b e =
    let o = level_of (x ∷ a) in
    let same : level_of (x ∷ (a ++ b)) ≡ o = level_of-append (x ∷ a) b (stars_short f x a e) in
    let next : suc at + length a ≡ at + suc (length a) = omega arith in
    ap (λ p. with_heading (cond f p None) at (line_at (x ∷ (a ++ b))) (heads_from (suc at) (eqb x 10) (a ++ b))) same
    ∙ ap (λ line. with_heading (cond f o None) at line (heads_from (suc at) (eqb x 10) (a ++ b))) (line_short f x a b e)
    ∙ ap (with_heading (cond f o None) at (line_at (x ∷ a))) (heads_from-append (suc at) (eqb x 10) a b e ∙ ap (λ k. heads_from (suc at) (eqb x 10) a ++ heads_from k true b) next)
    ∙ with_heading-joined (cond f o None) at (line_at (x ∷ a)) (heads_from (suc at) (eqb x 10) a) (heads_from (at + suc (length a)) true b)

-- ---- where headings begin

with_low : (k at : ℕ) (o : Option ℕ) (line : List ℕ) (hs : List Heading) → k ≤ at → AllByRecursion (λ (h : Heading). k ≤ h.start) hs → AllByRecursion (λ (h : Heading). k ≤ h.start) (with_heading o at line hs)
with_low k at None line hs le all = all
with_low k at (Some n) line hs le all = (le, all)

begin_after : (k at : ℕ) (f : Bool) (b : List ℕ) → k ≤ at → AllByRecursion (λ (h : Heading). k ≤ h.start) (heads_from at f b)
begin_after k at f [] le = tt
begin_after k at f (x ∷ b) le = with_low k at (cond f (level_of (x ∷ b)) None) (line_at (x ∷ b)) (heads_from (suc at) (eqb x 10) b) le (begin_after k (suc at) (eqb x 10) b (omega (arith, le)))

rising-cons : (h : Heading) (hs : List Heading) → AllByRecursion (λ (g : Heading). h.start ≤ g.start) hs → IsNonDecreasingBy (λ (g : Heading). g.start) hs
    → IsNonDecreasingBy (λ (g : Heading). g.start) (h ∷ hs)
rising-cons h hs low rise zero zero d le lt = omega arith
rising-cons h hs low rise zero (suc j) d le lt = AllByRecursion-at (λ (g : Heading). h.start ≤ g.start) hs j d low (omega (arith, lt))
rising-cons h hs low rise (suc i) zero d le lt = absurd (omega (arith, le))
rising-cons h hs low rise (suc i) (suc j) d le lt = rise i j d (omega (arith, le)) (omega (arith, lt))

with_rising : (at : ℕ) (o : Option ℕ) (line : List ℕ) (hs : List Heading) → AllByRecursion (λ (h : Heading). at ≤ h.start) hs → IsNonDecreasingBy (λ (h : Heading). h.start) hs
    → IsNonDecreasingBy (λ (h : Heading). h.start) (with_heading o at line hs)
with_rising at None line hs low rise = rise
with_rising at (Some n) line hs low rise = rising-cons (record { start = at; level = n; beginnings = beginnings_of (drop n line) }) hs low rise

-- they stand in the order of their starts
pub rising : (at : ℕ) (f : Bool) (b : List ℕ) → IsNonDecreasingBy (λ (h : Heading). h.start) (heads_from at f b)
rising at f [] = λ i j d le lt. absurd (omega (arith, lt))
rising at f (x ∷ b) =
    with_rising at (cond f (level_of (x ∷ b)) None) (line_at (x ∷ b)) (heads_from (suc at) (eqb x 10) b) (begin_after at (suc at) (eqb x 10) b (omega arith)) (rising (suc at) (eqb x 10) b)

pub rising_now : (hs ks : List Heading) (c : List ℕ) (at removed added : ℕ) → IsEdit hs c at removed added → ks ≡ hs → IsNonDecreasingBy (λ (h : Heading). h.start) ks
rising_now hs ks c at removed added e same =
    let P : List Heading → Type 0 = λ l. IsNonDecreasingBy (λ (h : Heading). h.start) l in
    subst P (heads_from-text e.before e.before_terminated ∙ sym e.headings_are ∙ sym same) (rising 0 true e.before)

-- where a search ends, as a count of the first ones
pub count_at : (p : Heading → Bool) (hs : List Heading) (r : ℕ) → r ≤ length hs → IsPartitionPoint (λ h. p h ≡ true) (λ h. p h ≡ false) hs r → r ≡ prefix_len p hs
count_at p hs r bound point =
    let d : Heading = record { start = 0; level = 0; beginnings = beginnings_of [] } in
    sym (prefix_len_is p hs r d bound (λ k lt. point.0 k d (omega arith) lt) (λ lt. point.1 r d (omega arith) lt))

with_high : (k at : ℕ) (o : Option ℕ) (line : List ℕ) (hs : List Heading) → at < k → AllByRecursion (λ (h : Heading). h.start < k) hs → AllByRecursion (λ (h : Heading). h.start < k) (with_heading o at line hs)
with_high k at None line hs lt all = all
with_high k at (Some n) line hs lt all = (lt, all)

begin_before : (k at : ℕ) (f : Bool) (b : List ℕ) → at + length b ≤ k → AllByRecursion (λ (h : Heading). h.start < k) (heads_from at f b)
begin_before k at f [] le = tt
begin_before k at f (x ∷ b) le =
    with_high k at (cond f (level_of (x ∷ b)) None) (line_at (x ∷ b)) (heads_from (suc at) (eqb x 10) b) (omega (arith, le)) (begin_before k (suc at) (eqb x 10) b (omega (arith, le)))

-- how many begin before k, where the first part does and the second doesn't
before_count : (k : ℕ) (xs ys : List Heading) → AllByRecursion (λ (h : Heading). h.start < k) xs → AllByRecursion (λ (h : Heading). k ≤ h.start) ys → prefix_len (λ (h : Heading). ltb h.start k) (xs ++ ys) ≡ length xs
before_count k [] [] p q = refl
before_count k [] (y ∷ ys) p q = let le : k ≤ y.start = q.0 in let no_more : ltb y.start k ≡ false = grind (arith, nat_tests) in rw no_more refl
before_count k (x ∷ xs) ys p q = grind (arith, common_steps, before_count k xs ys p.1 q)

with_moved : (removed added p : ℕ) (o : Option ℕ) (line : List ℕ) (hs : List Heading) → map (moved removed added) (with_heading o p line hs) ≡ with_heading o (p - removed + added) line (map (moved removed added) hs)
with_moved removed added p None line hs = refl
with_moved removed added p (Some n) line hs = refl

heads_moved : (removed added p q : ℕ) (f : Bool) (b : List ℕ) → removed ≤ p → p - removed + added ≡ q → map (moved removed added) (heads_from p f b) ≡ heads_from q f b
heads_moved removed added p q f [] le e = refl
heads_moved removed added p q f (x ∷ b) le e =
    let next : suc p - removed + added ≡ suc q = omega (arith, e, le) in
    let o = cond f (level_of (x ∷ b)) None in
    with_moved removed added p o (line_at (x ∷ b)) (heads_from (suc p) (eqb x 10) b)
    ∙ ap (λ k. with_heading o k (line_at (x ∷ b)) (map (moved removed added) (heads_from (suc p) (eqb x 10) b))) e
    ∙ ap (with_heading o q (line_at (x ∷ b))) (heads_moved removed added (suc p) (suc q) (eqb x 10) b (omega (arith, le)) next)

can_move : (removed added p q size : ℕ) (hs : List Heading) → removed ≤ p → p - removed + added ≡ q → q + size < 2 ^ 64
    → AllByRecursion (λ (h : Heading). p ≤ h.start) hs → AllByRecursion (λ (h : Heading). h.start < p + size) hs → AllByRecursion (λ h. CanMove removed added h) hs
can_move removed added p q size [] le e room low high = tt
can_move removed added p q size (h ∷ hs) le e room low high = grind (arith, common_steps, can_move removed added p q size hs le e room low.1 high.1)

-- ---- an edit, in parts

-- both texts, cut at the line starts `from` and `to`; `was` is where the second one stood before
record Parts (b c : List ℕ) (from to was : ℕ) : Type 0 where
  front : List ℕ
  old : List ℕ
  new : List ℕ
  back : List ℕ
  before : b ≡ front ++ (old ++ back)
  after : c ≡ front ++ (new ++ back)
  front_long : length front ≡ from
  old_long : from + length old ≡ was
  new_long : from + length new ≡ to
  front_ends : ends_line true front ≡ true
  old_ends : ends_line true old ≡ true
  new_ends : ends_line true new ≡ true
  new_is : new ≡ take (to - from) (drop from c)
  back_is : back ≡ drop to c

take-shorter : (m n : ℕ) (l : List ℕ) → m ≤ n → take m (take n l) ≡ take m l
take-shorter zero n l le = refl
take-shorter (suc m) zero l le = absurd (omega (arith, le))
take-shorter (suc m) (suc n) [] le = refl
take-shorter (suc m) (suc n) (x ∷ l) le = ap (λ l. x ∷ l) (take-shorter m n l (omega (arith, le)))

-- a line ends at `to`, and so at `was`
ends_at : (b c : List ℕ) (q r n : ℕ) → terminated b ≡ b → drop q c ≡ drop r b → (q + n ≡ length c) ⊎ ((f : Bool) → ends_line f (take n (drop q c)) ≡ true) → n ≤ length (drop q c)
    → ends_line true (take (r + n) b) ≡ true
ends_at b c q r n terminated_b same (inl all) le = grind (arith, common_steps, length-drop, ends_line, take_all, terminated-ends)
ends_at b c q r n terminated_b same (inr ends) le = grind (arith, common_steps, ends_line, take-plus, ends_line-append)

parts : (hs : List Heading) (c : List ℕ) (at removed added from to : ℕ) (e : IsEdit hs c at removed added) → from ≤ at → ends_line true (take from c) ≡ true → at + added ≤ to → to ≤ length c
    → (to ≡ length c) ⊎ ((f : Bool) → ends_line f (take (to - (at + added)) (drop (at + added) c)) ≡ true)
    → Parts e.before c from to (to - added + removed)
parts hs c at removed added from to e fa fe qt tl te =
    let b = e.before in
    let q = at + added in
    let r = at + removed in
    let n = to - q in
    let was = to - added + removed in
    let same : drop q c ≡ drop r b = e.back in
    let to_is : q + n ≡ to = omega (arith, qt) in
    let was_is : r + n ≡ was = omega (arith, qt) in
    let in_front : take from c ≡ take from b = sym (take-shorter from at c fa) ∙ ap (take from) e.front ∙ take-shorter from at b fa in
    let long_c : length (drop q c) ≡ length c - q = length-drop q c in
    let fits : n ≤ length (drop q c) = omega (arith, long_c, tl, qt) in
    let T : ℕ → Type 0 = λ k. (k ≡ length c) ⊎ ((f : Bool) → ends_line f (take n (drop q c)) ≡ true) in
    let te2 : (q + n ≡ length c) ⊎ ((f : Bool) → ends_line f (take n (drop q c)) ≡ true) = subst T (sym to_is) te in
    let old = take (was - from) (drop from b) in
    let new = take (to - from) (drop from c) in
    let back = drop to c in
    let up_was : from + (was - from) ≡ was = omega (arith, was_is, fa) in
    let up_to : from + (to - from) ≡ to = omega (arith, qt, fa) in
    let removed_in = e.removed_in in
    let long_b : length (drop r b) ≡ length b - r = length-drop r b in
    let was_in : was ≤ length b = omega (arith, fits, ap length same, long_b, was_is, removed_in) in
    let from_in : from ≤ length c = omega (arith, fa, qt, tl) in
    let back_same : drop was b ≡ back =
    ap (λ k. drop k b) (sym was_is) ∙ sym (drop-drop n r b) ∙ ap (drop n) (sym same) ∙ drop-drop n q c ∙ ap (λ k. drop k c) to_is in
    let b_rest : old ++ back ≡ drop from b =
    ap (λ l. old ++ l) (sym back_same ∙ ap (λ k. drop k b) (sym up_was) ∙ sym (drop-drop (was - from) from b)) ∙ take-append-drop (was - from) (drop from b) in
    let c_rest : new ++ back ≡ drop from c =
    ap (λ l. new ++ l) (ap (λ k. drop k c) (sym up_to) ∙ sym (drop-drop (to - from) from c)) ∙ take-append-drop (to - from) (drop from c) in
    let fresh : ends_line true (take was b) ≡ true = ap (λ k. ends_line true (take k b)) (sym was_is) ∙ ends_at b c q r n e.before_terminated same te2 fits in
    let fresh_c : ends_line true (take to c) ≡ true = ap (λ k. ends_line true (take k c)) (sym to_is) ∙ ends_at c c q q n e.after_terminated refl te2 fits in
    let front_b : ends_line true (take from b) ≡ true = ap (ends_line true) (sym in_front) ∙ fe in
    let split_b : take was b ≡ take from b ++ old = ap (λ k. take k b) (sym up_was) ∙ take-plus from (was - from) b in
    let split_c : take to c ≡ take from c ++ new = ap (λ k. take k c) (sym up_to) ∙ take-plus from (to - from) c in
    record {
      front = take from c;
      old = old;
      new = new;
      back = back;
      before = sym (take-append-drop from b) ∙ ap (λ l. l ++ drop from b) (sym in_front) ∙ ap (λ l. take from c ++ l) (sym b_rest);
      after = sym (take-append-drop from c) ∙ ap (λ l. take from c ++ l) (sym c_rest);
      front_long = length-take-le from c from_in;
      old_long = omega (arith, length-take-le (was - from) (drop from b) (omega (arith, was_in, length-drop from b)), up_was);
      new_long = omega (arith, length-take-le (to - from) (drop from c) (omega (arith, tl, length-drop from c)), up_to);
      front_ends = fe;
      old_ends = ap (λ g. ends_line g old) (sym front_b) ∙ sym (ends_line-append true (take from b) old) ∙ ap (ends_line true) (sym split_b) ∙ fresh;
      new_ends = ap (λ g. ends_line g new) (sym fe) ∙ sym (ends_line-append true (take from c) new) ∙ ap (ends_line true) (sym split_c) ∙ fresh_c;
      new_is = refl;
      back_is = refl;
    }

-- the headings of the three parts
heads_of_parts : (front part back : List ℕ) → terminated (front ++ (part ++ back)) ≡ front ++ (part ++ back) → ends_line true front ≡ true → ends_line true part ≡ true
    → headings_of (front ++ (part ++ back)) ≡ heads_from 0 true front ++ (heads_from (length front) true part ++ heads_from (length front + length part) true back)
heads_of_parts front part back c fe pe =
    let zero_is : 0 + length front ≡ length front = omega arith in
    sym (heads_from-text (front ++ (part ++ back)) c) ∙ heads_from-append 0 true front (part ++ back) fe
    ∙ ap (λ k. heads_from 0 true front ++ heads_from k true (part ++ back)) zero_is
    ∙ ap (λ hs. heads_from 0 true front ++ hs) (heads_from-append (length front) true part back pe)

-- what the code makes of the headings: first and last count those before `from` and `was`
pub record Makes (hs : List Heading) (c : List ℕ) (removed added from to first last : ℕ) (fresh : List Heading) : Type 0 where
  pub ordered : first ≤ last
  pub room : first + length fresh ≤ length (take first hs ++ (fresh ++ drop last hs))
  pub can : AllByRecursion (λ h. CanMove removed added h) (drop (first + length fresh) (take first hs ++ (fresh ++ drop last hs)))
  pub is : take (first + length fresh) (take first hs ++ (fresh ++ drop last hs)) ++ map (moved removed added) (drop (first + length fresh) (take first hs ++ (fresh ++ drop last hs))) ≡ headings_of c

pub makes : (hs : List Heading) (c : List ℕ) (at removed added from to first last : ℕ) (fresh : List Heading) → IsEdit hs c at removed added → length c < 2 ^ 64
    → from ≤ at → ends_line true (take from c) ≡ true → (at + added ≤ to) × (to ≤ length c)
    → (to ≡ length c) ⊎ ((f : Bool) → ends_line f (take (to - (at + added)) (drop (at + added) c)) ≡ true)
    → first ≡ prefix_len (λ (h : Heading). ltb h.start from) hs → last ≡ prefix_len (λ (h : Heading). ltb h.start (to - added + removed)) hs
    → fresh ≡ heads_from from true (take (to - from) (drop from c))
    → Makes hs c removed added from to first last fresh
makes hs c at removed added from to first last fresh e small fa fe bounds te first_is last_is fresh_is =
    let was = to - added + removed in
    let qt = bounds.0 in
    let p = parts hs c at removed added from to e fa fe qt bounds.1 te in
    let h0 = heads_from 0 true p.front in
    let hb = heads_from from true p.old in
    let hc = heads_from from true p.new in
    let behind = heads_from was true p.back in
    let C : List ℕ → Type 0 = λ t. terminated t ≡ t in
    let hs_is : hs ≡ h0 ++ (hb ++ behind) =
    e.headings_are ∙ ap headings_of p.before ∙ heads_of_parts p.front p.old p.back (subst C p.before e.before_terminated) p.front_ends p.old_ends
    ∙ ap (λ k. h0 ++ (heads_from k true p.old ++ heads_from (k + length p.old) true p.back)) p.front_long
    ∙ ap (λ k. h0 ++ (hb ++ heads_from k true p.back)) p.old_long in
    let c_is : headings_of c ≡ h0 ++ (hc ++ heads_from to true p.back) =
    ap headings_of p.after ∙ heads_of_parts p.front p.new p.back (subst C p.after e.after_terminated) p.front_ends p.new_ends
    ∙ ap (λ k. h0 ++ (heads_from k true p.new ++ heads_from (k + length p.new) true p.back)) p.front_long
    ∙ ap (λ k. h0 ++ (hc ++ heads_from k true p.back)) p.new_long in
    let fl = p.front_long in
    let ol = p.old_long in
    let h0_before : (k : ℕ) → from ≤ k → AllByRecursion (λ (h : Heading). h.start < k) h0 = λ k le. begin_before k 0 true p.front (omega (arith, fl, le)) in
    let rest_after : AllByRecursion (λ (h : Heading). from ≤ h.start) (hb ++ behind) =
    AllByRecursion-append (λ (h : Heading). from ≤ h.start) hb behind (begin_after from from true p.old (omega arith)) (begin_after from was true p.back (omega (arith, ol))) in
    let front_before : AllByRecursion (λ (h : Heading). h.start < was) (h0 ++ hb) =
    AllByRecursion-append (λ (h : Heading). h.start < was) h0 hb (h0_before was (omega (arith, ol))) (begin_before was from true p.old (omega (arith, ol))) in
    let count_first : first ≡ length h0 = first_is ∙ ap (prefix_len (λ (h : Heading). ltb h.start from)) hs_is ∙ before_count from h0 (hb ++ behind) (h0_before from (omega arith)) rest_after in
    let count_last : last ≡ length (h0 ++ hb) =
    last_is ∙ ap (prefix_len (λ (h : Heading). ltb h.start was)) (hs_is ∙ sym (append_assoc h0 hb behind)) ∙ before_count was (h0 ++ hb) behind front_before (begin_after was was true p.back (omega arith)) in
    let kept : take first hs ≡ h0 = ap (take first) hs_is ∙ take_at h0 (hb ++ behind) first (sym count_first) in
    let left : drop last hs ≡ behind = ap (drop last) (hs_is ∙ sym (append_assoc h0 hb behind)) ∙ drop_at (h0 ++ hb) behind last (sym count_last) in
    let new_is : fresh ≡ hc = fresh_is ∙ ap (heads_from from true) (sym p.new_is) in
    let spliced : take first hs ++ (fresh ++ drop last hs) ≡ (h0 ++ hc) ++ behind =
    ap (λ l. l ++ (fresh ++ drop last hs)) kept ∙ ap (λ l. h0 ++ (l ++ drop last hs)) new_is ∙ ap (λ l. h0 ++ (hc ++ l)) left ∙ sym (append_assoc h0 hc behind) in
    let cut : length (h0 ++ hc) ≡ first + length fresh = omega (arith, length-append h0 hc, count_first, ap length new_is) in
    let at_cut : drop (first + length fresh) (take first hs ++ (fresh ++ drop last hs)) ≡ behind = ap (drop (first + length fresh)) spliced ∙ drop_at (h0 ++ hc) behind (first + length fresh) cut in
    let to_cut : take (first + length fresh) (take first hs ++ (fresh ++ drop last hs)) ≡ h0 ++ hc = ap (take (first + length fresh)) spliced ∙ take_at (h0 ++ hc) behind (first + length fresh) cut in
    let low : removed ≤ was = omega arith in
    let goes : was - removed + added ≡ to = omega (arith, qt) in
    let nl = p.new_long in
    let whole : length c ≡ length p.front + (length p.new + length p.back) = ap length p.after ∙ length-append p.front (p.new ++ p.back) ∙ ap (λ k. length p.front + k) (length-append p.new p.back) in
    let P : List Heading → Type 0 = λ hs. AllByRecursion (λ h. CanMove removed added h) hs in
    record {
      ordered = omega (arith, count_first, count_last, length-append h0 hb);
      room = omega (arith, cut, ap length spliced, length-append (h0 ++ hc) behind);
      can = subst P (sym at_cut) (can_move removed added was to (length p.back) behind low goes (omega (arith, whole, fl, nl, small)) (begin_after was was true p.back (omega arith))
          (begin_before (was + length p.back) was true p.back (omega arith)));
      is = ap (λ l. l ++ map (moved removed added) (drop (first + length fresh) (take first hs ++ (fresh ++ drop last hs)))) to_cut
          ∙ ap (λ l. (h0 ++ hc) ++ map (moved removed added) l) at_cut
          ∙ ap (λ l. (h0 ++ hc) ++ l) (heads_moved removed added was to true p.back low goes)
          ∙ append_assoc h0 hc (heads_from to true p.back) ∙ sym c_is;
    }

-- the same as the code says it
pub makes_now : (hs ks ls : List Heading) (c : List ℕ) (at removed added from to first last : ℕ) (fresh : List Heading) → IsEdit hs c at removed added → length c < 2 ^ 64
    → (from ≤ at) × (ends_line true (take from c) ≡ true) → (at + added ≤ to) × (to ≤ length c)
    → (to ≡ length c) ⊎ ((f : Bool) → ends_line f (take (to - (at + added)) (drop (at + added) c)) ≡ true)
    → ks ≡ hs → ls ≡ hs
    → first ≡ prefix_len (λ (h : Heading). ltb h.start from) ks → last ≡ prefix_len (λ (h : Heading). ltb h.start (to - added + removed)) ls
    → fresh ≡ heads_from from true (take (to - from) (drop from c))
    → Makes hs c removed added from to first last fresh
makes_now hs ks ls c at removed added from to first last fresh e small f bounds te ke le first_is last_is fresh_is =
    makes hs c at removed added from to first last fresh e small f.0 f.1 bounds te (first_is ∙ ap (prefix_len (λ (h : Heading). ltb h.start from)) ke)
    (last_is ∙ ap (prefix_len (λ (h : Heading). ltb h.start (to - added + removed))) le) fresh_is

-- what was spliced in
map-same : {X : Type 0} (xs : List X) → map (λ (y : X). y) xs ≡ xs
map-same [] = refl
map-same (x ∷ xs) = ap (λ l. x ∷ l) (map-same xs)

pub spliced_items : {X Z : Type 0} (s : IntoIter X Z) (all xs : List X) → into_iter_items s ≡ all → into_iter_len s ≡ length all → Drains (into_iter_steps {X = X} {Z = Z}) s xs → xs ≡ all
spliced_items s all xs is long d = sym (map-same xs) ∙ items_from_drains xs (d.1.0, d.1.1, λ w. (d.0, d.1.2)) (YieldsList-from_vec all is long)

-- the headings that the code has after the splice: us is their list, n the count of the fresh ones
pub can_move_now : (hs us : List Heading) (c : List ℕ) (removed added from to first last n : ℕ) {fresh : List Heading} → Makes hs c removed added from to first last fresh
    → n ≡ length fresh → us ≡ take first hs ++ (fresh ++ drop last hs) → AllByRecursion (λ h. CanMove removed added h) (drop (first + n) us)
can_move_now hs us c removed added from to first last n {fresh} m en eu = grind (arith, common_steps)

pub edited_now : (hs us ws : List Heading) (c : List ℕ) (removed added from to first last n : ℕ) {fresh : List Heading} → Makes hs c removed added from to first last fresh
    → n ≡ length fresh → us ≡ take first hs ++ (fresh ++ drop last hs) → ws ≡ take (first + n) us ++ map (moved removed added) (drop (first + n) us) → ws ≡ headings_of c
edited_now hs us ws c removed added from to first last n {fresh} m en eu ew = grind (arith, common_steps)

-- where all headings begin before the lines, those of the lines go after them: us is their list
pub appended_now : (hs ks ls us : List Heading) (c : List ℕ) (at removed added from to first : ℕ) → IsEdit hs c at removed added → length c < 2 ^ 64
    → (from ≤ at) × (ends_line true (take from c) ≡ true) → (at + added ≤ to) × (to ≤ length c)
    → (to ≡ length c) ⊎ ((f : Bool) → ends_line f (take (to - (at + added)) (drop (at + added) c)) ≡ true)
    → ks ≡ hs → ls ≡ hs → first ≡ prefix_len (λ (h : Heading). ltb h.start from) ks → first ≡ length ls
    → us ≡ ls ++ heads_from from true (take (to - from) (drop from c)) → us ≡ headings_of c
appended_now hs ks ls us c at removed added from to first e small f bounds te ke le first_is all us_is =
    let p : Heading → Bool = λ h. ltb h.start (to - added + removed) in
    let last = prefix_len p hs in
    let fresh = heads_from from true (take (to - from) (drop from c)) in
    let m = makes hs c at removed added from to first last fresh e small f.0 f.1 bounds te (first_is ∙ ap (prefix_len (λ (h : Heading). ltb h.start from)) ke) refl refl in
    let k = first + length fresh in
    let now = hs ++ fresh in
    let count : first ≡ length hs = all ∙ ap length le in
    let some = m.ordered in
    let none : drop last hs ≡ [] = drop_all last hs (omega (arith, some, count)) in
    let same : take first hs ++ (fresh ++ drop last hs) ≡ now =
    ap (λ l. l ++ (fresh ++ drop last hs)) (take_all first hs (omega (arith, count))) ∙ ap (λ l. hs ++ (fresh ++ l)) none ∙ ap (λ l. hs ++ l) (append-nil fresh) in
    let long : length now ≤ k = omega (arith, length-append hs fresh, count) in
    us_is ∙ ap (λ l. l ++ fresh) le
    ∙ sym (ap (λ l. l ++ map (moved removed added) (drop k now)) (take_all k now long) ∙ ap (λ l. now ++ map (moved removed added) l) (drop_all k now long) ∙ append-nil now)
    ∙ sym (ap (λ l. take k l ++ map (moved removed added) (drop k l)) same) ∙ m.is

-- bytes put in the place of others are an edit
pub spliced_edit : (hs : List Heading) (before after added : List ℕ) (at removed n : ℕ) → hs ≡ headings_of before → terminated before ≡ before → terminated after ≡ after → length before < 2 ^ 64
    → at + removed ≤ length before → after ≡ take at before ++ (added ++ drop (at + removed) before) → n ≡ length added → IsEdit hs after at removed n
spliced_edit hs before after added at removed n he cb ca small within e en =
    let long : length (take at before) ≡ at = length-take-le at before (omega (arith, within)) in
    let back = drop (at + removed) before in
    let cut : length (take at before ++ added) ≡ at + n = omega (arith, length-append (take at before) added, long, en) in
    let whole : after ≡ (take at before ++ added) ++ back = e ∙ sym (append_assoc (take at before) added back) in
    record {
      before = before;
      headings_are = he;
      before_terminated = cb;
      after_terminated = ca;
      before_small = small;
      removed_in = within;
      added_in = omega (arith, ap length whole, length-append (take at before ++ added) back, cut);
      front = ap (take at) e ∙ take_at (take at before) (added ++ back) at long;
      back = ap (drop (at + n)) whole ∙ drop_at (take at before ++ added) back (at + n) cut;
    }
