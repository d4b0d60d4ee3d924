-- The headings of a part of a text, byte by byte: what joining, skipping and moving does to them.
use Rattle.std.proofs.Common.{◌≡◌, ℕ, zero, suc, ◌+◌, ◌-◌, ◌<◌, ◌≤◌, Bool, true, false, cond, eqb, ltb, ◌&&◌, List, [], ◌∷◌, ◌++◌, length, drop, take, get_or, Option, Some, None, refl, sym, ap, subst, ◌∙◌, append_assoc, arith, inl, inr, add-zero, eq-eqb}
use Rattle.std.proofs.lemmas.Grind.{common_steps}
use Rattle.std.specs.Prelude.{◌≢◌, replicate}
use Rattle.std.specs.List.{AllByRecursion}
use Rattle.std.proofs.lemmas.Bool.{cases_Bool, eqb-true}
use Rattle.std.proofs.lemmas.Bool.Decides.{nat_tests}
use Rattle.std.proofs.lemmas.List.{append-nil, take-append-drop, length-replicate, drop-drop, length-drop, take_rest, length-take-le, get_or-drop, take_at, take_all, drop_at}
use Rattle.memchr.specs.Find.{IsFirstByte, is_byte}
use Rattle.org_splice.proofs.Lines.{print_lines-lines_of, lines_of-lines}
use Rattle.org_headings.specs.declared.heads.Heading.{Heading}
use Rattle.org_splice.specs.Lines.{terminated, print_lines, IsLine}
use Rattle.org_headings.specs.Text.{stars, level_of, line_at}
use Rattle.org_headings.specs.Beginnings.{beginnings_of}
use Rattle.org_headings.specs.Headings.{headings_of, headings_from, with_heading, heads_from, ends_line}
use Rattle.org_headings.proofs.Lines.{stars-split, one-add}

-- ---- the level of a line is that of the text from there on

pub stars-append : (a b : List ℕ) → stars a < length a → stars (a ++ b) ≡ stars a
stars-append [] b lt = absurd (omega arith)
stars-append (x ∷ a) b lt =
    elim (cases_Bool (eqb x 42)) [
      | inl e ↦ let lt2 = rw e at lt in rw e (ap (λ k. 1 + k) (stars-append a b (omega (arith, lt2))))
      | inr e ↦ rw e refl
    ]

get_or-front : (a b : List ℕ) (k : ℕ) → k < length a → get_or (a ++ b) k 0 ≡ get_or a k 0
get_or-front [] b k lt = absurd (omega arith)
get_or-front (x ∷ a) b zero lt = refl
get_or-front (x ∷ a) b (suc k) lt = get_or-front a b k (omega arith)

-- what follows the byte after the stars doesn't count
pub level_of-append : (a b : List ℕ) → stars a < length a → level_of (a ++ b) ≡ level_of a
level_of-append a b lt = grind (arith, common_steps, stars-append, get_or-front)

-- a newline after a line doesn't count
stars-newline : (l more : List ℕ) → stars (l ++ 10 ∷ more) ≡ stars l
stars-newline [] more = refl
stars-newline (b ∷ l) more = grind (arith, common_steps, stars-newline l more)

next-newline : (l more : List ℕ) → eqb (get_or (l ++ 10 ∷ more) (stars l) 0) 32 ≡ eqb (get_or l (stars l) 0) 32
next-newline [] more = refl
next-newline (b ∷ l) more = grind (arith, common_steps, next-newline l more)

level_of-newline : (l more : List ℕ) → level_of (l ++ 10 ∷ more) ≡ level_of l
level_of-newline l more = rw (stars-newline l more, next-newline l more) refl

-- ---- the headings of a text are those of its lines

rest_of_line : (at : ℕ) (l r : List ℕ) → IsLine l → heads_from at false (l ++ 10 ∷ r) ≡ heads_from (at + length l + 1) true r
rest_of_line at [] r p = let one : suc at ≡ at + 0 + 1 = omega arith in ap (λ k. heads_from k true r) one
rest_of_line at (b ∷ l) r p = grind (arith, common_steps, rest_of_line (suc at) l r p.1)

-- a byte that is no newline is one of the first line
pub line_at-more : (x : ℕ) (l : List ℕ) → eqb x 10 ≡ false → line_at (x ∷ l) ≡ x ∷ line_at l
line_at-more x l other = rw (other, one-add) refl

-- what the first line of a text is
pub line_at-line : (l r : List ℕ) → IsLine l → line_at (l ++ 10 ∷ r) ≡ l
line_at-line [] r p = refl
line_at-line (b ∷ l) r p = grind (arith, common_steps, nat_tests, line_at-more, line_at-line l r p.1)

-- after stars it goes on
pub line_at-stars : (n : ℕ) (u : List ℕ) → line_at (replicate n 42 ++ u) ≡ replicate n 42 ++ line_at u
line_at-stars zero u = refl
line_at-stars (suc n) u = line_at-more 42 (replicate n 42 ++ u) refl ∙ ap (λ (l : List ℕ). 42 ∷ l) (line_at-stars n u)

first_line : (at : ℕ) (l r : List ℕ) → IsLine l → heads_from at true (l ++ 10 ∷ r) ≡ with_heading (level_of l) at l (heads_from (at + length l + 1) true r)
first_line at [] r p = let one : suc at ≡ at + 0 + 1 = omega arith in ap (λ k. heads_from k true r) one
first_line at (b ∷ l) r p =
    let ne : b ≢ 10 = p.0 in
    let no : eqb b 10 ≡ false = grind (arith, nat_tests) in
    let next : suc at + length l + 1 ≡ at + suc (length l) + 1 = omega arith in
    ap (λ o. with_heading o at (line_at (b ∷ (l ++ 10 ∷ r))) (heads_from (suc at) (eqb b 10) (l ++ 10 ∷ r))) (level_of-newline (b ∷ l) r)
    ∙ ap (λ line. with_heading (level_of (b ∷ l)) at line (heads_from (suc at) (eqb b 10) (l ++ 10 ∷ r))) (line_at-line (b ∷ l) r p)
    ∙ ap (with_heading (level_of (b ∷ l)) at (b ∷ l)) (ap (λ f. heads_from (suc at) f (l ++ 10 ∷ r)) no ∙ rest_of_line (suc at) l r p.1 ∙ ap (λ k. heads_from k true r) next)

heads_from-lines : (at : ℕ) (ls : List (List ℕ)) → AllByRecursion IsLine ls → heads_from at true (print_lines ls) ≡ headings_from at ls
heads_from-lines at [] p = refl
heads_from-lines at (l ∷ ls) p =
    first_line at l (print_lines ls) p.0 ∙ ap (with_heading (level_of l) at l) (heads_from-lines (at + length l + 1) ls p.1)

pub heads_from-text : (t : List ℕ) → terminated t ≡ t → heads_from 0 true t ≡ headings_of t
heads_from-text t c = grind (arith, common_steps, print_lines-lines_of, heads_from-lines, lines_of-lines)

-- ---- bytes without a star, and a run of stars

pub ends_line-append : (f : Bool) (a b : List ℕ) → ends_line f (a ++ b) ≡ ends_line (ends_line f a) b
ends_line-append f [] b = refl
ends_line-append f (x ∷ a) b = ends_line-append (eqb x 10) a b

pub skip_plain : (at : ℕ) (f : Bool) (a b : List ℕ) → AllByRecursion (λ x. x ≢ 42) a → heads_from at f (a ++ b) ≡ heads_from (at + length a) (ends_line f a) b
skip_plain at f [] b p = ap (λ k. heads_from k f b) (sym (add-zero at))
skip_plain at f (x ∷ a) b p = grind (arith, common_steps, skip_plain (suc at) (eqb x 10) a b p.1)

run_of_stars : (at n : ℕ) (b : List ℕ) → heads_from at false (replicate n 42 ++ b) ≡ heads_from (at + n) false b
run_of_stars at zero b = ap (λ k. heads_from k false b) (sym (add-zero at))
run_of_stars at (suc n) b = grind (arith, common_steps, run_of_stars (suc at) n b)

pub ends_line-stars : (f : Bool) (n : ℕ) → ends_line f (replicate (suc n) 42) ≡ false
ends_line-stars f zero = refl
ends_line-stars f (suc n) = ends_line-stars false n

-- a text that begins with a star, by its stars
stars_first : (at : ℕ) (f : Bool) (u : List ℕ) → 0 < stars u → heads_from at f u ≡ with_heading (cond f (level_of u) None) at (line_at u) (heads_from (at + stars u) false (drop (stars u) u))
stars_first at f [] lt = absurd (omega arith)
stars_first at f (b ∷ bs) lt =
    elim (cases_Bool (eqb b 42)) [
      | inl e ↦
          let is : b ≡ 42 = eqb-true b 42 e in
          let not10 : eqb b 10 ≡ false = grind (arith, nat_tests) in
          let parts : replicate (stars bs) 42 ++ drop (stars bs) bs ≡ bs = stars-split bs in
          let next : suc at + stars bs ≡ at + (1 + stars bs) = omega arith in
          let rest : heads_from (suc at) false bs ≡ heads_from (suc at + stars bs) false (drop (stars bs) bs) =
          ap (heads_from (suc at) false) (sym parts) ∙ run_of_stars (suc at) (stars bs) (drop (stars bs) bs) in
          let more : stars (b ∷ bs) ≡ 1 + stars bs = rw e refl in
          ap (λ g. with_heading (cond f (level_of (b ∷ bs)) None) at (line_at (b ∷ bs)) (heads_from (suc at) g bs)) not10
          ∙ ap (with_heading (cond f (level_of (b ∷ bs)) None) at (line_at (b ∷ bs))) (rest
          ∙ ap (λ k. heads_from k false (drop (stars bs) bs)) next
          ∙ ap (λ k. heads_from (at + (1 + stars bs)) false (drop k (b ∷ bs))) (sym (one-add (stars bs)))
          ∙ ap (λ k. heads_from (at + k) false (drop k (b ∷ bs))) (sym more))
      | inr e ↦ let lt2 = rw e at lt in absurd (omega (arith, lt2))
    ]

take-none : (n : ℕ) → take {A = ℕ} n [] ≡ []
take-none zero = refl
take-none (suc n) = refl

pub take-plus : (m n : ℕ) (t : List ℕ) → take (m + n) t ≡ take m t ++ take n (drop m t)
take-plus zero n t = let e : 0 + n ≡ n = omega arith in ap (λ k. take k t) e
take-plus (suc m) n [] = take-none (suc m + n) ∙ sym (take-none n)
take-plus (suc m) n (x ∷ t) = let e : suc m + n ≡ suc (m + n) = omega arith in ap (λ k. take k (x ∷ t)) e ∙ ap (λ t. x ∷ t) (take-plus m n t)

-- ---- what a search for a byte says

pub none_below : (c : ℕ) (t : List ℕ) (e : ℕ) → e ≤ length t → ((k : ℕ) → k < e → get_or t k 0 ≢ c) → AllByRecursion (λ x. x ≢ c) (take e t)
none_below c t zero le before = tt
none_below c [] (suc e) le before = absurd (omega arith)
none_below c (b ∷ bs) (suc e) le before = (before 0 (omega arith), none_below c bs e (omega arith) (λ k lt. before (suc k) (omega arith)))

pub first_found : (c : ℕ) (t : List ℕ) (e : ℕ) → IsFirstByte (is_byte c) t (Some e) → AllByRecursion (λ x. x ≢ c) (take e t)
first_found c t e h = none_below c t e (let lt = h.0.high in omega (arith, lt)) (λ k lt same. h.0.before k (omega arith) lt (eq-eqb (get_or t k 0) c same))

pub none_found : (c : ℕ) (t : List ℕ) → IsFirstByte (is_byte c) t None → AllByRecursion (λ x. x ≢ c) t
none_found c t h =
    let P : List ℕ → Type 0 = λ u. AllByRecursion (λ x. x ≢ c) u in
    subst P (take_all (length t) t (omega arith)) (none_below c t (length t) (omega arith) (λ k lt same. h k (omega arith) lt (eq-eqb (get_or t k 0) c same)))

stars-some : (u : List ℕ) → get_or u 0 0 ≡ 42 → 0 < stars u
stars-some [] e = absurd cc
stars-some (b ∷ bs) e = let is : b ≡ 42 = e in let yes : eqb b 42 ≡ true = eq-eqb b 42 is in rw (yes, one-add) (omega arith)

stars-within : (u : List ℕ) → stars u ≤ length u
stars-within [] = omega arith
stars-within (b ∷ bs) = grind (arith, common_steps, stars-within bs)

-- ---- a pass that has come to `from`

pub record Scanned (text : List ℕ) (base from : ℕ) (found : List Heading) : Type 0 where
  pub within : from ≤ length text
  pub all : found ++ heads_from (base + from) (ends_line true (take from text)) (drop from text) ≡ heads_from base true text

-- a run of n stars at `start`, and whether a heading begins there
pub record Passes (text : List ℕ) (base start n from : ℕ) (found : List Heading) : Type 0 where
  pub within : from ≤ length text
  pub later : start < from
  pub all : found
      ++ with_heading (cond (ends_line true (take start text)) (level_of (drop start text)) None) (base + start) (line_at (drop start text)) (heads_from (base + from) (ends_line true (take from text)) (drop from text))
      ≡ heads_from base true text

passes : (text : List ℕ) (base from s : ℕ) (found : List Heading) → Scanned text base from found → IsFirstByte (is_byte 42) (drop from text) (Some s)
    → Passes text base (from + s) (stars (drop (from + s) text)) (from + s + stars (drop (from + s) text)) found
passes text base from s found sc h =
    let f = ends_line true (take from text) in
    let t = drop from text in
    let start = from + s in
    let u = drop start text in
    let n = stars u in
    let here : drop s t ≡ u = drop-drop s from text in
    let lt : s < length t = h.0.high in
    let short : length (take s t) ≡ s = length-take-le s t (omega (arith, lt)) in
    let first : eqb (get_or t s 0) 42 ≡ true = h.1 in
    let first_is : get_or u 0 0 ≡ 42 =
    sym (ap (λ v. get_or v 0 0) here) ∙ get_or-drop s t 0 0 ∙ ap (λ k. get_or t k 0) (add-zero s) ∙ eqb-true (get_or t s 0) 42 first in
    let some : 0 < n = stars-some u first_is in
    let fits = stars-within u in
    let skipped : heads_from (base + from) f t ≡ heads_from (base + from + s) (ends_line f (take s t)) u =
    ap (heads_from (base + from) f) (sym (take-append-drop s t)) ∙ skip_plain (base + from) f (take s t) (drop s t) (first_found 42 t s h)
    ∙ ap (λ k. heads_from (base + from + k) (ends_line f (take s t)) (drop s t)) short ∙ ap (heads_from (base + from + s) (ends_line f (take s t))) here in
    let fresh : ends_line f (take s t) ≡ ends_line true (take start text) = sym (ends_line-append true (take from text) (take s t)) ∙ ap (ends_line true) (sym (take-plus from s text)) in
    let place : base + from + s ≡ base + start = omega arith in
    let next : base + start + n ≡ base + (start + n) = omega arith in
    let long : length u ≡ length text - start = length-drop start text in
    let run : take n u ≡ replicate n 42 = ap (take n) (sym (stars-split u)) ∙ take_at (replicate n 42) (drop n u) n (length-replicate n 42) in
    let pred : suc (n - 1) ≡ n = omega (arith, some) in
    let stale : false ≡ ends_line true (take (start + n) text) =
    sym (ap (ends_line true) (take-plus start n text) ∙ ends_line-append true (take start text) (take n u) ∙ ap (ends_line (ends_line true (take start text))) (run ∙ ap (λ k. replicate k 42) (sym pred))
    ∙ ends_line-stars (ends_line true (take start text)) (n - 1)) in
    let rest : drop n u ≡ drop (start + n) text = drop-drop n start text in
    let o = cond (ends_line true (take start text)) (level_of u) None in
    record {
      within = omega (arith, fits, long, some);
      later = omega (arith, some);
      all = ap (λ hs. found ++ hs) (
          sym (skipped
          ∙ ap (λ g. heads_from (base + from + s) g u) fresh
          ∙ ap (λ k. heads_from k (ends_line true (take start text)) u) place
          ∙ stars_first (base + start) (ends_line true (take start text)) u some
          ∙ ap (with_heading o (base + start) (line_at u)) (ap (λ k. heads_from k false (drop n u)) next ∙ ap (λ g. heads_from (base + (start + n)) g (drop n u)) stale ∙ ap (heads_from (base + (start + n)) (ends_line true (take (start + n) text))) rest)))
          ∙ sc.all;
    }

-- the same as the code says it: what `memchr` found in `text[from..]`
pub found_in : (c : ℕ) (text : List ℕ) (from : ℕ) (r q : Option ℕ) → IsFirstByte (is_byte c) (take (length text - from) (drop from text)) r → r ≡ q → IsFirstByte (is_byte c) (drop from text) q
found_in c text from r q h e = grind (arith, common_steps)

pub record Looked (c : ℕ) (text : List ℕ) (from : ℕ) (r : Option ℕ) : Type 0 where
  pub first : IsFirstByte (is_byte c) (take (length text - from) (drop from text)) r

level_by_space : (n : ℕ) (u : List ℕ) (y : Bool) → stars u ≡ n → 0 < n → eqb (get_or u n 0) 32 ≡ y → level_of u ≡ cond y (Some n) None
level_by_space n u y e lt s = let some : ltb 0 n ≡ true = grind (arith, nat_tests) in rw (e, some, s) refl

with_heading-append : (o : Option ℕ) (at : ℕ) (line : List ℕ) (hs : List Heading) → with_heading o at line [] ++ hs ≡ with_heading o at line hs
with_heading-append None at line hs = refl
with_heading-append (Some n) at line hs = refl

-- after a run of n stars: `new` is what is found now
scanned_next : (text : List ℕ) (base from s n : ℕ) (found new : List Heading) (r : Option ℕ) (x y : Bool) → Scanned text base from found → Looked 42 text from r → r ≡ Some s
    → n ≡ stars (take (length text - (from + s)) (drop (from + s) text)) → x ≡ ends_line true (take (from + s) text) → y ≡ eqb (get_or text (from + s + n) 0) 32
    → with_heading (cond x (cond y (Some n) None) None) (base + (from + s)) (line_at (drop (from + s) text)) [] ≡ new
    → Scanned text base (from + s + n) (found ++ new)
scanned_next text base from s n found new r x y sc h is en ex ey enew =
    let start = from + s in
    let u = drop start text in
    let count : n ≡ stars u = en ∙ ap stars (take_rest text start) in
    let p = passes text base from s found sc (found_in 42 text from r (Some s) h.first is) in
    let back : stars u ≡ n = sym count in
    let some : 0 < n = let later = p.later in omega (arith, later, count) in
    let at_end : eqb (get_or u n 0) 32 ≡ y = ap (λ b. eqb b 32) (get_or-drop start text n 0) ∙ sym ey in
    let level : cond (ends_line true (take start text)) (level_of u) None ≡ cond x (cond y (Some n) None) None =
    ap (λ g. cond g (level_of u) None) (sym ex) ∙ ap (λ o. cond x o None) (level_by_space n u y back some at_end) in
    let next : from + s + stars u ≡ from + s + n = omega (arith, count) in
    let rest = heads_from (base + (from + s + n)) (ends_line true (take (from + s + n) text)) (drop (from + s + n) text) in
    record {
      within = let w = p.within in omega (arith, w, count);
      all =
          append_assoc found new rest ∙ ap (λ hs. found ++ hs) (
          ap (λ hs. hs ++ rest) (sym enew) ∙ with_heading-append (cond x (cond y (Some n) None) None) (base + start) (line_at u) rest
          ∙ ap (λ o. with_heading o (base + start) (line_at u) rest) (sym level)
          ∙ ap (λ k. with_heading (cond (ends_line true (take start text)) (level_of u) None) (base + start) (line_at u) (heads_from (base + k) (ends_line true (take k text)) (drop k text))) (sym next))
          ∙ p.all;
    }

-- what the code finds after the n stars at `start`: the line's rest
rest_is : (text : List ℕ) (start n : ℕ) → n ≡ stars (drop start text) → drop n (line_at (drop start text)) ≡ line_at (drop (start + n) text)
rest_is text start n count =
    let u = drop start text in
    let split : replicate n 42 ++ drop n u ≡ u = ap (λ k. replicate k 42 ++ drop k u) count ∙ stars-split u in
    ap (λ u. drop n (line_at u)) (sym split) ∙ ap (drop n) (line_at-stars n (drop n u)) ∙ drop_at (replicate n 42) (line_at (drop n u)) n (length-replicate n 42)
    ∙ ap line_at (drop-drop n start text)

pub scanned_heading : (text : List ℕ) (base from s n : ℕ) (found : List Heading) (tail : List ℕ) (r : Option ℕ) (x y : Bool) → Scanned text base from found → Looked 42 text from r → r ≡ Some s
    → n ≡ stars (take (length text - (from + s)) (drop (from + s) text)) → x ≡ ends_line true (take (from + s) text) → y ≡ eqb (get_or text (from + s + n) 0) 32
    → x ≡ true → y ≡ true → tail ≡ drop (from + s + n) text
    → Scanned text base (from + s + n) (found ++ record { start = base + (from + s); level = n; beginnings = beginnings_of (line_at tail) } ∷ [])
scanned_heading text base from s n found tail r x y sc h is en ex ey ix iy at =
    let count : n ≡ stars (drop (from + s) text) = en ∙ ap stars (take_rest text (from + s)) in
    scanned_next text base from s n found (record { start = base + (from + s); level = n; beginnings = beginnings_of (line_at tail) } ∷ []) r x y sc h is en ex ey
    (rw (ix, iy, rest_is text (from + s) n count ∙ ap line_at (sym at)) refl)

none_at : (x y : Bool) (n at : ℕ) (line : List ℕ) → (x && y) ≡ false → with_heading (cond x (cond y (Some n) None) None) at line [] ≡ []
none_at true true n at line e = absurd cc
none_at true false n at line e = refl
none_at false y n at line e = refl

pub scanned_other : (text : List ℕ) (base from s n : ℕ) (found : List Heading) (r : Option ℕ) (x y : Bool) → Scanned text base from found → Looked 42 text from r → r ≡ Some s
    → n ≡ stars (take (length text - (from + s)) (drop (from + s) text)) → x ≡ ends_line true (take (from + s) text) → y ≡ eqb (get_or text (from + s + n) 0) 32
    → (x && y) ≡ false
    → Scanned text base (from + s + n) found
scanned_other text base from s n found r x y sc h is en ex ey not_both =
    let P : List Heading → Type 0 = λ hs. Scanned text base (from + s + n) hs in
    subst P (append-nil found) (scanned_next text base from s n found [] r x y sc h is en ex ey (none_at x y n (base + (from + s)) (line_at (drop (from + s) text)) not_both))

-- a pass that puts what it finds after others
pub record ScannedOnto (text : List ℕ) (base from : ℕ) (held all : List Heading) : Type 0 where
  pub found : List Heading
  pub behind : all ≡ held ++ found
  pub scanned : Scanned text base from found

pub onto_more : (text : List ℕ) (base from next : ℕ) (held all all2 new : List Heading) → (o : ScannedOnto text base from held all) → all2 ≡ all ++ new → Scanned text base next (o.found ++ new)
    → ScannedOnto text base next held all2
onto_more text base from next held all all2 new o is sc =
    record { found = o.found ++ new; behind = is ∙ ap (λ hs. hs ++ new) o.behind ∙ append_assoc held o.found new; scanned = sc }

-- where no star is left
pub scanned_all : (text : List ℕ) (base from : ℕ) (found : List Heading) (r : Option ℕ) → Scanned text base from found → Looked 42 text from r → r ≡ None → found ≡ heads_from base true text
scanned_all text base from found r sc h is =
    let f = ends_line true (take from text) in
    let t = drop from text in
    let none : heads_from (base + from) f t ≡ [] =
    ap (heads_from (base + from) f) (sym (append-nil t)) ∙ skip_plain (base + from) f t [] (none_found 42 t (found_in 42 text from r None h.first is)) in
    sym (append-nil found) ∙ ap (λ hs. found ++ hs) (sym none) ∙ sc.all

pub run_room : (text : List ℕ) (from s n : ℕ) (r : Option ℕ) → from ≤ length text → Looked 42 text from r → r ≡ Some s
    → n ≡ stars (take (length text - (from + s)) (drop (from + s) text)) → from + s + n ≤ length text
run_room text from s n r le h is en = grind (arith, common_steps, found_in, stars-within, take_rest, length-drop)
