-- Passes over the lines of a text.
use Rattle.std.proofs.Common.{◌≡◌, ℕ, suc, ◌+◌, ◌-◌, append_assoc, ◌<◌, ◌≤◌, true, false, cond, eqb, List, [], ◌∷◌, ◌++◌, length, take, drop, get_or, Option, None, Some, refl, sym, ap, subst, ◌∙◌, arith, inl, inr, eq-eqb}
use Rattle.std.specs.Prelude.{◌≢◌, Bool, ◌&&◌, IsTrue, nat_eq, nat_lt, max}
use Rattle.std.specs.List.{AllByRecursion, ends_with}
use Rattle.std.specs.Str.{bytes_eq}
use Rattle.std.proofs.lemmas.Grind.{common_steps}
use Rattle.std.proofs.lemmas.Bool.{cases_lt}
use Rattle.std.proofs.lemmas.Bool.Decides.{nat_tests}
use Rattle.std.proofs.lemmas.Slice.Eq.{bytes_eq-Decides}
use Rattle.std.proofs.lemmas.List.{take-append-drop, drop-drop}
use Rattle.memchr.specs.Find.{IsFirstByte, is_byte}
use Rattle.org_splice.specs.Lines.{lines_of, with_byte}
use Rattle.org_splice.proofs.Lines.{lines_of-append}
use Rattle.org_splice.proofs.LineWalk.{cut_found}
use Rattle.org_account.specs.Text.{copies, copies_among, quoted, least, Changed, new_quotes, IsKeptLine, IsDueLine, IsSingleLine, IsInOrder, IsUnion, EachLine}

-- a text without a newline is one line
one_line : (b : ℕ) (bs : List ℕ) → ((k : ℕ) → k < length (b ∷ bs) → get_or (b ∷ bs) k 0 ≢ 10) → lines_of (b ∷ bs) ≡ (b ∷ bs) ∷ []
one_line b [] none =
    let ne : b ≢ 10 = none 0 (omega arith) in
    let no : eqb b 10 ≡ false = grind (arith, nat_tests) in rw no refl
one_line b (c ∷ bs) none =
    let ne : b ≢ 10 = none 0 (omega arith) in
    let no : eqb b 10 ≡ false = grind (arith, nat_tests) in
    let more : lines_of (c ∷ bs) ≡ (c ∷ bs) ∷ [] = one_line c bs (λ k lt. none (suc k) (omega arith)) in
    rw no (ap (with_byte b) more)

pub last_line : (t : List ℕ) (r : Option ℕ) → 0 < length t → IsFirstByte (is_byte 10) t r → r ≡ None → lines_of t ≡ t ∷ lines_of []
last_line [] r lt h is = absurd (omega arith)
last_line (b ∷ bs) r lt h is = one_line b bs (grind (arith, common_steps, nat_tests, eq-eqb))

pub next_line : (t : List ℕ) (r : Option ℕ) (e : ℕ) → IsFirstByte (is_byte 10) t r → r ≡ Some e → lines_of t ≡ take e t ∷ lines_of (drop (suc e) t)
next_line t r e h is =
    let P : Option ℕ → Type 0 = λ r. IsFirstByte (is_byte 10) t r in
    let cuts = cut_found t e (subst P is h) in
    ap lines_of cuts.parts ∙ lines_of-append (take e t) (drop (suc e) t) cuts.line

one_on : (e : ℕ) → e + 1 ≡ suc e
one_on e = omega arith

pub next_found : (t a b u : List ℕ) (r : Option ℕ) (e : ℕ) → IsFirstByte (is_byte 10) t r → r ≡ Some e → a ≡ take e t → b ≡ drop e t → u ≡ drop 1 b → lines_of t ≡ a ∷ lines_of u
next_found t a b u r e h is front back rest =
    let next : drop 1 b ≡ drop (suc e) t = ap (drop 1) back ∙ drop-drop 1 e t ∙ ap (λ n. drop n t) (one_on e) in
    next_line t r e h is ∙ ap (λ (l : List ℕ). l ∷ lines_of (drop (suc e) t)) (sym front) ∙ ap (λ (x : List ℕ). a ∷ lines_of x) (sym next ∙ sym rest)

-- no text has more lines than bytes
few : (t : List ℕ) → length (lines_of t) ≤ length t
few [] = omega arith
few (b ∷ bs) = grind (arith, few_with b (lines_of bs), few bs)
  where
    few_with : (b : ℕ) (ls : List (List ℕ)) → length (with_byte b ls) ≤ suc (length ls)
    few_with b [] = omega arith
    few_with b (l ∷ ls) = omega arith

count_few : (line : List ℕ) (ls : List (List ℕ)) → copies_among line ls ≤ length ls
count_few line [] = omega arith
count_few line (l ∷ ls) = by_test (bytes_eq l line) (copies_among line ls) (length ls) (count_few line ls)
  where
    by_test : (b : Bool) (m n : ℕ) → m ≤ n → cond b (suc m) m ≤ suc n
    by_test true m n le = omega arith
    by_test false m n le = omega arith

pub copies_few : (line t : List ℕ) → copies line t ≤ length t
copies_few line t = omega (arith, count_few line (lines_of t), few t)

-- the copies in a text by its first line
pub copies_first : (line left first rest : List ℕ) → lines_of left ≡ first ∷ lines_of rest → copies line left ≡ cond (bytes_eq first line) (suc (copies line rest)) (copies line rest)
copies_first line left first rest e = ap (copies_among line) e

pub copies_none : (line left : List ℕ) → length left ≡ 0 → copies line left ≡ 0
copies_none line [] e = refl
copies_none line (b ∷ bs) e = absurd (omega arith)

-- a count as the code goes on
pub count_yes : (line left first rest : List ℕ) (n all : ℕ) → lines_of left ≡ first ∷ lines_of rest → bytes_eq first line ≡ true → n + copies line left ≡ all → (n + 1) + copies line rest ≡ all
count_yes line left first rest n all e test was =
    let one : copies line left ≡ suc (copies line rest) = copies_first line left first rest e ∙ rw test refl in omega (arith, one, was)

pub count_no : (line left first rest : List ℕ) (n all : ℕ) → lines_of left ≡ first ∷ lines_of rest → bytes_eq first line ≡ false → n + copies line left ≡ all → n + copies line rest ≡ all
count_no line left first rest n all e test was =
    let one : copies line left ≡ copies line rest = copies_first line left first rest e ∙ rw test refl in omega (arith, one, was)

pub count_fits : (line left first rest text : List ℕ) (n : ℕ) → lines_of left ≡ first ∷ lines_of rest → bytes_eq first line ≡ true → n + copies line left ≡ copies line text → n + 1 ≤ length text
count_fits line left first rest text n e test was = omega (arith, count_yes line left first rest n (copies line text) e test was, copies_few line text)

pub count_end : (line left text : List ℕ) (n : ℕ) → length left ≡ 0 → n + copies line left ≡ copies line text → n ≡ copies line text
count_end line left text n e was = omega (arith, copies_none line left e, was)

-- a pass over all lines
pub each_none : (P : List ℕ → Type 0) (left : List ℕ) → length left ≡ 0 → EachLine P left
each_none P [] e = tt
each_none P (b ∷ bs) e = absurd (omega arith)

pub each_more : (P : List ℕ → Type 0) (left first rest : List ℕ) → lines_of left ≡ first ∷ lines_of rest → P first → EachLine P rest → EachLine P left
each_more P left first rest e here more = subst (AllByRecursion P) (sym e) (here, more)

each_counted : (P : List ℕ → Type 0) (line : List ℕ) (ls : List (List ℕ)) → AllByRecursion P ls → 0 < copies_among line ls → P line
each_counted P line [] all lt = absurd (omega arith)
each_counted P line (l ∷ ls) all lt = by_test (bytes_eq l line) refl lt (each_counted P line ls all.1)
  where
    by_test : (b : Bool) → bytes_eq l line ≡ b → 0 < cond b (suc (copies_among line ls)) (copies_among line ls) → (0 < copies_among line ls → P line) → P line
    by_test true same lt more = subst P ((bytes_eq-Decides l line).0 same) all.0
    by_test false other lt more = more lt

-- what holds of each line of a text holds of all that stand in it
pub each_copied : (P : List ℕ → Type 0) (line text : List ℕ) → EachLine P text → 0 < copies line text → P line
each_copied P line text all lt = each_counted P line (lines_of text) all lt

-- no line is lost, as far as no line of a side is
pub kept_all : (c : Changed) → EachLine (IsKeptLine c) c.ours → EachLine (IsKeptLine c) c.theirs → (line : List ℕ) → IsKeptLine c line
kept_all c ours theirs line = elim (cases_lt 0 (copies line c.ours)) [
  | inl some ↦ each_copied (IsKeptLine c) line c.ours ours some
  | inr none ↦ elim (cases_lt 0 (copies line c.theirs)) [
    | inl some ↦ each_copied (IsKeptLine c) line c.theirs theirs some
    | inr neither ↦ inl (few (copies line c.base) (copies line c.ours) (copies line c.theirs) (copies line c.merged + new_quotes c line) (omega (arith, none)) (omega (arith, neither)))
  ]
]
  where
    by_test : (q r : Bool) (x y n : ℕ) → q ≡ false → y ≤ n → cond (q && r) x y ≤ n
    by_test true r x y n e le = absurd (grind arith)
    by_test false r x y n e le = le

    few : (b o t n : ℕ) → o ≡ 0 → t ≡ 0 → least b o t ≤ n
    few b o t n none neither = by_test (nat_lt b o) (nat_lt b t) (max o t) (o + t - b) n (grind (arith, nat_tests)) (omega arith)

pub due_all : (c : Changed) → EachLine (IsDueLine c) c.merged → (line : List ℕ) → IsDueLine c line
due_all c all line = elim (cases_lt 0 (copies line c.merged)) [
  | inl some ↦ each_copied (IsDueLine c) line c.merged all some
  | inr none ↦ let empty : copies line c.merged ≡ 0 = omega arith in inl (omega (arith, empty))
]

-- a quote by its front
pub quote_of : (q s : List ℕ) → bytes_eq (take 12 q) (quoted []) ≡ true → s ≡ drop 12 q → q ≡ quoted s
quote_of q s same is = sym (take-append-drop 12 q) ∙ ap (λ f. f ++ drop 12 q) ((bytes_eq-Decides (take 12 q) (quoted [])).0 same) ∙ ap quoted (sym is)

pub heading_quote_of : (q s : List ℕ) → bytes_eq (take 13 q) (quoted (42 ∷ [])) ≡ true → s ≡ drop 13 q → q ≡ quoted (42 ∷ s)
heading_quote_of q s same is = sym (take-append-drop 13 q) ∙ ap (λ f. f ++ drop 13 q) ((bytes_eq-Decides (take 13 q) (quoted (42 ∷ []))).0 same) ∙ ap (λ (x : List ℕ). quoted (42 ∷ x)) (sym is)

-- a search for a copy
pub copies_rest : (line left first rest : List ℕ) (n : ℕ) → lines_of left ≡ first ∷ lines_of rest → copies line left ≤ n → copies line rest ≤ n
copies_rest line left first rest n e le = fewer (bytes_eq first line) (copies line left) (copies line rest) n (copies_first line left first rest e) le
  where
    fewer : (b : Bool) (k m n : ℕ) → k ≡ cond b (suc m) m → k ≤ n → m ≤ n
    fewer true k m n e le = omega arith
    fewer false k m n e le = omega arith

pub copies_found : (line left first rest : List ℕ) (n : ℕ) → lines_of left ≡ first ∷ lines_of rest → first ≡ line → copies line left ≤ n → 0 < n
copies_found line left first rest n e is le =
    let one : copies line left ≡ suc (copies line rest) = copies_first line left first rest e ∙ rw ((bytes_eq-Decides first line).1 is) refl in omega (arith, one, le)

-- a line by its end
pub ended_of : (l m h : List ℕ) → bytes_eq (drop (length l - length m) l) m ≡ true → h ≡ take (length l - length m) l → l ≡ h ++ m
ended_of l m h same front =
    sym (take-append-drop (length l - length m) l)
    ∙ ap (λ x. take (length l - length m) l ++ x) ((bytes_eq-Decides (drop (length l - length m) l) m).0 same)
    ∙ ap (λ x. x ++ m) (sym front)

pub both_ended : (l f b h : List ℕ) (r : Bool) → bytes_eq (drop (length l - length b) l) b ≡ true → h ≡ take (length l - length b) l → r ≡ ends_with nat_eq h f → IsTrue r → (more : List ℕ) × (l ≡ more ++ (f ++ b))
both_ended l f b h r same front e true_r =
    let more : List ℕ = take (length h - length f) h in
    let test : bytes_eq f (drop (length h - length f) h) ≡ true = sym e ∙ true_r in
    let ends : h ≡ more ++ f = sym (take-append-drop (length h - length f) h) ∙ ap (λ x. more ++ x) (sym ((bytes_eq-Decides f (drop (length h - length f) h)).0 test)) in
    (more, ended_of l b h same front ∙ ap (λ x. x ++ b) ends ∙ append_assoc more f b)

-- a line by its front
pub joined_front : (l f h : List ℕ) → bytes_eq (take (length f) l) f ≡ true → h ≡ drop (length f) l → l ≡ f ++ h
joined_front l f h same rest =
    sym (take-append-drop (length f) l) ∙ ap (λ x. x ++ drop (length f) l) ((bytes_eq-Decides (take (length f) l) f).0 same) ∙ ap (λ x. f ++ x) (sym rest)

-- all of a union, by the two texts as the code names them
pub union_by : (c : Changed) (o t : List ℕ) → o ≡ c.ours → t ≡ c.theirs → EachLine (IsKeptLine c) o → EachLine (IsKeptLine c) t → ((line : List ℕ) → IsDueLine c line)
    → EachLine (IsSingleLine c) c.merged → IsInOrder c o t → IsInOrder c t o → IsUnion c
union_by c o t ours theirs kept_o kept_t due single order_o order_t = record {
  kept = kept_all c (subst (EachLine (IsKeptLine c)) ours kept_o) (subst (EachLine (IsKeptLine c)) theirs kept_t);
  due = due;
  single = λ line there. each_copied (IsSingleLine c) line c.merged single there;
  ours_order = subst (λ (x : List ℕ). IsInOrder c x c.theirs) ours (subst (λ (x : List ℕ). IsInOrder c o x) theirs order_o);
  theirs_order = subst (λ (x : List ℕ). IsInOrder c x c.ours) theirs (subst (λ (x : List ℕ). IsInOrder c t x) ours order_t);
}
