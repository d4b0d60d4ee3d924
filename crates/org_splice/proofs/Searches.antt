-- What edits leave of what is known of a text, and what is known of the parts of one.
use Rattle.std.proofs.Common.{◌≡◌, ℕ, ◌+◌, ◌-◌, ◌<◌, ◌≤◌, false, Bool, List, [], ◌∷◌, ◌++◌, length, take, drop, refl, sym, ap, subst, ◌∙◌, append_assoc, arith}
use Rattle.std.specs.List.{AllByRecursion}
use Rattle.std.proofs.lemmas.List.{length-append, length-take-le, length-drop, take-append-drop}
use Rattle.org_splice.specs.declared.edit.Edit.{Edit}
use Rattle.org_splice.specs.declared.searched.Searched.{Searched}
use Rattle.org_splice.specs.declared.searched.Searched.TheVariants.{Nowhere, Ends}
use Rattle.org_splice.specs.Edits.{applied}
use Rattle.org_splice.specs.Lines.{terminated, print_lines, IsLine, lines_of}
use Rattle.org_splice.specs.Searched.{IsSearched, IsFrontWithout, IsBackWithout, StandsInLines}
use Rattle.org_splice.proofs.Lines.{print_lines-lines_of, lines_of-append, lines_of-lines, terminated-drop, terminated-end}

-- ---- the lines of texts put together

lines_both : (ls : List (List ℕ)) (b : List ℕ) → AllByRecursion IsLine ls → lines_of (print_lines ls ++ b) ≡ ls ++ lines_of b
lines_both [] b all = refl
lines_both (l ∷ ls) b all =
    ap lines_of (append_assoc l (10 ∷ print_lines ls) b) ∙ lines_of-append l (print_lines ls ++ b) all.0 ∙ ap (λ (x : List (List ℕ)). l ∷ x) (lines_both ls b all.1)

pub lines_of-both : (a b : List ℕ) → terminated a ≡ a → lines_of (a ++ b) ≡ lines_of a ++ lines_of b
lines_of-both a b whole = ap (λ (x : List ℕ). lines_of (x ++ b)) (sym (print_lines-lines_of a ∙ whole)) ∙ lines_both (lines_of a) b (lines_of-lines a)

-- ---- texts cut at two places

pub record Between (a b c d : List ℕ) : Type 0 where
  pub more : List ℕ
  pub left : c ≡ a ++ more
  pub right : b ≡ more ++ d

pub between : (a b c d : List ℕ) → a ++ b ≡ c ++ d → length a ≤ length c → Between a b c d
between [] b c d same le = record { more = c; left = refl; right = same }
between (x ∷ a) b [] d same le = absurd (omega (arith, le))
between (x ∷ a) b (y ∷ c) d same le =
    let head : y ≡ x = cc in
    let tail : a ++ b ≡ c ++ d = cc in
    let m = between a b c d tail (omega (arith, le)) in
    record { more = m.more; left = ap (λ (z : ℕ). z ∷ c) head ∙ ap (λ (z : List ℕ). x ∷ z) m.left; right = m.right }

-- ---- what is sought

module _ (has : List ℕ → Bool) (lines : StandsInLines has) where
  pub front_of : (t c d : List ℕ) → t ≡ c ++ d → has c ≡ false → IsFrontWithout has (length c) t
  front_of t c d cut none a b parts whole le =
      let m = between a b c d (sym parts ∙ cut) le in
      lines.front a m.more whole (ap has (sym m.left) ∙ none)

  without_front : (front : ℕ) (t : List ℕ) → has t ≡ false → IsFrontWithout has front t
  without_front front t is a b parts whole le = lines.front a b whole (ap has (sym parts) ∙ is)

  without_back : (back : ℕ) (t : List ℕ) → has t ≡ false → IsBackWithout has back t
  without_back back t is a b parts whole le = lines.back a b whole (ap has (sym parts) ∙ is)

  pub nothing_known : (t : List ℕ) → IsSearched has (Ends 0 0) t
  nothing_known t = (λ a b parts whole le. empty a le, λ a b parts whole less. absurd (omega (arith, less)))
    where
      empty : (a : List ℕ) → length a ≤ 0 → has a ≡ false
      empty [] le = lines.none
      empty (x ∷ a) le = absurd (omega (arith, le))

  -- ---- edits

  front_less : (front less : ℕ) (t : List ℕ) → less ≤ front → IsFrontWithout has front t → IsFrontWithout has less t
  front_less front less t le known a b parts whole here = known a b parts whole (omega (arith, le, here))

  back_less : (back less : ℕ) (t : List ℕ) → less ≤ back → IsBackWithout has back t → IsBackWithout has less t
  back_less back less t le known a b parts whole here = known a b parts whole (omega (arith, le, here))

  front_edited : (front : ℕ) (t : List ℕ) (e : Edit) → front ≤ e.at → e.at ≤ length t → IsFrontWithout has front t → IsFrontWithout has front (applied e t)
  front_edited front t e le within known a b parts whole here =
      let rest = e.bytes ++ drop (e.at + e.removed) t in
      let m = between a b (take e.at t) rest (sym parts ∙ append_assoc (take e.at t) e.bytes (drop (e.at + e.removed) t)) (omega (arith, le, here, length-take-le e.at t within)) in
      known a (m.more ++ drop e.at t) (sym (take-append-drop e.at t) ∙ ap (λ (x : List ℕ). x ++ drop e.at t) m.left ∙ append_assoc a m.more (drop e.at t)) whole here

  -- what ends a terminated text is terminated after other bytes, too
  end_terminated : (p q c : List ℕ) → terminated (p ++ c) ≡ p ++ c → 0 < length c → terminated (q ++ c) ≡ q ++ c
  end_terminated p q [] whole some = absurd (omega (arith, some))
  end_terminated p q (x ∷ c) whole some =
      let there : drop (length p) (p ++ x ∷ c) ≡ x ∷ c = drop_front p (x ∷ c) in
      terminated-end q x c (ap terminated (sym there) ∙ terminated-drop (length p) (p ++ x ∷ c) whole ∙ there)
    where
      drop_front : (a b : List ℕ) → drop (length a) (a ++ b) ≡ b
      drop_front [] b = refl
      drop_front (x ∷ a) b = drop_front a b

  back_edited : (back : ℕ) (t : List ℕ) (e : Edit) → e.at + e.removed ≤ length t → back ≤ length t - (e.at + e.removed) → IsBackWithout has back t → IsBackWithout has back (applied e t)
  back_edited back t e within le known a b parts whole here =
      let behind = e.at + e.removed in
      let tail = drop behind t in
      let front = take e.at t ++ e.bytes in
      let same : front ++ tail ≡ a ++ b = parts in
      let long : length front + length tail ≡ length a + length b = sym (length-append front tail) ∙ ap length same ∙ length-append a b in
      let count : length tail ≡ length t - behind = length-drop behind t in
      let m = between front tail a b same (omega (arith, le, here, long, count)) in
      let some : 0 < length m.more = omega (arith, le, here, count, ap length m.right, length-append m.more b) in
      let whole_more : terminated (front ++ m.more) ≡ front ++ m.more = subst (λ (x : List ℕ). terminated x ≡ x) m.left whole in
      known (take behind t ++ m.more) b (sym (take-append-drop behind t) ∙ ap (λ (x : List ℕ). take behind t ++ x) m.right ∙ sym (append_assoc (take behind t) m.more b))
      (end_terminated front (take behind t) m.more whole_more some) here

  ends_edited : (front back : ℕ) (t : List ℕ) (e : Edit) → front ≤ e.at → e.at + e.removed ≤ length t → back ≤ length t - (e.at + e.removed) → IsSearched has (Ends front back) t → IsSearched has (Ends front back) (applied e t)
  ends_edited front back t e low within high known =
      (front_edited front t e low (omega (arith, within)) known.0, back_edited back t e within high known.1)

-- what stays known after an edit, of the text before it
pub record Fewer (old : Searched) (front back : ℕ) : Type 0 where
  pub still : (has : List ℕ → Bool) → StandsInLines has → (t : List ℕ) → IsSearched has old t → IsSearched has (Ends front back) t

pub fewer_none : (front back : ℕ) → Fewer Nowhere front back
fewer_none front back = record { still = λ has lines t known. (without_front has lines front t known, without_back has lines back t known) }

pub fewer_ends : (front back less fewer : ℕ) → less ≤ front → fewer ≤ back → Fewer (Ends front back) less fewer
fewer_ends front back less fewer low high = record { still = λ has lines t known. (front_less has lines front less t low known.0, back_less has lines back fewer t high known.1) }

-- where the bytes after an edit begin, and how many these are
pub record Stands (e : Edit) (size front back : ℕ) : Type 0 where
  pub low : front ≤ e.at
  pub high : (n : ℕ) → size ≤ n → e.at + e.removed ≤ n → back ≤ n - (e.at + e.removed)

pub stays_known : (old : Searched) (front back size : ℕ) (e : Edit) → Fewer old front back → Stands e size front back
    → (has : List ℕ → Bool) → StandsInLines has → (t : List ℕ) → size ≤ length t → e.at + e.removed ≤ length t → IsSearched has old t → IsSearched has (Ends front back) (applied e t)
stays_known old front back size e fewer stands has lines t long within known =
    ends_edited has lines front back t e stands.low within (stands.high (length t) long within) (fewer.still has lines t known)
