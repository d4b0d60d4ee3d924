-- Bytes put in the place of others: by the parts of the text.
use Rattle.std.proofs.Common.{◌≡◌, inl, inr, ℕ, ◌+◌, ◌-◌, ◌≤◌, Bool, true, false, ◌&&◌, List, ◌++◌, length, take, drop, Option, Some, None, refl, sym, ◌∙◌, ap, append_assoc, leb, arith}
use Rattle.std.specs.Str.{bytes_eq}
use Rattle.std.proofs.lemmas.Bool.{cases_Bool, false≢true, le-leb, leb-false, leb-true, lt-leb}
use Rattle.std.proofs.lemmas.List.{length-append, length-drop, length-take-le, take_at, drop_at, drop-append-le, take-append-le, take-append-drop}
use Rattle.std.proofs.lemmas.Slice.Eq.{bytes_eq-Decides}
use Rattle.std.proofs.Math.Seq.{drop-append-add}
use Rattle.org_splice.specs.Edits.{edited}
use Rattle.org_splice.specs.Replaced.{has_at, replaced, replaced_then}
use Rattle.org_splice.proofs.Places.{edited_at}

-- ---- what a text has

both_true : (a b : Bool) → (a && b) ≡ true → (a ≡ true) × (b ≡ true)
both_true true b is = (refl, is)
both_true false b is = absurd (false≢true is)

-- The text is what stands before the bytes, these, and what stands after them.
pub record Parts (text : List ℕ) (at : ℕ) (old : List ℕ) : Type 0 where
  pub front : List ℕ
  pub back : List ℕ
  pub whole : text ≡ front ++ (old ++ back)
  pub long : length front ≡ at

pub parts_of : (text : List ℕ) (at : ℕ) (old : List ℕ) → has_at text at old ≡ true → Parts text at old
parts_of text at old has =
    let both = both_true (leb at (length text)) (bytes_eq old (take (length old) (drop at text))) has in
    let there : old ≡ take (length old) (drop at text) = (bytes_eq-Decides old (take (length old) (drop at text))).0 both.1 in
    record {
      front = take at text;
      back = drop (length old) (drop at text);
      whole = sym (take-append-drop at text) ∙ ap (λ (u : List ℕ). take at text ++ u) (sym (take-append-drop (length old) (drop at text)) ∙ ap (λ (u : List ℕ). u ++ drop (length old) (drop at text)) (sym there));
      long = length-take-le at text (leb-true at (length text) both.0);
    }

-- what stands there is had
pub has_there : (front old back : List ℕ) (at : ℕ) → length front ≡ at → has_at (front ++ (old ++ back)) at old ≡ true
has_there front old back at long =
    let within : leb at (length (front ++ (old ++ back))) ≡ true = le-leb at (length (front ++ (old ++ back))) (omega (arith, long, length-append front (old ++ back))) in
    let rest : drop at (front ++ (old ++ back)) ≡ old ++ back = drop_at front (old ++ back) at long in
    let own : take (length old) (old ++ back) ≡ old = take_at old back (length old) refl in
    let same : bytes_eq old old ≡ true = (bytes_eq-Decides old old).1 refl in
    rw (within, rest, own) same

-- what stands after bytes is had there, whatever they are
pub has_behind : (front back : List ℕ) (k : ℕ) (old : List ℕ) → has_at (front ++ back) (length front + k) old ≡ has_at back k old
has_behind front back k old =
    let rest : drop (length front + k) (front ++ back) ≡ drop k back = drop-append-add front back k in
    let within : leb (length front + k) (length (front ++ back)) ≡ leb k (length back) = shifted (length-append front back) in
    rw (rest, within) refl
  where
    shifted : {n : ℕ} → n ≡ length front + length back → leb (length front + k) n ≡ leb k (length back)
    shifted {n} is = elim (cases_Bool (leb k (length back))) [
      | inl t ↦ le-leb (length front + k) n (omega (arith, is, leb-true k (length back) t)) ∙ sym t
      | inr f ↦ lt-leb (length front + k) n (omega (arith, is, leb-false k (length back) f)) ∙ sym f
    ]

-- what stands before bytes is had there, whatever they are
pub has_before : (front back : List ℕ) (at : ℕ) (old : List ℕ) → at + length old ≤ length front → has_at (front ++ back) at old ≡ has_at front at old
has_before front back at old within =
    let one : leb at (length (front ++ back)) ≡ true = le-leb at (length (front ++ back)) (omega (arith, within, length-append front back)) in
    let two : leb at (length front) ≡ true = le-leb at (length front) (omega (arith, within)) in
    let cut : drop at (front ++ back) ≡ drop at front ++ back = drop-append-le at front back (omega (arith, within)) in
    let part : take (length old) (drop at front ++ back) ≡ take (length old) (drop at front) = take-append-le (length old) (drop at front) back (omega (arith, within, length-drop at front)) in
    rw (one, two, cut, part) refl

-- ---- one edit

pub replaced_there : (front old back new : List ℕ) (at : ℕ) → length front ≡ at → replaced (front ++ (old ++ back)) at old new ≡ Some (front ++ (new ++ back))
replaced_there front old back new at long =
    let has : has_at (front ++ (old ++ back)) at old ≡ true = has_there front old back at long in
    let made : edited at (length old) new (front ++ (old ++ back)) ≡ front ++ (new ++ back) = ap (λ (n : ℕ). edited n (length old) new (front ++ (old ++ back))) (sym long) ∙ edited_at front old back new in
    rw (has, made) refl

pub replaced_none : (text : List ℕ) (at : ℕ) (old new : List ℕ) → has_at text at old ≡ false → replaced text at old new ≡ None
replaced_none text at old new none = rw none refl

-- an edit is taken back by the one with its two texts exchanged
pub taken_back : (text : List ℕ) (at : ℕ) (old new made : List ℕ) → replaced text at old new ≡ Some made → replaced made at new old ≡ Some text
taken_back text at old new made is = elim (cases_Bool (has_at text at old)) [
  | inl has ↦
      let p = parts_of text at old has in
      let there : replaced text at old new ≡ Some (p.front ++ (new ++ p.back)) = ap (λ (t : List ℕ). replaced t at old new) p.whole ∙ replaced_there p.front old p.back new at p.long in
      let both : Some (p.front ++ (new ++ p.back)) ≡ Some made = sym there ∙ is in
      let one : p.front ++ (new ++ p.back) ≡ made = cc in
      ap (λ (t : List ℕ). replaced t at new old) (sym one) ∙ replaced_there p.front new p.back old at p.long ∙ ap (λ (t : List ℕ). Some t) (sym p.whole)
  | inr not ↦ let none : None ≡ Some made = sym (replaced_none text at old new not) ∙ is in absurd (cc)
]

-- ---- two edits

-- the edit after another, where the other is made first
module _ (text : List ℕ) (at : ℕ) (old new : List ℕ) (p : Parts text at old) (k : ℕ) (more other : List ℕ) where
  -- the text with the first edit
  abbrev made : List ℕ
  made = p.front ++ (new ++ p.back)

  split : (bytes : List ℕ) → p.front ++ (bytes ++ p.back) ≡ (p.front ++ bytes) ++ p.back
  split bytes = sym (append_assoc p.front bytes p.back)

  pub has_moved : (here there : ℕ) → here ≡ at + length old + k → there ≡ at + length new + k → has_at made there more ≡ has_at text here more
  has_moved here there first second =
      let back_old : has_at text here more ≡ has_at p.back k more =
      ap (λ (t : List ℕ). has_at t here more) (p.whole ∙ split old) ∙ ap (λ (n : ℕ). has_at ((p.front ++ old) ++ p.back) n more) (omega (arith, first, p.long, length-append p.front old)) ∙ has_behind (p.front ++ old) p.back k more in
      let back_new : has_at made there more ≡ has_at p.back k more =
      ap (λ (t : List ℕ). has_at t there more) (split new) ∙ ap (λ (n : ℕ). has_at ((p.front ++ new) ++ p.back) n more) (omega (arith, second, p.long, length-append p.front new)) ∙ has_behind (p.front ++ new) p.back k more in
      back_new ∙ sym back_old

-- Two edits of which the first ends before the second begins may be made in either order: the later one is moved by the difference of the lengths.
pub apart_commute : (text : List ℕ) (at : ℕ) (old new : List ℕ) (behind : ℕ) (more other : List ℕ) → at + length old ≤ behind
    → replaced_then (replaced text at old new) (behind - length old + length new) more other ≡ replaced_then (replaced text behind more other) at old new
apart_commute text at old new behind more other apart = elim (cases_Bool (has_at text at old)) [
  | inl has ↦ elim (cases_Bool (has_at text behind more)) [
    | inl also ↦ both has also
    | inr not ↦ first_alone has not
  ]
  | inr none ↦ elim (cases_Bool (has_at text behind more)) [
    | inl also ↦ second_alone none also
    | inr not ↦
        ap (λ (o : Option (List ℕ)). replaced_then o (behind - length old + length new) more other) (replaced_none text at old new none)
        ∙ sym (ap (λ (o : Option (List ℕ)). replaced_then o at old new) (replaced_none text behind more other not))
  ]
]
  where
    there : ℕ
    there = behind - length old + length new

    -- what the first edit makes
    first_is : (p : Parts text at old) → replaced text at old new ≡ Some (p.front ++ (new ++ p.back))
    first_is p = ap (λ (t : List ℕ). replaced t at old new) p.whole ∙ replaced_there p.front old p.back new at p.long

    -- what the second one makes
    second_is : (q : Parts text behind more) → replaced text behind more other ≡ Some (q.front ++ (other ++ q.back))
    second_is q = ap (λ (t : List ℕ). replaced t behind more other) q.whole ∙ replaced_there q.front more q.back other behind q.long

    -- the second is after the first by so many bytes
    k : ℕ
    k = behind - (at + length old)

    first_alone : has_at text at old ≡ true → has_at text behind more ≡ false
        → replaced_then (replaced text at old new) there more other ≡ replaced_then (replaced text behind more other) at old new
    first_alone has not =
        let p = parts_of text at old has in
        let moved : has_at (p.front ++ (new ++ p.back)) there more ≡ false = has_moved text at old new p k more other behind there (omega (arith, apart)) (omega (arith, apart)) ∙ not in
        ap (λ (o : Option (List ℕ)). replaced_then o there more other) (first_is p) ∙ replaced_none (p.front ++ (new ++ p.back)) there more other moved
        ∙ sym (ap (λ (o : Option (List ℕ)). replaced_then o at old new) (replaced_none text behind more other not))

    -- what the second leaves before it
    kept : (q : Parts text behind more) → has_at (q.front ++ (other ++ q.back)) at old ≡ has_at text at old
    kept q =
        let within : at + length old ≤ length q.front = omega (arith, apart, q.long) in
        has_before q.front (other ++ q.back) at old within ∙ sym (has_before q.front (more ++ q.back) at old within) ∙ ap (λ (t : List ℕ). has_at t at old) (sym q.whole)

    second_alone : has_at text at old ≡ false → has_at text behind more ≡ true
        → replaced_then (replaced text at old new) there more other ≡ replaced_then (replaced text behind more other) at old new
    second_alone none also =
        let q = parts_of text behind more also in
        ap (λ (o : Option (List ℕ)). replaced_then o there more other) (replaced_none text at old new none)
        ∙ sym (ap (λ (o : Option (List ℕ)). replaced_then o at old new) (second_is q) ∙ replaced_none (q.front ++ (other ++ q.back)) at old new (kept q ∙ none))

    both : has_at text at old ≡ true → has_at text behind more ≡ true
        → replaced_then (replaced text at old new) there more other ≡ replaced_then (replaced text behind more other) at old new
    both has also =
        let q = parts_of text behind more also in
        let within : at + length old ≤ length q.front = omega (arith, apart, q.long) in
        let here : has_at q.front at old ≡ true = sym (has_before q.front (more ++ q.back) at old within) ∙ ap (λ (t : List ℕ). has_at t at old) (sym q.whole) ∙ has in
        -- the front of the text, with the first edit in it
        let p = parts_of q.front at old here in
        let rest : (bytes back : List ℕ) → (p.front ++ (bytes ++ p.back)) ++ back ≡ p.front ++ (bytes ++ (p.back ++ back)) = λ bytes back. append_assoc p.front (bytes ++ p.back) back ∙ ap (λ (t : List ℕ). p.front ++ t) (append_assoc bytes p.back back) in
        let one : text ≡ p.front ++ (old ++ (p.back ++ (more ++ q.back))) = q.whole ∙ ap (λ (t : List ℕ). t ++ (more ++ q.back)) p.whole ∙ rest old (more ++ q.back) in
        let first : replaced text at old new ≡ Some (p.front ++ (new ++ (p.back ++ (more ++ q.back)))) = ap (λ (t : List ℕ). replaced t at old new) one ∙ replaced_there p.front old (p.back ++ (more ++ q.back)) new at p.long in
        let long : length (p.front ++ (new ++ p.back)) ≡ there =
        omega (arith, apart, p.long, q.long, ap length p.whole, length-append p.front (old ++ p.back), length-append old p.back, length-append p.front (new ++ p.back), length-append new p.back) in
        let left : replaced (p.front ++ (new ++ (p.back ++ (more ++ q.back)))) there more other ≡ Some (p.front ++ (new ++ (p.back ++ (other ++ q.back)))) =
        ap (λ (t : List ℕ). replaced t there more other) (sym (rest new (more ++ q.back))) ∙ replaced_there (p.front ++ (new ++ p.back)) more q.back other there long ∙ ap (λ (t : List ℕ). Some t) (rest new (other ++ q.back)) in
        let two : q.front ++ (other ++ q.back) ≡ p.front ++ (old ++ (p.back ++ (other ++ q.back))) = ap (λ (t : List ℕ). t ++ (other ++ q.back)) p.whole ∙ rest old (other ++ q.back) in
        let right : replaced (q.front ++ (other ++ q.back)) at old new ≡ Some (p.front ++ (new ++ (p.back ++ (other ++ q.back)))) =
        ap (λ (t : List ℕ). replaced t at old new) two ∙ replaced_there p.front old (p.back ++ (other ++ q.back)) new at p.long in
        ap (λ (o : Option (List ℕ)). replaced_then o there more other) first ∙ left
        ∙ sym (ap (λ (o : Option (List ℕ)). replaced_then o at old new) (second_is q) ∙ right)
