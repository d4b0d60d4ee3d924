-- Contexts: as many bytes of a text as stand after a place, but no more than a context has.
use Rattle.std.proofs.Common.{◌≡◌, ◌-◌, ℕ, List, length, take, drop, min, inl, inr, sym, ◌∙◌, ap, arith}
use Rattle.std.proofs.lemmas.Bool.{cases_lt}
use Rattle.std.proofs.lemmas.List.{length-drop, take_all}
use Rattle.org_journal.specs.Record.{most_context}

-- as many as there are, but no more than these
pub take_least : (xs : List ℕ) (n m : ℕ) → m ≡ min (length xs) n → take m xs ≡ take n xs
take_least xs n m is = elim (cases_lt (length xs) n) [
  | inl less ↦ take_all m xs (omega (arith, is, less)) ∙ sym (take_all n xs (omega (arith, less)))
  | inr more ↦ (let same : m ≡ n = omega (arith, is, more) in ap (λ (k : ℕ). take k xs) same)
]

-- .. after this place
pub after_is : (text : List ℕ) (place m : ℕ) → m ≡ min (length (take (length text - place) (drop place text))) most_context → take m (take (length text - place) (drop place text)) ≡ take most_context (drop place text)
after_is text place m is =
    let all : take (length text - place) (drop place text) ≡ drop place text = take_all (length text - place) (drop place text) (omega (arith, length-drop place text)) in
    ap (take m) all ∙ take_least (drop place text) most_context m (is ∙ ap (λ (l : List ℕ). min (length l) most_context) all)
