-- Bytes written over a text: how long it is then, and what stands where.
use Rattle.std.proofs.Common.{◌≡◌, ◌⊎◌, inl, inr, ⊎_elim, ℕ, ◌+◌, ◌-◌, ◌<◌, ◌≤◌, ◌++◌, max, List, length, get_or, take, drop, sym, ◌∙◌, ap, arith, length-append, length-drop, length-take}
use Rattle.std.proofs.lemmas.Bool.{cases_lt}
use Rattle.std.proofs.lemmas.List.{get_or-drop, get_or-take, get_or_append_left, get_or-append_right, get_or_past, length-take-le}
use Rattle.org_splice.specs.Overwritten.{overwritten}

pub length-overwritten : (from : ℕ) (bytes text : List ℕ) → from ≤ length text → length (overwritten from bytes text) ≡ max (length text) (from + length bytes)
length-overwritten from bytes text le =
    omega (arith, length-append (take from text ++ bytes) (drop (from + length bytes) text), length-append (take from text) bytes, length-drop (from + length bytes) text, length-take-le from text le)

-- from any place: at least as long as the text, and no longer than the text or the end of the bytes
pub overwritten-bounds : (from : ℕ) (bytes text : List ℕ) → (length text ≤ length (overwritten from bytes text)) × (length (overwritten from bytes text) ≤ max (length text) (from + length bytes))
overwritten-bounds from bytes text =
    let long = length-append (take from text ++ bytes) (drop (from + length bytes) text) in
    let front = length-append (take from text) bytes in
    let start = length-take from text in
    let end = length-drop (from + length bytes) text in
    (omega (arith, long, front, start, end), omega (arith, long, front, start, end))

-- from any place: within the text nothing changes outside the range
pub overwritten-beside : (from : ℕ) (bytes text : List ℕ) (i : ℕ) → i < length text → (i < from) ⊎ (from + length bytes ≤ i) → get_or (overwritten from bytes text) i 0 ≡ get_or text i 0
overwritten-beside from bytes text i inside (inl before) =
    get_or_append_left (take from text ++ bytes) (drop (from + length bytes) text) 0 i (omega (arith, before, inside, length-append (take from text) bytes, length-take from text))
    ∙ get_or_append_left (take from text) bytes 0 i (omega (arith, before, inside, length-take from text))
    ∙ get_or-take from text i 0 before
overwritten-beside from bytes text i inside (inr after) =
    get_or-append_right (take from text ++ bytes) (drop (from + length bytes) text) (from + length bytes) i 0 (omega (arith, inside, after, length-append (take from text) bytes, length-take from text)) after
    ∙ get_or-drop (from + length bytes) text (i - (from + length bytes)) 0
    ∙ ap (λ (k : ℕ). get_or text k 0) (omega (arith, after))

-- outside the range nothing changes
pub overwritten-outside : (from : ℕ) (bytes text : List ℕ) (i : ℕ) → from ≤ length text → (i < from) ⊎ (from + length bytes ≤ i) → get_or (overwritten from bytes text) i 0 ≡ get_or text i 0
overwritten-outside from bytes text i le apart = ⊎_elim
    (λ inside. overwritten-beside from bytes text i inside apart)
    (λ past.
    let long = length-overwritten from bytes text le in
    let behind : length (overwritten from bytes text) ≤ i = ⊎_elim (λ before. omega (arith, before, past, le)) (λ after. omega (arith, after, past, long)) apart in
    get_or_past (overwritten from bytes text) i 0 behind ∙ sym (get_or_past text i 0 past))
    (cases_lt i (length text))

-- the bytes stand in the range
pub overwritten-inside : (from : ℕ) (bytes text : List ℕ) (i : ℕ) → from ≤ length text → from ≤ i → i < from + length bytes → get_or (overwritten from bytes text) i 0 ≡ get_or bytes (i - from) 0
overwritten-inside from bytes text i le after within =
    get_or_append_left (take from text ++ bytes) (drop (from + length bytes) text) 0 i (omega (arith, within, length-append (take from text) bytes, length-take-le from text le))
    ∙ get_or-append_right (take from text) bytes from i 0 (length-take-le from text le) after
