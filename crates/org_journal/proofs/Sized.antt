-- What the header in front of a record says of its journal.
use Rattle.std.proofs.Common.{◌≡◌, ℕ, ◌+◌, ◌-◌, ◌≤◌, true, List, length, get_or, take, drop, refl, sym, ap, ◌∙◌, arith}
use Rattle.std.proofs.lemmas.Bool.{le-leb}
use Rattle.std.proofs.lemmas.List.{drop-take, get_or-take}
use Rattle.byteorder.specs.Endian.{big_number}
use Rattle.byteorder.specs.Numbers.{big_from-take}
use Rattle.org_journal.specs.Gate.{front_size, is_open}
use Rattle.org_journal.specs.Finding.{record_size}

holds : (size n total : ℕ) → size ≡ n → 16 ≤ total → size ≤ total - 16 → 16 + n ≤ total
holds size n total is long within = omega arith

module _ (header journal : List ℕ) (total : ℕ) (long : 16 ≤ total) (front : header ≡ take front_size journal) (sized : length journal ≡ total) where
  first : get_or header 0 0 ≡ get_or journal 0 0
  first = ap (λ (l : List ℕ). get_or l 0 0) front ∙ get_or-take 16 journal 0 0 (omega arith)

  longer : 16 ≤ length journal
  longer = omega arith

  pub open_here : get_or header 0 0 ≡ 1 → is_open journal ≡ true
  open_here one = rw (le-leb _ _ longer, sym first ∙ one) refl

  module _ (size : ℕ) (whole : length header ≡ front_size) (reported : size ≡ big_number 8 (take (length header - 8) (drop 8 header))) where
    pub size_here : size ≡ record_size journal
    size_here = reported ∙ big_from-take 0 8 (length header - 8) (drop 8 header) (omega arith) ∙ ap (λ (l : List ℕ). big_number 8 (drop 8 l)) front ∙ ap (big_number 8) (drop-take 8 8 journal) ∙ big_from-take 0 8 8 (drop 8 journal) (omega arith)
