-- A timestamp after its opening bracket, by the byte that closes it.
use Rattle.std.proofs.Common.{◌≡◌, ℕ, ◌+◌, ◌==◌, Bool, true, false, Option, None, Some, List, slice_index, take, if◌then◌else◌, eq-eqb, sym, ap, ◌∙◌}
use Rattle.std.proofs.lemmas.Bool.{ne_eqb}
use Rattle.org_stamp.specs.Parts.{◌>>=◌}
use Rattle.org_stamp.specs.Stamp.{StampValue, closing}
use Rattle.org_stamp.specs.Front.{closed_of, inside_of}

pub other_closing : (active : Bool) (rest : List ℕ) (at : ℕ) (b : ℕ) → b ≡ closing active → (slice_index rest at ≡ b → ⊥) → None ≡ closed_of active rest (Some at)
other_closing active rest at b is other =
    let differs : (slice_index rest at == closing active) ≡ false = ne_eqb (slice_index rest at) (closing active) (λ e. other (e ∙ sym is)) in
    sym (ap (λ t. if t then (inside_of active (take at rest) >>= λ s. Some (s, at + 2)) else None) differs)

pub same_closing : (active : Bool) (rest : List ℕ) (at : ℕ) (b : ℕ) (inside : Option StampValue) → b ≡ closing active → slice_index rest at ≡ b → inside ≡ inside_of active (take at rest) → (inside >>= λ s. Some (s, at + 2)) ≡ closed_of active rest (Some at)
same_closing active rest at b inside is same said =
    let equal : (slice_index rest at == closing active) ≡ true = eq-eqb (slice_index rest at) (closing active) (same ∙ is) in
    ap (λ o. o >>= λ s. Some (s, at + 2)) said ∙ sym (ap (λ t. if t then (inside_of active (take at rest) >>= λ s. Some (s, at + 2)) else None) equal)
