-- The range that a splice changes, by its parts.
use Rattle.std.proofs.Common.{◌≡◌, Bool, true, if◌then◌else◌, ap, ◌∙◌}

pub where_true : {A : Type 0} (n a b : A) (t : Bool) → n ≡ (if t then a else b) → t ≡ true → n ≡ a
where_true n a b t is h = is ∙ ap (λ u. if u then a else b) h
