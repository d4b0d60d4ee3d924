-- Commands of which a part isn't there, in whatever order the parts are read.
use Rattle.std.proofs.Common.{◌≡◌, Option, None, Some, Result, Ok, Err, refl, sym, true≢false, subst}
use Rattle.std.specs.Prelude.{IsErr, IsErrAnd}
use Rattle.std.specs.Option.{option_map, option_and_then, ok_or}
use Rattle.org_fault.specs.declared.fault.Fault.{Fault}
use Rattle.org_serve.specs.declared.fault.BadLine.{BadLine}
use Rattle.org_fault.specs.declared.fault.Fault.TheVariants.{Refused, OutOfMemory}
use Rattle.org_serve.specs.Grammar.{Parses}

-- what is refused isn't there
pub refused : {A E : Type 0} (found : Option A) (fault e : E) → Err e ≡ ok_or found fault → found ≡ None
refused None fault e is = refl
refused (Some x) fault e is = absurd (cc)

-- after a part that is there or isn't
pub behind : {A X : Type 0} (a : Option A) (more : A → Option X) → ((x : A) → more x ≡ None) → option_and_then more a ≡ None
behind None more none = refl
behind (Some x) more none = none x

-- a file and a path
abbrev pub both : {A B : Type 0} → Option A → Option B → Option (A × B)
both {A} {B} a b = option_and_then (λ (x : A). option_map {U = A × B} (λ (y : B). (x, y)) b) a

-- which aren't both there
pub not_both : {A B X : Type 0} (a : Option A) (b : Option B) (more : A → B → Option X) → both a b ≡ None → option_and_then (λ x. option_and_then (more x) b) a ≡ None
not_both None b more none = refl
not_both (Some x) None more none = refl
not_both (Some x) (Some y) more none = absurd (cc)

-- a `?` hands on that a part isn't there
pub part_refused : {Y : Type 0} (answer : Result Y (Fault BadLine)) (whole : Option Y) → IsErr answer → whole ≡ None → Parses answer whole
part_refused (Ok y) whole failed none = absurd (true≢false (sym failed))
part_refused (Err (Refused _)) whole failed none = none
part_refused (Err OutOfMemory) whole failed none = tt

-- or why it couldn't be read
pub part_unread : {X Y : Type 0} (fault : Fault BadLine) (part : Option X) (answer : Result Y (Fault BadLine)) (whole : Option Y) → Parses (Err fault) part → IsErrAnd answer (λ e. e ≡ fault)
    → (part ≡ None → whole ≡ None) → Parses answer whole
part_unread fault part (Ok y) whole gives is none = absurd is
part_unread (Refused _) part (Err f) whole gives is none = subst (λ (e : Fault BadLine). Parses (Err e) whole) (sym is) (none gives)
part_unread OutOfMemory part (Err f) whole gives is none = subst (λ (e : Fault BadLine). Parses (Err e) whole) (sym is) tt
