-- What the reader of timestamps gathers, run by run. What it comes to is `stamp_at`.
use Rattle.std.specs.Prelude.{ℕ, ◌-◌, ◌==◌, Bool, true, false, not, ◌&&◌, if◌then◌else◌, Option, None, Some, is_some, List, [], ◌∷◌, length, slice_index}
use Rattle.std.specs.List.{slice_split}
use Rattle.org_stamp.specs.Calendar.{CivilDay}
use Rattle.org_stamp.specs.declared.kind.Times.{Times}
use Rattle.org_stamp.specs.declared.kind.Kind.{Kind}
use Rattle.org_stamp.specs.declared.kind.Kind.TheVariants.{Name, Clock, Repeat, Delay}
use Rattle.org_stamp.specs.declared.inside.Cookie.{Cookie}
use Rattle.org_stamp.specs.declared.inside.Cookies.{Cookies}
use Rattle.org_stamp.specs.declared.inside.Cookies.TheVariants.{Empty, One, Two}
use Rattle.org_stamp.specs.declared.inside.Found.{Found}
use Rattle.org_stamp.specs.Parts.{◌>>=◌, kind_of, is_blank}
use Rattle.org_stamp.specs.Stamp.{Part, StampValue, are_apart}

-- what was found so far: whether a day name, the time, and the cookies
pub record Gathered : Type 0 where
  pub named : Bool
  pub time : Option Times
  pub cookies : List Part

abbrev pub part_of : Cookie → Part
part_of c = record { run = c.run.now; kind = c.kind }

abbrev pub parts_of : Cookies → List Part
parts_of Empty = []
parts_of (One a) = part_of a ∷ []
parts_of (Two a b) = part_of a ∷ part_of b ∷ []

abbrev pub gathered : Found → Gathered
gathered f = record { named = f.named; time = f.time; cookies = parts_of f.cookies }

-- a first cookie, or a second of the other kind
abbrev pub cookies_with : List Part → Part → Option (List Part)
cookies_with [] p = Some (p ∷ [])
cookies_with (a ∷ []) p = if are_apart a.kind p.kind then Some (a ∷ p ∷ []) else None
cookies_with (a ∷ b ∷ more) p = None

-- one part more, where none of its kind was found
abbrev pub found_with : Gathered → List ℕ → Kind → Option Gathered
found_with g run Name = if g.named then None else Some (record g { named = true })
found_with g run (Clock t) = if is_some g.time then None else Some (record g { time = Some t })
found_with g run (Repeat r) =
    cookies_with g.cookies (record { run = run; kind = Repeat r }) >>= λ cs.
    Some (record g { cookies = cs })
found_with g run Delay =
    cookies_with g.cookies (record { run = run; kind = Delay }) >>= λ cs.
    Some (record g { cookies = cs })

-- what lies between two blanks: nothing, or a part
abbrev pub piece_with : Gathered → List ℕ → Option Gathered
piece_with g run =
    if length run == 0 then Some g else (kind_of run >>= λ kind. found_with g run kind)

abbrev pub pieces_with : Gathered → List (List ℕ) → Option Gathered
pieces_with g [] = Some g
pieces_with g (run ∷ runs) = piece_with g run >>= λ h. pieces_with h runs

abbrev pub nothing : Gathered
nothing = record { named = false; time = None; cookies = [] }

-- what the bytes after the date say: a blank comes first, and none last
abbrev pub tail_of : List ℕ → Option Gathered
tail_of tail =
    if length tail == 0 then Some nothing
    else (if is_blank (slice_index tail 0) && not (is_blank (slice_index tail (length tail - 1)))
    then pieces_with nothing (slice_split is_blank tail) else None)

-- the timestamp of what was gathered
abbrev pub value_of : Bool → CivilDay → Gathered → StampValue
value_of active day g = record { active = active; day = day; time = g.time; cookies = g.cookies }
