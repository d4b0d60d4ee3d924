-- How a stream of bytes is cut into lines, and what is kept of a line whose newline hasn't come. A
-- line ends with the newline byte, 10.
use Rattle.std.specs.Prelude.{ℕ, List, [], ◌∷◌, ◌++◌, ◌==◌, ◌≢◌, if◌then◌else◌, All, ◌≡◌, ◌<◌, ◌≤◌, length, Option, None, Some}
use Rattle.org_fault.specs.declared.fault.Fault.{Fault}
use Rattle.org_serve.specs.declared.fault.BadLine.{BadLine}
use Rattle.org_fault.specs.declared.fault.Fault.TheVariants.{Refused, OutOfMemory}
use Rattle.org_serve.specs.declared.pending.Pending.{Pending}

-- the lines of a stream, without their newlines, and what stands after the last newline
pub record Cut : Type 0 where
  pub lines : List (List ℕ)
  pub rest : List ℕ

-- one more byte in front, no newline: it goes onto the first line, or onto the rest where there is
-- no line
abbrev pub onto : ℕ → List (List ℕ) → List ℕ → Cut
onto b [] rest = record { lines = []; rest = b ∷ rest }
onto b (line ∷ lines) rest = record { lines = (b ∷ line) ∷ lines; rest = rest }

abbrev pub cut : List ℕ → Cut
cut [] = record { lines = []; rest = [] }
cut (b ∷ bytes) =
    let later = cut bytes in
    if b == 10 then record { lines = [] ∷ later.lines; rest = later.rest }
    else onto b later.lines later.rest

-- lines, each with its newline, and what stands after them
abbrev pub joined : List (List ℕ) → List ℕ → List ℕ
joined [] rest = rest
joined (line ∷ lines) rest = line ++ 10 ∷ joined lines rest

abbrev pub HasNoNewline : List ℕ → Type 0
HasNoNewline bytes = All (λ b. b ≢ 10) bytes

-- the most bytes that a line may have, without its newline
abbrev pub limit : ℕ
limit = 1048576

-- why the bytes of a line aren't kept: there are too many of them, or memory for some was refused
abbrev pub IsCause : Fault BadLine → List ℕ → Type 0
IsCause (Refused _) part = limit < length part
IsCause OutOfMemory part = 0 < length part

-- these bytes of a line are kept, or not for this cause
abbrev pub Keeps : Option (Fault BadLine) → List ℕ → List ℕ → Type 0
Keeps None kept part = (kept ≡ part) × (length part ≤ limit)
Keeps (Some fault) kept part = IsCause fault part

-- it recovers to these bytes of a line
abbrev pub Stands : Pending → List ℕ → Type 0
Stands pending part = Keeps pending.fault pending.bytes.items part
