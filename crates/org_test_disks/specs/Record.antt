-- The record of a disk in memory: what its calls did, and the files that they stand for.
use Rattle.std.specs.Prelude.{◌≡◌, ◌≢◌, ◌⊎◌, ℕ, Bool, true, false, IsNone, ◌≤◌, List, [], ◌∷◌, ◌++◌, length, take, if◌then◌else◌, Vec, Option}
use Rattle.std.specs.Option.{option_map_or}
use Rattle.std.specs.Str.{bytes_eq}
use Rattle.std.specs.declared.alloc.Global.{Global}
use Rattle.std.specs.declared.hash.FoldHasher.{FoldHasher}
use Rattle.std.specs.declared.hash.BuildHasherDefault.{BuildHasherDefault}
use Rattle.indexmap.specs.IndexMap.{IndexMap, get}
use Rattle.org_disk.specs.Disk.{FileState, IsImage, AreImages, stable, write, cut, sync}
use Rattle.org_test_disks.specs.declared.memory.Effect.{Effect}
use Rattle.org_test_disks.specs.declared.memory.Effect.TheVariants.{Set, Write, Cut, Sync, Nothing}
use Rattle.org_test_disks.specs.declared.memory.Call.{Call}

-- what a call did to its file
abbrev pub effect_of : Effect → FileState → FileState
effect_of (Set bytes) file = stable bytes.items
effect_of (Write from bytes) file = write from bytes.items file
effect_of (Cut n) file = cut n file
effect_of Sync file = sync file
effect_of Nothing file = file

abbrev pub step : Call → List ℕ → FileState → FileState
step call name file = if bytes_eq call.name name then effect_of call.effect file else file

-- the file of a name after these calls, the first of them first
abbrev pub state_after : List Call → List ℕ → FileState → FileState
state_after [] name file = file
state_after (call ∷ calls) name file = state_after calls name (step call name file)

-- the files after these calls on an empty disk
abbrev pub files_after : List Call → List ℕ → FileState
files_after calls name = state_after calls name (stable [])

-- what a crash since the call of this number might have left
abbrev pub LeftSince : List Call → ℕ → (List ℕ → List ℕ) → Type 0
LeftSince calls t image =
    (k : ℕ) × (t ≤ k) × (k ≤ length calls) × AreImages (files_after (take k calls)) image

abbrev pub call_of : List ℕ → Effect → Bool → Call
call_of name effect crashed = record { name = name; effect = effect; crashed = crashed }

-- the record after a call that failed: the call isn't in it, or had its effect, or none
abbrev pub IsTried : List ℕ → Effect → List Call → List Call → Type 0
IsTried name effect old new =
    (new ≡ old)
    ⊎ (((crashed : Bool) × (new ≡ old ++ call_of name effect crashed ∷ []))
    ⊎ ((crashed : Bool) × (new ≡ old ++ call_of name Nothing crashed ∷ [])))

-- the contents that are kept beside the record, by name
abbrev pub Contents : Type 0
Contents = IndexMap (List ℕ) (Vec ℕ Global) (BuildHasherDefault FoldHasher)

abbrev pub items_or : Option (Vec ℕ Global) → List ℕ → List ℕ
items_or o bytes = option_map_or (λ v. v.items) o bytes

abbrev pub content_in : Contents → List ℕ → List ℕ
content_in contents name = items_or (get bytes_eq contents name) []

-- the contents after a call with this effect on one file
pub record Keeps (effect : Effect) (name : List ℕ) (old new : Contents) : Type 0 where
  pub here : (file : FileState) → content_in old name ≡ file.content
      → content_in new name ≡ (effect_of effect file).content
  pub absent : IsNone (get bytes_eq new name)
      → IsNone (get bytes_eq old name)
      × ((file : FileState) → file.content ≡ [] → file.least ≡ 0
      → (effect_of effect file).least ≡ 0)
  pub others : (other : List ℕ) → other ≢ name → get bytes_eq new other ≡ get bytes_eq old other

-- where a crash left these bytes of a file with this content, it leaves the next ones after a call
-- with this effect
abbrev pub KeepsImage : Effect → List ℕ → List ℕ → List ℕ → Type 0
KeepsImage effect content left next =
    (file : FileState) → file.content ≡ content → IsImage file content → IsImage file left
    → IsImage (effect_of effect file) next

abbrev pub KeepsCutImage : ℕ → List ℕ → List ℕ → Type 0
KeepsCutImage n left next = (file : FileState) → IsImage file left → IsImage (cut n file) next

-- a call of `Disk`, and no `set`
abbrev pub is_call_effect : Effect → Bool
is_call_effect (Set bytes) = false
is_call_effect effect = true

abbrev pub is_call : Call → Bool
is_call call = is_call_effect call.effect
