-- The laws of a disk for one in memory, from its record.
use Rattle.std.specs.Prelude.{ℕ, ◌≤◌, List, [], ◌∷◌, length}
use Rattle.std.proofs.Common.{sym, subst, ⊎_elim, arith}
use Rattle.std.proofs.lemmas.Bool.{cases_Bool, cond-true, cond-false}
use Rattle.std.proofs.lemmas.List.{take_all}
use Rattle.std.specs.Str.{bytes_eq}
use Rattle.org_disk.specs.Disk.{FileState, IsImage, AreImages, stable}
use Rattle.org_disk.specs.OwnImages.{IsOwnImage, stable_own, write_own, cut_own, sync_own}
use Rattle.org_test_disks.specs.declared.memory.Effect.{Effect}
use Rattle.org_test_disks.specs.declared.memory.Effect.TheVariants.{Set, Write, Cut, Sync, Nothing}
use Rattle.org_test_disks.specs.declared.memory.Call.{Call}
use Rattle.org_test_disks.specs.Record.{effect_of, step, state_after, files_after, LeftSince}

effect_keeps : (effect : Effect) (file : FileState) → IsOwnImage file
    → IsOwnImage (effect_of effect file)
effect_keeps (Set bytes) file own = stable_own bytes.items
effect_keeps (Write from bytes) file own = write_own from bytes.items file own
effect_keeps (Cut n) file own = cut_own n file own
effect_keeps Sync file own = sync_own file
effect_keeps Nothing file own = own

step_keeps : (call : Call) (name : List ℕ) (file : FileState) → IsOwnImage file
    → IsOwnImage (step call name file)
step_keeps call name file own = ⊎_elim
    (λ t. subst IsOwnImage
    (sym (cond-true (bytes_eq call.name name) (effect_of call.effect file) file t))
    (effect_keeps call.effect file own))
    (λ f. subst IsOwnImage
    (sym (cond-false (bytes_eq call.name name) (effect_of call.effect file) file f)) own)
    (cases_Bool (bytes_eq call.name name))

state_keeps : (calls : List Call) (name : List ℕ) (file : FileState) → IsOwnImage file
    → IsOwnImage (state_after calls name file)
state_keeps [] name file own = own
state_keeps (call ∷ calls) name file own =
    state_keeps calls name (step call name file) (step_keeps call name file own)

pub own_image : (calls : List Call) (name : List ℕ)
    → IsImage (files_after calls name) (files_after calls name).content
own_image calls name = state_keeps calls name (stable []) (stable_own [])

pub now_counts : (calls : List Call) (t : ℕ) (image : List ℕ → List ℕ) → t ≤ length calls
    → AreImages (files_after calls) image → LeftSince calls t image
now_counts calls t image le now = (
  length calls,
  le,
  omega arith,
  subst (λ (cs : List Call). AreImages (files_after cs) image)
      (sym (take_all (length calls) calls (omega arith))) now,
)

pub now_alone : (calls : List Call) (image : List ℕ → List ℕ) → LeftSince calls (length calls) image
    → AreImages (files_after calls) image
now_alone calls image left =
    subst (λ (cs : List Call). AreImages (files_after cs) image)
    (take_all left.0 calls left.1) left.3
