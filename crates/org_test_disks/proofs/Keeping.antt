-- The contents that are kept, after one of them was written.
use Rattle.std.proofs.Common.{arith, ◌≡◌, ◌≢◌, ◌⊎◌, inl, inr, List, ℕ, true, false, Result, Ok, Err, OnErr, Some, Vec, cond, true≢false, sym, ◌∙◌}
use Rattle.std.proofs.lemmas.Grind.{common_steps}
use Rattle.std.proofs.lemmas.Bool.{cond-true, cond-false}
use Rattle.std.specs.declared.alloc.AllocError.{AllocError}
use Rattle.std.specs.declared.alloc.Global.{Global}
use Rattle.std.specs.Str.{bytes_eq}
use Rattle.indexmap.specs.IndexMap.{get}
use Rattle.org_disk.specs.Disk.{FileState}
use Rattle.org_test_disks.specs.declared.memory.Effect.{Effect}
use Rattle.org_test_disks.specs.declared.memory.Effect.TheVariants.{Nothing}
use Rattle.org_test_disks.specs.Record.{effect_of, Contents, content_in, Keeps}
use Rattle.org_disk.proofs.Names.{name_cases, same_name}

module _ (name : List ℕ) (old new : Contents) (after : Vec ℕ Global) (updates : (q : List ℕ) → get bytes_eq new q ≡ cond (bytes_eq name q) (Some after) (get bytes_eq old q)) where
  there : get bytes_eq new name ≡ Some after
  there = updates name ∙ cond-true (bytes_eq name name) (Some after) (get bytes_eq old name) (same_name name)

  elsewhere : (q : List ℕ) → q ≢ name → get bytes_eq new q ≡ get bytes_eq old q
  elsewhere q apart = updates q ∙ cond-false (bytes_eq name q) (Some after) (get bytes_eq old q) (differs (name_cases name q))
    where
      differs : ((name ≡ q) × (bytes_eq name q ≡ true)) ⊎ ((name ≢ q) × (bytes_eq name q ≡ false)) → bytes_eq name q ≡ false
      differs (inl same) = absurd (apart (sym same.0))
      differs (inr other) = other.1

  pub keeps_made : (effect : Effect) → ((file : FileState) → file.content ≡ content_in old name → after.items ≡ (effect_of effect file).content) → Keeps effect name old new
  keeps_made effect made = grind (arith, common_steps, there, true≢false, elsewhere)

  -- a call on what was kept, made or refused memory
  module _ (before : List ℕ) (was : content_in old name ≡ before) where
    pub keeps_same : (r : Result (Unit {0}) AllocError) → OnErr r (after.items ≡ before) → OnErr r (Keeps Nothing name old new)
    keeps_same (Ok x) same = tt
    keeps_same (Err e) same = keeps_made Nothing (λ file is. same ∙ sym was ∙ sym is)
