-- Patches that are read are those that were written, and what was written is read again.
use Rattle.std.proofs.Common.{◌≡◌, ℕ, zero, suc, ◌+◌, ◌^◌, ◌<◌, ◌≤◌, Bool, true, false, cond, List, [], ◌∷◌, ◌++◌, length, Some, None, refl, ap, subst, ◌∙◌, append_assoc, arith, inl, inr, ◌⊎◌, ⊎_elim}
use Rattle.std.proofs.lemmas.Grind.{common_steps}
use Rattle.std.specs.Prelude.{◌||◌, ◌==◌}
use Rattle.std.specs.List.{flat_map, AllByRecursion}
use Rattle.std.proofs.lemmas.Bool.{false≢true, eqb-true}
use Rattle.std.proofs.lemmas.List.Concat.{flat_map-cons}
use Rattle.std.proofs.lemmas.Option.{same_Some}
use Rattle.byteorder.specs.Endian.{big_bytes}
use Rattle.org_splice.specs.Patches.{end_of, last_end, Rise, AreWellFormed}
use Rattle.org_splice.specs.Texts.{pairs_of}
use Rattle.org_splice.specs.declared.patch.Patch.{Patch}
use Rattle.org_journal.specs.Record.{counted_bytes, patch_bytes}
use Rattle.org_journal.specs.Reading.{◌>>=◌, number_at, counted_at, may_follow, patch_at, patches_at}
use Rattle.org_journal.proofs.Numbers.{IsBytes, Takes, Takes-then, bind_some, passed, back8, number_takes, number_again, counted_takes, counted_again}

-- ---- the test of a patch

pub record Follows (place final : ℕ) (alone : Bool) (from count : ℕ) : Type 0 where
  pub begins : place ≤ from
  pub ends : from + count ≤ final
  pub full : (alone ≡ true) ⊎ (1 ≤ count)

pub follows_is : (place final : ℕ) (alone : Bool) (from count : ℕ) → may_follow place final alone from count ≡ true → Follows place final alone from count
follows_is place final alone from count e = grind (arith, common_steps)

or_true : (b : Bool) → (b || true) ≡ true
or_true true = refl
or_true false = refl

pub follows_again : (place final : ℕ) (alone : Bool) (from count : ℕ) → Follows place final alone from count → may_follow place final alone from count ≡ true
follows_again place final alone from count is = grind (arith, common_steps)

-- ---- one patch

pub patch_takes : (place final : ℕ) (alone : Bool) (bytes : List ℕ) (patch : Patch) (rest : List ℕ) → IsBytes bytes → patch_at place final alone bytes ≡ Some (patch, rest)
    → Takes bytes (patch_bytes patch) rest × Follows place final alone patch.from (length patch.bytes)
unfolding patch_at
patch_takes place final alone bytes patch rest fits e =
    let a = bind_some (number_at 8 bytes) (λ from. counted_at from.1 >>= λ text. cond (may_follow place final alone from.0 (length text.0)) (Some (record { from = from.0; bytes = text.0 }, text.1)) None) (patch, rest) e in
    let b = bind_some (counted_at a.0.1) (λ text. cond (may_follow place final alone a.0.0 (length text.0)) (Some (record { from = a.0.0; bytes = text.0 }, text.1)) None) (patch, rest) a.2 in
    let made : Patch × List ℕ = (record { from = a.0.0; bytes = b.0.0 }, b.0.1) in
    let g = passed (may_follow place final alone a.0.0 (length b.0.0)) (Some made) (patch, rest) b.2 in
    let from = number_takes 8 back8 bytes a.0.0 a.0.1 fits a.1 in
    let text = counted_takes a.0.1 b.0.0 b.0.1 from.0.rest_fits b.1 in
    subst (λ (p : Patch × List ℕ). Takes bytes (patch_bytes p.0) p.1 × Follows place final alone p.0.from (length p.0.bytes)) (same_Some made (patch, rest) g.1)
    (Takes-then bytes (big_bytes 8 a.0.0) a.0.1 (counted_bytes b.0.0) b.0.1 from.0 text.0, follows_is place final alone a.0.0 (length b.0.0) g.0)

pub patch_again : (place final : ℕ) (alone : Bool) (patch : Patch) (rest : List ℕ) → final < 256 ^ 8 → Follows place final alone patch.from (length patch.bytes)
    → patch_at place final alone (patch_bytes patch ++ rest) ≡ Some (patch, rest)
unfolding patch_at
patch_again place final alone patch rest small follows = grind (arith, common_steps, follows_again, append_assoc, number_again, counted_again)

-- ---- the patches of an entry

abbrev pub AllFollow : (place final : ℕ) (alone : Bool) → List Patch → Type 0
AllFollow place final alone [] = Unit {0}
AllFollow place final alone (patch ∷ patches) =
    Follows place final alone patch.from (length patch.bytes) × AllFollow (patch.from + length patch.bytes) final alone patches

pub patches_take : (place final : ℕ) (alone : Bool) (n : ℕ) (bytes : List ℕ) (patches : List Patch) (rest : List ℕ) → IsBytes bytes → patches_at place final alone n bytes ≡ Some (patches, rest)
    → Takes bytes (flat_map patch_bytes patches) rest × (length patches ≡ n) × AllFollow place final alone patches
unfolding patches_at
patches_take place final alone zero bytes patches rest fits e = grind (arith, common_steps)
patches_take place final alone (suc n) bytes patches rest fits e =
    let a = bind_some (patch_at place final alone bytes) (λ first. patches_at (first.0.from + length first.0.bytes) final alone n first.1 >>= λ others. Some (first.0 ∷ others.0, others.1)) (patches, rest) e in
    let place' = a.0.0.from + length a.0.0.bytes in
    let b = bind_some (patches_at place' final alone n a.0.1) (λ others. Some (a.0.0 ∷ others.0, others.1)) (patches, rest) a.2 in
    let first = patch_takes place final alone bytes a.0.0 a.0.1 fits a.1 in
    let second = patches_take place' final alone n a.0.1 b.0.0 b.0.1 first.0.rest_fits b.1 in
    let both = Takes-then bytes (patch_bytes a.0.0) a.0.1 (flat_map patch_bytes b.0.0) b.0.1 first.0 second.0 in
    let made : List Patch × List ℕ = (a.0.0 ∷ b.0.0, b.0.1) in
    subst (λ (x : List Patch × List ℕ). Takes bytes (flat_map patch_bytes x.0) x.1 × (length x.0 ≡ suc n) × AllFollow place final alone x.0) (same_Some made (patches, rest) b.2)
    (rw flat_map-cons both, ap suc second.1, (first.1, second.2))

pub patches_again : (place final : ℕ) (alone : Bool) (patches : List Patch) (rest : List ℕ) → final < 256 ^ 8 → AllFollow place final alone patches
    → patches_at place final alone (length patches) (flat_map patch_bytes patches ++ rest) ≡ Some (patches, rest)
unfolding patches_at
patches_again place final alone [] rest small follow = refl
patches_again place final alone (patch ∷ patches) rest small follow =
    let regrouped : flat_map patch_bytes (patch ∷ patches) ++ rest ≡ patch_bytes patch ++ (flat_map patch_bytes patches ++ rest) =
    ap (λ (x : List ℕ). x ++ rest) (flat_map-cons patch_bytes patch patches) ∙ append_assoc (patch_bytes patch) (flat_map patch_bytes patches) rest in
    ap (patches_at place final alone (suc (length patches))) regrouped
    ∙ rw (patch_again place final alone patch (flat_map patch_bytes patches ++ rest) small follow.0, patches_again (patch.from + length patch.bytes) final alone patches rest small follow.1) refl

-- ---- well formed

pub length-pairs : (patches : List Patch) → length (pairs_of patches) ≡ length patches
length-pairs [] = refl
length-pairs (patch ∷ patches) = ap suc (length-pairs patches)

rise_is : (place final : ℕ) (alone : Bool) (patches : List Patch) → place ≤ final → AllFollow place final alone patches → Rise place (pairs_of patches) × (last_end place (pairs_of patches) ≤ final)
rise_is place final alone [] le follow = (tt, le)
rise_is place final alone (patch ∷ patches) le follow = grind (arith, common_steps, rise_is (patch.from + length patch.bytes) final alone patches follow.0.ends follow.1)

full_is : (place final : ℕ) (patches : List Patch) → AllFollow place final false patches → AllByRecursion (λ (p : ℕ × List ℕ). 1 ≤ length p.1) (pairs_of patches)
full_is place final [] follow = tt
full_is place final (patch ∷ patches) follow =
    (⊎_elim (λ (e : false ≡ true). absurd (false≢true e)) (λ some. some) follow.0.full, full_is (patch.from + length patch.bytes) final patches follow.1)

pub well_formed_is : (final : ℕ) (patches : List Patch) → 1 ≤ length patches → length patches ≤ 1000 → AllFollow 0 final (length patches == 1) patches → AreWellFormed (pairs_of patches) final
well_formed_is final patches some few follow =
    let rise = rise_is 0 final (length patches == 1) patches (omega arith) follow in
    record {
      some = omega (arith, length-pairs patches);
      few = omega (arith, length-pairs patches);
      rise = rise.0;
      full = full_cases (length patches == 1) refl;
      within = rise.1;
    }
  where
    full_cases : (alone : Bool) → (length patches == 1) ≡ alone → (length (pairs_of patches) ≡ 1) ⊎ AllByRecursion (λ (p : ℕ × List ℕ). 1 ≤ length p.1) (pairs_of patches)
    full_cases true e = inl (length-pairs patches ∙ eqb-true _ _ e)
    full_cases false e = inr (full_is 0 final patches (subst (λ (b : Bool). AllFollow 0 final b patches) e follow))

last_end_after : (place : ℕ) (patches : List (ℕ × List ℕ)) → Rise place patches → place ≤ last_end place patches
last_end_after place [] rise = omega arith
last_end_after place (patch ∷ patches) rise = omega (arith, rise.0, last_end_after (end_of patch) patches rise.1)

follow_alone : (place final : ℕ) (patches : List Patch) → Rise place (pairs_of patches) → last_end place (pairs_of patches) ≤ final → AllFollow place final true patches
follow_alone place final [] rise within = tt
follow_alone place final (patch ∷ patches) rise within =
    (record { begins = rise.0; ends = omega (arith, within, last_end_after (patch.from + length patch.bytes) (pairs_of patches) rise.1); full = inl refl }, follow_alone (patch.from + length patch.bytes) final patches rise.1 within)

follow_full : (place final : ℕ) (alone : Bool) (patches : List Patch) → Rise place (pairs_of patches) → last_end place (pairs_of patches) ≤ final
    → AllByRecursion (λ (p : ℕ × List ℕ). 1 ≤ length p.1) (pairs_of patches) → AllFollow place final alone patches
follow_full place final alone [] rise within full = tt
follow_full place final alone (patch ∷ patches) rise within full =
    (record { begins = rise.0; ends = omega (arith, within, last_end_after (patch.from + length patch.bytes) (pairs_of patches) rise.1); full = inr full.0 }, follow_full (patch.from + length patch.bytes) final alone patches rise.1 within full.1)

pub well_formed_follow : (final : ℕ) (patches : List Patch) → AreWellFormed (pairs_of patches) final → AllFollow 0 final (length patches == 1) patches
well_formed_follow final patches is = grind (arith, common_steps, length-pairs, follow_alone, follow_full)
