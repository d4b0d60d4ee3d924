use Rattle.std.proofs.Common.{◌≡◌, ◌∙◌, ◌<◌, ◌≤◌, ◌++◌, [], ◌∷◌, ℕ, List, length, get_or, map, take, ap, sym, subst, arith}
use Rattle.std.proofs.lemmas.Grind.{common_steps}
use Rattle.std.proofs.lemmas.List.{take_more, map-append}
use Rattle.org_splice.specs.declared.Span.{Span}
use Rattle.org_splice.specs.Patches.{AreWellFormed, PatchedTo}
use Rattle.org_splice.specs.Ranges.{AreChanged}
use Rattle.org_splice.specs.Texts.{patch_of, patches_of, pairs_of}
use Rattle.org_splice.specs.Versions.{text_of_parts}
use Rattle.org_splice.proofs.Apart.{LieApart-at}
use Rattle.org_splice.proofs.Written.{AreWellFormed-patches_of, PatchedTo-patches_of}
use Rattle.org_splice.proofs.patch.patches_of.Goals as goal

-- a changed range lies in its text
in_text : (size : ℕ) (ranges : List Span) (i : ℕ) (none : Span) → AreChanged size ranges → i < length ranges → ((get_or ranges i none).start < (get_or ranges i none).end) × ((get_or ranges i none).end ≤ size)
in_text size ranges i none are within = LieApart-at 0 size ranges i none are.apart within

pub push_patch-requires : goal.push_patch-requires
push_patch-requires c =
    let bounds = in_text (length c.args.text.now) c.args.changed.now c.loop-range.range-index (record { start = 0; end = 0 }) c.requires c.loop-range-test.true in
    (omega (arith, bounds.0), bounds.1)

pub loop-range-preserved : goal.loop-range-preserved
loop-range-preserved c =
    let changed = c.args.changed.now in
    let index = c.loop-range.range-index in
    let range : Span = get_or changed index (record { start = 0; end = 0 }) in
    c.in_ok-push_patch.ensures ∙ ap (λ ps. ps ++ patch_of c.args.text.now range ∷ []) c.loop-range.invariant
    ∙ sym (ap (map (patch_of c.args.text.now)) (take_more changed index (record { start = 0; end = 0 }) c.loop-range-test.true) ∙ map-append (patch_of c.args.text.now) (take index changed) (range ∷ []))

pub returns-clause-exact : goal.returns-clause-exact
returns-clause-exact c = grind (arith, common_steps)

pub returns-clause-well_formed : goal.returns-clause-well_formed
returns-clause-well_formed c =
    let exact : pairs_of c.if-is_empty.patches.items ≡ patches_of (text_of_parts c.args.text.now c.args.changed.now) = returns-clause-exact c in
    subst (λ (ps : List (ℕ × List ℕ)). AreWellFormed ps (length c.args.text.now)) (sym exact) (AreWellFormed-patches_of c.args.text.now c.args.changed.now c.requires)

pub returns-clause-makes : goal.returns-clause-makes
returns-clause-makes c = λ old edit.
    let exact : pairs_of c.if-is_empty.patches.items ≡ patches_of (text_of_parts c.args.text.now c.args.changed.now) = returns-clause-exact c in
    subst (λ (ps : List (ℕ × List ℕ)). PatchedTo ps (length c.args.text.now) old c.args.text.now) (sym exact) (PatchedTo-patches_of old c.args.text.now c.args.changed.now c.requires edit)
