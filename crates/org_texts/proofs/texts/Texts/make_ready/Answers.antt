use Rattle.std.proofs.Common.{◌≡◌, List, ℕ, false, true, Ok, Err, map, sym, subst, arith}
use Rattle.std.specs.Prelude.{OnOk, Result}
use Rattle.std.specs.Map.{keys_of, lookup}
use Rattle.std.specs.Option.{IsSome}
use Rattle.std.specs.Result.{is_err}
use Rattle.std.specs.Str.{bytes_eq}
use Rattle.org_texts.specs.Held.{HeldText}
use Rattle.org_texts.specs.Inside.{AreAmong, IsHolding}
use Rattle.org_texts.specs.Texts.{Holding, now_of, text_of, with_name}
use Rattle.org_texts.proofs.Names.{among_name, is_among, longer}
use Rattle.org_texts.proofs.texts.Texts.make_ready.Goals as goal

-- what holds of a call that went well
done : {X E P : Type 0} (r : Result X E) → false ≡ is_err r → OnOk r P → P
done (Ok x) is made = made
done (Err e) is made = absurd (let no : false ≡ true = is in cc)

-- the names with one more, which is held
marked : (es : List (List ℕ × HeldText)) (name : List ℕ) (dirty all names : List (List ℕ)) (first : ℕ) → IsSome (lookup (bytes_eq name) (map now_of es)) → IsHolding (keys_of es) dirty first
    → names ≡ with_name name dirty → all ≡ keys_of es → IsHolding all names first
marked es name dirty all names first held before made same =
    let among : AreAmong (keys_of es) (with_name name dirty) = among_name (keys_of es) dirty name before.held (is_among name es held) in
    rw (same, made) (record { held = among; first = omega (arith, before.first, longer name dirty) })

pub invariant_of-self-then-is_err-2 : goal.invariant_of-self-then-is_err-2
invariant_of-self-then-is_err-2 c =
    let held = subst (λ (h : Holding). IsSome (text_of h.now c.args.name.now)) (sym c.self.view_is) c.requires in
    marked c.self.inside.held.entries c.args.name.now c.self.inside.dirty.keys _ _ c.self.inside.dirty_before held c.self.invariant (done c.mark-marked.result c.if-is_err.ensures.value c.mark-marked.ensures.ok) c.ready_at-done.ensures.names

pub invariant_of-self-else-is_err-2 : goal.invariant_of-self-else-is_err-2
invariant_of-self-else-is_err-2 c =
    let held = subst (λ (h : Holding). IsSome (text_of h.now c.args.name.now)) (sym c.self.view_is) c.requires in
    marked c.self.inside.held.entries c.args.name.now c.self.inside.dirty.keys _ _ c.self.inside.dirty_before held c.self.invariant (done c.mark-marked.result c.if-is_err.ensures.value c.mark-marked.ensures.ok) c.ready_at-done.ensures.names
