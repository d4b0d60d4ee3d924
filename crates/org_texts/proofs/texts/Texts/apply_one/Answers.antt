use Rattle.std.proofs.Common.{rules, ◌≡◌, map, sym, subst, arith}
use Rattle.std.specs.Map.{keys_of, lookup}
use Rattle.std.specs.Option.{IsSome}
use Rattle.std.specs.Str.{bytes_eq}
use Rattle.org_splice.specs.Texts.{EditedText}
use Rattle.org_texts.specs.Inside.{AreAmong}
use Rattle.org_texts.specs.Plan.{LieIn}
use Rattle.org_texts.specs.Texts.{Holding, now_of, text_of, with_name}
use Rattle.org_texts.proofs.Names.{among_name, is_among, longer, some_of}
use Rattle.org_texts.proofs.texts.Texts.apply_one.Goals as goal

pub invariant_of-self-2 : goal.invariant_of-self-2
invariant_of-self-2 c =
    let es = c.self.inside.held.entries in
    let name = c.args.change.now.file in
    let dirty = c.self.inside.dirty.keys in
    let marked : c.mark.new.names.keys ≡ with_name name dirty = search rules in
    let some : IsSome (text_of c.args.self.now.now name) = some_of (λ (t : EditedText). LieIn c.args.change.now.edits.items t.bytes) (text_of c.args.self.now.now name) c.requires in
    let held : IsSome (lookup (bytes_eq name) (map now_of es)) = subst (λ (h : Holding). IsSome (text_of h.now name)) (sym c.self.view_is) some in
    let among : AreAmong (keys_of es) (with_name name dirty) = among_name (keys_of es) dirty name c.self.invariant.held (is_among name es held) in
    rw (marked, c.apply_at.ensures.names) (record { held = among; first = omega (arith, c.self.invariant.first, longer name dirty) })
