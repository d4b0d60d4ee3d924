use Rattle.std.proofs.Common.{map, subst}
use Rattle.std.specs.Prelude.{IsSomeAnd}
use Rattle.std.specs.Map.{lookup}
use Rattle.std.specs.Str.{bytes_eq}
use Rattle.std.proofs.lemmas.Result.{on_ok_weaker}
use Rattle.org_splice.specs.Texts.{EditedText, spliced_each}
use Rattle.org_texts.specs.Held.{HeldText}
use Rattle.org_texts.specs.Plan.{LieIn}
use Rattle.org_texts.specs.Texts.{now_of}
use Rattle.org_texts.proofs.Names.{changed_at, found, no_place, some_of}
use Rattle.org_texts.proofs.Values.{map_kept, names_kept}
use Rattle.org_texts.proofs.texts.apply_at.Goals as goal

pub unreachable-requires : goal.unreachable-requires
unreachable-requires c =
    no_place c.args.name.now c.args.held.now.entries c.place_of.result c.place_of.ensures.place c.in_default.is
    (some_of (λ (t : EditedText). LieIn c.args.edits.now.items t.bytes) (lookup (bytes_eq c.args.name.now) (map now_of c.args.held.now.entries)) c.requires)

pub apply-requires : goal.apply-requires
apply-requires c =
    let es = c.args.held.now.entries in
    let name = c.args.name.now in
    subst (λ o. IsSomeAnd o (λ (t : EditedText). LieIn c.args.edits.now.items t.bytes)) (found name es c.in-Some.place c.index_mut.result.now c.in-Some.ensures.place.value c.index_mut.ensures.value) c.requires

pub returns-clause-now : goal.returns-clause-now
returns-clause-now c =
    on_ok_weaker c.apply.result
    (changed_at (λ (h : HeldText). h.text) (spliced_each c.args.edits.now.items) c.args.name.now c.args.held.now.entries c.in-Some.place c.index_mut.result.now c.apply.new.self c.in-Some.ensures.place c.index_mut.ensures.value)
    c.apply.ensures.text

pub returns-clause-before : goal.returns-clause-before
returns-clause-before c =
    map_kept (λ (h : HeldText). h.before) c.args.held.now.entries c.in-Some.place c.index_mut.result.now c.apply.new.self c.index_mut.ensures.value c.apply.ensures.before

pub returns-clause-names : goal.returns-clause-names
returns-clause-names c = names_kept c.args.held.now.entries c.in-Some.place c.apply.new.self
