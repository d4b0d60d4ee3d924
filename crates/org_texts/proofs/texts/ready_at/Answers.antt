use Rattle.std.proofs.Common.{Bool, true, ap}
use Rattle.std.proofs.lemmas.Result.{on_ok_weaker}
use Rattle.org_splice.specs.Texts.{terminated_text}
use Rattle.org_texts.specs.Held.{HeldText}
use Rattle.org_texts.proofs.Names.{changed_at, no_place}
use Rattle.org_texts.proofs.Values.{map_kept, names_kept}
use Rattle.org_texts.proofs.texts.ready_at.Goals as goal

pub unreachable-requires : goal.unreachable-requires
unreachable-requires c = no_place c.args.name.now c.args.held.now.entries c.place_of.result c.place_of.ensures.place c.in_default.is c.requires

pub returns : goal.returns
returns c =
    let es = c.args.held.now.entries in
    let place = c.in-Some.place in
    let old = c.index_mut.result.now in
    let new = c.make_ready.new.self in
    let at = c.index_mut.ensures.value in
    let text = changed_at (λ (h : HeldText). h.text) terminated_text c.args.name.now es place old new c.in-Some.ensures.place at in
    let ready = changed_at (λ (h : HeldText). h.ready) (λ (_ : Bool). true) c.args.name.now es place old new c.in-Some.ensures.place at in
    record {
      now = on_ok_weaker c.make_ready.result (λ is. text (ap (λ (h : HeldText). h.text) is)) c.make_ready.ensures.ok;
      ready = on_ok_weaker c.make_ready.result (λ is. ready (ap (λ (h : HeldText). h.ready) is)) c.make_ready.ensures.ok;
      before = map_kept (λ (h : HeldText). h.before) es place old new at c.make_ready.ensures.before;
      names = names_kept es place new;
    }
