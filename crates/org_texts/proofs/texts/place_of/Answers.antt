use Rattle.std.proofs.Common.{◌≡◌, ◌∙◌, List, ℕ, Some, sym, ap}
use Rattle.std.specs.Prelude.{slice_get}
use Rattle.std.specs.Cmp.Lexicographic.{nat_list_eq_equiv}
use Rattle.std.specs.Map.{keys_of}
use Rattle.std.specs.Option.{is_some}
use Rattle.std.proofs.lemmas.Map.Entries.{lookup_from_place}
use Rattle.std.proofs.lemmas.Slice.Eq.{bytes_eq-Decides}
use Rattle.org_texts.specs.Held.{HeldText}
use Rattle.org_texts.proofs.Looking.{at_place, first_place}
use Rattle.org_texts.proofs.texts.place_of.Goals as goal

-- what stands at the place that was guessed
guessed : (c : goal.After-at-1) → slice_get c.args.held.now.entries c.args.guess ≡ Some (c.args.name.now, c.in-Some.field-0-1.now)
guessed c =
    let held : HeldText = c.in-Some.field-0-1.now in
    let same : c.in-Some.at.now ≡ c.args.name.now = (bytes_eq-Decides c.in-Some.at.now c.args.name.now).0 (sym c.eq.ensures ∙ c.if-eq.true) in
    ap (λ (es : List (List ℕ × HeldText)). slice_get es c.args.guess) (sym c.as_slice.ensures.entries) ∙ sym c.in-Some.ensures.entry ∙ ap (λ (name : List ℕ). Some (name, held)) same

pub returns-in-Some-clause-place : goal.returns-in-Some-clause-place
returns-in-Some-clause-place c =
    let es = c.args.held.now.entries in
    let held : HeldText = c.in-Some.field-0-1.now in
    let is = sym (lookup_from_place nat_list_eq_equiv es c.args.guess c.args.name.now held c.as_slice.ensures.unique (guessed c)) in
    let there = at_place es c.args.guess c.args.name.now held (guessed c) in
    record {
      named = sym (first_place (keys_of es) c.args.guess c.args.name.now c.as_slice.ensures.unique there.0);
      found = ap is_some is;
      value = there.1 ∙ is;
    }
