use Rattle.std.proofs.Common.{◌≡◌, ◌++◌, [], ℕ, List, eqb, false, refl, ap, sym, ◌∙◌}
use Rattle.std.specs.List.{list_any}
use Rattle.std.proofs.lemmas.List.{append-nil}
use Rattle.org_capture.specs.Template.{last_line, with_prefix}
use Rattle.org_capture.proofs.Filling.{with_prefix-none}
use Rattle.org_capture.proofs.template.push_piece.Goals as goal

pub returns-in_ok-extend_from_slice-in-Initial : goal.returns-in_ok-extend_from_slice-in-Initial
returns-in_ok-extend_from_slice-in-Initial c =
    let line : List ℕ = last_line c.args.text.now.items in
    let none : list_any (λ b. eqb b 10) c.args.initial_text.now ≡ false = sym c.contains.ensures.value ∙ c.if-not-contains.true in
    let put : c.extend_from_slice-in-Initial.new.self.items ≡ c.args.text.now.items ++ c.args.initial_text.now = c.in_ok-extend_from_slice-in-Initial.ensures.items in
    (with_prefix line c.args.initial_text.now, rw c.in-Initial.is refl, put ∙ ap (λ l. c.args.text.now.items ++ l) (sym (with_prefix-none line c.args.initial_text.now none)))

pub returns-in-Cursor : goal.returns-in-Cursor
returns-in-Cursor c = ([], rw c.in-Cursor.is refl, sym (append-nil c.args.text.now.items))
