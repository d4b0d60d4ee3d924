-- A section with a property put is split again as it was edited.
use Rattle.std.proofs.Common.{◌≡◌, ℕ, ◌+◌, true, eqb, not, List, [], ◌∷◌, ◌++◌, length, take, refl, arith, inl, inr}
use Rattle.std.proofs.lemmas.Grind.{common_steps}
use Rattle.std.proofs.lemmas.Bool.{cases_Bool}
use Rattle.std.proofs.lemmas.Bool.Decides.{nat_tests}
use Rattle.std.specs.Prelude.{◌≢◌, codes, slice_range}
use Rattle.std.specs.List.{AllByRecursion, list_all}
use Rattle.org_splice.specs.Edits.{applied}
use Rattle.org_splice.specs.Lines.{terminated, IsLine}
use Rattle.org_splice.specs.declared.edit.Edit.{Edit}
use Rattle.org_splice.proofs.Lines.{terminated-print_lines, lines_of-lines, lines_of-print_lines}
use Rattle.org_meta.specs.Edits.{RewritesParts}
use Rattle.org_meta.specs.Sections.{is_property_name, joined, parts_of, property_line, put, split}
use Rattle.org_meta.proofs.Keeping.{keeps_put}
use Rattle.org_meta.proofs.Reading.{line_said}
use Rattle.org_meta.proofs.Resplit.{split_put}

-- ---- lines

-- bytes that pass the test are a line
pub tested_line : (l : List ℕ) → list_all (λ b. not (eqb b 10)) l ≡ true → IsLine l
tested_line [] e = tt
tested_line (b ∷ l) e =
    elim (cases_Bool (eqb b 10)) [
      | inl x ↦ absurd (let f = rw x at e in cc)
      | inr x ↦ let ne : b ≢ 10 = grind (arith, nat_tests) in (ne, tested_line l (rw x at e))
    ]

-- ---- a property

mark_line : IsLine (codes ":PROPERTIES:")
mark_line = tested_line (codes ":PROPERTIES:") refl

end_line : IsLine (codes ":END:")
end_line = tested_line (codes ":END:") refl

pub put_lines : (name value : List ℕ) (ls : List (List ℕ)) → IsLine (property_line name value) → AllByRecursion IsLine ls → AllByRecursion IsLine (joined (put name value (split ls)))
put_lines name value ls line all = keeps_put IsLine name (property_line name value) line mark_line end_line ls all

pub put_split : (name value text new : List ℕ) (e : Edit) → is_property_name name ≡ true → IsLine (property_line name value) → RewritesParts e text (put name value (parts_of text))
    → new ≡ applied e text → parts_of new ≡ put name value (parts_of text)
put_split name value text new e good line gives is = grind (arith, common_steps, line_said, parts_of, split, lines_of-print_lines, joined, put, put_lines, lines_of-lines, split_put)

pub put_terminated : (name value text new : List ℕ) (e : Edit) → RewritesParts e text (put name value (parts_of text)) → new ≡ applied e text → terminated new ≡ new
put_terminated name value text new e gives is = grind (arith, common_steps, terminated-print_lines, joined, put, parts_of)

-- what the code puts together is the edited text
pub put_together : (text old again first bytes second new : List ℕ) (e : Edit) → old ≡ text → again ≡ text → first ≡ take e.at old → bytes ≡ e.bytes → second ≡ first ++ bytes
    → new ≡ second ++ slice_range again (e.at + e.removed) (length again) → new ≡ applied e text
put_together text old again first bytes second new e same same_again first_is bytes_is second_is new_is = grind (arith, common_steps)
