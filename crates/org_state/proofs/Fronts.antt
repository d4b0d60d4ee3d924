-- The parts of a section before its rest.
use Rattle.std.proofs.Common.{◌≡◌, ℕ, ◌-◌, ◌≤◌, List, [], ◌++◌, length, take, sym, ap, ◌∙◌, arith, append_assoc, length-append}
use Rattle.std.proofs.lemmas.List.{take_at, append-nil}
use Rattle.org_splice.specs.Lines.{terminated, lines_of, print_lines}
use Rattle.org_splice.proofs.Lines.{print_lines-append}
use Rattle.org_meta.specs.declared.parts.Sections.{Sections}
use Rattle.org_meta.specs.Sections.{SectionParts, AreSections, split, joined}
use Rattle.org_meta.proofs.Puts.{section_bytes, joined_split}

-- a section's bytes without those of its rest
pub front_bytes : (section : List ℕ) (slices : Sections) → terminated section ≡ section → AreSections slices (split (lines_of section))
    → take (length section - length slices.rest.bytes.now) section ≡ print_lines (joined (record (split (lines_of section)) { rest = [] }))
front_bytes section slices stays_terminated are =
    let p : SectionParts = split (lines_of section) in
    let a : List ℕ = slices.planning.bytes.now ++ slices.drawer.bytes.now in
    let whole : section ≡ a ++ slices.rest.bytes.now = section_bytes section slices stays_terminated are ∙ sym (append_assoc slices.planning.bytes.now slices.drawer.bytes.now slices.rest.bytes.now) in
    let size : length section - length slices.rest.bytes.now ≡ length a = omega (arith, ap length whole, length-append a slices.rest.bytes.now) in
    let printed : print_lines (p.planning ++ (p.drawer ++ [])) ≡ slices.planning.bytes.now ++ slices.drawer.bytes.now =
    ap (λ (d : List (List ℕ)). print_lines (p.planning ++ d)) (append-nil p.drawer) ∙ print_lines-append p.planning p.drawer
    ∙ ap (λ (t : List ℕ). t ++ print_lines p.drawer) (sym are.planning) ∙ ap (λ (t : List ℕ). slices.planning.bytes.now ++ t) (sym are.drawer) in
    ap (take (length section - length slices.rest.bytes.now)) whole ∙ take_at a slices.rest.bytes.now (length section - length slices.rest.bytes.now) (sym size) ∙ sym printed

-- they are no longer than the section
pub front_short : (ls : List (List ℕ)) → length (print_lines ((split ls).planning ++ (split ls).drawer)) ≤ length (print_lines ls)
front_short ls =
    let p : SectionParts = split ls in
    let front : List (List ℕ) = p.planning ++ p.drawer in
    let whole : print_lines ls ≡ print_lines front ++ print_lines p.rest =
    ap print_lines (sym (joined_split ls) ∙ sym (append_assoc p.planning p.drawer p.rest)) ∙ print_lines-append front p.rest in
    omega (arith, ap length whole, length-append (print_lines front) (print_lines p.rest))

pub planning_short : (ls : List (List ℕ)) → length (print_lines (split ls).planning) ≤ length (print_lines ls)
planning_short ls =
    let p : SectionParts = split ls in
    omega (arith, front_short ls, ap length (print_lines-append p.planning p.drawer), length-append (print_lines p.planning) (print_lines p.drawer))
