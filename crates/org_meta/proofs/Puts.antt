-- Lines put into a section.
use Rattle.std.proofs.Common.{◌≡◌, ℕ, ◌+◌, ◌-◌, ◌≤◌, true, false, Bool, Option, Some, None, Bor, List, [], ◌∷◌, ◌++◌, length, refl, sym, ap, ◌∙◌, arith, append_assoc, length-append}
use Rattle.std.proofs.lemmas.Grind.{common_steps}
use Rattle.std.specs.Prelude.{is_some, codes}
use Rattle.std.specs.Option.{option_map}
use Rattle.org_splice.specs.Lines.{terminated, print_lines, lines_of}
use Rattle.org_splice.specs.declared.edit.Edit.{Edit}
use Rattle.org_meta.specs.declared.parts.Sections.{Sections}
use Rattle.org_meta.specs.declared.lines.Place.{Place}
use Rattle.org_meta.specs.Lines.{BeginsWith}
use Rattle.org_splice.proofs.Lines.{print_lines-append}
use Rattle.org_splice.proofs.Places.{edited_at}
use Rattle.org_meta.specs.Edits.{Rewrites, IsPlaceFor}
use Rattle.org_meta.specs.Sections.{SectionParts, AreSections, split, joined, is_end, value_named, put_before_end, put_in_drawer, property_line, put}
use Rattle.org_meta.specs.Notes.{with_note}
use Rattle.org_meta.proofs.Walk.{Passed, passed_none, passed_line, print_lines-terminated}
use Rattle.org_meta.proofs.Drawers.{no_drawer, drawer_is}

-- ---- edits by their bytes

pub gives_at : (e : Edit) (text a b c w : List ℕ) (lines : List (List ℕ)) → text ≡ a ++ (b ++ c) → e.at ≡ length a → e.removed ≡ length b → e.bytes ≡ w → print_lines lines ≡ a ++ (w ++ c) → Rewrites e text lines
gives_at e text a b c w lines parts at removed bytes print = grind (arith, common_steps, length-append, edited_at)

-- ---- the parts of a section are all of it

pub joined_split : (ls : List (List ℕ)) → joined (split ls) ≡ ls
joined_split ls = grind (arith, common_steps)

print_joined : (parts : SectionParts) → print_lines (joined parts) ≡ print_lines parts.planning ++ (print_lines parts.drawer ++ print_lines parts.rest)
print_joined parts = print_lines-append parts.planning (parts.drawer ++ parts.rest) ∙ ap (λ (t : List ℕ). print_lines parts.planning ++ t) (print_lines-append parts.drawer parts.rest)

-- the bytes of a section are those of its parts
pub section_bytes : (section : List ℕ) (slices : Sections) → terminated section ≡ section → AreSections slices (split (lines_of section)) → section ≡ slices.planning.bytes.now ++ (slices.drawer.bytes.now ++ slices.rest.bytes.now)
section_bytes section slices whole are =
    let p = split (lines_of section) in
    let text : section ≡ print_lines p.planning ++ (print_lines p.drawer ++ print_lines p.rest) =
    sym (print_lines-terminated section whole) ∙ ap print_lines (sym (joined_split (lines_of section))) ∙ print_joined p in
    text
    ∙ ap (λ (t : List ℕ). t ++ (print_lines p.drawer ++ print_lines p.rest)) (sym are.planning)
    ∙ ap (λ (t : List ℕ). slices.planning.bytes.now ++ (t ++ print_lines p.rest)) (sym are.drawer)
    ∙ ap (λ (t : List ℕ). slices.planning.bytes.now ++ (slices.drawer.bytes.now ++ t)) (sym are.rest)

pub rest_below : (section : List ℕ) (slices : Sections) → terminated section ≡ section → AreSections slices (split (lines_of section)) → length slices.rest.bytes.now ≤ length section
rest_below section slices whole are =
    omega (arith, ap length (section_bytes section slices whole are), length-append slices.planning.bytes.now (slices.drawer.bytes.now ++ slices.rest.bytes.now), length-append slices.drawer.bytes.now slices.rest.bytes.now)

-- ---- a note

pub note_gives : (e : Edit) (section note : List ℕ) (slices : Sections) → terminated section ≡ section → AreSections slices (split (lines_of section)) → e.at ≡ length section - length slices.rest.bytes.now → e.removed ≡ 0 → e.bytes ≡ note ++ 10 ∷ []
    → Rewrites e section (joined (with_note note (split (lines_of section))))
note_gives e section note slices whole are at removed bytes =
    let p = split (lines_of section) in
    let a = slices.planning.bytes.now ++ slices.drawer.bytes.now in
    let parts : section ≡ a ++ ([] ++ slices.rest.bytes.now) = section_bytes section slices whole are ∙ sym (append_assoc slices.planning.bytes.now slices.drawer.bytes.now slices.rest.bytes.now) in
    let print : print_lines (joined (with_note note p)) ≡ a ++ ((note ++ 10 ∷ []) ++ slices.rest.bytes.now) =
    print_joined (with_note note p)
    ∙ ap (λ (t : List ℕ). t ++ (print_lines p.drawer ++ (note ++ 10 ∷ print_lines p.rest))) (sym are.planning)
    ∙ ap (λ (t : List ℕ). slices.planning.bytes.now ++ (t ++ (note ++ 10 ∷ print_lines p.rest))) (sym are.drawer)
    ∙ ap (λ (t : List ℕ). slices.planning.bytes.now ++ (slices.drawer.bytes.now ++ (note ++ 10 ∷ t))) (sym are.rest)
    ∙ sym (append_assoc slices.planning.bytes.now slices.drawer.bytes.now (note ++ 10 ∷ slices.rest.bytes.now))
    ∙ ap (λ (t : List ℕ). a ++ t) (sym (append_assoc note (10 ∷ []) slices.rest.bytes.now)) in
    let here : e.at ≡ length a = omega (arith, ap length parts, length-append a slices.rest.bytes.now) in
    gives_at e section a [] slices.rest.bytes.now (note ++ 10 ∷ []) (joined (with_note note p)) parts here removed bytes print

-- ---- a property in its drawer

-- putting into the whole is putting into what is left, after the lines that were passed
pub record PutsLater (name whole text : List ℕ) : Type 0 where
  pub passed : Passed whole text
  pub puts : (line : List ℕ) → put_before_end name line (lines_of whole) ≡ passed.before ++ put_before_end name line (lines_of text)

pub puts_none : (name whole : List ℕ) → PutsLater name whole whole
unfolding passed_none
puts_none name whole = record { passed = passed_none whole; puts = λ line. refl }

pub puts_line : (name whole text l rest : List ℕ) → PutsLater name whole text → BeginsWith text l rest → is_end l ≡ false → is_some (value_named name l) ≡ false → PutsLater name whole rest
unfolding passed_line
puts_line name whole text l rest p b other none = record {
  passed = passed_line whole text l rest p.passed b;
  puts = λ line.
      p.puts line
      ∙ ap (λ (ls : List (List ℕ)). p.passed.before ++ put_before_end name line ls) b.lines
      ∙ ap (λ (ls : List (List ℕ)). p.passed.before ++ ls) (let next : put_before_end name line (l ∷ lines_of rest) ≡ l ∷ put_before_end name line (lines_of rest) = rw (other, none) refl in next)
      ∙ sym (append_assoc p.passed.before (l ∷ []) (put_before_end name line (lines_of rest)));
}

named_now : (r : Option (Bor (List ℕ))) → is_some (option_map (λ v. v.now) r) ≡ is_some r
named_now None = refl
named_now (Some v) = refl

-- what the code's test says
pub named_test : (name l : List ℕ) (r : Option (Bor (List ℕ))) (b x : Bool) → option_map (λ v. v.now) r ≡ value_named name l → b ≡ is_some r → b ≡ x → is_some (value_named name l) ≡ x
named_test name l r b x is test was = ap is_some (sym is) ∙ named_now r ∙ sym test ∙ was

pub puts_here : (name whole text l rest : List ℕ) (place : Place) → PutsLater name whole text → terminated rest ≡ rest → BeginsWith text l rest → is_end l ≡ false → is_some (value_named name l) ≡ true
    → place.left.now ≡ text → place.removed ≡ length text - length rest → IsPlaceFor (λ line. put_before_end name line (lines_of whole)) whole place
puts_here name whole text l rest place p is b other found left removed = record {
  before = p.passed.before;
  old = l ∷ [];
  after = lines_of rest;
  whole = p.passed.bytes ∙ ap (λ (t : List ℕ). print_lines p.passed.before ++ t) (sym left);
  left = left ∙ b.bytes ∙ ap (λ (t : List ℕ). l ++ 10 ∷ t) (sym (print_lines-terminated rest is)) ∙ sym (append_assoc l (10 ∷ []) (print_lines (lines_of rest)));
  removed = removed ∙ (let long : length text - length rest ≡ length (l ++ 10 ∷ []) = omega (arith, ap length b.bytes, length-append l (10 ∷ rest), length-append l (10 ∷ [])) in long);
  gives = λ line.
      p.puts line
      ∙ ap (λ (ls : List (List ℕ)). p.passed.before ++ put_before_end name line ls) b.lines
      ∙ ap (λ (ls : List (List ℕ)). p.passed.before ++ ls) (let next : put_before_end name line (l ∷ lines_of rest) ≡ line ∷ lines_of rest = rw (other, found) refl in next);
}

pub puts_at_end : (name whole text l rest : List ℕ) (place : Place) → PutsLater name whole text → terminated text ≡ text → BeginsWith text l rest → is_end l ≡ true → place.left.now ≡ text → place.removed ≡ 0
    → IsPlaceFor (λ line. put_before_end name line (lines_of whole)) whole place
puts_at_end name whole text l rest place p is b end left removed = record {
  before = p.passed.before;
  old = [];
  after = lines_of text;
  whole = p.passed.bytes ∙ ap (λ (t : List ℕ). print_lines p.passed.before ++ t) (sym left);
  left = left ∙ sym (print_lines-terminated text is);
  removed = removed;
  gives = λ line.
      p.puts line
      ∙ ap (λ (ls : List (List ℕ)). p.passed.before ++ put_before_end name line ls) b.lines
      ∙ ap (λ (ls : List (List ℕ)). p.passed.before ++ ls) (let next : put_before_end name line (l ∷ lines_of rest) ≡ line ∷ l ∷ lines_of rest = rw end refl in next)
      ∙ ap (λ (ls : List (List ℕ)). p.passed.before ++ (line ∷ ls)) (sym b.lines);
}

pub puts_nowhere : (name whole text : List ℕ) (place : Place) → PutsLater name whole text → text ≡ [] → place.left.now ≡ text → place.removed ≡ 0 → IsPlaceFor (λ line. put_before_end name line (lines_of whole)) whole place
puts_nowhere name whole text place p none left removed = record {
  before = p.passed.before;
  old = [];
  after = [];
  whole = p.passed.bytes ∙ ap (λ (t : List ℕ). print_lines p.passed.before ++ t) (sym left);
  left = left ∙ none;
  removed = removed;
  gives = λ line. p.puts line ∙ ap (λ (t : List ℕ). p.passed.before ++ put_before_end name line (lines_of t)) none;
}

-- ---- a property in its section

pub new_drawer_gives : (e : Edit) (section name value : List ℕ) (slices : Sections) → terminated section ≡ section → AreSections slices (split (lines_of section)) → slices.drawer.bytes.now ≡ []
    → e.at ≡ length slices.planning.bytes.now → e.removed ≡ 0 → e.bytes ≡ codes ":PROPERTIES:\n" ++ (property_line name value ++ 10 ∷ []) ++ codes ":END:\n"
    → Rewrites e section (joined (put name value (split (lines_of section))))
new_drawer_gives e section name value slices whole are none at removed bytes =
    let p = split (lines_of section) in
    let l = property_line name value in
    let a = slices.planning.bytes.now in
    let c = slices.rest.bytes.now in
    let w = codes ":PROPERTIES:\n" ++ (l ++ 10 ∷ []) ++ codes ":END:\n" in
    let parts : section ≡ a ++ ([] ++ c) = section_bytes section slices whole are ∙ ap (λ (t : List ℕ). a ++ (t ++ c)) none in
    let empty : p.drawer ≡ [] = no_drawer section slices.drawer.bytes.now are.drawer none in
    let print : print_lines (joined (put name value p)) ≡ a ++ (w ++ c) =
    ap (λ (d : List (List ℕ)). print_lines (p.planning ++ (put_in_drawer name l d ++ p.rest))) empty
    ∙ print_lines-append p.planning (codes ":PROPERTIES:" ∷ l ∷ codes ":END:" ∷ p.rest)
    ∙ ap (λ (t : List ℕ). t ++ (codes ":PROPERTIES:\n" ++ (l ++ 10 ∷ (codes ":END:\n" ++ print_lines p.rest)))) (sym are.planning)
    ∙ ap (λ (t : List ℕ). a ++ (codes ":PROPERTIES:\n" ++ (l ++ 10 ∷ (codes ":END:\n" ++ t)))) (sym are.rest)
    ∙ ap (λ (t : List ℕ). a ++ (codes ":PROPERTIES:\n" ++ t)) (sym (append_assoc l (10 ∷ []) (codes ":END:\n" ++ c)) ∙ sym (append_assoc (l ++ 10 ∷ []) (codes ":END:\n") c)) in
    gives_at e section a [] c w (joined (put name value p)) parts at removed bytes print

pub put_gives : (e : Edit) (section name value start properties : List ℕ) (slices : Sections) (place : Place) → terminated section ≡ section → AreSections slices (split (lines_of section))
    → BeginsWith slices.drawer.bytes.now start properties → IsPlaceFor (λ line. put_before_end name line (lines_of properties)) properties place
    → e.at ≡ length section - length slices.rest.bytes.now - length place.left.now → e.removed ≡ place.removed → e.bytes ≡ property_line name value ++ 10 ∷ []
    → Rewrites e section (joined (put name value (split (lines_of section))))
put_gives e section name value start properties slices place whole are b is at removed bytes =
    let p = split (lines_of section) in
    let l = property_line name value in
    let head = slices.planning.bytes.now ++ (start ++ 10 ∷ print_lines is.before) in
    let old = print_lines is.old in
    let after = print_lines is.after in
    let c = slices.rest.bytes.now in
    let drawer : slices.drawer.bytes.now ≡ start ++ 10 ∷ (print_lines is.before ++ (old ++ after)) =
    b.bytes ∙ ap (λ (t : List ℕ). start ++ 10 ∷ t) (is.whole ∙ ap (λ (t : List ℕ). print_lines is.before ++ t) is.left) in
    let grouped : slices.planning.bytes.now ++ ((start ++ 10 ∷ (print_lines is.before ++ (old ++ after))) ++ c) ≡ head ++ (old ++ (after ++ c)) = simp append_assoc in
    let parts : section ≡ head ++ (old ++ (after ++ c)) =
    section_bytes section slices whole are ∙ ap (λ (t : List ℕ). slices.planning.bytes.now ++ (t ++ c)) drawer ∙ grouped in
    let lines : p.drawer ≡ start ∷ lines_of properties = sym (drawer_is section slices are) ∙ b.lines in
    let shape : print_lines (p.planning ++ ((start ∷ (is.before ++ (l ∷ is.after))) ++ p.rest)) ≡ print_lines p.planning ++ (start ++ 10 ∷ (print_lines is.before ++ (l ++ 10 ∷ (after ++ print_lines p.rest)))) =
    simp (print_lines-append, append_assoc) in
    let back : slices.planning.bytes.now ++ (start ++ 10 ∷ (print_lines is.before ++ (l ++ 10 ∷ (after ++ c)))) ≡ head ++ ((l ++ 10 ∷ []) ++ (after ++ c)) = simp append_assoc in
    let print : print_lines (joined (put name value p)) ≡ head ++ ((l ++ 10 ∷ []) ++ (after ++ c)) =
    ap (λ (d : List (List ℕ)). print_lines (p.planning ++ (put_in_drawer name l d ++ p.rest))) lines
    ∙ ap (λ (d : List (List ℕ)). print_lines (p.planning ++ ((start ∷ d) ++ p.rest))) (is.gives l)
    ∙ shape
    ∙ ap (λ (t : List ℕ). t ++ (start ++ 10 ∷ (print_lines is.before ++ (l ++ 10 ∷ (after ++ print_lines p.rest))))) (sym are.planning)
    ∙ ap (λ (t : List ℕ). slices.planning.bytes.now ++ (start ++ 10 ∷ (print_lines is.before ++ (l ++ 10 ∷ (after ++ t))))) (sym are.rest)
    ∙ back in
    let long : length section ≡ length head + (length old + (length after + length c)) = ap length parts ∙ length-append head (old ++ (after ++ c)) ∙ ap (λ n. length head + n) (length-append old (after ++ c) ∙ ap (λ n. length old + n) (length-append after c)) in
    let left : length place.left.now ≡ length old + length after = ap length is.left ∙ length-append old after in
    let here : e.at ≡ length head = omega arith in
    gives_at e section head old (after ++ c) (l ++ 10 ∷ []) (joined (put name value p)) parts here (removed ∙ is.removed) bytes print

pub left_below : (section start properties : List ℕ) (slices : Sections) (result : List ℕ → List (List ℕ)) (place : Place) → terminated section ≡ section → AreSections slices (split (lines_of section))
    → BeginsWith slices.drawer.bytes.now start properties → IsPlaceFor result properties place → length place.left.now ≤ length section - length slices.rest.bytes.now
left_below section start properties slices result place whole are b is =
    omega (
      arith,
      ap length (section_bytes section slices whole are),
      length-append slices.planning.bytes.now (slices.drawer.bytes.now ++ slices.rest.bytes.now),
      length-append slices.drawer.bytes.now slices.rest.bytes.now,
      ap length b.bytes,
      length-append start (10 ∷ properties),
      ap length is.whole,
      length-append (print_lines is.before) place.left.now,
    )
