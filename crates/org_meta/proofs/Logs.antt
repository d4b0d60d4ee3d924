-- Lines put into LOGBOOK drawers.
use Rattle.std.proofs.Common.{◌≡◌, ℕ, ◌+◌, ◌-◌, ◌≤◌, true, false, Bool, ◌&&◌, ◌||◌, Option, Some, None, List, [], ◌∷◌, ◌++◌, length, refl, sym, ap, ◌∙◌, arith, append_assoc, length-append}
use Rattle.std.proofs.lemmas.Grind.{common_steps}
use Rattle.std.specs.Prelude.{codes}
use Rattle.std.specs.List.{list_any}
use Rattle.std.specs.Option.{option_map, unwrap_or}
use Rattle.org_splice.specs.Lines.{terminated, print_lines, lines_of, IsLine}
use Rattle.org_splice.specs.declared.edit.Edit.{Edit}
use Rattle.org_stamp.specs.Calendar.{Moment}
use Rattle.org_meta.specs.declared.parts.Sections.{Sections}
use Rattle.org_meta.specs.declared.lines.Place.{Place}
use Rattle.org_meta.specs.Lines.{BeginsWith}
use Rattle.org_meta.specs.Edits.{Rewrites}
use Rattle.org_meta.specs.Edits.{IsPlaceFor}
use Rattle.org_meta.specs.Sections.{SectionParts, AreSections, split, joined, is_end, planning_size}
use Rattle.org_meta.specs.Clocking.{is_logbook, in_logbook, logged, clock_line, opened}
use Rattle.org_splice.proofs.Lines.{print_lines-append, lines_of-lines}
use Rattle.org_splice.proofs.AllLines.{AllByRecursion-drop}
use Rattle.org_meta.proofs.Walk.{Passed, passed_none, passed_line, print_lines-terminated}
use Rattle.org_meta.proofs.Puts.{gives_at, section_bytes, rest_below}
use Rattle.org_meta.proofs.Drawers.{part_lines}

pub record LogLater (whole text : List ℕ) : Type 0 where
  pub passed : Passed whole text
  pub log : (line : List ℕ) → in_logbook line (lines_of whole) ≡ option_map (λ ls. passed.before ++ ls) (in_logbook line (lines_of text))

behind_nothing : (o : Option (List (List ℕ))) → o ≡ option_map (λ ls. [] ++ ls) o
behind_nothing None = refl
behind_nothing (Some ls) = refl

behind_more : (before : List (List ℕ)) (l : List ℕ) (o : Option (List (List ℕ))) → option_map (λ ls. before ++ ls) (option_map (λ ls. l ∷ ls) o) ≡ option_map (λ ls. (before ++ l ∷ []) ++ ls) o
behind_more before l None = refl
behind_more before l (Some ls) = ap (λ (ls : List (List ℕ)). Some ls) (sym (append_assoc before (l ∷ []) ls))

pub log_none : (whole : List ℕ) → LogLater whole whole
unfolding passed_none
log_none whole = record { passed = passed_none whole; log = λ line. behind_nothing (in_logbook line (lines_of whole)) }

pub log_line : (whole text l rest : List ℕ) → LogLater whole text → BeginsWith text l rest → is_logbook l ≡ false → LogLater whole rest
unfolding passed_line
log_line whole text l rest p b other = record {
  passed = passed_line whole text l rest p.passed b;
  log = λ line.
      let next : in_logbook line (l ∷ lines_of rest) ≡ option_map (λ ls. l ∷ ls) (in_logbook line (lines_of rest)) = rw other refl in
      p.log line ∙ ap (λ (ls : List (List ℕ)). option_map (λ ms. p.passed.before ++ ms) (in_logbook line ls)) b.lines
      ∙ ap (option_map (λ (ms : List (List ℕ)). p.passed.before ++ ms)) next ∙ behind_more p.passed.before l (in_logbook line (lines_of rest));
}

pub log_here : (whole text l rest : List ℕ) (place : Place) → LogLater whole text → terminated rest ≡ rest → BeginsWith text l rest → is_logbook l ≡ true → list_any is_end (lines_of rest) ≡ true → place.left.now ≡ rest → place.removed ≡ 0
    → IsPlaceFor (λ line. logged line (lines_of whole)) whole place
unfolding passed_line
log_here whole text l rest place p is b start ends left removed =
    let next = passed_line whole text l rest p.passed b in
    record {
      before = p.passed.before ++ l ∷ [];
      old = [];
      after = lines_of rest;
      whole = next.bytes ∙ ap (λ (t : List ℕ). print_lines (p.passed.before ++ l ∷ []) ++ t) (sym left);
      left = left ∙ sym (print_lines-terminated rest is);
      removed = removed;
      gives = λ line.
          let here : in_logbook line (l ∷ lines_of rest) ≡ Some (l ∷ line ∷ lines_of rest) = rw (start, ends) refl in
          let all : in_logbook line (lines_of whole) ≡ Some (p.passed.before ++ (l ∷ line ∷ lines_of rest)) =
          p.log line ∙ ap (λ (ls : List (List ℕ)). option_map (λ ms. p.passed.before ++ ms) (in_logbook line ls)) b.lines
          ∙ ap (option_map (λ (ms : List (List ℕ)). p.passed.before ++ ms)) here in
          ap (λ (o : Option (List (List ℕ))). unwrap_or o (codes ":LOGBOOK:" ∷ line ∷ codes ":END:" ∷ lines_of whole)) all
          ∙ sym (append_assoc p.passed.before (l ∷ []) (line ∷ lines_of rest));
    }

-- with no `:END:` there is no drawer
and_false : (x : Bool) → x && false ≡ false
and_false true = refl
and_false false = refl

or_right : (x y : Bool) → x || y ≡ false → y ≡ false
or_right true y e = absurd cc
or_right false y e = e

no_end : (line : List ℕ) (ls : List (List ℕ)) → list_any is_end ls ≡ false → in_logbook line ls ≡ None
no_end line [] none = refl
no_end line (l ∷ ls) none =
    let later : list_any is_end ls ≡ false = or_right (is_end l) (list_any is_end ls) none in
    rw (later, and_false (is_logbook l)) (ap (option_map (λ (ms : List (List ℕ)). l ∷ ms)) (no_end line ls later))

pub log_unended : (whole text l rest line : List ℕ) → LogLater whole text → BeginsWith text l rest → list_any is_end (lines_of rest) ≡ false → in_logbook line (lines_of whole) ≡ None
log_unended whole text l rest line p b none = grind (arith, common_steps, and_false, no_end)

-- ---- in its section

print_opened : (parts : SectionParts) (rest : List (List ℕ)) → print_lines (joined (record parts { rest = rest })) ≡ print_lines parts.planning ++ (print_lines parts.drawer ++ print_lines rest)
print_opened parts rest = print_lines-append parts.planning (parts.drawer ++ rest) ∙ ap (λ (t : List ℕ). print_lines parts.planning ++ t) (print_lines-append parts.drawer rest)

-- an edit of the rest is one of the section
pub rest_gives : (e : Edit) (section a b c w : List ℕ) (slices : Sections) (rest : List (List ℕ)) → terminated section ≡ section → AreSections slices (split (lines_of section)) → slices.rest.bytes.now ≡ a ++ (b ++ c)
    → e.at + (length b + length c) ≡ length section → e.removed ≡ length b → e.bytes ≡ w → print_lines rest ≡ a ++ (w ++ c)
    → Rewrites e section (joined (record (split (lines_of section)) { rest = rest }))
rest_gives e section a b c w slices rest whole are old at removed bytes new =
    let p = split (lines_of section) in
    let head = slices.planning.bytes.now ++ (slices.drawer.bytes.now ++ a) in
    let grouped : (t : List ℕ) → slices.planning.bytes.now ++ (slices.drawer.bytes.now ++ (a ++ t)) ≡ head ++ t = λ t. simp append_assoc in
    let parts : section ≡ head ++ (b ++ c) =
    section_bytes section slices whole are ∙ ap (λ (t : List ℕ). slices.planning.bytes.now ++ (slices.drawer.bytes.now ++ t)) old ∙ grouped (b ++ c) in
    let print : print_lines (joined (record p { rest = rest })) ≡ head ++ (w ++ c) =
    print_opened p rest
    ∙ ap (λ (t : List ℕ). t ++ (print_lines p.drawer ++ print_lines rest)) (sym are.planning)
    ∙ ap (λ (t : List ℕ). slices.planning.bytes.now ++ (t ++ print_lines rest)) (sym are.drawer)
    ∙ ap (λ (t : List ℕ). slices.planning.bytes.now ++ (slices.drawer.bytes.now ++ t)) new
    ∙ grouped (w ++ c) in
    let here : e.at ≡ length head = omega (arith, ap length parts, length-append head (b ++ c), length-append b c) in
    gives_at e section head b c w (joined (record p { rest = rest })) parts here removed bytes print

-- the lines of the rest
pub rest_lines : (section : List ℕ) (slices : Sections) → AreSections slices (split (lines_of section)) → lines_of slices.rest.bytes.now ≡ (split (lines_of section)).rest
rest_lines section slices are = part_lines (split (lines_of section)).rest slices.rest.bytes.now (AllByRecursion-drop IsLine _ _ (AllByRecursion-drop IsLine (planning_size (lines_of section)) (lines_of section) (lines_of-lines section))) are.rest

pub opened_gives : (e : Edit) (section : List ℕ) (now : Moment) (slices : Sections) (place : Place) → terminated section ≡ section → AreSections slices (split (lines_of section))
    → IsPlaceFor (λ line. logged line (lines_of slices.rest.bytes.now)) slices.rest.bytes.now place
    → e.at ≡ length section - length place.left.now → e.removed ≡ place.removed → e.bytes ≡ clock_line now ++ 10 ∷ []
    → Rewrites e section (joined (opened now (split (lines_of section))))
opened_gives e section now slices place whole are is at removed bytes =
    let p = split (lines_of section) in
    let l = clock_line now in
    let a = print_lines is.before in
    let b = print_lines is.old in
    let c = print_lines is.after in
    let old : slices.rest.bytes.now ≡ a ++ (b ++ c) = is.whole ∙ ap (λ (t : List ℕ). a ++ t) is.left in
    let new : print_lines (logged l p.rest) ≡ a ++ ((l ++ 10 ∷ []) ++ c) =
    ap (λ ls. print_lines (logged l ls)) (sym (rest_lines section slices are)) ∙ ap print_lines (is.gives l)
    ∙ print_lines-append is.before (l ∷ is.after) ∙ ap (λ (t : List ℕ). a ++ t) (sym (append_assoc l (10 ∷ []) c)) in
    let here : e.at + (length b + length c) ≡ length section =
    omega (
      arith,
      ap length is.left,
      length-append b c,
      ap length (section_bytes section slices whole are),
      length-append slices.planning.bytes.now (slices.drawer.bytes.now ++ slices.rest.bytes.now),
      length-append slices.drawer.bytes.now slices.rest.bytes.now,
      ap length is.whole,
      length-append a place.left.now,
    ) in
    rest_gives e section a b c (l ++ 10 ∷ []) slices (logged l p.rest) whole are old here (removed ∙ is.removed) bytes new

pub new_log_gives : (e : Edit) (section : List ℕ) (now : Moment) (slices : Sections) → terminated section ≡ section → AreSections slices (split (lines_of section))
    → ((line : List ℕ) → in_logbook line (lines_of slices.rest.bytes.now) ≡ None)
    → e.at ≡ length section - length slices.rest.bytes.now → e.removed ≡ 0 → e.bytes ≡ codes ":LOGBOOK:\n" ++ (clock_line now ++ 10 ∷ []) ++ codes ":END:\n"
    → Rewrites e section (joined (opened now (split (lines_of section))))
new_log_gives e section now slices whole are none at removed bytes =
    let p = split (lines_of section) in
    let l = clock_line now in
    let c = slices.rest.bytes.now in
    let made : logged l p.rest ≡ codes ":LOGBOOK:" ∷ l ∷ codes ":END:" ∷ p.rest =
    ap (λ (o : Option (List (List ℕ))). unwrap_or o (codes ":LOGBOOK:" ∷ l ∷ codes ":END:" ∷ p.rest)) (ap (in_logbook l) (sym (rest_lines section slices are)) ∙ none l) in
    let new : print_lines (logged l p.rest) ≡ [] ++ ((codes ":LOGBOOK:\n" ++ (l ++ 10 ∷ []) ++ codes ":END:\n") ++ c) =
    ap print_lines made ∙ ap (λ (t : List ℕ). codes ":LOGBOOK:\n" ++ (l ++ 10 ∷ (codes ":END:\n" ++ t))) (sym are.rest)
    ∙ ap (λ (t : List ℕ). codes ":LOGBOOK:\n" ++ t) (sym (append_assoc l (10 ∷ []) (codes ":END:\n" ++ c)) ∙ sym (append_assoc (l ++ 10 ∷ []) (codes ":END:\n") c)) in
    let below = rest_below section slices whole are in
    let here : e.at + (0 + length c) ≡ length section = omega arith in
    rest_gives e section [] [] c (codes ":LOGBOOK:\n" ++ (l ++ 10 ∷ []) ++ codes ":END:\n") slices (logged l p.rest) whole are refl here removed bytes new

pub log_below : (section : List ℕ) (slices : Sections) (result : List ℕ → List (List ℕ)) (place : Place) → terminated section ≡ section → AreSections slices (split (lines_of section)) → IsPlaceFor result slices.rest.bytes.now place → length place.left.now ≤ length section
log_below section slices result place whole are is =
    let below = rest_below section slices whole are in
    omega (arith, ap length is.whole, length-append (print_lines is.before) place.left.now)
