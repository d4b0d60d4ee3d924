-- A property that was put is read.
use Rattle.std.proofs.Common.{◌≡◌, ℕ, suc, ◌-◌, ◌<◌, ◌≤◌, Bool, true, false, ◌&&◌, eqb, Option, Some, None, List, [], ◌∷◌, ◌++◌, length, take, drop, get_or, map, refl, sym, ap, ◌∙◌, arith, inl, inr, append_assoc, length-append}
use Rattle.std.specs.Prelude.{codes, is_some, not, ◌==◌, if◌then◌else◌}
use Rattle.std.specs.Str.{str_eq_ignore_ascii_case}
use Rattle.std.specs.Char.{to_ascii_lowercase}
use Rattle.std.specs.List.{prefix_len, list_all}
use Rattle.std.proofs.Math.Dec.{eqb-suc-zero}
use Rattle.std.proofs.lemmas.Bool.{cases_Bool, false≢true}
use Rattle.std.proofs.lemmas.Bool.Decides.{nat_tests}
use Rattle.std.proofs.lemmas.List.{take_at}
use Rattle.std.proofs.lemmas.List.Folds.{list_all-append}
use Rattle.std.proofs.lemmas.Slice.Eq.{bytes_eq-Decides}
use Rattle.org_splice.specs.Blanks.{is_blank, is_trailing, is_solid, front, behind, trimmed_end, trimmed}
use Rattle.org_splice.proofs.Ends.{both}
use Rattle.org_meta.specs.Sections.{SectionParts, NodeProperty, is_name_run, is_end, is_drawer_start, property_of, is_property_name, value_if_named, value_named, value_before_end, property, property_line, put_before_end, put_in_drawer, put}
use Rattle.org_stamp.specs.Calendar.{Moment}
use Rattle.org_meta.specs.Moments.{moment_text}
use Rattle.org_meta.specs.Notes.{quoted, note_line}
use Rattle.org_meta.proofs.Trims.{behind_front, front_front, behind_step, trim_all, trim_more, trim_behind, trim_either}

-- ---- a mark is no end where its name is none

left_over : (name w : List ℕ) → map to_ascii_lowercase (name ++ 58 ∷ w) ≡ [] → ⊥
left_over [] w e = absurd cc
left_over (x ∷ name) w e = absurd cc

head_is : (b c : ℕ) (xs ys : List ℕ) → b ∷ xs ≡ c ∷ ys → b ≡ c
head_is b c xs ys e = cc

tail_is : (b c : ℕ) (xs ys : List ℕ) → b ∷ xs ≡ c ∷ ys → xs ≡ ys
tail_is b c xs ys e = cc

colon_is : (c : ℕ) (xs ys : List ℕ) → 58 ∷ xs ≡ c ∷ ys → 58 < c → ⊥
colon_is c xs ys e lt = let h = head_is 58 c xs ys e in omega (arith, h)

end_name : (name w : List ℕ) → map to_ascii_lowercase (name ++ 58 ∷ w) ≡ 101 ∷ 110 ∷ 100 ∷ 58 ∷ [] → map to_ascii_lowercase name ≡ 101 ∷ 110 ∷ 100 ∷ []
end_name [] w e = absurd (colon_is 101 _ _ e (omega arith))
end_name (a ∷ []) w e = absurd (colon_is 110 _ _ (tail_is _ _ _ _ e) (omega arith))
end_name (a ∷ b ∷ []) w e = absurd (colon_is 100 _ _ (tail_is _ _ _ _ (tail_is _ _ _ _ e)) (omega arith))
end_name (a ∷ b ∷ c ∷ []) w e = cc
end_name (a ∷ b ∷ c ∷ d ∷ name) w e = let h : map to_ascii_lowercase (name ++ 58 ∷ w) ≡ [] = cc in absurd (left_over name w h)

mark_trimmed : (name tail : List ℕ) → trimmed (58 ∷ (name ++ 58 ∷ tail)) ≡ 58 ∷ (name ++ 58 ∷ trimmed_end tail)
mark_trimmed name tail = trim_behind is_trailing (58 ∷ name) 58 tail refl

no_end : (name tail : List ℕ) → str_eq_ignore_ascii_case name (codes "END") ≡ false → is_end (58 ∷ (name ++ 58 ∷ tail)) ≡ false
no_end name tail other =
    elim (cases_Bool (is_end (58 ∷ (name ++ 58 ∷ tail)))) [
      | inl end ↦
          let same : str_eq_ignore_ascii_case (58 ∷ (name ++ 58 ∷ trimmed_end tail)) (codes ":END:") ≡ true =
          ap (λ t. str_eq_ignore_ascii_case t (codes ":END:")) (sym (mark_trimmed name tail)) ∙ end in
          let bytes = (bytes_eq-Decides (map to_ascii_lowercase (58 ∷ (name ++ 58 ∷ trimmed_end tail))) (map to_ascii_lowercase (codes ":END:"))).0 same in
          let is_name = end_name name (trimmed_end tail) (tail_is _ _ _ _ bytes) in
          absurd (false≢true (sym other ∙ (bytes_eq-Decides (map to_ascii_lowercase name) (map to_ascii_lowercase (codes "END"))).1 is_name))
      | inr none ↦ none
    ]

-- ---- what a mark with a name and a value says

last_at : (xs : List ℕ) → get_or (xs ++ 58 ∷ []) (length (xs ++ 58 ∷ []) - 1) 0 ≡ 58
last_at [] = refl
last_at (x ∷ []) = refl
last_at (x ∷ y ∷ xs) =
    let n : length (x ∷ ((y ∷ xs) ++ 58 ∷ [])) - 1 ≡ suc (length ((y ∷ xs) ++ 58 ∷ []) - 1) = omega (arith, length-append xs (58 ∷ [])) in
    ap (λ k. get_or (x ∷ ((y ∷ xs) ++ 58 ∷ [])) k 0) n ∙ last_at (y ∷ xs)

named_run : (n : ℕ) (ns : List ℕ) → is_name_run (58 ∷ ((n ∷ ns) ++ 58 ∷ [])) ≡ true
named_run n ns =
    let run = 58 ∷ ((n ∷ ns) ++ 58 ∷ []) in
    let long : 3 ≤ length run = omega (arith, length-append ns (58 ∷ [])) in
    let last : get_or run (length run - 1) 0 ≡ 58 = last_at (58 ∷ n ∷ ns) in
    grind (arith, nat_tests)

read_run : (n : ℕ) (ns line w : List ℕ) → trimmed line ≡ (58 ∷ ((n ∷ ns) ++ 58 ∷ [])) ++ w → list_all is_solid (n ∷ ns) ≡ true → prefix_len is_solid w ≡ 0 → property_of line ≡ Some (record { name = n ∷ ns; value = behind is_blank w })
read_run n ns line w is solid ends =
    let run = 58 ∷ ((n ∷ ns) ++ 58 ∷ []) in
    let all : list_all is_solid run ≡ true = list_all-append is_solid (n ∷ ns) (58 ∷ []) ∙ ap (λ b. b && true) solid in
    let first : front is_solid (trimmed line) ≡ run = ap (front is_solid) is ∙ front_front is_solid run w all ends in
    let last : behind is_solid (trimmed line) ≡ w = ap (behind is_solid) is ∙ behind_front is_solid run w all ends in
    let size : length run - 2 ≡ length (n ∷ ns) = omega (arith, length-append ns (58 ∷ [])) in
    let name : take (length run - 2) (drop 1 run) ≡ n ∷ ns = take_at (n ∷ ns) (58 ∷ []) (length run - 2) (sym size) in
    let P : List ℕ → List ℕ → Option NodeProperty = λ r v. if is_name_run r then Some (record { name = take (length r - 2) (drop 1 r); value = behind is_blank v }) else None in
    ap (λ r. P r (behind is_solid (trimmed line))) first ∙ ap (P run) last
    ∙ rw (named_run n ns) (ap (λ (m : List ℕ). Some (record { name = m; value = behind is_blank w })) name)

blank_ends : (value : List ℕ) → prefix_len is_solid (trimmed_end (32 ∷ value)) ≡ 0
blank_ends value =
    elim (cases_Bool (list_all is_trailing (32 ∷ value))) [
      | inl all ↦ ap (prefix_len is_solid) (trim_all is_trailing (32 ∷ value) all)
      | inr some ↦ ap (prefix_len is_solid) (trim_more is_trailing 32 value some)
    ]

pub property_read : (n : ℕ) (ns value : List ℕ) → list_all is_solid (n ∷ ns) ≡ true → property_of (property_line (n ∷ ns) value) ≡ Some (record { name = n ∷ ns; value = trimmed value })
property_read n ns [] solid = read_run n ns (property_line (n ∷ ns) []) [] (mark_trimmed (n ∷ ns) [] ∙ ap (λ (t : List ℕ). 58 ∷ t) (sym (append_assoc (n ∷ ns) (58 ∷ []) []))) solid refl
property_read n ns (v ∷ vs) solid =
    let value = v ∷ vs in
    let some : eqb (length value) 0 ≡ false = eqb-suc-zero (length vs) in
    let line : property_line (n ∷ ns) value ≡ 58 ∷ ((n ∷ ns) ++ (58 ∷ 32 ∷ value)) = rw some refl in
    let w = trimmed_end (32 ∷ value) in
    let is : trimmed (property_line (n ∷ ns) value) ≡ (58 ∷ ((n ∷ ns) ++ 58 ∷ [])) ++ w =
    ap trimmed line ∙ mark_trimmed (n ∷ ns) (32 ∷ value) ∙ ap (λ (t : List ℕ). 58 ∷ t) (sym (append_assoc (n ∷ ns) (58 ∷ []) w)) in
    read_run n ns (property_line (n ∷ ns) value) w is solid (blank_ends value)
    ∙ ap (λ (t : List ℕ). Some (record { name = n ∷ ns; value = t })) (trim_either (32 ∷ value) ∙ ap trimmed_end (behind_step is_blank 32 value refl))

no_end_line : (name value : List ℕ) → str_eq_ignore_ascii_case name (codes "END") ≡ false → is_end (property_line name value) ≡ false
no_end_line name [] other = no_end name [] other
no_end_line name (v ∷ vs) other =
    let some : eqb (length (v ∷ vs)) 0 ≡ false = eqb-suc-zero (length vs) in
    let line : property_line name (v ∷ vs) ≡ 58 ∷ (name ++ (58 ∷ 32 ∷ v ∷ vs)) = rw some refl in
    ap is_end line ∙ no_end name (32 ∷ v ∷ vs) other

-- ---- in a drawer

pub value_here : (name line : List ℕ) (ls : List (List ℕ)) → is_end line ≡ false → is_some (value_named name line) ≡ true → value_before_end name (line ∷ ls) ≡ value_named name line
value_here name line ls other some = rw (other, some) refl

value_later : (name l : List ℕ) (ls : List (List ℕ)) → is_end l ≡ false → is_some (value_named name l) ≡ false → value_before_end name (l ∷ ls) ≡ value_before_end name ls
value_later name l ls other none = rw (other, none) refl

put_at_end : (name line l : List ℕ) (ls : List (List ℕ)) → is_end l ≡ true → put_before_end name line (l ∷ ls) ≡ line ∷ l ∷ ls
put_at_end name line l ls end = rw end refl

put_there : (name line l : List ℕ) (ls : List (List ℕ)) → is_end l ≡ false → is_some (value_named name l) ≡ true → put_before_end name line (l ∷ ls) ≡ line ∷ ls
put_there name line l ls other found = rw (other, found) refl

put_later : (name line l : List ℕ) (ls : List (List ℕ)) → is_end l ≡ false → is_some (value_named name l) ≡ false → put_before_end name line (l ∷ ls) ≡ l ∷ put_before_end name line ls
put_later name line l ls other none = rw (other, none) refl

value_put : (name line : List ℕ) (ls : List (List ℕ)) → is_end line ≡ false → is_some (value_named name line) ≡ true → value_before_end name (put_before_end name line ls) ≡ value_named name line
value_put name line [] other some = value_here name line [] other some
value_put name line (l ∷ ls) other some =
    elim (cases_Bool (is_end l)) [
      | inl end ↦ ap (value_before_end name) (put_at_end name line l ls end) ∙ value_here name line (l ∷ ls) other some
      | inr inside ↦
          elim (cases_Bool (is_some (value_named name l))) [
            | inl found ↦ ap (value_before_end name) (put_there name line l ls inside found) ∙ value_here name line ls other some
            | inr none ↦
                ap (value_before_end name) (put_later name line l ls inside none) ∙ value_later name l (put_before_end name line ls) inside none
                ∙ value_put name line ls other some
          ]
    ]

drawer_put : (name line : List ℕ) (drawer : List (List ℕ)) → is_end line ≡ false → is_some (value_named name line) ≡ true → value_before_end name (drop 1 (put_in_drawer name line drawer)) ≡ value_named name line
drawer_put name line [] other some = value_here name line (codes ":END:" ∷ []) other some
drawer_put name line (start ∷ ls) other some = value_put name line ls other some

not_true : (b : Bool) → not b ≡ true → b ≡ false
not_true true e = absurd (false≢true e)
not_true false e = refl

pub put_is_read : (name value : List ℕ) (parts : SectionParts) → is_property_name name ≡ true → property name (put name value parts) ≡ Some (trimmed value)
put_is_read [] value parts good = absurd (false≢true good)
put_is_read (n ∷ ns) value parts good =
    let name = n ∷ ns in
    let a = both (not (length name == 0) && list_all is_solid name) (not (str_eq_ignore_ascii_case name (codes "END"))) good in
    let b = both (not (length name == 0)) (list_all is_solid name) a.0 in
    let other = no_end_line name value (not_true (str_eq_ignore_ascii_case name (codes "END")) a.1) in
    let itself : str_eq_ignore_ascii_case name name ≡ true = (bytes_eq-Decides (map to_ascii_lowercase name) (map to_ascii_lowercase name)).1 refl in
    let mine : value_if_named name (Some (record { name = name; value = trimmed value })) ≡ Some (trimmed value) = rw itself refl in
    let says : value_named name (property_line name value) ≡ Some (trimmed value) = ap (value_if_named name) (property_read n ns value b.1) ∙ mine in
    drawer_put name (property_line name value) parts.drawer other (ap is_some says) ∙ says

-- what a line of a property says, for a second split
pub line_said : (name value : List ℕ) → is_property_name name ≡ true → (is_end (property_line name value) ≡ false) × (is_some (property_of (property_line name value)) ≡ true)
line_said [] value good = absurd (false≢true good)
line_said (n ∷ ns) value good =
    let name = n ∷ ns in
    let a = both (not (length name == 0) && list_all is_solid name) (not (str_eq_ignore_ascii_case name (codes "END"))) good in
    let b = both (not (length name == 0)) (list_all is_solid name) a.0 in
    (no_end_line name value (not_true (str_eq_ignore_ascii_case name (codes "END")) a.1), ap is_some (property_read n ns value b.1))

-- a line that begins with `-` starts no drawer
dash_starts_none : (more : List ℕ) → is_drawer_start (45 ∷ more) ≡ false
dash_starts_none more = ap (λ t. str_eq_ignore_ascii_case t (codes ":PROPERTIES:")) (trim_behind is_trailing [] 45 more refl)

pub note_starts_none : (new old : List ℕ) (now : Moment) → is_drawer_start (note_line new old now) ≡ false
note_starts_none new old now = dash_starts_none (codes " State " ++ (quoted new ++ (codes " from " ++ (quoted old ++ (32 ∷ moment_text now)))))
