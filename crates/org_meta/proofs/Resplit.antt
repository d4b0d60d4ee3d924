-- A section that was edited is split again as it was edited.
use Rattle.std.proofs.Common.{◌≡◌, ℕ, suc, true, false, Option, Some, None, List, [], ◌∷◌, ◌++◌, length, take, drop, refl, sym, ap, subst, ◌∙◌, arith, inl, inr, take-append-drop}
use Rattle.std.specs.Prelude.{is_some, codes}
use Rattle.std.specs.Option.{option_map, option_map_or}
use Rattle.std.proofs.lemmas.Bool.{cases_Bool}
use Rattle.std.proofs.lemmas.List.{take_at, drop_at, append-nil}
use Rattle.org_meta.specs.Sections.{SectionParts, split, joined, is_planning, planning_size, is_drawer_start, drawer_size, is_end, property_of, size_to_end, value_named, put_before_end, put_in_drawer}
use Rattle.org_meta.specs.Notes.{with_note}
use Rattle.org_meta.specs.Resplits.{with_drawer_line}

-- lines that are split as they were joined
pub resplit : (p : SectionParts) → planning_size (joined p) ≡ length p.planning → drawer_size (p.drawer ++ p.rest) ≡ length p.drawer → split (joined p) ≡ p
resplit p first second =
    let make : List (List ℕ) → List (List ℕ) → List (List ℕ) → SectionParts = λ x y z. record { planning = x; drawer = y; rest = z } in
    let below : drop (planning_size (joined p)) (joined p) ≡ p.drawer ++ p.rest = ap (λ n. drop n (joined p)) first ∙ drop_at p.planning (p.drawer ++ p.rest) (length p.planning) refl in
    let front : take (planning_size (joined p)) (joined p) ≡ p.planning = ap (λ n. take n (joined p)) first ∙ take_at p.planning (p.drawer ++ p.rest) (length p.planning) refl in
    let drawer : take (drawer_size (p.drawer ++ p.rest)) (p.drawer ++ p.rest) ≡ p.drawer = ap (λ n. take n (p.drawer ++ p.rest)) second ∙ take_at p.drawer p.rest (length p.drawer) refl in
    let rest : drop (drawer_size (p.drawer ++ p.rest)) (p.drawer ++ p.rest) ≡ p.rest = ap (λ n. drop n (p.drawer ++ p.rest)) second ∙ drop_at p.drawer p.rest (length p.drawer) refl in
    ap (λ x. make x (take (drawer_size (drop (planning_size (joined p)) (joined p))) (drop (planning_size (joined p)) (joined p))) (drop (drawer_size (drop (planning_size (joined p)) (joined p))) (drop (planning_size (joined p)) (joined p)))) front
    ∙ ap (λ t. make p.planning (take (drawer_size t) t) (drop (drawer_size t) t)) below
    ∙ ap (λ y. make p.planning y (drop (drawer_size (p.drawer ++ p.rest)) (p.drawer ++ p.rest))) drawer
    ∙ ap (λ z. make p.planning p.drawer z) rest

-- ---- a drawer, whatever follows it

-- the lines up to the end, and what is said of them
pub record IsBody (body : List (List ℕ)) : Type 0 where
  pub ends : (rest : List (List ℕ)) → size_to_end (body ++ rest) ≡ Some (length body)

body_end : (l : List ℕ) → is_end l ≡ true → IsBody (l ∷ [])
body_end l end = record { ends = λ rest. rw end refl }

body_more : (l : List ℕ) (body : List (List ℕ)) → is_end l ≡ false → is_some (property_of l) ≡ true → IsBody body → IsBody (l ∷ body)
body_more l body other property b = record {
  ends = λ rest.
      let next : size_to_end (l ∷ (body ++ rest)) ≡ option_map suc (size_to_end (body ++ rest)) = rw (other, property) refl in
      next ∙ ap (option_map suc) (b.ends rest);
}

plus_suc : (o : Option ℕ) (n : ℕ) → option_map suc o ≡ Some n → (m : ℕ) × (o ≡ Some m) × (n ≡ suc m)
plus_suc None n e = absurd cc
plus_suc (Some m) n e = (m, refl, cc)

-- the front that was counted is a body, and so it is with a property put into it
pub record BodyOf (ls : List (List ℕ)) (n : ℕ) : Type 0 where
  pub long : length (take n ls) ≡ n
  pub body : IsBody (take n ls)
  pub put : (name line : List ℕ) → is_end line ≡ false → is_some (property_of line) ≡ true → IsBody (put_before_end name line (take n ls))

size_here : (l : List ℕ) (ls : List (List ℕ)) → is_end l ≡ true → size_to_end (l ∷ ls) ≡ Some 1
size_here l ls end = rw end refl

size_next : (l : List ℕ) (ls : List (List ℕ)) → is_end l ≡ false → is_some (property_of l) ≡ true → size_to_end (l ∷ ls) ≡ option_map suc (size_to_end ls)
size_next l ls other property = rw (other, property) refl

size_other : (l : List ℕ) (ls : List (List ℕ)) → is_end l ≡ false → is_some (property_of l) ≡ false → size_to_end (l ∷ ls) ≡ None
size_other l ls other none = rw (other, none) refl

put_end : (name line l : List ℕ) (ls : List (List ℕ)) → is_end l ≡ true → line ∷ l ∷ ls ≡ put_before_end name line (l ∷ ls)
put_end name line l ls end = rw end refl

put_found : (name line l : List ℕ) (ls : List (List ℕ)) → is_end l ≡ false → is_some (value_named name l) ≡ true → line ∷ ls ≡ put_before_end name line (l ∷ ls)
put_found name line l ls other found = rw (other, found) refl

put_passed : (name line l : List ℕ) (ls : List (List ℕ)) → is_end l ≡ false → is_some (value_named name l) ≡ false → l ∷ put_before_end name line ls ≡ put_before_end name line (l ∷ ls)
put_passed name line l ls other none = rw (other, none) refl

same_body : (x y : List (List ℕ)) → x ≡ y → IsBody x → IsBody y
same_body x y e b = let P : List (List ℕ) → Type 0 = IsBody in subst P e b

ended : (l : List ℕ) (ls : List (List ℕ)) → is_end l ≡ true → BodyOf (l ∷ ls) 1
ended l ls end = record {
  long = refl;
  body = body_end l end;
  put = λ name line other property. same_body _ _ (put_end name line l [] end) (body_more line (l ∷ []) other property (body_end l end));
}

longer : (l : List ℕ) (ls : List (List ℕ)) (m : ℕ) → is_end l ≡ false → is_some (property_of l) ≡ true → BodyOf ls m → BodyOf (l ∷ ls) (suc m)
longer l ls m other property later = record {
  long = add_suc (length (take m ls)) m later.long;
  body = body_more l (take m ls) other property later.body;
  put = λ name line own named.
      elim (cases_Bool (is_some (value_named name l))) [
        | inl found ↦ same_body _ _ (put_found name line l (take m ls) other found) (body_more line (take m ls) own named later.body)
        | inr none ↦ same_body _ _ (put_passed name line l (take m ls) other none) (body_more l (put_before_end name line (take m ls)) other property (later.put name line own named))
      ];
} where
  add_suc : (a b : ℕ) → a ≡ b → suc a ≡ suc b
  add_suc a b e = ap suc e

none_some : {n : ℕ} → None ≡ Some n → ⊥
none_some e = cc

one_is : (n : ℕ) → Some 1 ≡ Some n → 1 ≡ n
one_is n e = cc

pub body_of : (ls : List (List ℕ)) (n : ℕ) → size_to_end ls ≡ Some n → BodyOf ls n
body_of [] n e = absurd (none_some e)
body_of (l ∷ ls) n e =
    let P : ℕ → Type 0 = λ n. BodyOf (l ∷ ls) n in
    elim (cases_Bool (is_end l)) [
      | inl end ↦ subst P (one_is n (sym (size_here l ls end) ∙ e)) (ended l ls end)
      | inr other ↦
          elim (cases_Bool (is_some (property_of l))) [
            | inl property ↦ let m = plus_suc (size_to_end ls) n (sym (size_next l ls other property) ∙ e) in subst P (sym m.2) (longer l ls m.0 other property (body_of ls m.0 m.1))
            | inr none ↦ absurd (none_some (sym (size_other l ls other none) ∙ e))
          ]
    ]

-- ---- the drawer

start_size : (start : List ℕ) (ls : List (List ℕ)) (n : ℕ) → is_drawer_start start ≡ true → size_to_end ls ≡ Some n → drawer_size (start ∷ ls) ≡ suc n
start_size start ls n here size = rw here (ap (λ o. option_map_or suc o 0) size)

start_none : (start : List ℕ) (ls : List (List ℕ)) → is_drawer_start start ≡ true → size_to_end ls ≡ None → drawer_size (start ∷ ls) ≡ 0
start_none start ls here size = rw here (ap (λ o. option_map_or suc o 0) size)

start_other : (start : List ℕ) (ls : List (List ℕ)) → is_drawer_start start ≡ false → drawer_size (start ∷ ls) ≡ 0
start_other start ls other = rw other refl

-- ---- the planning

planning_again : (ls below : List (List ℕ)) → (planning_size ls ≡ 0 → planning_size below ≡ 0) → planning_size (take (planning_size ls) ls ++ below) ≡ length (take (planning_size ls) ls)
planning_again [] below none = none refl
planning_again (l ∷ ls) below none =
    elim (cases_Bool (is_planning l)) [
      | inl here ↦
          let size : planning_size (l ∷ ls) ≡ 1 = rw here refl in
          ap (λ n. planning_size (take n (l ∷ ls) ++ below)) size ∙ (let one : planning_size (l ∷ below) ≡ 1 = rw here refl in one) ∙ sym (ap (λ n. length (take n (l ∷ ls))) size)
      | inr other ↦
          let size : planning_size (l ∷ ls) ≡ 0 = rw other refl in
          ap (λ n. planning_size (take n (l ∷ ls) ++ below)) size ∙ none size ∙ sym (ap (λ n. length (take n (l ∷ ls))) size)
    ]

-- ---- sections with another drawer

-- a drawer with its first line and its body; no planning line begins where it does
pub record Stands (ls drawer : List (List ℕ)) : Type 0 where
  pub start : List ℕ
  pub body : List (List ℕ)
  pub is : drawer ≡ start ∷ body
  pub begins : is_drawer_start start ≡ true
  pub ends : IsBody body
  pub behind : planning_size ls ≡ 0 → (x : List (List ℕ)) → planning_size (start ∷ x) ≡ 0

pub stands_split : (ls drawer rest : List (List ℕ)) → Stands ls drawer → split (joined (record { planning = take (planning_size ls) ls; drawer = drawer; rest = rest })) ≡ record { planning = take (planning_size ls) ls; drawer = drawer; rest = rest }
stands_split ls drawer rest s =
    let p : SectionParts = record { planning = take (planning_size ls) ls; drawer = drawer; rest = rest } in
    let second : drawer_size (drawer ++ rest) ≡ length drawer =
    ap (λ (d : List (List ℕ)). drawer_size (d ++ rest)) s.is ∙ start_size s.start (s.body ++ rest) (length s.body) s.begins (s.ends.ends rest)
    ∙ (let one : suc (length s.body) ≡ length (s.start ∷ s.body) = omega arith in one) ∙ sym (ap length s.is) in
    resplit p (planning_again ls (drawer ++ rest) (λ none. ap (λ (d : List (List ℕ)). planning_size (d ++ rest)) s.is ∙ s.behind none (s.body ++ rest))) second

-- what the drawer of a section is
pub data DrawerOf (ls drawer : List (List ℕ)) : Type 0 where
  bare : drawer ≡ [] → DrawerOf ls drawer
  drawn : (s : Stands ls drawer) → ((name line : List ℕ) → is_end line ≡ false → is_some (property_of line) ≡ true → IsBody (put_before_end name line s.body)) → DrawerOf ls drawer

first_behind : (ls below later : List (List ℕ)) (start : List ℕ) → below ≡ drop (planning_size ls) ls → below ≡ start ∷ later → planning_size ls ≡ 0 → planning_size (start ∷ later) ≡ 0
first_behind ls below later start is first none =
    let all : below ≡ ls = is ∙ ap (λ n. drop n ls) none in
    sym (ap planning_size first) ∙ ap planning_size all ∙ none

drawer_at : (ls below : List (List ℕ)) → below ≡ drop (planning_size ls) ls → DrawerOf ls (take (drawer_size below) below)
drawer_at ls [] is = bare refl
drawer_at ls (start ∷ later) is =
    elim (cases_Bool (is_drawer_start start)) [
      | inl here ↦ by_size ls start later is here (size_to_end later) refl
      | inr other ↦ bare (ap (λ n. take n (start ∷ later)) (start_other start later other))
    ] where
      by_size : (ls : List (List ℕ)) (start : List ℕ) (later : List (List ℕ)) → start ∷ later ≡ drop (planning_size ls) ls → is_drawer_start start ≡ true → (o : Option ℕ) → size_to_end later ≡ o → DrawerOf ls (take (drawer_size (start ∷ later)) (start ∷ later))
      by_size ls start later is here None size = bare (ap (λ n. take n (start ∷ later)) (start_none start later here size))
      by_size ls start later is here (Some n) size =
          let b = body_of later n size in
          drawn (record {
            start = start;
            body = take n later;
            is = ap (λ n. take n (start ∷ later)) (start_size start later n here size);
            begins = here;
            ends = b.body;
            behind = λ none x. first_behind ls (start ∷ later) later start is refl none;
          }) b.put

pub drawer_of : (ls : List (List ℕ)) → DrawerOf ls (split ls).drawer
drawer_of ls = drawer_at ls (drop (planning_size ls) ls) refl

-- ---- a note, a property

bare_note : (ls drawer rest : List (List ℕ)) (note : List ℕ) → drawer ≡ [] → is_planning note ≡ false → is_drawer_start note ≡ false
    → split (joined (record { planning = take (planning_size ls) ls; drawer = drawer; rest = note ∷ rest })) ≡ record { planning = take (planning_size ls) ls; drawer = drawer; rest = note ∷ rest }
bare_note ls drawer rest note none plain other =
    let size : planning_size (note ∷ rest) ≡ 0 = rw plain refl in
    resplit (record { planning = take (planning_size ls) ls; drawer = drawer; rest = note ∷ rest })
    (planning_again ls (drawer ++ (note ∷ rest)) (λ _. ap (λ (d : List (List ℕ)). planning_size (d ++ (note ∷ rest))) none ∙ size))
    (ap (λ (d : List (List ℕ)). drawer_size (d ++ (note ∷ rest))) none ∙ start_other note rest other ∙ sym (ap length none))

pub split_note : (note : List ℕ) (ls : List (List ℕ)) → is_planning note ≡ false → is_drawer_start note ≡ false → split (joined (with_note note (split ls))) ≡ with_note note (split ls)
split_note note ls plain other =
    elim (drawer_of ls) [
      | bare none ↦ bare_note ls (split ls).drawer (split ls).rest note none plain other
      | drawn s put ↦ stands_split ls (split ls).drawer (note ∷ (split ls).rest) s
    ]

pub split_put : (name line : List ℕ) (ls : List (List ℕ)) → is_end line ≡ false → is_some (property_of line) ≡ true → split (joined (with_drawer_line name line (split ls))) ≡ with_drawer_line name line (split ls)
split_put name line ls own named =
    elim (drawer_of ls) [
      | bare none ↦
          stands_split ls (put_in_drawer name line (split ls).drawer) (split ls).rest (record {
            start = codes ":PROPERTIES:";
            body = line ∷ codes ":END:" ∷ [];
            is = ap (put_in_drawer name line) none;
            begins = refl;
            ends = body_more line (codes ":END:" ∷ []) own named (body_end (codes ":END:") refl);
            behind = λ _ x. refl;
          })
      | drawn s put ↦
          stands_split ls (put_in_drawer name line (split ls).drawer) (split ls).rest (record {
            start = s.start;
            body = put_before_end name line s.body;
            is = ap (put_in_drawer name line) s.is;
            begins = s.begins;
            ends = put name line own named;
            behind = s.behind;
          })
    ]

-- ---- another planning line

planned_split : (line : List ℕ) (below : List (List ℕ)) → is_planning line ≡ true
    → split (line ∷ below) ≡ record { planning = line ∷ []; drawer = take (drawer_size below) below; rest = drop (drawer_size below) below }
planned_split line below here = rw here refl

pub split_planned : (line : List ℕ) (ls : List (List ℕ)) → is_planning line ≡ true → split (joined (record (split ls) { planning = line ∷ [] })) ≡ record (split ls) { planning = line ∷ [] }
split_planned line ls here =
    let below = drop (planning_size ls) ls in
    let all : take (drawer_size below) below ++ drop (drawer_size below) below ≡ below = take-append-drop (drawer_size below) below in
    ap (λ (t : List (List ℕ)). split (line ∷ t)) all ∙ planned_split line below here

-- ---- the first parts alone

pub split_planning : (ls : List (List ℕ)) → split (split ls).planning ≡ record { planning = (split ls).planning; drawer = []; rest = [] }
split_planning ls =
    let p : SectionParts = record { planning = take (planning_size ls) ls; drawer = []; rest = [] } in
    let alone : p.planning ≡ joined p = sym (append-nil p.planning) in
    ap split alone ∙ resplit p (planning_again ls [] (λ _. refl)) refl

bare_front : (ls drawer : List (List ℕ)) → drawer ≡ [] → split (joined (record { planning = take (planning_size ls) ls; drawer = drawer; rest = [] })) ≡ record { planning = take (planning_size ls) ls; drawer = drawer; rest = [] }
bare_front ls drawer none =
    resplit (record { planning = take (planning_size ls) ls; drawer = drawer; rest = [] })
    (planning_again ls (drawer ++ []) (λ _. ap (λ (d : List (List ℕ)). planning_size (d ++ [])) none))
    (ap (λ (d : List (List ℕ)). drawer_size (d ++ [])) none ∙ sym (ap length none))

pub split_front : (ls : List (List ℕ)) → split ((split ls).planning ++ (split ls).drawer) ≡ record (split ls) { rest = [] }
split_front ls =
    let front : (split ls).planning ++ (split ls).drawer ≡ joined (record (split ls) { rest = [] }) =
    ap (λ (d : List (List ℕ)). (split ls).planning ++ d) (sym (append-nil (split ls).drawer)) in
    ap split front ∙ elim (drawer_of ls) [
      | bare none ↦ bare_front ls (split ls).drawer none
      | drawn s put ↦ stands_split ls (split ls).drawer [] s
    ]
