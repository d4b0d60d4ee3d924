-- What holds of every line of a section holds of it edited.
use Rattle.std.proofs.Common.{rules, arith, ◌≡◌, ℕ, true, false, ◌&&◌, Option, Some, None, List, [], ◌∷◌, ◌++◌, refl}
use Rattle.std.proofs.lemmas.Grind.{common_steps}
use Rattle.std.specs.Prelude.{is_some, codes}
use Rattle.std.specs.List.{AllByRecursion, list_any}
use Rattle.std.specs.Option.{option_map, unwrap_or}
use Rattle.org_stamp.specs.Calendar.{Moment}
use Rattle.org_meta.specs.Clocking.{is_logbook, in_logbook, logged, clock_line, opened}
use Rattle.std.proofs.lemmas.Bool.{cases_Bool}
use Rattle.org_meta.specs.Sections.{SectionParts, split, joined, is_end, value_named, put_before_end, put_in_drawer}
use Rattle.org_meta.specs.Resplits.{with_drawer_line}
use Rattle.org_splice.proofs.AllLines.{AllByRecursion-append}
use Rattle.org_meta.specs.Notes.{with_note}

-- what holds of each line of the parts
pub record AllParts (P : List ℕ → Type 0) (parts : SectionParts) : Type 0 where
  pub planning : AllByRecursion P parts.planning
  pub drawer : AllByRecursion P parts.drawer
  pub rest : AllByRecursion P parts.rest

pub all_split : (P : List ℕ → Type 0) (ls : List (List ℕ)) → AllByRecursion P ls → AllParts P (split ls)
all_split P ls p = grind (arith, common_steps)

pub all_joined : (P : List ℕ → Type 0) (parts : SectionParts) → AllParts P parts → AllByRecursion P (joined parts)
all_joined P parts a = AllByRecursion-append P parts.planning (parts.drawer ++ parts.rest) a.planning (AllByRecursion-append P parts.drawer parts.rest a.drawer a.rest)

-- ---- a line in the property drawer

module _ (P : List ℕ → Type 0) (name line : List ℕ) (own : P line) where
  at_end : (l : List ℕ) (ls : List (List ℕ)) → is_end l ≡ true → line ∷ l ∷ ls ≡ put_before_end name line (l ∷ ls)
  at_end l ls end = rw end refl

  found : (l : List ℕ) (ls : List (List ℕ)) → is_end l ≡ false → is_some (value_named name l) ≡ true → line ∷ ls ≡ put_before_end name line (l ∷ ls)
  found l ls other here = rw (other, here) refl

  passed : (l : List ℕ) (ls : List (List ℕ)) → is_end l ≡ false → is_some (value_named name l) ≡ false → l ∷ put_before_end name line ls ≡ put_before_end name line (l ∷ ls)
  passed l ls other none = rw (other, none) refl

  All-put : (ls : List (List ℕ)) → AllByRecursion P ls → AllByRecursion P (put_before_end name line ls)
  All-put [] p = (own, tt)
  All-put (l ∷ ls) p = search (rules, arith, cases_Bool, at_end, found, passed, All-put ls p.1)

  pub All-drawer : P (codes ":PROPERTIES:") → P (codes ":END:") → (ls : List (List ℕ)) → AllByRecursion P ls → AllByRecursion P (put_in_drawer name line ls)
  All-drawer first last [] p = (first, (own, (last, tt)))
  All-drawer first last (l ∷ ls) p = (p.0, All-put ls p.1)

  pub keeps_put : P (codes ":PROPERTIES:") → P (codes ":END:") → (ls : List (List ℕ)) → AllByRecursion P ls → AllByRecursion P (joined (with_drawer_line name line (split ls)))
  keeps_put first last ls p = grind (arith, common_steps, all_split, all_joined, split, All-drawer)

-- ---- another rest, another planning

pub keeps_note : (P : List ℕ → Type 0) (note : List ℕ) (ls : List (List ℕ)) → P note → AllByRecursion P ls → AllByRecursion P (joined (with_note note (split ls)))
keeps_note P note ls own p =
    let a = all_split P ls p in
    all_joined P (with_note note (split ls)) (record { planning = a.planning; drawer = a.drawer; rest = (own, a.rest) })

pub keeps_planning : (P : List ℕ → Type 0) (planning ls : List (List ℕ)) → AllByRecursion P planning → AllByRecursion P ls → AllByRecursion P (joined (record (split ls) { planning = planning }))
keeps_planning P planning ls own p =
    let a = all_split P ls p in
    all_joined P (record (split ls) { planning = planning }) (record { planning = own; drawer = a.drawer; rest = a.rest })

-- ---- a line in the LOGBOOK drawer

module _ (P : List ℕ → Type 0) (line : List ℕ) (own : P line) where
  -- the lines, where there are any
  AllIn : Option (List (List ℕ)) → Type 0
  AllIn None = Unit {0}
  AllIn (Some ls) = AllByRecursion P ls

  log_here : (l : List ℕ) (ls : List (List ℕ)) → (is_logbook l && list_any is_end ls) ≡ true → Some (l ∷ line ∷ ls) ≡ in_logbook line (l ∷ ls)
  log_here l ls here = rw here refl

  log_later : (l : List ℕ) (ls : List (List ℕ)) → (is_logbook l && list_any is_end ls) ≡ false → option_map (λ ms. l ∷ ms) (in_logbook line ls) ≡ in_logbook line (l ∷ ls)
  log_later l ls other = rw other refl

  in_front : (l : List ℕ) (o : Option (List (List ℕ))) → P l → AllIn o → AllIn (option_map (λ ms. l ∷ ms) o)
  unfolding AllIn
  in_front l None p all = tt
  in_front l (Some ls) p all = (p, all)

  All-log : (ls : List (List ℕ)) → AllByRecursion P ls → AllIn (in_logbook line ls)
  unfolding AllIn
  All-log [] p = tt
  All-log (l ∷ ls) p = grind (arith, common_steps, All-log ls p.1)

  or_new : (o : Option (List (List ℕ))) (ls : List (List ℕ)) → AllIn o → AllByRecursion P ls → AllByRecursion P (unwrap_or o ls)
  unfolding AllIn
  or_new None ls all new = new
  or_new (Some ms) ls all new = all

  pub All-logged : P (codes ":LOGBOOK:") → P (codes ":END:") → (ls : List (List ℕ)) → AllByRecursion P ls → AllByRecursion P (logged line ls)
  All-logged first last ls p = or_new (in_logbook line ls) (codes ":LOGBOOK:" ∷ line ∷ codes ":END:" ∷ ls) (All-log ls p) (first, (own, (last, p)))

pub keeps_opened : (P : List ℕ → Type 0) (now : Moment) (ls : List (List ℕ)) → P (clock_line now) → P (codes ":LOGBOOK:") → P (codes ":END:") → AllByRecursion P ls → AllByRecursion P (joined (opened now (split ls)))
keeps_opened P now ls own first last p = grind (arith, common_steps, all_split, all_joined, opened, split, All-logged)
