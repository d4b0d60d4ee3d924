-- A commit of held texts, by the texts of a store's files.
use Rattle.std.proofs.Common.{arith, ◌≡◌, ◌≢◌, ◌⊎◌, inl, inr, ℕ, ◌≤◌, Bool, true, false, List, [], ◌∷◌, length, map, Option, Some, None, Result, Ok, Err, refl, sym, ◌∙◌, ap, subst, if◌then◌else◌}
use Rattle.std.proofs.lemmas.Grind.{common_steps}
use Rattle.org_disk.specs.declared.disk.Disk.{Ghosts}
use Rattle.std.specs.Prelude.{◌↔◌, IsErrOf, IsTrue}
use Rattle.std.specs.List.{All, AllByRecursion, Contains, list_any}
use Rattle.std.specs.Map.{keys_of}
use Rattle.std.specs.Option.{IsSome, is_some, option_map}
use Rattle.std.specs.Str.{bytes_eq}
use Rattle.std.proofs.lemmas.Bool.{cases_Bool, false≢true}
use Rattle.std.proofs.lemmas.List.Elements.{All-from_recursion}
use Rattle.org_disk.specs.Names.{journal_name}
use Rattle.org_disk.specs.CountsFailures.{LeavesOver}
use Rattle.org_disk.proofs.Names.{name_cases, same_name}
use Rattle.org_splice.specs.Texts.{EditedText, IsEditOf, settled}
use Rattle.org_journal.specs.Recovered.{Image, SameFiles, contents}
use Rattle.org_fileset.specs.Entries.{changed}
use Rattle.org_fileset.specs.declared.fault.SetFault.{SetFault}
use Rattle.org_fileset.specs.declared.fault.SetFault.TheVariants as set_fault
use Rattle.org_fileset.specs.Left.{IsLeft}
use Rattle.org_fileset.specs.Names.{limit}
use Rattle.org_fileset.specs.Replay.{CommitsOver, IsAtRest}
use Rattle.org_fileset.specs.Writes.{LeavesAlone, IsOther}
use Rattle.org_texts.specs.Files.{is_dirty}
use Rattle.org_texts.specs.Texts.{Holding, TextSet, bytes_or, held_over, pairs, settled_set, text_of, text_or_none}
use Rattle.org_texts.proofs.Looking.{held_over-settled, text_of-settled}
use Rattle.org_texts.proofs.Standing.{StandOver-settled}
use Rattle.org_commands.specs.Files.{AreSmallToWrite, AreTextsOf, CommitsTexts, IsSound}
use Rattle.org_commands.specs.InOrder.{HoldsEither, is_name, texts_of, with_texts}
use Rattle.org_commands.proofs.Committing.{leaves_as, left_by_commit, others_committed}
use Rattle.org_commands.proofs.Held.{named_any}
use Rattle.org_commands.proofs.InOrder.{apart_from, named, texts_same}

abbrev pub Change : Type 0
Change = List ℕ × EditedText

abbrev pair_in : TextSet → List ℕ → Change
pair_in set name = (name, text_or_none (text_of set name))

pairs_keys : (set : TextSet) (names : List (List ℕ)) → keys_of (map (pair_in set) names) ≡ names
pairs_keys set [] = refl
pairs_keys set (name ∷ names) = ap (λ (ns : List (List ℕ)). name ∷ ns) (pairs_keys set names)

-- what holds of each dirty name's text
each_pair : (P : Change → Type 0) (set : TextSet) (names : List (List ℕ)) → ((name : List ℕ) → list_any (bytes_eq name) names ≡ true → P (pair_in set name)) → AllByRecursion P (map (pair_in set) names)
each_pair P set [] each = tt
each_pair P set (one ∷ names) each =
    let here : list_any (bytes_eq one) (one ∷ names) ≡ true = let t = same_name one in rw t refl in
    (each one here, each_pair P set names (λ name there. each name (more one names name there)))
  where
    more : (one : List ℕ) (names : List (List ℕ)) (name : List ℕ) → list_any (bytes_eq name) names ≡ true → list_any (bytes_eq name) (one ∷ names) ≡ true
    more one names name there = elim (cases_Bool (bytes_eq name one)) [ inl t ↦ rw t refl | inr f ↦ rw f there ]

all_pairs : (P : Change → Type 0) (set : TextSet) → ((name : List ℕ) → is_dirty set name ≡ true → P (pair_in set name)) → All P (pairs set)
all_pairs P set each = All-from_recursion P (pairs set) (each_pair P set set.dirty each)

pub pairs_named : (names : List (List ℕ)) (live : Type 0) (files : Image) (set : TextSet) → AreTextsOf names live files set → All (λ (change : Change). Contains names change.0) (pairs set)
pairs_named names live files set are = all_pairs (λ (change : Change). Contains names change.0) set (λ name there. named names name (are.named name (are.dirty name there)))

pub pairs_small : (set : TextSet) → AreSmallToWrite set → All (λ (change : Change). length change.1.bytes ≤ limit) (pairs set)
pairs_small set small = all_pairs (λ (change : Change). length change.1.bytes ≤ limit) set small

the_text : (o : Option EditedText) → IsSome o → o ≡ Some (text_or_none o)
the_text None some = absurd (false≢true some)
the_text (Some text) some = refl

pub pairs_edits : (names : List (List ℕ)) (live : Type 0) (files : Image) (set : TextSet) → AreTextsOf names live files set → live → All (λ (change : Change). IsEditOf (files change.0) change.1) (pairs set)
pairs_edits names live files set are l = all_pairs (λ (change : Change). IsEditOf (files change.0) change.1) set
    (λ name there. ((are.stand l).each name (text_or_none (text_of set name)) (the_text (text_of set name) (are.dirty name there))).edit)

-- the files that a commit makes are those with the held texts
changed_by : (files : Image) (set : TextSet) (names : List (List ℕ)) (name : List ℕ) → changed (map (pair_in set) names) files name ≡ (if is_name names name then (text_or_none (text_of set name)).bytes else files name)
changed_by files set [] name = refl
changed_by files set (one ∷ names) name = grind (arith, common_steps, name_cases, changed_by files set names name)

pub changed_is_held : (names : List (List ℕ)) (live : Type 0) (files : Image) (set : TextSet) → AreTextsOf names live files set → live → (name : List ℕ) → changed (pairs set) files name ≡ held_over set files name
changed_is_held names live files set are l name =
    changed_by files set set.dirty name ∙ ap (λ b. if b then (text_or_none (text_of set name)).bytes else files name) (sym (named_any set.dirty name)) ∙ go (is_dirty set name) refl
  where
    settled_one : (o : Option EditedText) → ((text : EditedText) → o ≡ Some text → text.bytes ≡ files name) → files name ≡ bytes_or (files name) o
    settled_one None same = refl
    settled_one (Some text) same = sym (same text refl)

    there_one : (o : Option EditedText) → IsSome o → (text_or_none o).bytes ≡ bytes_or (files name) o
    there_one None some = absurd (false≢true some)
    there_one (Some text) some = refl

    go : (b : Bool) → is_dirty set name ≡ b → (if b then (text_or_none (text_of set name)).bytes else files name) ≡ held_over set files name
    go true is = there_one (text_of set name) (are.dirty name is)
    go false is = settled_one (text_of set name) (λ text at. ((are.stand l).each name text at).same is)

-- what isn't one of the names is as it was
pub held_outside : (names : List (List ℕ)) (live : Type 0) (files any : Image) (set : TextSet) → AreTextsOf names live files set → (name : List ℕ) → is_name names name ≡ false → held_over set any name ≡ any name
held_outside names live files any set are name out = go (text_of set name) refl
  where
    go : (o : Option EditedText) → text_of set name ≡ o → bytes_or (any name) o ≡ any name
    go None is = refl
    go (Some text) is = absurd (false≢true (sym out ∙ are.named name (ap is_some is)))

-- ---- after it

mapped_some : {X Y : Type 0} (f : X → Y) (o : Option X) → is_some (option_map f o) ≡ is_some o
mapped_some f None = refl
mapped_some f (Some x) = refl

texts_settled : (names : List (List ℕ)) (live now : Type 0) (old new : Image) (set : TextSet) → AllByRecursion (λ name. name ≢ journal_name) names → AreTextsOf names live old set
    → (now → SameFiles new (held_over set old)) → AreTextsOf names now new (settled_set set)
texts_settled names live now old new set apart are alike = record {
  named = λ name some. are.named name (sym (mapped_some (λ (t : EditedText). settled t.bytes) (text_of set name)) ∙ sym (ap is_some (text_of-settled set name)) ∙ some);
  dirty = λ name there. absurd (false≢true there);
  stand = λ n. StandOver-settled new set (λ name text at. alike n name (apart_from names apart name (are.named name (ap is_some at))) ∙ ap (bytes_or (old name)) at);
}

pub sound_settled : (names more : List (List ℕ)) (live now : Type 0) (old new : Image) (held next : Holding) → more ≡ names → next.now ≡ settled_set held.now → next.before ≡ settled_set held.now
    → (now → SameFiles new (held_over held.now old)) → IsSound names live old held → IsSound more now new next
sound_settled names more live now old new held next same is before alike sound = grind (arith, common_steps, texts_settled, false≢true)

pub texts_settled_are : (names : List (List ℕ)) (old new : Image) (set : TextSet) → AllByRecursion (λ name. name ≢ journal_name) names → SameFiles new (held_over set old)
    → texts_of (held_over (settled_set set) new) names ≡ texts_of (held_over set old) names
texts_settled_are names old new set apart same = texts_same (held_over (settled_set set) new) (held_over set old) names
    (λ name there. held_over-settled set new name ∙ go name (text_of set name) refl (same name (apart_from names apart name there)))
  where
    go : (name : List ℕ) (o : Option EditedText) → text_of set name ≡ o → new name ≡ held_over set old name → held_over set new name ≡ held_over set old name
    go name None is now = ap (bytes_or (new name)) is ∙ now
    go name (Some text) is now = ap (bytes_or (new name)) is ∙ sym (ap (bytes_or (old name)) is)

-- ---- what a commit of the dirty texts says, by the texts of the store's files

module _ {D : Type 0} (g : Ghosts D) (names : List (List ℕ)) (live : Type 0) (old new : D) (set : TextSet)
    (apart : AllByRecursion (λ name. name ≢ journal_name) names) (are : AreTextsOf names live (contents (g.files old)) set) (l : live) where
  abbrev before : Image
  before = contents (g.files old)

  abbrev after : List (List ℕ)
  after = texts_of (held_over set before) names

  is_held : (name : List ℕ) → changed (pairs set) before name ≡ held_over set before name
  is_held = changed_is_held names live before set are l

  outside : (name : List ℕ) → is_name names name ≡ false → changed (pairs set) before name ≡ before name
  outside name out = is_held name ∙ held_outside names live before before set are name out

  reported : texts_of (changed (pairs set) before) names ≡ after
  reported = texts_same (changed (pairs set) before) (held_over set before) names (λ name there. is_held name)

  any_moment : {A E : Type 0} (result : Result A E) → CommitsOver g (changed (pairs set) before) (IsOther (keys_of (pairs set))) old new result → IsAtRest (g.files old)
      → LeavesOver g old new (HoldsEither names before after)
  any_moment result commits rest = leaves_as (commits.any_moment rest) (λ image left. subst (λ (texts : List (List ℕ)). HoldsEither names before texts image) reported
      (left_by_commit names before (changed (pairs set) before) outside image left))

  alone_dirty : LeavesAlone g (IsOther (keys_of (pairs set))) old new → LeavesAlone g (IsOther set.dirty) old new
  alone_dirty alone = subst (λ (ns : List (List ℕ)). LeavesAlone g (IsOther ns) old new) (pairs_keys set set.dirty) alone

  pub commit_failed : {A E : Type 0} (result : Result A E) (fault : E) → CommitsOver g (changed (pairs set) before) (IsOther (keys_of (pairs set))) old new result
      → (IsAtRest (g.files old) → LeavesOver g old new IsLeft) → CommitsTexts {A = A} g names set.dirty after old new (Err fault)
  commit_failed result fault commits left = record { texts = tt; others = tt; rest = tt; any_moment = any_moment result commits; left = left; recoverable = commits.recoverable; alone = alone_dirty commits.alone }

  pub made_held : SameFiles (contents (g.files new)) (changed (pairs set) before) → SameFiles (contents (g.files new)) (held_over set before)
  made_held made name not = made name not ∙ is_held name

  pub commit_done : {A E : Type 0} (a : A) → CommitsOver {A = A} {E = E} g (changed (pairs set) before) (IsOther (keys_of (pairs set))) old new (Ok a)
      → (IsAtRest (g.files old) → LeavesOver g old new IsLeft) → CommitsTexts {A = A} {E = E} g names set.dirty after old new (Ok a)
  commit_done a commits left =
      let now : texts_of (contents (g.files new)) names ≡ after = texts_same (contents (g.files new)) (held_over set before) names
      (λ name there. made_held commits.done.made name (apart_from names apart name there)) in
      record {
        texts = now;
        others = subst (λ (texts : List (List ℕ)). SameFiles (contents (g.files new)) (with_texts names texts before)) now (others_committed names before (contents (g.files new)) (changed (pairs set) before) outside commits.done.made);
        rest = commits.done.rest;
        any_moment = any_moment (Ok a) commits;
        left = left;
        recoverable = commits.recoverable;
        alone = alone_dirty commits.alone;
      }

-- where a commit failed and broke nothing, memory was refused
pub starved : (result : Result (Unit {0}) SetFault) (fault : SetFault) (was now : Bool) → result ≡ Err fault → was ≡ false → (IsErrOf result set_fault.Broken ↔ IsTrue was) → (IsTrue now ↔ (IsTrue was ⊎ IsErrOf result set_fault.Device)) → now ≡ false
    → IsErrOf result set_fault.OutOfMemory
starved result set_fault.OutOfMemory was now is unbroken refuses breaks whole = is
starved result set_fault.Device was now is unbroken refuses breaks whole = absurd (false≢true (sym whole ∙ breaks.1 (inr is)))
starved result set_fault.Broken was now is unbroken refuses breaks whole = absurd (false≢true (sym unbroken ∙ refuses.0 is))
