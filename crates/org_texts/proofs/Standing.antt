-- Held texts stay made of their files.
use Rattle.std.proofs.Common.{◌≡◌, inl, inr, ℕ, ◌+◌, ◌≤◌, true, false, List, [], ◌∷◌, ◌++◌, length, Option, Some, None, refl, sym, ◌∙◌, subst, arith}
use Rattle.std.proofs.lemmas.Grind.{common_steps}
use Rattle.std.specs.Prelude.{IsSomeAnd}
use Rattle.std.specs.List.{list_any}
use Rattle.std.specs.Map.{keys_of, lookup}
use Rattle.std.specs.Option.{option_map, IsSome}
use Rattle.std.specs.Str.{bytes_eq}
use Rattle.std.proofs.lemmas.Bool.{cases_Bool}
use Rattle.std.proofs.lemmas.List.{map-append}
use Rattle.std.proofs.lemmas.Map.Made.{is_some-lookup}
use Rattle.std.proofs.lemmas.Slice.Eq.{bytes_eq-Decides}
use Rattle.org_splice.specs.declared.edit.Edit.{Edit}
use Rattle.org_splice.specs.Edits.{AreEdits, CanApply, applied, applied_each}
use Rattle.org_splice.specs.Lines.{is_terminated, terminated}
use Rattle.org_splice.specs.Ranges.{AreChanged}
use Rattle.org_splice.specs.Texts.{EditedText, IsEditOf, terminated_text, settled, spliced, spliced_each}
use Rattle.org_splice.proofs.Applying.{AreChanged-spliced}
use Rattle.org_splice.proofs.Edited.{IsEditOf-spliced}
use Rattle.org_texts.specs.declared.plan.FileEdits.{FileEdits}
use Rattle.org_texts.specs.Files.{IsTextOf, StandOver, is_dirty}
use Rattle.org_texts.specs.Inside.{AreAmong}
use Rattle.org_texts.specs.declared.plan.Plan.{Plan}
use Rattle.org_texts.specs.Plan.{CanEdit, EditsLines, IsOfLines, IsPlan, LieIn, with_edits}
use Rattle.org_texts.specs.Texts.{TextSet, terminated_in, settled_set, text_of, with_change, with_name, with_text}
use Rattle.org_texts.proofs.Looking.{change_names, change_other, change_this, text_of-settled}
use Rattle.org_texts.proofs.Names.{among_more, among_name, some_of}

-- a name that was marked waits, and those that waited still do
pub marked : (name : List ℕ) (names : List (List ℕ)) → list_any (bytes_eq name) (with_name name names) ≡ true
marked name names = elim (cases_Bool (list_any (bytes_eq name) names)) [
  | inl t ↦ rw t t
  | inr f ↦ rw f (last names)
]
  where
    last : (ns : List (List ℕ)) → list_any (bytes_eq name) (ns ++ name ∷ []) ≡ true
    last [] = let own : bytes_eq name name ≡ true = (bytes_eq-Decides name name).1 refl in rw own refl
    last (n ∷ ns) = elim (cases_Bool (bytes_eq name n)) [
      | inl t ↦ rw t refl
      | inr f ↦ let rest = last ns in rw f rest
    ]

pub not_marked : (name other : List ℕ) (names : List (List ℕ)) → list_any (bytes_eq other) (with_name name names) ≡ false → list_any (bytes_eq other) names ≡ false
not_marked name other names none = grind (arith, common_steps)

-- edits of lines lie in their text
pub lie_in : (es : List Edit) (old new : List ℕ) → AreEdits es old new → LieIn es old
lie_in [] old new are = tt
lie_in (e ∷ es) old new are = (are.0, lie_in es (applied e old) new are.2)

pub lines_lie : (change : FileEdits) (set : TextSet) → EditsLines change set → CanEdit change set
lines_lie change set = go (text_of set change.file)
  where
    go : (o : Option EditedText) → IsSomeAnd o (λ text. (terminated text.bytes ≡ text.bytes) × CanApply change.edits.items text.bytes) → IsSomeAnd o (λ text. LieIn change.edits.items text.bytes)
    go None are = are
    go (Some text) are = lie_in change.edits.items text.bytes (applied_each change.edits.items text.bytes) are.1

-- .. so a plan of them is one
pub plan_of_lines : (plan : Plan) (set : TextSet) → IsOfLines plan set → IsPlan plan set
plan_of_lines plan set are = record {
  first = lines_lie plan.first set are.first;
  second = λ change is. lines_lie change (with_edits plan.first set) (are.second change is);
}

-- what edits make of a text is an edit of what it was made from
IsEditOf-edits : (es : List Edit) (old : List ℕ) (text : EditedText) → LieIn es text.bytes → AreChanged (length text.bytes) text.changed → IsEditOf old text
    → IsEditOf old (spliced_each es text) × AreChanged (length (spliced_each es text).bytes) (spliced_each es text).changed
IsEditOf-edits [] old text lie are edit = (edit, are)
IsEditOf-edits (e ∷ es) old text lie are edit =
    IsEditOf-edits es old (spliced e.at e.removed e.bytes text) lie.1 (AreChanged-spliced e.at e.removed e.bytes text lie.0 are) (IsEditOf-spliced old e.at e.removed e.bytes text lie.0 are edit)

-- what was mapped
the_old : {X Y : Type 0} (f : X → Y) (o : Option X) (y : Y) → option_map f o ≡ Some y → (x : X) × (o ≡ Some x) × (y ≡ f x)
the_old f None y is = absurd (cc)
the_old f (Some x) y is = (x, refl, let same : f x ≡ y = cc in sym same)

-- the text of one name is changed, and stays an edit of its file
StandOver-change : (own : List ℕ) (change : EditedText → EditedText) (files : List ℕ → List ℕ) (set : TextSet) → IsSome (text_of set own)
    → ((text : EditedText) → text_of set own ≡ Some text → AreChanged (length text.bytes) text.changed → IsEditOf (files own) text
    → IsEditOf (files own) (change text) × AreChanged (length (change text).bytes) (change text).changed)
    → StandOver files set → StandOver files (record { texts = with_change own change set.texts; dirty = with_name own set.dirty })
StandOver-change own change files set some kept stand =
    let new : TextSet = record { texts = with_change own change set.texts; dirty = with_name own set.dirty } in
    record {
      each = λ name text at. elim (cases_Bool (bytes_eq own name)) [
        | inl t ↦
            let same : own ≡ name = (bytes_eq-Decides own name).0 t in
            let at_own : text_of new own ≡ Some text = subst (λ (n : List ℕ). text_of new n ≡ Some text) (sym same) at in
            let old = the_old change (text_of set own) text (sym (change_this own change set.texts) ∙ at_own) in
            let was = stand.each own old.0 old.1 in
            let made = kept old.0 old.1 was.ranges was.edit in
            let is : IsTextOf (files own) (is_dirty new own) (change old.0) = record {
              edit = made.0;
              ranges = made.1;
              same = λ none. let no : true ≡ false = sym (marked own set.dirty) ∙ none in absurd (cc);
            } in
            subst (λ (n : List ℕ). IsTextOf (files n) (is_dirty new n) text) same (subst (IsTextOf (files own) (is_dirty new own)) (sym old.2) is)
        | inr f ↦
            let apart : own ≡ name → ⊥ = λ same. let yes : true ≡ false = sym ((bytes_eq-Decides own name).1 same) ∙ f in absurd (cc) in
            let was = stand.each name text (sym (change_other own name change set.texts apart) ∙ at) in
            record { edit = was.edit; ranges = was.ranges; same = λ none. was.same (not_marked own name set.dirty none) }
      ];
      held =
          subst (λ (l : List (List ℕ)). AreAmong l (with_name own set.dirty)) (sym (change_names own change set.texts))
          (among_name (keys_of set.texts) set.dirty own stand.held (sym (is_some-lookup (bytes_eq own) set.texts) ∙ some));
    }

pub StandOver-edits : (change : FileEdits) (files : List ℕ → List ℕ) (set : TextSet) → CanEdit change set → StandOver files set → StandOver files (with_edits change set)
StandOver-edits change files set can stand =
    let own = change.file in
    let es = change.edits.items in
    let lie : EditedText → Type 0 = λ text. LieIn es text.bytes in
    StandOver-change own (spliced_each es) files set (some_of lie (text_of set own) can)
    (λ text at ranges edit. IsEditOf-edits es (files own) text (subst (λ o. IsSomeAnd o lie) at can) ranges edit) stand

pub StandOver-held : (own : List ℕ) (files : List ℕ → List ℕ) (set : TextSet) → text_of set own ≡ None → StandOver files set → StandOver files (with_text own (files own) set)
StandOver-held own files set none stand = record {
  each = λ name text at. go set.texts name text (λ was. stand.each name text was) at;
  held =
      let names : keys_of (with_text own (files own) set).texts ≡ keys_of set.texts ++ own ∷ [] = map-append (λ (e : List ℕ × EditedText). e.0) set.texts ((own, settled (files own)) ∷ []) in
      subst (λ (l : List (List ℕ)). AreAmong l set.dirty) (sym names) (among_more (keys_of set.texts) (own ∷ []) set.dirty stand.held);
}
  where
    new : IsTextOf (files own) (is_dirty set own) (settled (files own))
    new = record { edit = record { same = λ i below outside. refl }; ranges = record { apart = tt; few = omega arith }; same = λ none. refl }

    go : (es : List (List ℕ × EditedText)) (name : List ℕ) (text : EditedText) → (lookup (bytes_eq name) es ≡ Some text → IsTextOf (files name) (is_dirty set name) text)
        → lookup (bytes_eq name) (es ++ (own, settled (files own)) ∷ []) ≡ Some text → IsTextOf (files name) (is_dirty set name) text
    go [] name text was at = grind (arith, common_steps, cases_Bool, bytes_eq-Decides, settled)
    go (e ∷ es) name text was at = elim (cases_Bool (bytes_eq name e.0)) [
      | inl t ↦ was (rw t (rw t at at))
      | inr f ↦ go es name text (λ old. was (rw f old)) (rw f at at)
    ]

pub StandOver-settled : (files : List ℕ → List ℕ) (set : TextSet) → ((name : List ℕ) (text : EditedText) → text_of set name ≡ Some text → files name ≡ text.bytes) → StandOver files (settled_set set)
StandOver-settled files set written = grind (arith, common_steps, the_old, settled, text_of-settled)

-- a text is terminated
terminated_one : (file : List ℕ) (text : EditedText) → AreChanged (length text.bytes) text.changed → IsEditOf file text → IsEditOf file (terminated_text text) × AreChanged (length (terminated_text text).bytes) (terminated_text text).changed
terminated_one file text are edit = elim (cases_Bool (is_terminated text.bytes)) [
  | inl t ↦ rw t (edit, are)
  | inr f ↦
      let within : length text.bytes + 0 ≤ length text.bytes = omega arith in
      rw f (IsEditOf-spliced file (length text.bytes) 0 (10 ∷ []) text within are edit, AreChanged-spliced (length text.bytes) 0 (10 ∷ []) text within are)
]

pub StandOver-terminated : (own : List ℕ) (files : List ℕ → List ℕ) (set : TextSet) → IsSome (text_of set own) → StandOver files set → StandOver files (terminated_in own set)
StandOver-terminated own files set some stand =
    StandOver-change own terminated_text files set some (λ text at ranges edit. terminated_one (files own) text ranges edit) stand

-- edits of one text leave what can be done to another
pub CanEdit-second : (first second : FileEdits) (set : TextSet) → CanEdit first set → CanEdit second set → (first.file ≡ second.file → ⊥) → CanEdit second (with_edits first set)
CanEdit-second first second set can able apart =
    subst (λ o. IsSomeAnd o (λ (x : EditedText). LieIn second.edits.items x.bytes)) (sym (change_other first.file second.file (spliced_each first.edits.items) set.texts apart)) able
