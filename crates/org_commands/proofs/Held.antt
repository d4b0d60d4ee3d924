-- Held texts of a store's files, and how the calls keep them.
use Rattle.std.proofs.Common.{◌≡◌, ◌≢◌, inl, inr, ℕ, ◌≤◌, Bool, true, false, List, [], ◌∷◌, ◌++◌, length, nat_lt, Option, Some, None, Result, Ok, Err, refl, sym, ◌∙◌, ap, subst, arith, rules}
use Rattle.std.proofs.lemmas.Grind.{common_steps}
use Rattle.std.specs.Prelude.{OnOk, OnErr}
use Rattle.std.specs.List.{All, list_any}
use Rattle.std.specs.Map.{lookup}
use Rattle.std.specs.Option.{ForSome, IsSome, is_some, option_map}
use Rattle.std.specs.Str.{bytes_eq}
use Rattle.std.proofs.lemmas.Bool.{cases_Bool, false≢true}
use Rattle.std.proofs.lemmas.Bool.Decides.{nat_tests}
use Rattle.std.proofs.lemmas.List.Elements.{All-from_recursion, recursion_from_All}
use Rattle.std.proofs.lemmas.Slice.Eq.{bytes_eq-Decides}
use Rattle.org_disk.specs.Names.{IsOrgFile, journal_name}
use Rattle.org_disk.proofs.Names.{name_cases, same_name}
use Rattle.org_splice.specs.Texts.{EditedText, terminated_text, settled, spliced_each}
use Rattle.org_journal.specs.Recovered.{Image}
use Rattle.org_fileset.specs.Names.{AreSorted, limit, with_archives}
use Rattle.org_fileset.proofs.Sorted.{all_sorted, archives_apart}
use Rattle.org_texts.specs.declared.plan.FileEdits.{FileEdits}
use Rattle.org_texts.specs.declared.plan.Plan.{Plan}
use Rattle.org_texts.specs.Files.{StandOver, is_dirty}
use Rattle.org_texts.specs.Plan.{CanEdit, IsPlan, LieIn, planned, with_edits, with_second}
use Rattle.org_texts.specs.Texts.{Holding, TextSet, bytes_or, terminated_in, held_over, nothing_held, text_of, text_or_none, with_change, with_name, with_text}
use Rattle.org_splice.proofs.Lines.{terminated_twice}
use Rattle.org_texts.proofs.Heads.{terminated_text-bytes, is_terminated-terminated}
use Rattle.org_texts.proofs.Looking.{change_this, change_other, held_over-held, not_equal, the_value}
use Rattle.org_texts.proofs.Standing.{StandOver-terminated, StandOver-edits, StandOver-held}
use Rattle.org_commands.specs.Files.{AreReady, AreSmallToWrite, AreTextsOf, AreTouched, IsSound, KeepsHeld, files_of, has_large, new_texts, second_file, texts_in}
use Rattle.org_commands.specs.InOrder.{is_name}

-- ---- names

-- a name among others, either way round
pub named_any : (names : List (List ℕ)) (name : List ℕ) → list_any (bytes_eq name) names ≡ is_name names name
named_any [] name = refl
named_any (one ∷ names) name = grind (arith, common_steps, name_cases, bytes_eq-Decides, not_equal, named_any names name)

pub not_one : (one : List ℕ) (names : List (List ℕ)) (name : List ℕ) → is_name (one ∷ names) name ≡ false → (one ≢ name) × (is_name names name ≡ false)
not_one one names name none = grind (arith, common_steps, name_cases, false≢true)

-- a name that is dirty where one more is
pub dirty_more : (own : List ℕ) (names : List (List ℕ)) (name : List ℕ) → list_any (bytes_eq name) (with_name own names) ≡ true → own ≢ name → list_any (bytes_eq name) names ≡ true
dirty_more own names name there apart = elim (cases_Bool (list_any (bytes_eq own) names)) [
  | inl t ↦ rw t at there
  | inr f ↦ last names (rw f at there)
]
  where
    last : (ns : List (List ℕ)) → list_any (bytes_eq name) (ns ++ own ∷ []) ≡ true → list_any (bytes_eq name) ns ≡ true
    last [] is = let f = not_equal name own (λ same. apart (sym same)) in absurd (false≢true (rw f at is))
    last (n ∷ ns) is = elim (cases_Bool (bytes_eq name n)) [
      | inl t ↦ rw t refl
      | inr f ↦ rw f (last ns (rw f at is))
    ]

-- ---- one more text is held

lookup_more : {X : Type 0} (es : List (List ℕ × X)) (own : List ℕ) (value : X) (name : List ℕ) → own ≢ name → lookup (bytes_eq name) (es ++ (own, value) ∷ []) ≡ lookup (bytes_eq name) es
lookup_more [] own value name apart = let f = not_equal name own (λ same. apart (sym same)) in rw f refl
lookup_more (e ∷ es) own value name apart = grind (arith, common_steps, lookup_more es own value name apart)

lookup_new : {X : Type 0} (es : List (List ℕ × X)) (own : List ℕ) (value : X) → lookup (bytes_eq own) es ≡ None → lookup (bytes_eq own) (es ++ (own, value) ∷ []) ≡ Some value
lookup_new [] own value none = let t = same_name own in rw t refl
lookup_new (e ∷ es) own value none = elim (cases_Bool (bytes_eq own e.0)) [
  | inl t ↦ let no : Some e.1 ≡ None = rw t at none in absurd (cc)
  | inr f ↦ rw f (lookup_new es own value (rw f at none))
]

pub held_other : (own bytes : List ℕ) (set : TextSet) (name : List ℕ) → own ≢ name → text_of (with_text own bytes set) name ≡ text_of set name
held_other own bytes set name apart = lookup_more set.texts own (settled bytes) name apart

pub held_this : (own bytes : List ℕ) (set : TextSet) → text_of set own ≡ None → text_of (with_text own bytes set) own ≡ Some (settled bytes)
held_this own bytes set none = lookup_new set.texts own (settled bytes) none

some_not_none : {X : Type 0} (o : Option X) → o ≡ None → IsSome o → ⊥
some_not_none None none some = absurd (cc)
some_not_none (Some x) none some = absurd (cc)

-- what was held before is held as it was
pub keeps_held : (own bytes : List ℕ) (old new : Holding) → text_of old.before own ≡ None → new.before ≡ with_text own bytes old.before → KeepsHeld old new
keeps_held own bytes old new none before name some = grind (arith, common_steps, held_other)

pub keeps_same : (old mid new : Holding) → KeepsHeld old mid → new.before ≡ mid.before → KeepsHeld old new
keeps_same old mid new keeps same name some = ap (λ (s : TextSet). text_of s name) same ∙ keeps name some

pub keeps_then : (old mid new : Holding) → KeepsHeld old mid → KeepsHeld mid new → KeepsHeld old new
keeps_then old mid new first second name some = grind (arith, common_steps)

pub ready_held : (own bytes : List ℕ) (names : List (List ℕ)) (old new : Holding) → text_of old.now own ≡ None → text_of old.before own ≡ None
    → new.now ≡ with_text own bytes old.now → new.before ≡ with_text own bytes old.before → new.ready ≡ old.ready ++ (own, false) ∷ [] → AreReady names old → AreReady names new
ready_held own bytes names old new none none_before now before ready are =
    let apart : (name : List ℕ) → is_name names name ≡ true → own ≢ name = λ name there same.
    some_not_none (text_of old.before name) (subst (λ (n : List ℕ). text_of old.before n ≡ None) same none_before) (are.held name there) in
    let now_other : (name : List ℕ) → own ≢ name → text_of new.now name ≡ text_of old.now name = λ name not. ap (λ (s : TextSet). text_of s name) now ∙ held_other own bytes old.now name not in
    let before_other : (name : List ℕ) → own ≢ name → text_of new.before name ≡ text_of old.before name = λ name not. ap (λ (s : TextSet). text_of s name) before ∙ held_other own bytes old.before name not in
    record {
      held = λ name there. subst (λ o. IsSome o) (sym (before_other name (apart name there))) (are.held name there);
      ready = λ name there has at. are.ready name there has (sym (ap (λ (l : List (List ℕ × Bool)). lookup (bytes_eq name) l) ready ∙ lookup_more old.ready own false name (apart name there)) ∙ at);
      stays_terminated = λ name there. now_other name (apart name there) ∙ are.stays_terminated name there ∙ ap (option_map terminated_text) (sym (before_other name (apart name there)));
      others = λ name out. elim (name_cases own name) [
        | inl is ↦
            let one : text_of new.now own ≡ Some (settled bytes) = ap (λ (s : TextSet). text_of s own) now ∙ held_this own bytes old.now none in
            let other : text_of new.before own ≡ Some (settled bytes) = ap (λ (s : TextSet). text_of s own) before ∙ held_this own bytes old.before none_before in
            subst (λ (n : List ℕ). text_of new.now n ≡ text_of new.before n) is.0 (one ∙ sym other)
        | inr not ↦ now_other name not.0 ∙ are.others name out ∙ sym (before_other name not.0)
      ];
      dirty = λ name out there.
          let was : is_dirty old.now name ≡ true = sym (ap (λ (s : TextSet). is_dirty s name) now) ∙ there in
          ap (λ (s : TextSet). is_dirty s name) before ∙ are.dirty name out was;
    }

pub sound_still : (names more : List (List ℕ)) (live now : Type 0) (old new : Image) (held : Holding) → IsSound names live old held → more ≡ names → (now → live × (new ≡ old)) → IsSound more now new held
sound_still names more live now old new held sound same alike = grind (arith, common_steps)

-- files of which nothing is held
pub sound_opened : (given names : List (List ℕ)) (live : Type 0) (files : Image) (held : Holding) → All IsOrgFile given → AreSorted (with_archives given) names → held.now ≡ nothing_held → held.before ≡ nothing_held
    → IsSound names live files held
sound_opened given names live files held org sorted now before = record {
  apart = recursion_from_All (λ name. name ≢ journal_name) names
      (all_sorted (λ name. name ≢ journal_name) (with_archives given) names sorted
      (All-from_recursion (λ name. name ≢ journal_name) (with_archives given) (archives_apart given (recursion_from_All IsOrgFile given org))));
  now = subst (AreTextsOf names live files) (sym now) none;
  before = subst (AreTextsOf names live files) (sym before) none;
  small = λ name dirty. absurd (false≢true (sym (ap (λ (s : TextSet). is_dirty s name) before) ∙ dirty));
}
  where
    none : AreTextsOf names live files nothing_held
    none = record {
      named = λ name some. absurd (false≢true some);
      dirty = λ name dirty. absurd (false≢true dirty);
      stand = λ l. record { each = λ name text at. absurd (false≢true (ap is_some at)); held = search rules };
    }

-- one more text is held
texts_held : (own bytes : List ℕ) (names : List (List ℕ)) (live : Type 0) (files : Image) (set : TextSet) → text_of set own ≡ None → is_name names own ≡ true → (live → bytes ≡ files own)
    → AreTextsOf names live files set → AreTextsOf names live files (with_text own bytes set)
texts_held own bytes names live files set none there is are = record {
  named = λ name some. elim (name_cases own name) [
    | inl same ↦ subst (λ (n : List ℕ). is_name names n ≡ true) same.0 there
    | inr apart ↦ are.named name (subst (λ o. IsSome o) (held_other own bytes set name apart.0) some)
  ];
  dirty = λ name is_dirty. let was = are.dirty name is_dirty in
      subst (λ o. IsSome o) (sym (held_other own bytes set name (λ same. some_not_none (text_of set name) (subst (λ (n : List ℕ). text_of set n ≡ None) same none) was))) was;
  stand = λ l. subst (λ (b : List ℕ). StandOver files (with_text own b set)) (sym (is l)) (StandOver-held own files set none (are.stand l));
}

pub sound_held : (own bytes : List ℕ) (names : List (List ℕ)) (live : Type 0) (files : Image) (held next : Holding) → text_of held.now own ≡ None → text_of held.before own ≡ None → is_name names own ≡ true
    → (live → bytes ≡ files own) → next.now ≡ with_text own bytes held.now → next.before ≡ with_text own bytes held.before → IsSound names live files held → IsSound names live files next
sound_held own bytes names live files held next none none_before there is now before sound = grind (arith, common_steps, texts_held, held_other)

-- ---- texts are changed

some_mapped : {X Y : Type 0} (f : X → Y) (o : Option X) → is_some (option_map f o) ≡ is_some o
some_mapped f None = refl
some_mapped f (Some x) = refl

some_change : {X : Type 0} (own : List ℕ) (f : X → X) (es : List (List ℕ × X)) (name : List ℕ) → is_some (lookup (bytes_eq name) (with_change own f es)) ≡ is_some (lookup (bytes_eq name) es)
some_change own f es name = grind (arith, common_steps, name_cases, change_this, some_mapped, change_other)

pub texts_terminated : (own : List ℕ) (names : List (List ℕ)) (live : Type 0) (files : Image) (set : TextSet) → IsSome (text_of set own) → AreTextsOf names live files set → AreTextsOf names live files (terminated_in own set)
texts_terminated own names live files set some are = record {
  named = λ name there. are.named name (sym (some_change own terminated_text set.texts name) ∙ there);
  dirty = λ name is_dirty. some_change own terminated_text set.texts name ∙ elim (name_cases own name) [
    | inl is ↦ subst (λ (n : List ℕ). IsSome (text_of set n)) is.0 some
    | inr apart ↦ are.dirty name (dirty_more own set.dirty name is_dirty apart.0)
  ];
  stand = λ l. StandOver-terminated own files set some (are.stand l);
}

pub sound_terminated : (own : List ℕ) (names : List (List ℕ)) (live : Type 0) (files : Image) (held next : Holding) → IsSome (text_of held.now own) → next.now ≡ terminated_in own held.now → next.before ≡ held.before
    → IsSound names live files held → IsSound names live files next
sound_terminated own names live files held next some now before sound = grind (arith, common_steps, texts_terminated)

-- the edits of a command, taken back or kept
pub sound_undone : (names : List (List ℕ)) (live : Type 0) (files : Image) (held next : Holding) → next.now ≡ held.before → next.before ≡ held.before → IsSound names live files held → IsSound names live files next
sound_undone names live files held next now before sound = record {
  apart = sound.apart;
  now = subst (AreTextsOf names live files) (sym now) sound.before;
  before = subst (AreTextsOf names live files) (sym before) sound.before;
  small = subst AreSmallToWrite (sym before) sound.small;
}

pub sound_kept : (names : List (List ℕ)) (live : Type 0) (files : Image) (held next : Holding) → next.now ≡ held.now → next.before ≡ held.now → AreSmallToWrite held.now → IsSound names live files held
    → IsSound names live files next
sound_kept names live files held next now before small sound = record {
  apart = sound.apart;
  now = subst (AreTextsOf names live files) (sym now) sound.now;
  before = subst (AreTextsOf names live files) (sym before) sound.now;
  small = subst AreSmallToWrite (sym before) small;
}

-- closing twice is closing once
terminated_again : (text : EditedText) → terminated_text (terminated_text text) ≡ terminated_text text
terminated_again text = grind (arith, common_steps, terminated_text-bytes, terminated_twice, is_terminated-terminated)

pub ready_terminated : (own : List ℕ) (names : List (List ℕ)) (old new : Holding) → IsSome (text_of old.now own) → new.now ≡ terminated_in own old.now → new.before ≡ old.before
    → new.ready ≡ with_change own (λ _. true) old.ready → AreReady names old → AreReady (own ∷ names) new
ready_terminated own names old new some now before ready are = record {
  held = λ name there. subst (λ (s : TextSet). IsSome (text_of s name)) (sym before) (held_before name there);
  ready = λ name there has at.
      let was : lookup (bytes_eq name) (with_change own (λ (b : Bool). true) old.ready) ≡ Some has = sym (ap (λ (l : List (List ℕ × Bool)). lookup (bytes_eq name) l) ready) ∙ at in
      elim (name_cases own name) [
        | inl is ↦ all_true (lookup (bytes_eq own) old.ready) has (sym (change_this own (λ (b : Bool). true) old.ready) ∙ subst (λ (n : List ℕ). lookup (bytes_eq n) (with_change own (λ (b : Bool). true) old.ready) ≡ Some has) (sym is.0) was)
        | inr apart ↦ are.ready name (later name apart.0 there) has (sym (change_other own name (λ (b : Bool). true) old.ready apart.0) ∙ was)
      ];
  stays_terminated = λ name there.
      ap (λ (s : TextSet). text_of s name) now
      ∙ elim (name_cases own name) [
        | inl is ↦ subst (λ (n : List ℕ). text_of (terminated_in own old.now) n ≡ option_map terminated_text (text_of old.before n)) is.0 (change_this own terminated_text old.now.texts ∙ own_terminated)
        | inr apart ↦ change_other own name terminated_text old.now.texts apart.0 ∙ are.stays_terminated name (later name apart.0 there)
      ]
      ∙ ap (λ (s : TextSet). option_map terminated_text (text_of s name)) (sym before);
  others = λ name out.
      let no = not_one own names name out in
      ap (λ (s : TextSet). text_of s name) now ∙ change_other own name terminated_text old.now.texts no.0 ∙ are.others name no.1 ∙ ap (λ (s : TextSet). text_of s name) (sym before);
  dirty = λ name out there.
      let no = not_one own names name out in
      let was : is_dirty (terminated_in own old.now) name ≡ true = sym (ap (λ (s : TextSet). is_dirty s name) now) ∙ there in
      ap (λ (s : TextSet). is_dirty s name) before ∙ are.dirty name no.1 (dirty_more own old.now.dirty name was no.0);
}
  where
    later : (name : List ℕ) → own ≢ name → is_name (own ∷ names) name ≡ true → is_name names name ≡ true
    later name apart there = elim (name_cases own name) [
      | inl is ↦ absurd (apart is.0)
      | inr not ↦ let f = not.1 in rw f at there
    ]

    all_true : (o : Option Bool) (has : Bool) → option_map (λ (b : Bool). true) o ≡ Some has → has ≡ true
    all_true None has at = absurd (cc)
    all_true (Some b) has at = let same : true ≡ has = cc in sym same

    both : (o : Option EditedText) → option_map terminated_text (option_map terminated_text o) ≡ option_map terminated_text o
    both None = refl
    both (Some t) = ap Some (terminated_again t)

    own_terminated : option_map terminated_text (text_of old.now own) ≡ option_map terminated_text (text_of old.before own)
    own_terminated = grind (arith, common_steps, cases_Bool, both)

    own_held : IsSome (text_of old.before own)
    own_held = elim (cases_Bool (is_name names own)) [
      | inl t ↦ are.held own t
      | inr f ↦ subst (λ o. IsSome o) (are.others own f) some
    ]

    held_before : (name : List ℕ) → is_name (own ∷ names) name ≡ true → IsSome (text_of old.before name)
    held_before name there = grind (arith, common_steps, name_cases, later)

-- nothing is ready where nothing was edited
pub none_ready : (held : Holding) → held.now ≡ held.before → AreReady [] held
none_ready held same = grind (arith, common_steps)

-- ---- a plan is put

can_held : (change : FileEdits) (set : TextSet) → CanEdit change set → IsSome (text_of set change.file)
can_held change set can = let is = the_value (λ (t : EditedText). LieIn change.edits.items t.bytes) (text_of set change.file) can in ap is_some is.1

pub texts_edited : (change : FileEdits) (names : List (List ℕ)) (live : Type 0) (files : Image) (set : TextSet) → CanEdit change set → AreTextsOf names live files set → AreTextsOf names live files (with_edits change set)
texts_edited change names live files set can are = record {
  named = λ name there. are.named name (sym (some_change change.file (spliced_each change.edits.items) set.texts name) ∙ there);
  dirty = λ name is_dirty. some_change change.file (spliced_each change.edits.items) set.texts name ∙ elim (name_cases change.file name) [
    | inl is ↦ subst (λ (n : List ℕ). IsSome (text_of set n)) is.0 (can_held change set can)
    | inr apart ↦ are.dirty name (dirty_more change.file set.dirty name is_dirty apart.0)
  ];
  stand = λ l. StandOver-edits change files set can (are.stand l);
}

texts_second : (second : Option FileEdits) (names : List (List ℕ)) (live : Type 0) (files : Image) (set : TextSet) → ForSome second (λ change. CanEdit change set) → AreTextsOf names live files set
    → AreTextsOf names live files (with_second second set)
texts_second None names live files set can are = are
texts_second (Some change) names live files set can are = texts_edited change names live files set (can change refl) are

pub sound_put : (plan : Plan) (names : List (List ℕ)) (live : Type 0) (files : Image) (held next : Holding) → IsPlan plan held.now → next.now ≡ planned plan held.now → next.before ≡ held.before
    → IsSound names live files held → IsSound names live files next
sound_put plan names live files held next is now before sound = grind (arith, common_steps, texts_second, texts_edited)

-- the files of a plan are held after it
still_held : (change : FileEdits) (set : TextSet) (name : List ℕ) → IsSome (text_of set name) → IsSome (text_of (with_edits change set) name)
still_held change set name some = some_change change.file (spliced_each change.edits.items) set.texts name ∙ some

held_second : (second : Option FileEdits) (set : TextSet) (name : List ℕ) → IsSome (text_of set name) → IsSome (text_of (with_second second set) name)
held_second None set name some = some
held_second (Some change) set name some = still_held change set name some

pub first_held : (plan : Plan) (set : TextSet) → IsPlan plan set → IsSome (text_of (planned plan set) plan.first.file)
first_held plan set is = held_second plan.second (with_edits plan.first set) plan.first.file (still_held plan.first set plan.first.file (can_held plan.first set is.first))

pub second_held : (plan : Plan) (set : TextSet) → IsPlan plan set → ForSome plan.second (λ change. IsSome (text_of (planned plan set) change.file))
second_held plan set is = go plan.second is.second
  where
    go : (second : Option FileEdits) → ForSome second (λ change. CanEdit change (with_edits plan.first set)) → ForSome second (λ change. IsSome (text_of (with_second second (with_edits plan.first set)) change.file))
    go None can = λ change is. absurd (cc)
    go (Some own) can = λ change is.
        let same : own ≡ change = cc in
        subst (λ (c : FileEdits). IsSome (text_of (with_second (Some own) (with_edits plan.first set)) c.file)) same
        (still_held own (with_edits plan.first set) own.file (can_held own (with_edits plan.first set) (can own refl)))

pub plan_held : (plan : Plan) (set : TextSet) → IsPlan plan set → (name : List ℕ) → is_name (files_of plan) name ≡ true → IsSome (text_of (planned plan set) name)
plan_held plan set is name there = elim (name_cases plan.first.file name) [
  | inl same ↦ subst (λ (n : List ℕ). IsSome (text_of (planned plan set) n)) same.0 (first_held plan set is)
  | inr apart ↦ let f = apart.1 in go plan.second refl (rw f at there)
]
  where
    go : (second : Option FileEdits) → plan.second ≡ second → is_name (second_file second) name ≡ true → IsSome (text_of (planned plan set) name)
    go None own there = absurd (false≢true there)
    go (Some change) own there = elim (name_cases change.file name) [
      | inl same ↦ subst (λ (n : List ℕ). IsSome (text_of (planned plan set) n)) same.0 (second_held plan set is change own)
      | inr apart ↦ let f = apart.1 in absurd (false≢true (rw f at there))
    ]

-- what isn't the plan's is as it was
edited_other : (change : FileEdits) (set : TextSet) (name : List ℕ) → change.file ≢ name → text_of (with_edits change set) name ≡ text_of set name
edited_other change set name apart = change_other change.file name (spliced_each change.edits.items) set.texts apart

second_other : (second : Option FileEdits) (set : TextSet) (name : List ℕ) → is_name (second_file second) name ≡ false
    → (text_of (with_second second set) name ≡ text_of set name) × (is_dirty (with_second second set) name ≡ true → is_dirty set name ≡ true)
second_other None set name out = (refl, λ there. there)
second_other (Some change) set name out = search (rules, arith, not_one, edited_other, dirty_more)

pub plan_other : (plan : Plan) (set : TextSet) (name : List ℕ) → is_name (files_of plan) name ≡ false
    → (text_of (planned plan set) name ≡ text_of set name) × (is_dirty (planned plan set) name ≡ true → is_dirty set name ≡ true)
plan_other plan set name out =
    let no = not_one plan.first.file (second_file plan.second) name out in
    let later = second_other plan.second (with_edits plan.first set) name no.1 in
    (later.0 ∙ edited_other plan.first set name no.0, λ there. dirty_more plan.first.file set.dirty name (later.1 there) no.0)

-- none of the texts of these names is past the limit
none_large : (set : TextSet) (names : List (List ℕ)) (name : List ℕ) → has_large (texts_in set names) ≡ false → is_name names name ≡ true → length (bytes_or [] (text_of set name)) ≤ limit
none_large set [] name none there = absurd (false≢true there)
none_large set (one ∷ names) name none there = elim (cases_Bool (nat_lt limit (length (bytes_or [] (text_of set one))))) [
  | inl t ↦ absurd (false≢true (sym (rw t at none)))
  | inr f ↦ elim (name_cases one name) [
    | inl is ↦ subst (λ (n : List ℕ). length (bytes_or [] (text_of set n)) ≤ limit) is.0 (grind (arith, nat_tests, f))
    | inr apart ↦ let g = apart.1 in none_large set names name (rw f at none) (rw g at there)
  ]
]

same_bytes : (o : Option EditedText) → (text_or_none o).bytes ≡ bytes_or [] o
same_bytes None = refl
same_bytes (Some t) = refl

pub small_put : (plan : Plan) (held : Holding) → AreTouched (files_of plan) held → AreSmallToWrite held.before → has_large (new_texts plan held.now) ≡ false → AreSmallToWrite (planned plan held.now)
small_put plan held touched small none name there = search (rules, arith, cases_Bool, same_bytes, planned, none_large, plan_other)

-- a text that is made ready, or the command's edits that were taken back
pub sound_made_ready : {E : Type 0} (result : Result (Unit {0}) E) (own : List ℕ) (names : List (List ℕ)) (live : Type 0) (files : Image) (held next : Holding) → IsSome (text_of held.now own)
    → OnOk result (next.now ≡ terminated_in own held.now) → OnErr result (next.now ≡ held.before) → next.before ≡ held.before → IsSound names live files held → IsSound names live files next
sound_made_ready (Ok _) own names live files held next some now undone before sound = sound_terminated own names live files held next some now before sound
sound_made_ready (Err e) own names live files held next some now undone before sound = sound_undone names live files held next undone before sound

pub ready_made : {E : Type 0} (result : Result (Unit {0}) E) (own : List ℕ) (old new : Holding) → IsSome (text_of old.now own) → OnOk result (new.now ≡ terminated_in own old.now)
    → OnOk result (new.ready ≡ with_change own (λ _. true) old.ready) → new.before ≡ old.before → OnOk result ((names : List (List ℕ)) → AreReady names old → AreReady (own ∷ names) new)
ready_made (Ok _) own old new some now ready before = λ names are. ready_terminated own names old new some now before ready are
ready_made (Err e) own old new some now ready before = tt

-- nothing is held of a name that isn't found
pub none_found : {X : Type 0} (text : X → EditedText) (found : Option X) (o : Option EditedText) → is_some found ≡ false → option_map text found ≡ o → o ≡ None
none_found text None o none is = sym is
none_found text (Some x) o none is = absurd (false≢true (sym none))

-- the files with held texts, where one more is held as the disk has it
pub over_held : (own copy bytes : List ℕ) (old now : Image) (set new : TextSet) → copy ≡ own → now ≡ old → bytes ≡ old own → new ≡ with_text copy bytes set → (name : List ℕ) → held_over new now name ≡ held_over set old name
over_held own copy bytes old now set new cloned same is made name = grind (arith, common_steps, held_over-held)
