-- Plans of one file, and what is seen of files that are ready.
use Rattle.std.proofs.Common.{arith, ◌≡◌, ◌≢◌, ℕ, true, List, [], ◌∷◌, Option, Some, None, refl, sym, ◌∙◌, ap, subst}
use Rattle.std.proofs.lemmas.Grind.{common_steps}
use Rattle.std.specs.Prelude.{IsSomeAnd}
use Rattle.std.specs.List.{AllByRecursion}
use Rattle.std.specs.Option.{IsSome, option_map}
use Rattle.std.proofs.lemmas.Bool.{false≢true}
use Rattle.org_disk.proofs.Names.{same_name}
use Rattle.org_splice.specs.declared.edit.Edit.{Edit}
use Rattle.org_splice.specs.Edits.{AreEdits, CanApply, applied_each}
use Rattle.org_splice.specs.Lines.{terminated}
use Rattle.org_splice.specs.Texts.{EditedText, terminated_text, spliced_each}
use Rattle.org_splice.proofs.Applying.{AreEdits-applied, AreEdits-can, spliced_each-bytes}
use Rattle.org_splice.proofs.Lines.{terminated_twice}
use Rattle.org_journal.specs.Recovered.{Image}
use Rattle.org_texts.specs.declared.plan.FileEdits.{FileEdits}
use Rattle.org_texts.specs.declared.plan.Plan.{Plan}
use Rattle.org_texts.specs.Plan.{EditsLines, IsOfLines, with_edits, with_second}
use Rattle.org_texts.specs.Texts.{Holding, TextSet, bytes_or, held_over, text_of}
use Rattle.org_texts.proofs.Heads.{terminated_text-bytes}
use Rattle.org_texts.proofs.Looking.{change_other, change_this}
use Rattle.org_texts.proofs.Standing.{plan_of_lines}
use Rattle.org_commands.specs.Files.{AreReady, AreTouched, IsPlanFor, IsReady, files_of, new_texts, second_file, texts_in}
use Rattle.org_commands.specs.InOrder.{is_name, text_at, texts_of}
use Rattle.org_commands.proofs.InOrder.{some_at}

-- the new text of the file of a plan of one file
pub one_text_by : (plan : Plan) (held : Holding) (file : List ℕ) (text : EditedText) (new : List ℕ) → plan.first.file ≡ file → plan.second ≡ None → text_of held.now file ≡ Some text → new ≡ applied_each plan.first.edits.items text.bytes
    → new_texts plan held.now ≡ (file, new) ∷ []
one_text_by plan held file text new own none at is = go plan.second none
  where
    es : List Edit
    es = plan.first.edits.items

    here : text_of held.now plan.first.file ≡ Some text
    here = ap (text_of held.now) own ∙ at

    made : bytes_or [] (text_of (with_edits plan.first held.now) plan.first.file) ≡ new
    made = ap (bytes_or []) (change_this plan.first.file (spliced_each es) held.now.texts ∙ ap (option_map (spliced_each es)) here) ∙ spliced_each-bytes es text ∙ sym is

    go : (second : Option FileEdits) → second ≡ None → texts_in (with_second second (with_edits plan.first held.now)) (plan.first.file ∷ second_file second) ≡ (file, new) ∷ []
    go None none_is = ap (λ (b : List ℕ). (plan.first.file, b) ∷ []) made ∙ ap (λ (n : List ℕ). (n, new) ∷ []) own
    go (Some change) none_is = absurd (cc)

pub one_text : (plan : Plan) (held : Holding) (file : List ℕ) (text : EditedText) (new : List ℕ) → plan.first.file ≡ file → plan.second ≡ None → text_of held.now file ≡ Some text → AreEdits plan.first.edits.items text.bytes new
    → new_texts plan held.now ≡ (file, new) ∷ []
one_text plan held file text new own none at edits = one_text_by plan held file text new own none at (AreEdits-applied plan.first.edits.items text.bytes new edits)

pub one_name : (file : List ℕ) → is_name (file ∷ []) file ≡ true
one_name file = let t = same_name file in rw t refl

some_and : {X : Type 0} (P : X → Type 0) (o : Option X) (x : X) → o ≡ Some x → P x → IsSomeAnd o P
some_and {X = X} P o x is holds = subst (λ (p : Option X). IsSomeAnd p P) (sym is) holds

the_held : (o : Option EditedText) (seen : EditedText) → Some seen ≡ option_map terminated_text o → (old : EditedText) × (o ≡ Some old) × (seen ≡ terminated_text old)
the_held None seen is = absurd (cc)
the_held (Some old) seen is = let same : seen ≡ terminated_text old = cc in (old, refl, same)

-- what was held of a file that is ready
pub ready_text : (names : List (List ℕ)) (held : Holding) (file : List ℕ) (seen : EditedText) → AreReady names held → is_name names file ≡ true → text_of held.now file ≡ Some seen
    → (old : EditedText) × (text_of held.before file ≡ Some old) × (seen.bytes ≡ terminated old.bytes)
ready_text names held file seen ready there at = grind (arith, common_steps, the_held, terminated_text-bytes)

-- .. it is terminated
pub text_ends : (names : List (List ℕ)) (held : Holding) (file : List ℕ) (seen : EditedText) → AreReady names held → is_name names file ≡ true → text_of held.now file ≡ Some seen → terminated seen.bytes ≡ seen.bytes
text_ends names held file seen ready there at = grind (arith, common_steps, ready_text, terminated_twice)

pub touched_ready : (names : List (List ℕ)) (held : Holding) → AreReady names held → AreTouched names held
touched_ready names held ready = record { held = ready.held; others = ready.others; dirty = ready.dirty }

-- edits of a text that is terminated are edits of lines
edits_lines : (change : FileEdits) (set : TextSet) (text : EditedText) (new : List ℕ) → text_of set change.file ≡ Some text → terminated text.bytes ≡ text.bytes → AreEdits change.edits.items text.bytes new → EditsLines change set
edits_lines change set text new at ends edits =
    some_and (λ (t : EditedText). (terminated t.bytes ≡ t.bytes) × CanApply change.edits.items t.bytes) (text_of set change.file) text at (ends, AreEdits-can change.edits.items text.bytes new edits)

pub plan_of_one : (plan : Plan) (names : List (List ℕ)) (held : Holding) (file : List ℕ) (text : EditedText) (new : List ℕ) → plan.first.file ≡ file → plan.second ≡ None → text_of held.now file ≡ Some text
    → AreEdits plan.first.edits.items text.bytes new → is_name names file ≡ true → AreReady (file ∷ []) held → IsPlanFor names held plan
plan_of_one plan names held file text new own none at edits there ready =
    let files : files_of plan ≡ file ∷ [] = ap (λ (n : List ℕ). n ∷ second_file plan.second) own ∙ ap (λ (s : Option FileEdits). file ∷ second_file s) none in
    let lines : IsOfLines plan held.now = record {
      first = edits_lines plan.first held.now text new (ap (text_of held.now) own ∙ at) (text_ends (file ∷ []) held file text ready (one_name file) at) edits;
      second = λ change is. let no : None ≡ Some change = sym none ∙ is in absurd (cc);
    } in
    record {
      is = plan_of_lines plan held.now lines;
      named = subst (λ (fs : List (List ℕ)). AllByRecursion (λ name. is_name names name ≡ true) fs) (sym files) (there, tt);
      touched = subst (λ (fs : List (List ℕ)). AreTouched fs held) (sym files) (touched_ready (file ∷ []) held ready);
      lines = λ yes. lines;
    }

-- .. is the store's text of it
pub text_held : (names : List (List ℕ)) (held : Holding) (files : Image) (file : List ℕ) (old : EditedText) → is_name names file ≡ true → text_of held.before file ≡ Some old
    → text_at names (texts_of (held_over held.before files) names) file ≡ Some old.bytes
text_held names held files file old there is = some_at (held_over held.before files) names file there ∙ ap (λ o. Some (bytes_or (files file) o)) is

pub now_held : (names : List (List ℕ)) (held : Holding) (file : List ℕ) → AreReady names held → is_name names file ≡ true → IsSome (text_of held.now file)
now_held names held file ready there = subst (λ (o : Option EditedText). IsSome o) (sym (ready.stays_terminated file there)) (mapped (text_of held.before file) (ready.held file there))
  where
    mapped : (o : Option EditedText) → IsSome o → IsSome (option_map terminated_text o)
    mapped None some = absurd (false≢true some)
    mapped (Some text) some = refl

pub is_ready : (names : List (List ℕ)) (held : Holding) (file : List ℕ) → AreReady names held → is_name names file ≡ true → IsReady file held
is_ready names held file are there = record { held = now_held names held file are there; ready = are.ready file there }

-- ---- plans of two files

-- the text of a file that is edited
edited_text : (change : FileEdits) (set : TextSet) (text : EditedText) (new : List ℕ) → text_of set change.file ≡ Some text → AreEdits change.edits.items text.bytes new → bytes_or [] (text_of (with_edits change set) change.file) ≡ new
edited_text change set text new at edits = grind (arith, common_steps, change_this, spliced_each-bytes, AreEdits-applied)

pub two_texts : (plan : Plan) (second : FileEdits) (held : Holding) (file to_file : List ℕ) (text target : EditedText) (new other : List ℕ) → file ≢ to_file → plan.first.file ≡ file → plan.second ≡ Some second → second.file ≡ to_file
    → text_of held.now file ≡ Some text → text_of held.now to_file ≡ Some target → AreEdits plan.first.edits.items text.bytes new → AreEdits second.edits.items target.bytes other
    → new_texts plan held.now ≡ (file, new) ∷ (to_file, other) ∷ []
two_texts plan second held file to_file text target new other apart own is into at there edits more =
    let both : texts_in (with_edits second left) (plan.first.file ∷ second.file ∷ []) ≡ (file, new) ∷ (to_file, other) ∷ [] =
    ap (λ (t : List ℕ). (plan.first.file, t) ∷ (second.file, bytes_or [] (text_of (with_edits second left) second.file)) ∷ []) first_text
    ∙ ap (λ (t : List ℕ). (plan.first.file, new) ∷ (second.file, t) ∷ []) second_text
    ∙ ap (λ (n : List ℕ). (n, new) ∷ (second.file, other) ∷ []) own
    ∙ ap (λ (n : List ℕ). (file, new) ∷ (n, other) ∷ []) into in
    subst (λ (o : Option FileEdits). texts_in (with_second o left) (plan.first.file ∷ second_file o) ≡ (file, new) ∷ (to_file, other) ∷ []) (sym is) both
  where
    left : TextSet
    left = with_edits plan.first held.now

    distinct : plan.first.file ≢ second.file
    distinct same = apart (sym own ∙ same ∙ into)

    first_text : bytes_or [] (text_of (with_edits second left) plan.first.file) ≡ new
    first_text = grind (arith, common_steps, change_other, left, distinct, edited_text)

    second_text : bytes_or [] (text_of (with_edits second left) second.file) ≡ other
    second_text =
        let still : text_of left second.file ≡ Some target = change_other plan.first.file second.file (spliced_each plan.first.edits.items) held.now.texts distinct ∙ ap (text_of held.now) into ∙ there in
        edited_text second left target other still more

-- the same names in another order
swapped : (one two : List ℕ) (name : List ℕ) → is_name (one ∷ two ∷ []) name ≡ is_name (two ∷ one ∷ []) name
swapped one two name = grind (arith, common_steps)

pub ready_swapped : (one two : List ℕ) (held : Holding) → AreReady (one ∷ two ∷ []) held → AreReady (two ∷ one ∷ []) held
ready_swapped one two held are = grind (arith, common_steps)

pub first_name : (one : List ℕ) (names : List (List ℕ)) → is_name (one ∷ names) one ≡ true
first_name one names = let t = same_name one in rw t refl

pub second_name : (one two : List ℕ) → is_name (one ∷ two ∷ []) two ≡ true
second_name one two = swapped one two two ∙ first_name two (one ∷ [])

pub plan_of_two : (plan : Plan) (second : FileEdits) (names : List (List ℕ)) (held : Holding) (file to_file : List ℕ) (text target : EditedText) (new other : List ℕ) → file ≢ to_file → plan.first.file ≡ file → plan.second ≡ Some second
    → second.file ≡ to_file → text_of held.now file ≡ Some text → text_of held.now to_file ≡ Some target → AreEdits plan.first.edits.items text.bytes new → AreEdits second.edits.items target.bytes other
    → is_name names file ≡ true → is_name names to_file ≡ true → AreReady (to_file ∷ file ∷ []) held → IsPlanFor names held plan
plan_of_two plan second names held file to_file text target new other apart own is into at there edits more named also ready =
    let files : files_of plan ≡ file ∷ to_file ∷ [] =
    ap (λ (s : Option FileEdits). plan.first.file ∷ second_file s) is ∙ ap (λ (n : List ℕ). n ∷ second.file ∷ []) own ∙ ap (λ (n : List ℕ). file ∷ n ∷ []) into in
    let names_two = to_file ∷ file ∷ [] in
    let still : text_of (with_edits plan.first held.now) second.file ≡ Some target =
    change_other plan.first.file second.file (spliced_each plan.first.edits.items) held.now.texts (λ alike. apart (sym own ∙ alike ∙ into)) ∙ ap (text_of held.now) into ∙ there in
    let lines : IsOfLines plan held.now = record {
      first = edits_lines plan.first held.now text new (ap (text_of held.now) own ∙ at) (text_ends names_two held file text ready (second_name to_file file) at) edits;
      second = λ change same.
          let one : second ≡ change = let both : Some second ≡ Some change = sym is ∙ same in cc in
          subst (λ (c : FileEdits). EditsLines c (with_edits plan.first held.now)) one
          (edits_lines second (with_edits plan.first held.now) target other still (text_ends names_two held to_file target ready (first_name to_file (file ∷ [])) there) more);
    } in
    record {
      is = plan_of_lines plan held.now lines;
      named = subst (λ (fs : List (List ℕ)). AllByRecursion (λ name. is_name names name ≡ true) fs) (sym files) (named, (also, tt));
      touched = subst (λ (fs : List (List ℕ)). AreTouched fs held) (sym files) (touched_ready (file ∷ to_file ∷ []) held (ready_swapped to_file file held ready));
      lines = λ yes. lines;
    }
