-- What is noted of a store's files stays true of their texts.
use Rattle.std.proofs.Common.{rules, ◌≡◌, ◌≢◌, ◌⊎◌, inl, inr, ℕ, zero, suc, ◌+◌, ◌<◌, ◌≤◌, true, false, List, [], ◌∷◌, ◌++◌, length, drop, get_or, slice_get, Option, Some, None, refl, sym, ◌∙◌, ap, subst, below_more, arith}
use Rattle.std.proofs.lemmas.Grind.{common_steps}
use Rattle.std.proofs.Math.ListN.{set}
use Rattle.std.proofs.lemmas.List.{append-nil, drop_all}
use Rattle.std.proofs.lemmas.Option.{slice_get_within}
use Rattle.std.specs.Prelude.{OnErr, OnOk, Result, Ok, Err}
use Rattle.std.specs.Option.{ForSome, IsSome, option_map}
use Rattle.std.proofs.lemmas.Bool.{false≢true}
use Rattle.std.specs.Prelude.{IsSomeAnd}
use Rattle.std.specs.Str.{bytes_eq}
use Rattle.org_disk.proofs.Names.{name_cases}
use Rattle.org_splice.specs.declared.edit.Edit.{Edit}
use Rattle.org_splice.specs.Edits.{CanApply, applied, applied_each}
use Rattle.org_splice.specs.Lines.{terminated}
use Rattle.org_splice.specs.Texts.{EditedText, terminated_text, settled, spliced_each}
use Rattle.org_splice.proofs.Lines.{terminated_twice}
use Rattle.org_outline.proofs.Trees.{tree-terminated}
use Rattle.org_splice.specs.declared.searched.Searched.{Searched}
use Rattle.org_splice.specs.declared.searched.Searched.TheVariants.{Nowhere}
use Rattle.org_splice.specs.Searched.{IsSearched}
use Rattle.org_state.proofs.Known.{no_clock}
use Rattle.org_texts.specs.declared.plan.FileEdits.{FileEdits}
use Rattle.org_texts.specs.declared.plan.Plan.{Plan}
use Rattle.org_texts.specs.Plan.{EditsLines, IsOfLines, planned, with_edits, with_second}
use Rattle.org_texts.specs.Texts.{Holding, TextSet, bytes_or, terminated_in, settled_set, text_of, with_text}
use Rattle.org_texts.proofs.Heads.{terminated_text-bytes}
use Rattle.org_texts.proofs.Looking.{change_other, change_this, text_of-settled}
use Rattle.org_commands.specs.Clocks.{RunsIn}
use Rattle.org_commands.specs.Files.{AreReady}
use Rattle.org_commands.specs.InOrder.{is_name}
use Rattle.org_commands.specs.declared.searches.Searches.{Searches}
use Rattle.org_move.specs.Location.{has_archive_line}
use Rattle.org_commands.specs.Noted.{AreKnown, AreSearched, FollowsEdits, IsKnown, IsNoted, Lowers, LowersNote, StayKnown, StaysKnown}
use Rattle.org_commands.proofs.Held.{held_other}
use Rattle.org_commands.proofs.Plans.{now_held, one_name, ready_text, text_ends}

-- ---- one text

-- a text that is the same
same_text : (old new : TextSet) (name : List ℕ) (searched : Searches) → text_of new name ≡ text_of old name → IsKnown searched old name → IsKnown searched new name
same_text old new name searched same known = (known.0, same ∙ known.1, known.2)

-- another text is held
known_held : (own bytes : List ℕ) (set : TextSet) (name : List ℕ) (searched : Searches) → text_of set own ≡ None → IsKnown searched set name → IsKnown searched (with_text own bytes set) name
known_held own bytes set name searched none known = grind (arith, common_steps, name_cases, same_text, held_other)

-- a text is terminated
known_terminated : (own : List ℕ) (set : TextSet) (name : List ℕ) (searched : Searches) → IsKnown searched set name → IsKnown searched (terminated_in own set) name
known_terminated own set name searched known = elim (name_cases own name) [
  | inl is ↦
      let here : text_of set own ≡ Some known.0 = ap (text_of set) is.0 ∙ known.1 in
      let bytes : terminated known.0.bytes ≡ terminated (terminated_text known.0).bytes = sym (ap terminated (terminated_text-bytes known.0) ∙ terminated_twice known.0.bytes) in
      subst (λ (n : List ℕ). IsKnown searched (terminated_in own set) n) is.0 (
        terminated_text known.0,
        change_this own terminated_text set.texts ∙ ap (option_map terminated_text) here,
        subst (AreSearched searched) bytes known.2,
      )
  | inr apart ↦ same_text set (terminated_in own set) name searched (change_other own name terminated_text set.texts apart.0) known
]

-- the texts are on the disk
known_settled : (set : TextSet) (name : List ℕ) (searched : Searches) → IsKnown searched set name → IsKnown searched (settled_set set) name
known_settled set name searched known =
    (settled known.0.bytes, text_of-settled set name ∙ ap (option_map (λ (t : EditedText). settled t.bytes)) known.1, known.2)

-- no clock runs in a text of which that is known
pub clockless_known : (searched : Searches) (set : TextSet) (name : List ℕ) → searched.clocks ≡ Nowhere → IsKnown searched set name → RunsIn set name None
clockless_known searched set name is known = grind (arith, common_steps, no_clock, tree-terminated)

-- ---- the notes

known_still : (names : List (List ℕ)) (notes : List (Option Searches)) (old new : TextSet) → ((name : List ℕ) (searched : Searches) → IsKnown searched old name → IsKnown searched new name) → AreKnown names notes old → AreKnown names notes new
known_still names notes old new still are i searched at name is = still name searched (are i searched at name is)

pub noted_still : (names more : List (List ℕ)) (notes : List (Option Searches)) (held : Holding) → more ≡ names → IsNoted names notes held → IsNoted more notes held
noted_still names more notes held same noted = subst (λ (ns : List (List ℕ)). IsNoted ns notes held) (sym same) noted

pub noted_held : (own bytes : List ℕ) (names : List (List ℕ)) (notes : List (Option Searches)) (held next : Holding) → text_of held.now own ≡ None → text_of held.before own ≡ None → next.now ≡ with_text own bytes held.now
    → next.before ≡ with_text own bytes held.before → IsNoted names notes held → IsNoted names notes next
noted_held own bytes names notes held next none none_before now before noted = record {
  now = subst (AreKnown names notes) (sym now) (known_still names notes held.now (with_text own bytes held.now) (λ name searched known. known_held own bytes held.now name searched none known) noted.now);
  before = subst (AreKnown names notes) (sym before) (known_still names notes held.before (with_text own bytes held.before) (λ name searched known. known_held own bytes held.before name searched none_before known) noted.before);
}

-- the edits of a command, taken back or kept
pub noted_undone : (names : List (List ℕ)) (notes : List (Option Searches)) (held next : Holding) → next.now ≡ held.before → next.before ≡ held.before → IsNoted names notes held → IsNoted names notes next
noted_undone names notes held next now before noted = grind (arith, common_steps)

pub noted_kept : (names : List (List ℕ)) (notes : List (Option Searches)) (held next : Holding) → next.now ≡ held.now → next.before ≡ held.now → IsNoted names notes held → IsNoted names notes next
noted_kept names notes held next now before noted = search (rules, arith)

pub noted_settled : (names : List (List ℕ)) (notes : List (Option Searches)) (held next : Holding) → next.now ≡ settled_set held.now → next.before ≡ settled_set held.now → IsNoted names notes held → IsNoted names notes next
noted_settled names notes held next now before noted =
    let are : AreKnown names notes (settled_set held.now) = known_still names notes held.now (settled_set held.now) (λ name searched known. known_settled held.now name searched known) noted.now in
    record { now = subst (AreKnown names notes) (sym now) are; before = subst (AreKnown names notes) (sym before) are }

-- a text that is made ready, or the command's edits that were taken back
pub noted_made_ready : {E : Type 0} (result : Result (Unit {0}) E) (own : List ℕ) (names : List (List ℕ)) (notes : List (Option Searches)) (held next : Holding)
    → OnOk result (next.now ≡ terminated_in own held.now) → OnErr result (next.now ≡ held.before) → next.before ≡ held.before → IsNoted names notes held → IsNoted names notes next
noted_made_ready (Ok _) own names notes held next now undone before noted = record {
  now = subst (AreKnown names notes) (sym now) (known_still names notes held.now (terminated_in own held.now) (λ name searched known. known_terminated own held.now name searched known) noted.now);
  before = subst (AreKnown names notes) (sym before) noted.before;
}
noted_made_ready (Err e) own names notes held next now undone before noted = noted_undone names notes held next undone before noted

pub nothing_known : (notes : List (Option Searches)) → notes ≡ [] → (names : List (List ℕ)) (set : TextSet) → AreKnown names notes set
nothing_known notes none names set i searched at = absurd (not_in i searched (ap (λ (q : List (Option Searches)). slice_get q i) (sym none) ∙ at))
  where
    not_in : (i : ℕ) (searched : Searches) → ◌≡◌ {A = Option (Option Searches)} (slice_get [] i) (Some (Some searched)) → ⊥
    not_in i searched at = cc

-- ---- a file is noted

pub noted_more : (names ns : List (List ℕ)) (old new : List (Option Searches)) (held : Holding) (file : List ℕ) (searched : Searches) → ns ≡ names
    → ((set : TextSet) → IsKnown searched set file → AreKnown ns old set → AreKnown ns new set)
    → IsKnown searched held.now file → IsKnown searched held.before file → IsNoted names old held → IsNoted names new held
noted_more names ns old new held file searched same more now before noted =
    let are : (set : TextSet) → IsKnown searched set file → AreKnown names old set → AreKnown names new set =
    subst (λ (k : List (List ℕ)). (set : TextSet) → IsKnown searched set file → AreKnown k old set → AreKnown k new set) same more in
    record { now = are held.now now noted.now; before = are held.before before noted.before }

-- ---- edits

-- the notes of a text whose edits are made
pub stays_lowered : (names : List (List ℕ)) (file : List ℕ) (size : ℕ) (edits : List Edit) (old new : List (Option Searches)) → Lowers names file size edits old new → StayKnown names old new
stays_lowered names file size edits old new lowers set are i searched at name is = grind (arith, common_steps)

-- the bytes after edits
pub spliced_bytes : (edits : List Edit) (text : EditedText) → (spliced_each edits text).bytes ≡ applied_each edits text.bytes
spliced_bytes [] text = refl
spliced_bytes (e ∷ es) text = spliced_bytes es _

applied_ends : (edits : List Edit) (text : List ℕ) → terminated text ≡ text → CanApply edits text → terminated (applied_each edits text) ≡ applied_each edits text
applied_ends [] text whole can = whole
applied_ends (e ∷ es) text whole can = applied_ends es (applied e text) can.1 can.2

pub follows_lowered : (names : List (List ℕ)) (change : FileEdits) (size : ℕ) (old new : List (Option Searches)) (set : TextSet) → Lowers names change.file size change.edits.items old new
    → EditsLines change set → ForSome (text_of set change.file) (λ (text : EditedText). size ≤ length text.bytes)
    → AreKnown names old set → AreKnown names new (with_edits change set)
follows_lowered names change size old new set lowers can long are i searched at name is =
    let low = lowers i searched at in
    let known = are i low.0 low.1 name is in
    let text = known.0 in
    elim (name_cases change.file name) [
      | inl same ↦
          let here : text_of set change.file ≡ Some text = ap (text_of set) same.0 ∙ known.1 in
          let both = subst (λ (o : Option EditedText). IsSomeAnd o (λ t. (terminated t.bytes ≡ t.bytes) × CanApply change.edits.items t.bytes)) here can in
          let ended : terminated text.bytes ≡ text.bytes = both.0 in
          let able : CanApply change.edits.items text.bytes = both.1 in
          let follows = low.3 name is same.1 text.bytes (long text here) able (subst (AreSearched low.0) ended known.2) in
          let bytes : (spliced_each change.edits.items text).bytes ≡ applied_each change.edits.items text.bytes = spliced_bytes change.edits.items text in
          let after : applied_each change.edits.items text.bytes ≡ terminated (spliced_each change.edits.items text).bytes = sym (ap terminated bytes ∙ applied_ends change.edits.items text.bytes ended able) in
          subst (λ (n : List ℕ). IsKnown searched (with_edits change set) n) same.0 (
            spliced_each change.edits.items text,
            change_this change.file (spliced_each change.edits.items) set.texts ∙ ap (option_map (spliced_each change.edits.items)) here,
            subst (AreSearched searched) after follows,
          )
      | inr apart ↦
          same_text set (with_edits change set) name searched (change_other change.file name (spliced_each change.edits.items) set.texts apart.0) (text, known.1, low.2 (terminated text.bytes) known.2)
    ]

-- ---- the notes of one file lowered

-- .. as far as the names that were looked at
abbrev pub LowersBelow : List (List ℕ) → List ℕ → ℕ → List Edit → ℕ → List (Option Searches) → List (Option Searches) → Type 0
LowersBelow names file size edits index old new =
    (i : ℕ) (searched : Searches) → slice_get new i ≡ Some (Some searched)
    → (was : Searches) × (slice_get old i ≡ Some (Some was)) × StaysKnown was searched
    × (i < index → (name : List ℕ) → slice_get names i ≡ Some name → bytes_eq file name ≡ true → FollowsEdits size edits was searched)

-- a note that was put in another's place
replaced : (notes : List (Option Searches)) (index i : ℕ) (new s : Option Searches) → index < length notes → slice_get (set notes index new) i ≡ Some s → ((i ≡ index) × (s ≡ new)) ⊎ ((i ≢ index) × (slice_get notes i ≡ Some s))
replaced [] index i new s within at = absurd (omega (arith, within))
replaced (x ∷ xs) zero zero new s within at = inl (refl, cc)
replaced (x ∷ xs) zero (suc i) new s within at = inr (λ is. cc, at)
replaced (x ∷ xs) (suc index) zero new s within at = inr (λ is. cc, at)
replaced (x ∷ xs) (suc index) (suc i) new s within at = grind (arith, common_steps, replaced xs)

pub lowers_this : (names : List (List ℕ)) (file : List ℕ) (size : ℕ) (edits : List Edit) (index : ℕ) (old mid new : List (Option Searches)) (here lower : Option Searches) → index < length mid → slice_get mid index ≡ Some here
    → new ≡ set mid index lower → LowersNote size edits here lower
    → LowersBelow names file size edits index old mid → LowersBelow names file size edits (index + 1) old new
lowers_this names file size edits index old mid new here lower within at_here is lowers sofar i searched at =
    elim (replaced mid index i lower (Some searched) within (ap (λ (q : List (Option Searches)). slice_get q i) (sym is) ∙ at)) [
      | inl this ↦
          let down = lowers searched (sym this.1) in
          let was_here : slice_get mid i ≡ Some (Some down.0) = ap (slice_get mid) this.0 ∙ at_here ∙ ap (λ (o : Option Searches). Some o) down.1 in
          let was = sofar i down.0 was_here in
          (was.0, was.1, λ text known. down.2 text (was.2 text known), λ below name at_name same text long can known. down.3 text long can (was.2 text known))
      | inr other ↦
          let was = sofar i searched other.1 in
          (was.0, was.1, was.2, λ below. was.3 (omega (arith, below, other.0)))
    ]

pub lowers_other : (names : List (List ℕ)) (file : List ℕ) (size : ℕ) (edits : List Edit) (index : ℕ) (old new : List (Option Searches)) → ((name : List ℕ) → slice_get names index ≡ Some name → bytes_eq file name ≡ false) → LowersBelow names file size edits index old new
    → LowersBelow names file size edits (index + 1) old new
lowers_other names file size edits index old new other sofar i searched at =
    let was = sofar i searched at in (
      was.0,
      was.1,
      was.2,
      λ below name at_name same. below_more (λ (j : ℕ). j ≡ i → slice_get names j ≡ Some name → FollowsEdits size edits was.0 searched) index
          (λ j sooner is there. was.3 (omega (arith, sooner, is)) name at_name same)
          (λ is there. absurd (let no = other name there in cc)) i below refl at_name,
    )

pub lowers_past : (names : List (List ℕ)) (file : List ℕ) (size : ℕ) (edits : List Edit) (index next : ℕ) (old new : List (Option Searches)) → length new ≤ index → LowersBelow names file size edits index old new → LowersBelow names file size edits next old new
lowers_past names file size edits index next old new past sofar i searched at = grind (arith, common_steps, slice_get_within)

pub lowers_all : (names : List (List ℕ)) (file : List ℕ) (size : ℕ) (edits : List Edit) (index : ℕ) (old new : List (Option Searches)) → length names ≤ index → LowersBelow names file size edits index old new → Lowers names file size edits old new
lowers_all names file size edits index old new past sofar i searched at =
    let was = sofar i searched at in
    (was.0, was.1, was.2, λ name at_name same. was.3 (omega (arith, past, slice_get_within names i name at_name)) name at_name same)

-- a plan's edits, in memory
pub noted_put : (plan : Plan) (names ns : List (List ℕ)) (old new : List (Option Searches)) (held next : Holding) → ns ≡ names → next.now ≡ planned plan held.now → next.before ≡ held.before
    → StayKnown ns old new → (AreKnown ns old held.now → AreKnown ns new (planned plan held.now)) → IsNoted names old held → IsNoted names new next
noted_put plan names ns old new held next same now before stays follows noted =
    let N : List (Option Searches) → TextSet → Type 0 = λ notes set. AreKnown names notes set in
    let stays_here : N old held.before → N new held.before = subst (λ (k : List (List ℕ)). AreKnown k old held.before → AreKnown k new held.before) same (stays held.before) in
    let follows_here : N old held.now → N new (planned plan held.now) = subst (λ (k : List (List ℕ)). AreKnown k old held.now → AreKnown k new (planned plan held.now)) same follows in
    record {
      now = subst (N new) (sym now) (follows_here noted.now);
      before = subst (N new) (sym before) (stays_here noted.before);
    }

pub noted_not_put : (names ns : List (List ℕ)) (old new : List (Option Searches)) (held next : Holding) → ns ≡ names → next.now ≡ held.before → next.before ≡ held.before
    → StayKnown ns old new → IsNoted names old held → IsNoted names new next
noted_not_put names ns old new held next same now before stays noted =
    let stays_here : AreKnown names old held.before → AreKnown names new held.before = subst (λ (k : List (List ℕ)). AreKnown k old held.before → AreKnown k new held.before) same (stays held.before) in
    record {
      now = subst (AreKnown names new) (sym now) (stays_here noted.before);
      before = subst (AreKnown names new) (sym before) (stays_here noted.before);
    }

-- what a search found of a text that was ready
pub known_ready : (held : Holding) (before : TextSet) (file : List ℕ) (seen : EditedText) (searched : Searches) → AreReady (file ∷ []) held → text_of held.now file ≡ Some seen → before ≡ held.before → AreSearched searched seen.bytes
    → IsKnown searched before file
known_ready held before file seen searched ready at same known = grind (arith, common_steps, ready_text, one_name, set)

-- what is left of edits, of which one is made
pub edits_left : (rest : List Edit) (index size next : ℕ) (was searched : Searches) (e : Edit) (text : List ℕ) (edits : List Edit) → index < length rest → e ≡ get_or rest index e
    → ((t : List ℕ) → size ≤ length t → e.at + e.removed ≤ length t → next ≤ length (applied e t))
    → ((t : List ℕ) → size ≤ length t → e.at + e.removed ≤ length t → AreSearched was t → AreSearched searched (applied e t))
    → (now : List ℕ) × (size ≤ length now) × CanApply (drop index rest) now × (applied_each (drop index rest) now ≡ applied_each edits text) × AreSearched was now
    → (now : List ℕ) × (next ≤ length now) × CanApply (drop (index + 1) rest) now × (applied_each (drop (index + 1) rest) now ≡ applied_each edits text) × AreSearched searched now
edits_left rest index size next was searched e text edits within is smaller behind (now, small, able, same, known) =
    let next_index : suc index ≡ index + 1 = omega arith in
    let split : drop index rest ≡ e ∷ drop (index + 1) rest =
    drop_split rest index e within ∙ ap (λ (x : Edit). x ∷ drop (suc index) rest) (sym is) ∙ ap (λ (n : ℕ). e ∷ drop n rest) next_index in
    let can : CanApply (e ∷ drop (index + 1) rest) now = subst (λ (es : List Edit). CanApply es now) split able in
    (applied e now, smaller now small can.0, can.2, ap (λ (es : List Edit). applied_each es now) (sym split) ∙ same, behind now small can.0 known)
  where
    drop_split : (xs : List Edit) (i : ℕ) (d : Edit) → i < length xs → drop i xs ≡ get_or xs i d ∷ drop (suc i) xs
    drop_split [] i d less = absurd (omega (arith, less))
    drop_split (x ∷ xs) zero d less = refl
    drop_split (x ∷ xs) (suc i) d less = drop_split xs i d (omega (arith, less))

-- ---- a plan

pub ends_ready : (names : List (List ℕ)) (held : Holding) (file : List ℕ) → AreReady names held → is_name names file ≡ true → ForSome (text_of held.now file) (λ (text : EditedText). terminated text.bytes ≡ text.bytes)
ends_ready names held file ready there text at = text_ends names held file text ready there at

pub plan_of_first : (plan : Plan) → plan.second ≡ None → (set : TextSet) → with_edits plan.first set ≡ planned plan set
plan_of_first plan none set = ap (λ (o : Option FileEdits). with_second o (with_edits plan.first set)) (sym none)

pub plan_of_both : (plan : Plan) (change : FileEdits) → plan.second ≡ Some change → (set : TextSet) → with_edits change (with_edits plan.first set) ≡ planned plan set
plan_of_both plan change some set = ap (λ (o : Option FileEdits). with_second o (with_edits plan.first set)) (sym some)

pub first_lowered : (plan : Plan) (names : List (List ℕ)) (size : ℕ) (old new : List (Option Searches)) (set : TextSet) → IsOfLines plan set → Lowers names plan.first.file size plan.first.edits.items old new
    → ForSome (text_of set plan.first.file) (λ (text : EditedText). size ≤ length text.bytes) → AreKnown names old set → AreKnown names new (with_edits plan.first set)
first_lowered plan names size old new set of_lines lowers long are = follows_lowered names plan.first size old new set lowers of_lines.first long are

-- the text of the second file, where the first edits are made: its size isn't known where it is the first file
pub second_lowered : (plan : Plan) (change : FileEdits) (names : List (List ℕ)) (size : ℕ) (old new : List (Option Searches)) (set : TextSet) → IsOfLines plan set → plan.second ≡ Some change
    → Lowers names change.file size change.edits.items old new
    → (plan.first.file ≡ change.file → size ≡ 0) → (plan.first.file ≢ change.file → ForSome (text_of set change.file) (λ (text : EditedText). size ≤ length text.bytes))
    → AreKnown names old (with_edits plan.first set) → AreKnown names new (planned plan set)
second_lowered plan change names size old new set of_lines some lowers same_file other_file are =
    let mid = with_edits plan.first set in
    subst (AreKnown names new) (plan_of_both plan change some set)
    (follows_lowered names change size old new mid lowers (of_lines.second change some) long are)
  where
    long : ForSome (text_of (with_edits plan.first set) change.file) (λ (text : EditedText). size ≤ length text.bytes)
    long text at = elim (name_cases plan.first.file change.file) [
      | inl same ↦ let none : size ≡ 0 = same_file same.0 in omega (arith, none)
      | inr apart ↦ other_file apart.0 text (sym (change_other plan.first.file change.file (spliced_each plan.first.edits.items) set.texts apart.0) ∙ at)
    ]

-- ---- notes that are let go

-- A note that is lowered by whatever edits says nothing of its file.
pub forgotten : (names : List (List ℕ)) (change : FileEdits) (old new : List (Option Searches)) (set : TextSet) → ((size : ℕ) (edits : List Edit) → Lowers names change.file size edits old new)
    → AreKnown names old set → AreKnown names new (with_edits change set)
forgotten names change old new set lowers are i searched at name is =
    let low = lowers 0 [] i searched at in
    let known = are i low.0 low.1 name is in
    let text = known.0 in
    elim (name_cases change.file name) [
      | inl same ↦
          let here : text_of set change.file ≡ Some text = ap (text_of set) same.0 ∙ known.1 in
          let next = spliced_each change.edits.items text in
          subst (λ (n : List ℕ). IsKnown searched (with_edits change set) n) same.0 (
            next,
            change_this change.file (spliced_each change.edits.items) set.texts ∙ ap (option_map (spliced_each change.edits.items)) here,
            whatever (terminated text.bytes) (terminated next.bytes) (terminated_twice next.bytes) low.0 low.1 known.2 name is same.1,
          )
      | inr apart ↦
          same_text set (with_edits change set) name searched (change_other change.file name (spliced_each change.edits.items) set.texts apart.0) (text, known.1, low.2 (terminated text.bytes) known.2)
    ]
  where
    -- it is so of whatever text
    whatever : (before after : List ℕ) → terminated after ≡ after → (was : Searches) → slice_get old i ≡ Some (Some was) → AreSearched was before → (n : List ℕ) → slice_get names i ≡ Some n → bytes_eq change.file n ≡ true → AreSearched searched after
    whatever before after ends was was_at known n n_at same =
        let e : Edit = record { at = 0; removed = length before; bytes = after } in
        let makes : applied e before ≡ after = ap (λ (l : List ℕ). after ++ l) (drop_all (0 + length before) before (omega arith)) ∙ append-nil after in
        let low = lowers 0 (e ∷ []) i searched at in
        let both : Some (Some low.0) ≡ Some (Some was) = sym low.1 ∙ was_at in
        let one : low.0 ≡ was = cc in
        subst (AreSearched searched) makes
        (low.3 n n_at same before (omega arith) (omega arith, ap terminated makes ∙ ends ∙ sym makes, refl) (subst (λ (s : Searches). AreSearched s before) (sym one) known))

-- the file's own note is none
pub none_lowered : (before : Option Searches) (size : ℕ) (edits : List Edit) → LowersNote size edits before None
none_lowered before size edits searched is = absurd (cc)

-- ---- a text that is ready

held_now : (held : Holding) (file : List ℕ) → AreReady (file ∷ []) held → (text : EditedText) × (text_of held.now file ≡ Some text)
held_now held file ready = the_text (text_of held.now file) (now_held (file ∷ []) held file ready (one_name file))
  where
    the_text : (o : Option EditedText) → IsSome o → (text : EditedText) × (o ≡ Some text)
    the_text None some = absurd (false≢true some)
    the_text (Some text) some = (text, refl)

-- what is known of the bytes that are held
pub known_text : (held : Holding) (file : List ℕ) → AreReady (file ∷ []) held → (searched : Searches) → ForSome (text_of held.now file) (λ (text : EditedText). AreSearched searched (terminated text.bytes)) → AreSearched searched (bytes_or [] (text_of held.now file))
known_text held file ready searched known =
    let seen = held_now held file ready in
    let ended = ends_ready (file ∷ []) held file ready (one_name file) seen.0 seen.1 in
    subst (λ (o : Option EditedText). AreSearched searched (bytes_or [] o)) (sym seen.1) (subst (AreSearched searched) ended (known seen.0 seen.1))

pub known_at : (held : Holding) (file : List ℕ) → AreReady (file ∷ []) held → (searched : Searches) → AreSearched searched (bytes_or [] (text_of held.now file)) → IsKnown searched held.now file × IsKnown searched held.before file
known_at held file ready searched known =
    let seen = held_now held file ready in
    let ended = ends_ready (file ∷ []) held file ready (one_name file) seen.0 seen.1 in
    let here : AreSearched searched seen.0.bytes = subst (λ (o : Option EditedText). AreSearched searched (bytes_or [] o)) seen.1 known in
    ((seen.0, seen.1, subst (AreSearched searched) (sym ended) here), known_ready held held.before file seen.0 searched ready seen.1 refl here)

-- .. where archive lines were looked for again
pub known_lines : (held : Holding) (file : List ℕ) → AreReady (file ∷ []) held → (searched : Searches) → ForSome (text_of held.now file) (λ (text : EditedText). AreSearched searched (terminated text.bytes))
    → (lines : Searched) → IsSearched has_archive_line lines (bytes_or [] (text_of held.now file))
    → IsKnown (record { clocks = searched.clocks; archive_lines = lines }) held.now file × IsKnown (record { clocks = searched.clocks; archive_lines = lines }) held.before file
known_lines held file ready searched known lines found =
    let seen = known_text held file ready searched known in
    known_at held file ready (record { clocks = searched.clocks; archive_lines = lines }) (record { clocks = seen.clocks; archive_lines = found })
