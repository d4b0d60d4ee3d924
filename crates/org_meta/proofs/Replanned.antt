-- Planning lines that edits make are planning lines.
use Rattle.std.proofs.Common.{arith, ◌≡◌, ℕ, true, false, Bool, ◌||◌, ◌&&◌, Some, Result, Ok, Err, List, [], ◌∷◌, ◌++◌, refl, sym, ap, ◌∙◌, append_assoc, inl, inr}
use Rattle.std.proofs.lemmas.Grind.{common_steps}
use Rattle.std.specs.Prelude.{MatchBool, MatchResult, not, codes, nat_eq}
use Rattle.std.specs.List.{prefix_len, list_all, list_any, starts_with}
use Rattle.std.proofs.lemmas.Bool.{cases_Bool, false≢true}
use Rattle.org_splice.specs.Blanks.{is_blank, behind}
use Rattle.org_splice.proofs.Ends.{front_passes}
use Rattle.org_stamp.specs.Calendar.{Moment}
use Rattle.org_stamp.specs.Stamp.{StampValue, stamp_text}
use Rattle.org_fault.specs.declared.refusal.Refusal.{Refusal}
use Rattle.org_meta.specs.declared.entry.Word.{Word}
use Rattle.org_meta.specs.declared.entry.Word.TheVariants.{Closed, Deadline, Scheduled}
use Rattle.org_meta.specs.Sections.{is_planning}
use Rattle.org_meta.specs.Planning.{word_text, PlanningEntry, PlanningLine, planning_of, is_closed, has_others, is_repeating, has_repeater, entry_with, behind_text, IsRepeatedEntry, AreRepeated}
use Rattle.org_meta.specs.Replans.{repeated_line}
use Rattle.org_meta.proofs.Trims.{behind_front}
use Rattle.org_meta.proofs.PlanningText.{planning_read}

-- ---- a text that begins with a word

pub record BeginsWithWord (text : List ℕ) : Type 0 where
  pub word : Word
  pub more : List ℕ
  pub is : text ≡ word_text word ++ more

-- no word begins with a blank
solid_word : (w : Word) (more : List ℕ) → prefix_len is_blank (word_text w ++ more) ≡ 0
solid_word Closed more = refl
solid_word Deadline more = refl
solid_word Scheduled more = refl

-- what is tested after the indentation
abbrev begins_planning : List ℕ → Bool
begins_planning body =
    starts_with nat_eq body (codes "CLOSED:") || starts_with nat_eq body (codes "DEADLINE:") || starts_with nat_eq body (codes "SCHEDULED:")

word_begins : (w : Word) (more : List ℕ) → begins_planning (word_text w ++ more) ≡ true
word_begins Closed more = refl
word_begins Deadline more = refl
word_begins Scheduled more = refl

indented_word : (indentation : List ℕ) (w : Word) (more : List ℕ) → list_all is_blank indentation ≡ true → is_planning (indentation ++ (word_text w ++ more)) ≡ true
indented_word indentation w more blank = grind (arith, common_steps, behind, behind_front, solid_word, word_begins)

-- ---- repetition

abbrev Texts : Type 0
Texts = Result (List ℕ) Refusal

abbrev made : List ℕ → Texts
made text = Ok text

abbrev failed : Refusal → Texts
failed fault = Err fault

ok_is : (x y : List ℕ) → made x ≡ made y → x ≡ y
ok_is x y e = cc

ok_err : (x : List ℕ) (y : Refusal) → made x ≡ failed y → ⊥
ok_err x y e = cc

if_true : (b : Bool) (P Q : Type 0) → MatchBool b P Q → b ≡ true → P
if_true true P Q m e = m
if_true false P Q m e = absurd (false≢true e)

-- an entry that is kept, or repeated, begins with its word
by_stamp : (e : PlanningEntry) (text : List ℕ) (q : Result StampValue Refusal) → MatchResult q (λ s. made text ≡ made (entry_with e s)) (λ fault. made text ≡ failed fault) → BeginsWithWord text
by_stamp e text (Ok s) is = record { word = e.word; more = e.gap ++ (stamp_text s ++ e.after); is = ok_is text (entry_with e s) is }
by_stamp e text (Err fault) is = absurd (ok_err text fault is)

entry_begins : (e : PlanningEntry) (now : Moment) (text : List ℕ) → is_closed e ≡ false → IsRepeatedEntry e now (Ok text) → BeginsWithWord text
entry_begins e now text kept is = grind (arith, common_steps)

closed_gone : (e : PlanningEntry) (now : Moment) (text : List ℕ) → is_closed e ≡ true → IsRepeatedEntry e now (Ok text) → text ≡ []
closed_gone e now text closed is = ok_is text [] (if_true (is_closed e) _ _ is closed)

in_front : (text first more : List ℕ) → text ≡ first ++ more → BeginsWithWord first → BeginsWithWord text
in_front text first more is b = record { word = b.word; more = b.more ++ more; is = is ∙ ap (λ (t : List ℕ). t ++ more) b.is ∙ append_assoc (word_text b.word) b.more more }

pub others_later : (e : PlanningEntry) (es : List PlanningEntry) → is_closed e ≡ true → has_others (e ∷ es) ≡ true → has_others es ≡ true
others_later e es closed some = let t = rw closed at some in t

pub same_text : (a b : List ℕ) → a ≡ b → BeginsWithWord a → BeginsWithWord b
same_text a b e w = record { word = w.word; more = w.more; is = sym e ∙ w.is }

pub repeated_begins : (es : List PlanningEntry) (now : Moment) (text : List ℕ) → has_others es ≡ true → AreRepeated es now (Ok text) → BeginsWithWord text
repeated_begins [] now text some are = absurd (false≢true some)
repeated_begins (e ∷ es) now text some are = by_first e es now text some are.0 are.1 are.2 (λ more others later. repeated_begins es now more others later) where
  by_more : (e : PlanningEntry) (es : List PlanningEntry) (now : Moment) (text first : List ℕ) → has_others (e ∷ es) ≡ true → IsRepeatedEntry e now (Ok first) → (more : Texts) → AreRepeated es now more → made text ≡ behind_text first more
      → ((more : List ℕ) → has_others es ≡ true → AreRepeated es now (Ok more) → BeginsWithWord more) → BeginsWithWord text
  by_more e es now text first some one (Err fault) later is begins = absurd (ok_err text fault is)
  by_more e es now text first some one (Ok more) later is begins =
      let all : text ≡ first ++ more = ok_is text (first ++ more) is in
      elim (cases_Bool (is_closed e)) [
        | inl closed ↦
            let gone : text ≡ more = all ∙ ap (λ (t : List ℕ). t ++ more) (closed_gone e now first closed one) in
            same_text more text (sym gone) (begins more (others_later e es closed some) later)
        | inr kept ↦ in_front text first more all (entry_begins e now first kept one)
      ]

  by_first : (e : PlanningEntry) (es : List PlanningEntry) (now : Moment) (text : List ℕ) → has_others (e ∷ es) ≡ true → (first : Texts) → IsRepeatedEntry e now first
      → MatchResult first (λ t. (more : Texts) × AreRepeated es now more × (made text ≡ behind_text t more)) (λ fault. made text ≡ failed fault)
      → ((more : List ℕ) → has_others es ≡ true → AreRepeated es now (Ok more) → BeginsWithWord more) → BeginsWithWord text
  by_first e es now text some (Ok first) one m begins = by_more e es now text first some one m.0 m.1 m.2 begins
  by_first e es now text some (Err fault) one m begins = absurd (ok_err text fault m)

-- a repeater is not in a CLOSED entry
repeater_other : (a b c : Bool) → (not a && b && c) ≡ true → not a ≡ true
repeater_other true b c e = absurd (false≢true e)
repeater_other false b c e = refl

or_either : (a b c d : Bool) → (a || b) ≡ true → (a ≡ true → c ≡ true) → (b ≡ true → d ≡ true) → (c || d) ≡ true
or_either a b true d e f g = refl
or_either true b false d e f g = absurd (false≢true (f refl))
or_either false b false d e f g = g e

pub others_repeat : (es : List PlanningEntry) → has_repeater es ≡ true → has_others es ≡ true
others_repeat [] some = absurd (false≢true some)
others_repeat (e ∷ es) some =
    or_either (is_repeating e) (list_any is_repeating es) (not (is_closed e)) (has_others es) some
    (λ one. repeater_other (is_closed e) e.stamp.active _ one) (λ later. others_repeat es later)

pub repeated_plans : (line : List ℕ) (p : PlanningLine) (now : Moment) (text : List ℕ) → planning_of line ≡ Some p → has_repeater p.entries ≡ true → AreRepeated p.entries now (Ok text) → is_planning (repeated_line p text) ≡ true
repeated_plans line p now text is some are =
    let b = repeated_begins p.entries now text (others_repeat p.entries some) are in
    let blank : list_all is_blank p.indentation ≡ true = ap (list_all is_blank) (planning_read line p is).indentation ∙ front_passes is_blank line in
    let shape : repeated_line p text ≡ p.indentation ++ (word_text b.word ++ (b.more ++ p.tail)) =
    ap (λ (t : List ℕ). p.indentation ++ (t ++ p.tail)) b.is ∙ ap (λ (t : List ℕ). p.indentation ++ t) (append_assoc (word_text b.word) b.more p.tail) in
    ap is_planning shape ∙ indented_word p.indentation b.word (b.more ++ p.tail) blank
