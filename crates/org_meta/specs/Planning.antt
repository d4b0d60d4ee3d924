-- Planning lines (Org Syntax, "Planning"; Org manual, "Deadlines and Scheduling", "Closing items",
-- "Repeated tasks").
use Rattle.std.specs.Prelude.{◌≡◌, ℕ, zero, suc, nat_le, nat_eq, Bool, true, false, not, ◌&&◌, if◌then◌else◌, MatchBool, MatchResult, Option, None, Some, Result, Ok, Err, List, [], ◌∷◌, ◌++◌, codes, count_by, length, take, drop}
use Rattle.std.specs.List.{starts_with, list_all, list_any}
use Rattle.std.specs.Option.{option_map_or}
use Rattle.std.specs.Result.{result_map_both}
use Rattle.org_stamp.specs.Calendar.{Moment}
use Rattle.org_stamp.specs.Parts.{◌>>=◌}
use Rattle.org_stamp.specs.Stamp.{StampValue, repeats, stamp_text}
use Rattle.org_stamp.specs.Front.{stamp_at}
use Rattle.org_stamp.specs.Repeat.{IsRepeated, repeated}
use Rattle.org_fault.specs.declared.refusal.Refusal.{Refusal}
use Rattle.org_fault.specs.declared.refusal.Refusal.TheVariants.{OddPlanning}
use Rattle.org_meta.specs.declared.entry.Word.{Word}
use Rattle.org_meta.specs.declared.entry.Word.TheVariants.{Closed, Deadline, Scheduled}
use Rattle.org_splice.specs.Blanks.{is_blank, is_trailing, front, behind}
use Rattle.org_meta.specs.Moments.{moment_text}
use Rattle.org_meta.specs.Sections.{SectionParts}

-- ---- entries

abbrev pub word_text : Word → List ℕ
word_text Closed = codes "CLOSED:"
word_text Deadline = codes "DEADLINE:"
word_text Scheduled = codes "SCHEDULED:"

-- the word that the bytes begin with
abbrev pub word_at : List ℕ → Option Word
word_at text =
    if starts_with nat_eq text (codes "CLOSED:") then Some Closed
    else (if starts_with nat_eq text (codes "DEADLINE:") then Some Deadline
    else (if starts_with nat_eq text (codes "SCHEDULED:") then Some Scheduled else None))

-- a word, blanks, a stamp and blanks, each with its bytes
pub record PlanningEntry : Type 0 where
  pub word : Word
  pub gap : List ℕ
  pub stamp : StampValue
  pub text : List ℕ
  pub after : List ℕ

-- the entry that the bytes begin with, and what follows it
abbrev pub entry_at : List ℕ → Option (PlanningEntry × List ℕ)
entry_at text =
    word_at text >>= λ word.
    let inner = drop (length (word_text word)) text in
    let bytes = behind is_blank inner in
    stamp_at bytes >>= λ r.
    let tail = drop r.1 bytes in
    Some (
      record {
        word = word;
        gap = front is_blank inner;
        stamp = r.0;
        text = take r.1 bytes;
        after = front is_blank tail;
      },
      behind is_blank tail,
    )

-- up to n entries, and the blanks at the line's end
abbrev pub entries_at : ℕ → List ℕ → Option (List PlanningEntry × List ℕ)
entries_at zero text = if list_all is_trailing text then Some ([], text) else None
entries_at (suc n) text =
    if list_all is_trailing text then Some ([], text)
    else (entry_at text >>= λ e. entries_at n e.1 >>= λ es. Some (e.0 ∷ es.0, es.1))

abbrev pub is_word : Word → Word → Bool
is_word Closed Closed = true
is_word Deadline Deadline = true
is_word Scheduled Scheduled = true
is_word _ _ = false

-- the word stands at most once
abbrev pub is_once : Word → List PlanningEntry → Bool
is_once word entries = nat_le (count_by (λ e. is_word word e.word) entries) 1

abbrev pub each_once : List PlanningEntry → Bool
each_once entries = is_once Closed entries && is_once Deadline entries && is_once Scheduled entries

pub record PlanningLine : Type 0 where
  pub indentation : List ℕ
  pub entries : List PlanningEntry
  -- from a carriage return on
  pub tail : List ℕ

-- a well formed planning line: at most three entries, since each word stands at most once. An odd
-- line says nothing.
abbrev pub planning_of : List ℕ → Option PlanningLine
planning_of line =
    entries_at 3 (behind is_blank line) >>= λ es.
    if each_once es.0
    then Some (record { indentation = front is_blank line; entries = es.0; tail = es.1 })
    else None

-- ---- edits

abbrev pub is_closed : PlanningEntry → Bool
is_closed e = is_word Closed e.word

abbrev pub entry_text : PlanningEntry → List ℕ
entry_text e = word_text e.word ++ (e.gap ++ (e.text ++ e.after))

-- the bytes of all entries
abbrev pub entries_text : List PlanningEntry → List ℕ
entries_text [] = []
entries_text (e ∷ es) = entry_text e ++ entries_text es

-- those of all entries but CLOSED
abbrev pub kept_text : List PlanningEntry → List ℕ
kept_text [] = []
kept_text (e ∷ es) = if is_closed e then kept_text es else entry_text e ++ kept_text es

-- there is a CLOSED entry
abbrev pub has_closed : List PlanningEntry → Bool
has_closed entries = list_any is_closed entries

-- there are other entries than CLOSED
abbrev pub has_others : List PlanningEntry → Bool
has_others entries = list_any (λ e. not (is_closed e)) entries

-- without its CLOSED entry; a line left without entries goes whole
abbrev pub without_closed : PlanningLine → List (List ℕ)
without_closed p =
    if has_others p.entries then (p.indentation ++ (kept_text p.entries ++ p.tail)) ∷ [] else []

-- `CLOSED:` and the moment's stamp
abbrev pub closed_text : Moment → List ℕ
closed_text now = codes "CLOSED: " ++ moment_text now

-- with that CLOSED entry first, in the place of the one that it has
abbrev pub with_closed : Moment → PlanningLine → List ℕ
with_closed now p =
    if has_others p.entries
    then p.indentation ++ (closed_text now ++ (32 ∷ (kept_text p.entries ++ p.tail)))
    else closed_text now

-- the parts with another planning, made of theirs, unless it is odd; `none` is what takes the place
-- of no planning
abbrev pub replanned_line : (PlanningLine → List (List ℕ)) → SectionParts → Option PlanningLine
    → Result SectionParts Refusal
replanned_line some parts None = Err OddPlanning
replanned_line some parts (Some p) = Ok (record parts { planning = some p })

abbrev pub replanned : List (List ℕ) → (PlanningLine → List (List ℕ)) → SectionParts → List (List ℕ)
    → Result SectionParts Refusal
replanned none some parts [] = Ok (record parts { planning = none })
replanned none some parts (l ∷ ls) = replanned_line some parts (planning_of l)

-- there is a CLOSED entry in the planning
abbrev pub has_closed_entry : List (List ℕ) → Bool
has_closed_entry [] = false
has_closed_entry (l ∷ ls) = option_map_or (λ p. has_closed p.entries) (planning_of l) false

-- an entry that isn't done any more has no CLOSED
abbrev pub clear_closed : SectionParts → Result SectionParts Refusal
clear_closed parts = replanned [] without_closed parts parts.planning

-- one that turns done has that of the moment
abbrev pub set_closed : Moment → SectionParts → Result SectionParts Refusal
set_closed now parts =
    replanned (closed_text now ∷ []) (λ p. with_closed now p ∷ []) parts parts.planning

-- ---- repetition

-- an active SCHEDULED or DEADLINE stamp whose repeater isn't 0
abbrev pub is_repeating : PlanningEntry → Bool
is_repeating e = not (is_closed e) && e.stamp.active && repeats e.stamp

abbrev pub has_repeater : List PlanningEntry → Bool
has_repeater entries = list_any is_repeating entries

-- the text of the entry with another stamp
abbrev pub entry_with : PlanningEntry → StampValue → List ℕ
entry_with e s = word_text e.word ++ (e.gap ++ (stamp_text s ++ e.after))

abbrev pub behind_text : List ℕ → Result (List ℕ) Refusal → Result (List ℕ) Refusal
behind_text text (Ok more) = Ok (text ++ more)
behind_text text (Err why) = Err why

-- the text of one entry at its next repetition, or the refusal; what doesn't repeat stays, and
-- CLOSED goes
abbrev pub IsRepeatedEntry : PlanningEntry → Moment → Result (List ℕ) Refusal → Type 0
IsRepeatedEntry e now r =
    MatchBool (is_closed e) (r ≡ Ok [])
    (MatchBool (is_repeating e)
    ((q : Result StampValue Refusal)
    × IsRepeated e.stamp now q
    × MatchResult q (λ s. r ≡ Ok (entry_with e s)) (λ why. r ≡ Err why))
    (r ≡ Ok (entry_text e)))

-- the texts of all, or the first refusal
abbrev pub AreRepeated : List PlanningEntry → Moment → Result (List ℕ) Refusal → Type 0
AreRepeated [] now r = r ≡ Ok []
AreRepeated (e ∷ es) now r =
    (first : Result (List ℕ) Refusal) × IsRepeatedEntry e now first
    × MatchResult first
    (λ text. (more : Result (List ℕ) Refusal)
    × AreRepeated es now more
    × (r ≡ behind_text text more))
    (λ why. r ≡ Err why)

-- ---- the same, computed

abbrev pub repeated_entry : Moment → PlanningEntry → Result (List ℕ) Refusal
repeated_entry now e =
    if is_closed e then Ok []
    else (if is_repeating e then result_map_both (entry_with e) (λ why. why) (repeated e.stamp now)
    else Ok (entry_text e))

abbrev pub behind_first : Result (List ℕ) Refusal → Result (List ℕ) Refusal
    → Result (List ℕ) Refusal
behind_first (Ok text) more = behind_text text more
behind_first (Err why) more = Err why

-- the texts of all, or the first refusal
abbrev pub repeated_entries : Moment → List PlanningEntry → Result (List ℕ) Refusal
repeated_entries now [] = Ok []
repeated_entries now (e ∷ es) = behind_first (repeated_entry now e) (repeated_entries now es)
