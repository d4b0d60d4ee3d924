-- What a store notes of its files: where each is known to have no clock that runs, and no line that
-- names a place for archived subtrees.
use Rattle.std.specs.Prelude.{◌≡◌, ℕ, ◌+◌, ◌≤◌, true, List, length, slice_get, Option, Some}
use Rattle.std.specs.Str.{bytes_eq}
use Rattle.org_splice.specs.declared.edit.Edit.{Edit}
use Rattle.org_splice.specs.Edits.{CanApply, applied, applied_each}
use Rattle.org_splice.specs.Lines.{terminated}
use Rattle.org_splice.specs.Searched.{IsSearched}
use Rattle.org_splice.specs.Texts.{EditedText}
use Rattle.org_texts.specs.Texts.{Holding, TextSet, text_of}
use Rattle.org_state.specs.Clock.{has_clock}
use Rattle.org_move.specs.Location.{has_archive_line}
use Rattle.org_commands.specs.declared.searches.Searches.{Searches}

-- what is known of a text is so
pub record AreSearched (searches : Searches) (text : List ℕ) : Type 0 where
  pub clocks : IsSearched has_clock searches.clocks text
  pub archive_lines : IsSearched has_archive_line searches.archive_lines text

-- the text of a name is held, and what is noted of it is so once a newline ends it
abbrev pub IsKnown : Searches → TextSet → List ℕ → Type 0
IsKnown searches set name =
    (text : EditedText) × (text_of set name ≡ Some text)
    × AreSearched searches (terminated text.bytes)

-- so it is of all files that are noted, by the numbers of their names
abbrev pub AreKnown : List (List ℕ) → List (Option Searches) → TextSet → Type 0
AreKnown names notes set =
    (i : ℕ) (searches : Searches) → slice_get notes i ≡ Some (Some searches)
    → (name : List ℕ) → slice_get names i ≡ Some name → IsKnown searches set name

-- where these notes are so of texts, those are
abbrev pub StayKnown : List (List ℕ) → List (Option Searches) → List (Option Searches) → Type 0
StayKnown names old new = (set : TextSet) → AreKnown names old set → AreKnown names new set

-- The notes are so of the texts as they are, and as they were before the command that runs.
pub record IsNoted (names : List (List ℕ)) (notes : List (Option Searches)) (held : Holding)
    : Type 0 where
  pub now : AreKnown names notes held.now
  pub before : AreKnown names notes held.before

-- what is noted instead is so of the same texts
abbrev pub StaysKnown : Searches → Searches → Type 0
StaysKnown was searches = (text : List ℕ) → AreSearched was text → AreSearched searches text

-- .. and of texts of this size, or larger ones, after an edit
abbrev pub FollowsEdit : ℕ → Edit → Searches → Searches → Type 0
FollowsEdit size edit was searches =
    (text : List ℕ) → size ≤ length text → edit.at + edit.removed ≤ length text
    → AreSearched was text → AreSearched searches (applied edit text)

-- .. or after these edits
abbrev pub FollowsEdits : ℕ → List Edit → Searches → Searches → Type 0
FollowsEdits size edits was searches =
    (text : List ℕ) → size ≤ length text → CanApply edits text → AreSearched was text
    → AreSearched searches (applied_each edits text)

-- a note after edits of a text of this size, or of a larger one
abbrev pub LowersNote : ℕ → List Edit → Option Searches → Option Searches → Type 0
LowersNote size edits old new =
    (searches : Searches) → new ≡ Some searches
    → (was : Searches) × (old ≡ Some was) × StaysKnown was searches
    × FollowsEdits size edits was searches

-- the notes after edits of one file, whose text has this size, or a larger one
abbrev pub Lowers : List (List ℕ) → List ℕ → ℕ → List Edit → List (Option Searches)
    → List (Option Searches) → Type 0
Lowers names file size edits old new =
    (i : ℕ) (searches : Searches) → slice_get new i ≡ Some (Some searches)
    → (was : Searches) × (slice_get old i ≡ Some (Some was)) × StaysKnown was searches
    × ((name : List ℕ) → slice_get names i ≡ Some name → bytes_eq file name ≡ true
    → FollowsEdits size edits was searches)
