-- What contracts see of a store's files: those of a disk, with what is held of their texts.
use Rattle.std.specs.Prelude.{◌≡◌, ◌≢◌, ◌≤◌, ◌↔◌, ℕ, Bool, true, false, nat_lt, List, [], ◌∷◌, ◌++◌, length, Option, None, Some, IsSome, Result, Ok, Err, MatchResult, OnOk, IsErrOf, IsTrue}
use Rattle.org_disk.specs.declared.disk.Disk.{Ghosts}
use Rattle.std.specs.List.{AllByRecursion, list_any}
use Rattle.std.specs.Map.{lookup}
use Rattle.std.specs.Option.{option_map}
use Rattle.std.specs.Str.{bytes_eq}
use Rattle.org_disk.specs.Names.{journal_name}
use Rattle.org_splice.specs.Texts.{terminated_text}
use Rattle.org_disk.specs.CountsFailures.{LeavesOver}
use Rattle.org_journal.specs.Recovered.{Image, IsRecoverable, SameFiles, contents}
use Rattle.org_fileset.specs.declared.fault.SetFault.{SetFault}
use Rattle.org_fileset.specs.declared.fault.SetFault.TheVariants as set_fault
use Rattle.org_fileset.specs.declared.open.OpenRefused.{OpenRefused}
use Rattle.org_fileset.specs.Left.{IsLeft}
use Rattle.org_fileset.specs.Names.{limit}
use Rattle.org_fileset.specs.Opening.{IsOpenedFor, disk_in}
use Rattle.org_fileset.specs.Replay.{IsAtRest}
use Rattle.org_fileset.specs.Writes.{LeavesAlone, IsOther}
use Rattle.org_texts.specs.declared.plan.FileEdits.{FileEdits}
use Rattle.org_texts.specs.declared.plan.Plan.{Plan}
use Rattle.org_texts.specs.Files.{StandOver, is_dirty}
use Rattle.org_texts.specs.Plan.{IsOfLines, IsPlan, planned}
use Rattle.org_texts.specs.Texts.{Holding, TextSet, bytes_or, held_over, nothing_held, text_of, text_or_none}
use Rattle.org_commands.specs.declared.command.RunFault.{RunFault}
use Rattle.org_commands.specs.declared.command.RunFault.TheVariants.{Refused, OutOfMemory}
use Rattle.org_fault.specs.declared.refusal.Refusal.TheVariants.{TooLarge}
use Rattle.org_commands.specs.InOrder.{HoldsEither, is_name, texts_of, with_texts}

-- Files of a disk: their names in byte order, whether a call of the disk failed, and what is held
-- of their texts.
pub record OpenFiles (D : Type 0) : Type 0 where
  pub disk : D
  pub names : List (List ℕ)
  pub broken : Bool
  pub held : Holding

-- the disk in the files that were opened, or the one that was handed back
abbrev pub disk_of : {D : Type 0} → Result (OpenFiles D) (OpenRefused D) → D
disk_of result = disk_in result (λ files. files.disk)

-- Files that were just opened with the given names, of which nothing is held.
abbrev pub AreOpened : {D : Type 0} → Ghosts D → List (List ℕ) → OpenFiles D → Type 0
AreOpened g given files = (files.broken ≡ false)
    × (files.held.now ≡ nothing_held) × (files.held.before ≡ nothing_held)
    × IsOpenedFor given files.names (g.honest files.disk) (contents (g.files files.disk))

-- Files that work, between commands: no call of the disk failed, and the texts are as the last
-- command left them.
pub record AreReadyForCommand {D : Type 0} (files : OpenFiles D) : Type 0 where
  pub unbroken : files.broken ≡ false
  pub unedited : files.held.now ≡ files.held.before

-- A call in memory alone, at the texts that are held.
pub record StaysInMemory {D : Type 0} (old new : OpenFiles D) : Type 0 where
  pub disk : new.disk ≡ old.disk
  pub names : new.names ≡ old.names
  pub broken : new.broken ≡ old.broken

-- Held texts of files of these names, which are the disk's while `live` (it is honest, and no call
-- of it failed).
pub record AreTextsOf (names : List (List ℕ)) (live : Type 0) (files : Image) (set : TextSet)
    : Type 0 where
  pub named : (name : List ℕ) → IsSome (text_of set name) → is_name names name ≡ true
  pub dirty : (name : List ℕ) → is_dirty set name ≡ true → IsSome (text_of set name)
  pub stand : live → StandOver files set

-- no text that is dirty is past the limit
abbrev pub AreSmallToWrite : TextSet → Type 0
AreSmallToWrite set =
    (name : List ℕ) → is_dirty set name ≡ true
    → length (text_or_none (text_of set name)).bytes ≤ limit

-- What always holds: no name is the journal's, the texts are the files', and what was dirty before
-- the command that runs can be committed.
pub record IsSound (names : List (List ℕ)) (live : Type 0) (files : Image) (held : Holding)
    : Type 0 where
  pub apart : AllByRecursion (λ name. name ≢ journal_name) names
  pub now : AreTextsOf names live files held.now
  pub before : AreTextsOf names live files held.before
  pub small : AreSmallToWrite held.before

-- The texts are as they were before the command that runs, but those of these names, which are
-- held, are terminated, with their headings.
pub record AreReady (names : List (List ℕ)) (holding : Holding) : Type 0 where
  pub held : (name : List ℕ) → is_name names name ≡ true → IsSome (text_of holding.before name)
  pub ready : (name : List ℕ) → is_name names name ≡ true → (has : Bool)
      → lookup (bytes_eq name) holding.ready ≡ Some has → has ≡ true
  pub stays_terminated : (name : List ℕ) → is_name names name ≡ true
      → text_of holding.now name ≡ option_map terminated_text (text_of holding.before name)
  pub others : (name : List ℕ) → is_name names name ≡ false
      → text_of holding.now name ≡ text_of holding.before name
  pub dirty : (name : List ℕ) → is_name names name ≡ false → is_dirty holding.now name ≡ true
      → is_dirty holding.before name ≡ true

-- The texts are as they were before the command that runs, but those of these names, which are
-- held.
pub record AreTouched (names : List (List ℕ)) (holding : Holding) : Type 0 where
  pub held : (name : List ℕ) → is_name names name ≡ true → IsSome (text_of holding.before name)
  pub others : (name : List ℕ) → is_name names name ≡ false
      → text_of holding.now name ≡ text_of holding.before name
  pub dirty : (name : List ℕ) → is_name names name ≡ false → is_dirty holding.now name ≡ true
      → is_dirty holding.before name ≡ true

-- these files are made ready, and others that were stay so
abbrev pub MakesReady : List (List ℕ) → Holding → Holding → Type 0
MakesReady made old new =
    (names : List (List ℕ)) → AreReady names old → AreReady (made ++ names) new

-- the text of this name is held, with its headings
pub record IsReady (name : List ℕ) (holding : Holding) : Type 0 where
  pub held : IsSome (text_of holding.now name)
  pub ready : (has : Bool) → lookup (bytes_eq name) holding.ready ≡ Some has → has ≡ true

-- the texts that were held before the command that runs are held as they were
abbrev pub KeepsHeld : Holding → Holding → Type 0
KeepsHeld old new =
    (name : List ℕ) → IsSome (text_of old.before name)
    → text_of new.before name ≡ text_of old.before name

abbrev pub second_file : Option FileEdits → List (List ℕ)
second_file None = []
second_file (Some change) = change.file ∷ []

-- the files that a plan changes
abbrev pub files_of : Plan → List (List ℕ)
files_of plan = plan.first.file ∷ second_file plan.second

-- A plan for files of these names, of which no other is edited.
pub record IsPlanFor (names : List (List ℕ)) (held : Holding) (plan : Plan) : Type 0 where
  pub is : IsPlan plan held.now
  pub named : AllByRecursion (λ name. is_name names name ≡ true) (files_of plan)
  pub touched : AreTouched (files_of plan) held
  pub lines : IsTrue plan.of_lines → IsOfLines plan held.now

-- the texts that a set has of these names
abbrev pub texts_in : TextSet → List (List ℕ) → List (List ℕ × List ℕ)
texts_in set [] = []
texts_in set (name ∷ names) = (name, bytes_or [] (text_of set name)) ∷ texts_in set names

-- the new texts of the files that a plan changes
abbrev pub new_texts : Plan → TextSet → List (List ℕ × List ℕ)
new_texts plan set = texts_in (planned plan set) (files_of plan)

-- one of these texts is past the limit
abbrev pub has_large : List (List ℕ × List ℕ) → Bool
has_large changes = list_any (λ change. nat_lt limit (length change.1)) changes

-- What putting a plan answers, and what it makes of the texts: those of the plan, or, where one of
-- them is past the limit or there is no memory, those before the command.
abbrev pub PutsPlan : Plan → Holding → Result (Unit {0}) RunFault → Holding → Type 0
PutsPlan plan old (Ok _) new =
    (has_large (new_texts plan old.now) ≡ false)
    × (new.now ≡ planned plan old.now)
    × AreSmallToWrite new.now
PutsPlan plan old (Err (Refused TooLarge)) new =
    (has_large (new_texts plan old.now) ≡ true) × (new.now ≡ old.before)
PutsPlan plan old (Err OutOfMemory) new = new.now ≡ old.before
PutsPlan plan old (Err fault) new = ⊥

-- What a commit of files that aren't broken makes of them besides: they keep their names, and a
-- call of the disk that fails breaks them, and nothing else does.
pub record KeepsFiles {D A : Type 0} (old new : OpenFiles D) (result : Result A SetFault)
    : Type 0 where
  -- once it is done, no text is edited or dirty; else all are held as they were
  pub held : MatchResult result
      (λ _. (new.held.now ≡ new.held.before) × (new.held.now.dirty ≡ []))
      (λ _. new.held ≡ old.held)
  pub memory : IsErrOf result set_fault.OutOfMemory → new ≡ old
  -- where none was dirty, no call of the disk is made
  pub idle : old.held.now.dirty ≡ [] → new.disk ≡ old.disk
  pub names : new.names ≡ old.names
  pub works : IsErrOf result set_fault.Broken → ⊥
  pub breaks : IsErrOf result set_fault.Device ↔ IsTrue new.broken

-- What a commit does that is to give files of these names these texts, where the disk is honest
-- after it. It writes the dirty ones, and the journal.
pub record CommitsTexts {D A E : Type 0} (g : Ghosts D)
    (names dirty after : List (List ℕ)) (old new : D) (result : Result A E) : Type 0 where
  pub texts : OnOk result (texts_of (contents (g.files new)) names ≡ after)
  pub others : OnOk result
      (SameFiles (contents (g.files new)) (with_texts names after (contents (g.files old))))
  pub rest : OnOk result (IsAtRest (g.files old) → IsAtRest (g.files new))
  -- where all was on the disk: what a crash at any moment since the call began leaves
  pub any_moment : IsAtRest (g.files old)
      → LeavesOver g old new (HoldsEither names (contents (g.files old)) after)
  -- .. and in it no file is found to be changed by its bytes
  pub left : IsAtRest (g.files old) → LeavesOver g old new IsLeft
  -- after a failure too, it may be opened again
  pub recoverable : IsAtRest (g.files old) → IsRecoverable (g.files new)
  pub alone : LeavesAlone g (IsOther dirty) old new

-- the texts of all files as they are held, in the order of their names
abbrev pub texts_now : {D : Type 0} → Ghosts D → OpenFiles D → List (List ℕ)
texts_now g files = texts_of (held_over files.held.now (contents (g.files files.disk))) files.names

-- What a commit of files does to their disk: it is to have the texts that are held.
pub record CommitsHeld {D A E : Type 0} (g : Ghosts D) (old new : OpenFiles D)
    (result : Result A E) : Type 0 where
  pub commits : g.honest new.disk
      → CommitsTexts g old.names old.held.now.dirty (texts_now g old) old.disk new.disk result
  -- where it is done, the texts as they were before the next command are those that were held
  pub texts : OnOk result (g.honest new.disk
      → texts_of (held_over new.held.before (contents (g.files new.disk))) old.names
      ≡ texts_now g old)
