-- What callers see of a store.
use Rattle.std.specs.Prelude.{ℕ, Bool, List}
use Rattle.org_disk.specs.declared.disk.Disk.{Ghosts}
use Rattle.org_disk.specs.Disk.{FileState}
use Rattle.org_outline.specs.States.{Keywords}
use Rattle.org_journal.specs.Recovered.{Image, contents}
use Rattle.org_texts.specs.Texts.{held_over}
use Rattle.org_commands.specs.declared.tally.Group.{Group}
use Rattle.org_commands.specs.declared.tally.Tally.{Tally}
use Rattle.org_commands.specs.Files.{OpenFiles}
use Rattle.org_commands.specs.InOrder.{HoldsTexts, texts_of}

-- What a store has done so far, in plain data. Texts are in the order of the names.
pub record Session : Type 0 where
  -- the words that are TODO keywords
  pub states : Keywords
  -- the names of the store's files, in byte order
  pub names : List (List ℕ)
  -- the text of each of them after all accepted commands
  pub files : List (List ℕ)
  -- the text of each of them as the disk recovers to it: after the acknowledged commands
  pub settled : List (List ℕ)
  -- how many commands were accepted, and how many of these are on the disk for certain
  pub accepted : ℕ
  pub acknowledged : ℕ
  -- how many commands may be accepted and not acknowledged before they are settled
  pub group : Group
  -- a call of the disk failed: the store does nothing any more
  pub broken : Bool

-- A store over a disk of the type D, as callers see it: with the names of its dirty files, in the
-- order in which commands touched them.
pub record StoreView (D : Type 0) : Type 0 where
  pub disk : D
  pub session : Session
  pub dirty : List (List ℕ)

-- the image recovers to these texts of the store's files, and for these other files
abbrev pub Holds : Session → Image → List (List ℕ) → Image → Type 0
Holds s others texts image = HoldsTexts s.names others texts image

-- the session of a store over these files, with these counts
abbrev pub session_over : {D : Type 0} → (D → Image) → Keywords → OpenFiles D → Tally → Session
session_over texts states files tally = record {
  states = states;
  names = files.names;
  files = texts_of (held_over files.held.before (texts files.disk)) files.names;
  settled = texts_of (texts files.disk) files.names;
  accepted = tally.accepted;
  acknowledged = tally.acknowledged;
  group = tally.group;
  broken = files.broken;
}

-- .. and the store
abbrev pub view_over : {D : Type 0} → (D → List ℕ → FileState) → Keywords → OpenFiles D → Tally
    → StoreView D
view_over files states opened tally = record {
  disk = opened.disk;
  session = session_over (λ disk. contents (files disk)) states opened tally;
  dirty = opened.held.before.dirty;
}

-- What a call over files does to the session of a store that counts anything, where the disk is
-- honest after it: it was in this relation to what it is.
abbrev pub BetweenSessions : {D : Type 0} → Ghosts D → Keywords → OpenFiles D → OpenFiles D
    → (Session → Session → Type 0) → Type 0
BetweenSessions g states old new Relation = (tally : Tally) → g.honest new.disk
    → Relation (view_over g.files states old tally).session
    (view_over g.files states new tally).session
