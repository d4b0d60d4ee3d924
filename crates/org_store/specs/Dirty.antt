-- Which files of a store are dirty: those that accepted commands gave new texts since all
-- was settled.
use Rattle.std.specs.Prelude.{◌≡◌, ℕ, Bool, true, List, [], ◌++◌, Result, Ok, Err, IsTrue}
use Rattle.std.specs.List.{list_any}
use Rattle.std.specs.Str.{bytes_eq}
use Rattle.org_commands.specs.declared.command.Reply.{Reply}
use Rattle.org_commands.specs.declared.command.Reply.TheVariants.{Done, Safe, Text, Time}
use Rattle.org_commands.specs.declared.command.RunFault.{RunFault}
use Rattle.org_commands.specs.Outcome.{Outcome, written}
use Rattle.org_commands.specs.Session.{StoreView}
use Rattle.org_commands.specs.Step.{fills}

-- whether the file of a name is among the dirty ones
abbrev pub is_listed : List (List ℕ) → List ℕ → Bool
is_listed dirty name = list_any (bytes_eq name) dirty

-- a file is dirty now only where it was before, or is one of these
abbrev pub Dirties : List (List ℕ) → List (List ℕ) → List (List ℕ) → Type 0
Dirties old names new =
    (name : List ℕ) → is_listed new name ≡ true → is_listed (old ++ names) name ≡ true

-- Which files are dirty after a call of a store that is to do this and got this answer: none where
-- all was settled; after a command that was accepted at most those of before, and those that it
-- gives new texts; else those of before.
abbrev pub DirtyAfter : {D : Type 0} → StoreView D → Outcome → Result Reply RunFault → StoreView D
    → Type 0
DirtyAfter old outcome (Ok (Done n)) new =
    (IsTrue (fills old.session) → new.dirty ≡ [])
    × Dirties old.dirty (written outcome) new.dirty
DirtyAfter old outcome (Ok (Safe n)) new = new.dirty ≡ []
DirtyAfter old outcome (Ok (Text bytes)) new = new.dirty ≡ old.dirty
DirtyAfter old outcome (Ok (Time minutes)) new = new.dirty ≡ old.dirty
DirtyAfter old outcome (Err fault) new = new.dirty ≡ old.dirty

-- no file is dirty where all accepted commands are acknowledged
abbrev pub NoneDirty : {D : Type 0} → StoreView D → Type 0
NoneDirty kept = kept.session.acknowledged ≡ kept.session.accepted → kept.dirty ≡ []

-- the same of a settling
abbrev pub DirtyAfterSettled : List (List ℕ) → Result (Unit {0}) RunFault → List (List ℕ) → Type 0
DirtyAfterSettled old (Ok _) new = new ≡ []
DirtyAfterSettled old (Err fault) new = new ≡ old
