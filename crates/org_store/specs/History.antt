-- A store over a disk with its trace: the texts of all files after each accepted command.
use Rattle.std.specs.Prelude.{◌≡◌, ◌⊎◌, ℕ, ◌+◌, ◌≤◌, List, [], ◌∷◌, ◌++◌, length, slice_get, Some, IsFalse, IsSomeAnd}
use Rattle.org_journal.specs.Recovered.{Image}
use Rattle.org_commands.specs.Outcome.{Outcome, IsAccepted}
use Rattle.org_commands.specs.Session.{Session, StoreView, Holds}

-- A store with its trace: at place k of the list, the texts of all its files after the first k
-- accepted commands.
pub record Trace (D : Type 0) : Type 0 where
  pub store : StoreView D
  pub texts : List (List (List ℕ))

-- The list has the texts that the session has: those of all accepted commands, and those that are
-- settled.
pub record Lists (s : Session) (texts : List (List (List ℕ))) : Type 0 where
  pub size : length texts ≡ s.accepted + 1
  pub order : s.acknowledged ≤ s.accepted
  pub files : IsFalse s.broken → slice_get texts s.accepted ≡ Some s.files
  pub settled : IsFalse s.broken → slice_get texts s.acknowledged ≡ Some s.settled

-- A command with this outcome was run, and the count of accepted commands went from before to now:
-- it isn't counted; or it is, it was to be accepted with these texts, and they stand at the end of
-- the list.
abbrev pub Adds : Outcome → ℕ → ℕ → List (List (List ℕ)) → List (List (List ℕ)) → Type 0
Adds outcome before now old new =
    ((now ≡ before) × (new ≡ old))
    ⊎ ((now ≡ before + 1)
    × ((texts : List (List ℕ)) × IsAccepted outcome texts × (new ≡ old ++ texts ∷ [])))

-- The image recovers to the files after one prefix of the accepted commands, which has at least so
-- many of them. `first` is the session as it began, and `others` are the files that aren't the
-- store's.
abbrev pub HoldsPrefix : Session → Image → List (List (List ℕ)) → ℕ → Image → Type 0
HoldsPrefix first others texts least image =
    (k : ℕ) × (least ≤ k) × IsSomeAnd (slice_get texts k) (λ files. Holds first others files image)
