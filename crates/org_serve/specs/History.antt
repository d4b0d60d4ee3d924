-- What is known of a run by the trace of its store.
use Rattle.std.specs.Prelude.{◌≡◌, ◌⊎◌, ℕ, ◌≤◌, List, ◌∷◌, ◌++◌, slice_get, IsSomeAnd, Some}
use Rattle.org_journal.specs.Recovered.{Image}
use Rattle.org_commands.specs.declared.command.Command.{Command}
use Rattle.org_commands.specs.declared.command.Command.TheVariants.{Ask, Settle}
use Rattle.org_commands.specs.declared.command.Question.{Question}
use Rattle.org_commands.specs.Session.{Session, Holds}
use Rattle.org_store.specs.Calls.{Machine}
use Rattle.org_store.specs.History.{Trace}
use Rattle.org_store.specs.OnePlace.{IsRefile}
use Rattle.org_serve.specs.Grammar.{command_of}
use Rattle.org_serve.specs.Serving.{Answers}

-- Lines that lead from the one state to the other by these bytes reach this one: some of them, from
-- the first on, were answered by then, with the first of the bytes.
pub record Reaches {S : Type 0} (m : Machine S) (old : S) (lines : List (List ℕ)) (out : List ℕ)
    (new here : S) : Type 0 where
  pub answered : List (List ℕ)
  pub others : List (List ℕ)
  pub written : List ℕ
  pub more : List ℕ
  pub all_lines : lines ≡ answered ++ others
  pub all_written : out ≡ written ++ more
  pub before : Answers m old answered written here
  pub behind : Answers m here others more new

-- The image recovers to the files after the first `count` of the commands that were accepted at
-- `later`: those are the commands that were acknowledged at `here`, or they have all that were
-- accepted there. So they have all that were acknowledged there; and where `later` is `here`, it
-- recovers to the files after the acknowledged commands or after all accepted ones, and to nothing
-- between. `first` is the session as it began, and `others` are the files that aren't the store's.
pub record HoldsSince {D : Type 0} (first : Session) (others : Image) (here later : Trace D)
    (image : Image) : Type 0 where
  pub count : ℕ
  pub least : here.store.session.acknowledged ≤ count
  pub whole : (count ≡ here.store.session.acknowledged) ⊎ (here.store.session.accepted ≤ count)
  pub accepted : count ≤ later.store.session.accepted
  pub holds : IsSomeAnd (slice_get later.texts count) (λ texts. Holds first others texts image)

-- Where this state is reached by lines that lead from the one state to the other by these bytes,
-- the next of them is `settle`.
pub record SettlesAt {S : Type 0} (m : Machine S) (old : S) (lines : List (List ℕ)) (out : List ℕ)
    (new here : S) : Type 0 where
  pub way : Reaches m old lines out new here
  pub line : List ℕ
  pub later : List (List ℕ)
  pub next : way.others ≡ line ∷ later
  pub asks : command_of line ≡ Some Settle

-- The image recovers to the files after the first `count` of the commands that were accepted at
-- `later`: those that were acknowledged at `here`, or all that were accepted at a state between the
-- two whose next line is `settle`. These lines lead from `here` to `later` by these bytes. So it
-- has nothing of a command that no line settled.
pub record HoldsSettled {D : Type 0} (m : Machine (Trace D)) (first : Session) (others : Image)
    (here : Trace D) (lines : List (List ℕ)) (out : List ℕ) (later : Trace D) (image : Image)
    : Type 0 where
  pub count : ℕ
  pub settled : (count ≡ here.store.session.acknowledged)
      ⊎ ((mid : Trace D)
      × SettlesAt m here lines out later mid
      × (count ≡ mid.store.session.accepted))
  pub least : here.store.session.acknowledged ≤ count
  pub accepted : count ≤ later.store.session.accepted
  pub holds : IsSomeAnd (slice_get later.texts count) (λ texts. Holds first others texts image)

-- Where the line is a command, it is a refile, a question or a settling: it moves what is there,
-- and makes nothing new.
abbrev pub OnlyRefiles : List ℕ → Type 0
OnlyRefiles line =
    (command : Command) → command_of line ≡ Some command
    → IsRefile command ⊎ ((question : Question) × (command ≡ Ask question)) ⊎ (command ≡ Settle)
