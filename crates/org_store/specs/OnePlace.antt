-- Each node in one place: how often it is there over all files of a store, in what a crash leaves.
use Rattle.std.specs.Prelude.{◌≡◌, ◌⊎◌, ℕ, ◌+◌, ◌≤◌, List, [], ◌∷◌, length, slice_get, Option, Some, Result, Ok, Err, IsSomeAnd}
use Rattle.std.specs.List.{All, sum_by}
use Rattle.org_disk.specs.Names.{IsDiskName, IsOrgFile}
use Rattle.org_stamp.specs.Calendar.{Moment}
use Rattle.org_outline.specs.declared.steps.Step.{Step}
use Rattle.org_outline.specs.Paths.{find_path}
use Rattle.org_outline.specs.Tree.{node_at, tree}
use Rattle.org_journal.specs.Recovered.{Image, recovered}
use Rattle.org_fileset.specs.Names.{with_archives, AreSorted}
use Rattle.org_move.specs.Archive.{archived_section, target_heading}
use Rattle.org_move.specs.Counts.{count_over, made_count, one_of}
use Rattle.org_move.specs.Location.{Destination, location}
use Rattle.org_commands.specs.declared.command.Archive.{Archive as Archiving}
use Rattle.org_commands.specs.declared.command.Refile.{Refile as Refiling}
use Rattle.org_commands.specs.declared.command.Command.{Command}
use Rattle.org_commands.specs.declared.command.Command.TheVariants.{Change}
use Rattle.org_commands.specs.declared.command.Change.TheVariants.{Archive, Refile}
use Rattle.org_commands.specs.declared.command.Reply.{Reply}
use Rattle.org_commands.specs.declared.command.Reply.TheVariants.{Done}
use Rattle.org_commands.specs.declared.command.RunFault.{RunFault}
use Rattle.org_commands.specs.declared.command.RunFault.TheVariants.{Device}
use Rattle.org_store.specs.Calls.{Call}
use Rattle.org_store.specs.Calls.Call.{Ran}
use Rattle.org_commands.specs.InOrder.{text_at, texts_of}
use Rattle.org_store.specs.Reopening.{AreSmall}
use Rattle.org_commands.specs.Session.{Session}

-- Each node is as often over these texts as over the others, by its heading line without the stars
-- and by the lines of its section (Org Syntax, "Headings", "Sections").
abbrev pub HaveSameNodes : List (List ℕ) → List (List ℕ) → Type 0
HaveSameNodes texts others =
    (rest : List ℕ) (section : List (List ℕ))
    → count_over rest section texts ≡ count_over rest section others

-- the image recovers to files, and over those of these names each node is as often as over these
-- texts
abbrev pub HasNodesOf : List (List ℕ) → List (List ℕ) → Image → Type 0
HasNodesOf names texts image =
    IsSomeAnd (recovered image) (λ files. HaveSameNodes (texts_of files names) texts)

-- The image recovers to files, and over those of these names each node is as often as after one
-- prefix of the accepted commands, which has at least so many of them.
abbrev pub HasNodesOfPrefix : List (List ℕ) → List (List (List ℕ)) → ℕ → Image → Type 0
HasNodesOfPrefix names texts least image =
    (k : ℕ) × (least ≤ k) × IsSomeAnd (slice_get texts k) (λ files. HasNodesOf names files image)

-- a session of a store that was opened with these names
pub record IsSessionOf (given : List (List ℕ)) (s : Session) : Type 0 where
  pub org : All IsOrgFile given
  pub sorted : AreSorted (with_archives given) s.names
  pub settled : AreSmall s.names s.settled
  pub files : AreSmall s.names s.files

abbrev pub IsRefile : Command → Type 0
IsRefile command = (it : Refiling) × (command ≡ Change (Refile it))

-- A command that got this answer is accepted, or, where the disk failed, may be.
abbrev pub MayBeAccepted : Result Reply RunFault → Type 0
MayBeAccepted (Ok (Done n)) = Unit {0}
MayBeAccepted (Err Device) = Unit {0}
MayBeAccepted answer = ⊥

-- These commands got these answers, and none but refiles were accepted.
abbrev pub OnlyRefiles : List Command → List (Result Reply RunFault) → Type 0
OnlyRefiles (command ∷ commands) (answer ∷ answers) =
    (MayBeAccepted answer → IsRefile command) × OnlyRefiles commands answers
OnlyRefiles commands answers = Unit {0}

-- A call that changes files as a refile alone, where it may be accepted.
abbrev pub MayRefile : Call → Type 0
MayRefile (Ran command answer) = MayBeAccepted answer → IsRefile command
MayRefile call = Unit {0}

-- These texts of all files have one entry archived, the one at a path of a session's file, and each
-- other node as often (Org manual, "Moving a tree to an archive file").
pub record ArchivesOne (s : Session) (file : List ℕ) (path : List Step) (now : Moment)
    (files : List (List ℕ)) : Type 0 where
  -- the entry: the heading at the path, by its number in the text of its file
  pub text : List ℕ
  pub in_file : text_at s.names s.files file ≡ Some text
  pub entry : ℕ
  pub found : find_path s.states (tree text) path ≡ Ok entry
  -- where it goes: to a file of this text, below this heading of it, or below none that is there
  pub to : Destination
  pub place : location s.states file path text ≡ Ok to
  pub target : List ℕ
  pub in_target : text_at s.names s.files to.file ≡ Some target
  pub up : Option ℕ
  pub heading : target_heading s.states to (tree target) ≡ Ok up
  -- with the entry as it was, each node is there as often as before with the entry as it is then
  -- and with the heading made
  pub counts : (rest : List ℕ) (section : List (List ℕ))
      → let own = (node_at (tree text) entry).node in
      count_over rest section files + one_of rest section own.rest own.section
      ≡ count_over rest section s.files
      + one_of rest section own.rest (archived_section s.states file now (tree text) entry)
      + made_count rest section to up

-- an archiving from a file with a name that a store's files have
abbrev pub IsArchiving : Command → Type 0
IsArchiving command = (it : Archiving) × IsDiskName it.file × (command ≡ Change (Archive it))

-- A call that changes files as a refile or an archiving alone, where it may be accepted.
abbrev pub MayMove : Call → Type 0
MayMove (Ran command answer) = MayBeAccepted answer → IsRefile command ⊎ IsArchiving command
MayMove call = Unit {0}

-- a node whose section became another one; the rest of its heading line stays
pub record NewSection : Type 0 where
  pub rest : List ℕ
  pub old : List (List ℕ)
  pub new : List (List ℕ)

-- Each node is as often over these texts as over the others, but that these nodes have new
-- sections, and that headings with these rests of their lines were made, with empty sections.
abbrev pub HaveNodesBut : List NewSection → List (List ℕ) → List (List ℕ) → List (List ℕ) → Type 0
HaveNodesBut roots made texts others = (rest : List ℕ) (section : List (List ℕ)) →
    count_over rest section texts + sum_by (λ root. one_of rest section root.rest root.old) roots
    ≡ count_over rest section others + sum_by (λ root. one_of rest section root.rest root.new) roots
    + sum_by (λ line. one_of rest section line []) made

-- .. with at most so many new sections, and at most one heading made for each of these.
pub record HaveNodesButFew (most : ℕ) (texts others : List (List ℕ)) : Type 0 where
  pub roots : List NewSection
  pub made : List (List ℕ)
  pub few_roots : length roots ≤ most
  pub few_made : length made ≤ length roots
  pub counts : HaveNodesBut roots made texts others
