-- What is promised of a merge of three folders of which two are the same: it is the third one.
use Rattle.std.specs.Prelude.{◌≡◌, ℕ, List, [], Option, None, Some, map}
use Rattle.org_account.specs.Units.{File}
use Rattle.org_merge.specs.declared.file.Source.{Source}
use Rattle.org_merge.specs.declared.file.Made.{Made}

-- a file as it is: its name and its bytes
abbrev pub file_given : Source → File
file_given file = record { name = file.name.now; text = file.text.now }

abbrev pub file_made : Made → File
file_made file = record { name = file.name.items; text = file.text.items }

-- the same files in the same order, byte for byte
abbrev pub AreSame : List Source → List Source → Type 0
AreSame one other = map file_given one ≡ map file_given other

-- it is a folder, and has the files of this one
abbrev pub IsFolder : Option (List Source) → List Source → Type 0
IsFolder None folder = ⊥
IsFolder (Some chosen) folder = AreSame chosen folder

-- the third folder, where two are the same
pub record IsChoice (base ours theirs : List Source) (chosen : Option (List Source))
    : Type 0 where
  pub ours_alone : AreSame base theirs → IsFolder chosen ours
  pub theirs_alone : AreSame base ours → IsFolder chosen theirs
  pub both : AreSame ours theirs → IsFolder chosen ours

-- the result is this folder, byte for byte, and nothing is told
pub record IsUntold (folder : List Source) (result : List File) (report : List ℕ) : Type 0 where
  pub files : result ≡ map file_given folder
  pub told : report ≡ []

-- If two of the three folders are the same, the result is the third one, and nothing is told.
pub record IsIdentity (base ours theirs : List Source) (result : List File) (report : List ℕ)
    : Type 0 where
  pub ours_alone : AreSame base theirs → IsUntold ours result report
  pub theirs_alone : AreSame base ours → IsUntold theirs result report
  pub both : AreSame ours theirs → IsUntold ours result report
