-- What is promised of a merge: that it has an account.
use Rattle.std.specs.Prelude.{ℕ, List, map}
use Rattle.org_outline.specs.States.{Keywords}
use Rattle.org_account.specs.declared.table.Row.{Row}
use Rattle.org_account.specs.Units.{File}
use Rattle.org_account.specs.Account.{IsAccountOf}
use Rattle.org_merge.specs.declared.file.Source.{Source}
use Rattle.org_merge.specs.declared.file.Made.{Made}
use Rattle.org_merge.specs.declared.file.ReadFile.{ReadFile}
use Rattle.org_merge.specs.Reading.{as_read}

-- a file, its text as a merge reads it
abbrev pub read_source : Source → File
read_source file = record { name = file.name.now; text = as_read file.text.now }

abbrev pub read_made : Made → File
read_made file = record { name = file.name.items; text = as_read file.text.items }

abbrev pub file_of : ReadFile → File
file_of file = record { name = file.name.now; text = file.text.items }

-- some table, and this report, are an account of the merge of the three folders
abbrev pub IsAccounted : Keywords → List Source → List Source → List Source → List File → List ℕ → Type 0
IsAccounted states base ours theirs merged report =
    (table : List Row)
    × IsAccountOf states table report (map read_source base) (map read_source ours)
    (map read_source theirs) merged
