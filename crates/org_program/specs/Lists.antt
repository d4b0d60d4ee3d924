-- The names and the states that the arguments list.
use Rattle.std.specs.Prelude.{◌≡◌, ◌≢◌, ℕ, List, [], ◌++◌, ◌==◌, map, string_bytes, All}
use Rattle.std.specs.List.{slice_split}
use Rattle.org_disk.specs.Names.{IsOrgFile}
use Rattle.org_outline.specs.States.{Keywords}
use Rattle.org_program.specs.declared.arguments.Arguments.{Arguments}

-- what stands before, between and after the commas of a list: one text more than it has commas
abbrev pub between_commas : List ℕ → List (List ℕ)
between_commas list = slice_split (λ byte. byte == 44) list

-- the states between the commas of a list of active ones and of one of done ones
abbrev pub states_of : List ℕ → List ℕ → Keywords
states_of todo done = record { active = between_commas todo; done = between_commas done }

-- the states that a store is to have
abbrev pub states_in : Arguments → Keywords
states_in arguments = states_of (string_bytes arguments.todo) (string_bytes arguments.done)

-- the names that are given: those of `--new`, and then those of `--only`
abbrev pub names_in : Arguments → List (List ℕ)
names_in arguments = map string_bytes arguments.new.items ++ map string_bytes arguments.only.items

-- The names that the folder's list adds to them: those of Org files, or none where `--only` is
-- given.
pub record AreListed (arguments : Arguments) (listed : List (List ℕ)) : Type 0 where
  pub org_files : All IsOrgFile listed
  pub only : arguments.only.items ≢ [] → listed ≡ []
