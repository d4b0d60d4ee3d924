-- Names of a store that share a file.
use Rattle.std.proofs.Common.{ℕ, List, ◌++◌}
use Rattle.org_folder.specs.declared.aliases.AliasFault.{AliasFault}
use Rattle.org_folder.specs.declared.aliases.AliasFault.TheVariants as alias
use Rattle.org_folder.specs.declared.list.ListFault.TheVariants as list
use Rattle.org_program.specs.Causes.{sharing, IsCause, MayShare, NameAStore}
use Rattle.org_program.specs.Lists.{names_in, AreListed}
use Rattle.org_program.specs.declared.arguments.Arguments.{Arguments}

-- a store's name that shares a file is reported after the words
pub shared : (arguments : Arguments) (listed : List (List ℕ)) (fault : AliasFault) → NameAStore arguments → AreListed arguments listed
    → MayShare (names_in arguments ++ listed) fault → IsCause arguments (sharing fault)
shared arguments listed (alias.SameFile name) good are may = (good, (listed, are, may))
shared arguments listed alias.Linked good are may = good
shared arguments listed (alias.Unseen list.Device) good are may = good
shared arguments listed (alias.Unseen list.OutOfMemory) good are may = tt
