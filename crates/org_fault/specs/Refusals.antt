-- The number and the name of each refusal, as a reply has them.
use Rattle.std.specs.Prelude.{ℕ, List, codes}
use Rattle.org_fault.specs.declared.refusal.Refusal.{Refusal}
use Rattle.org_fault.specs.declared.refusal.Refusal.TheVariants.{NoSuchFile, BadTemplate, BadEntry, NotFound, NotUnique, InsideItself, AlreadyArchive, UnknownState, OddPlanning, BadRepeat, DateRange, NoClock, ClockBackwards, BadLocation, NotThere, TooLarge}

abbrev pub code_of : Refusal → ℕ
code_of NoSuchFile = 1
code_of BadTemplate = 2
code_of BadEntry = 3
code_of NotFound = 4
code_of NotUnique = 5
code_of InsideItself = 6
code_of AlreadyArchive = 7
code_of UnknownState = 8
code_of OddPlanning = 9
code_of BadRepeat = 10
code_of DateRange = 11
code_of NoClock = 12
code_of ClockBackwards = 13
code_of BadLocation = 15
code_of NotThere = 16
code_of TooLarge = 14

abbrev pub name_of : Refusal → List ℕ
name_of NoSuchFile = codes "NoSuchFile"
name_of BadTemplate = codes "BadTemplate"
name_of BadEntry = codes "BadEntry"
name_of NotFound = codes "NotFound"
name_of NotUnique = codes "NotUnique"
name_of InsideItself = codes "InsideItself"
name_of AlreadyArchive = codes "AlreadyArchive"
name_of UnknownState = codes "UnknownState"
name_of OddPlanning = codes "OddPlanning"
name_of BadRepeat = codes "BadRepeat"
name_of DateRange = codes "DateRange"
name_of NoClock = codes "NoClock"
name_of ClockBackwards = codes "ClockBackwards"
name_of BadLocation = codes "BadLocation"
name_of NotThere = codes "NotThere"
name_of TooLarge = codes "TooLarge"
