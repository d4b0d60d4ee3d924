-- Why a text is not made a file name.
use Rattle.org_fault.specs.declared.fault.Fault.{Fault}
use Rattle.org_fault.specs.declared.fault.Fault.TheVariants.{Refused}
use Rattle.org_disk.specs.declared.name.BadName.{BadName}

-- what is answered where the text is no file name
abbrev pub bad_name : Fault BadName
bad_name = Refused (record {})
