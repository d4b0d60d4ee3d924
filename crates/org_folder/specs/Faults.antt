-- What an error of the system is reported as.
use Rattle.std.specs.Prelude.{◌≡◌, ◌⊎◌}
use Rattle.std.specs.declared.io.ErrorKind.{ErrorKind}
use Rattle.std.specs.declared.io.ErrorKind.TheVariants as kinds

-- Of an error of this kind, the fault: want of memory as such, and everything else as the device's.
abbrev pub IsReportedAs : {F : Type 0} → ErrorKind → (memory device fault : F) → Type 0
IsReportedAs kind memory device fault =
    ((kind ≡ kinds.OutOfMemory) × (fault ≡ memory))
    ⊎ ((kind ≡ kinds.OutOfMemory → ⊥) × (fault ≡ device))
