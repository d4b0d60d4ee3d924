-- What a function that takes memory found, in the words of a reader that takes none.
use Rattle.std.specs.Prelude.{◌≡◌, Option, Some, None, Result, Ok, Err}
use Rattle.org_fault.specs.declared.fault.Fault.{Fault}
use Rattle.org_fault.specs.declared.fault.Fault.TheVariants.{Refused, OutOfMemory}
use Rattle.org_journal.specs.declared.fault.Malformed.{Malformed}

-- what is answered where the bytes are no record
abbrev pub malformed : Fault Malformed
malformed = Refused (record {})

-- a fault that the reader gives, or want of memory
abbrev pub Fails : {Y : Type 0} → Fault Malformed → Option Y → Type 0
Fails (Refused _) read = read ≡ None
Fails OutOfMemory read = Unit {0}

-- What a function returned, as view sees it, is what the reader gives, unless memory ran out.
abbrev pub DecodesAs : {X Y : Type 0} → (X → Y) → Result X (Fault Malformed) → Option Y → Type 0
DecodesAs view (Ok found) read = read ≡ Some (view found)
DecodesAs view (Err e) read = Fails e read
