-- What a fault says of what is defined: a definition answers a refusal, and speaks of no memory.
use Rattle.std.specs.Prelude.{◌≡◌, Result, Ok, Err}
use Rattle.org_fault.specs.declared.fault.Fault.{Fault}
use Rattle.org_fault.specs.declared.fault.Fault.TheVariants.{OutOfMemory, Refused}

-- where the fault is a refusal, this holds of why
abbrev pub IfRefusal : {E : Type 0} → Fault E → (E → Type 0) → Type 0
IfRefusal OutOfMemory P = Unit {0}
IfRefusal (Refused why) P = P why

-- where the call was refused, this holds of why; there may be no memory for it at any time
abbrev pub IfRefused : {T E : Type 0} → Result T (Fault E) → (E → Type 0) → Type 0
IfRefused (Ok value) P = Unit {0}
IfRefused (Err fault) P = IfRefusal fault P

-- why what is defined isn't done: it is refused, or it isn't, and there was no memory for it
abbrev pub IsWhyNot : {T E : Type 0} → Result T E → Fault E → Type 0
IsWhyNot {T} defined OutOfMemory = (value : T) × (defined ≡ Ok value)
IsWhyNot defined (Refused why) = defined ≡ Err why
