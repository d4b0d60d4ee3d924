-- A fault that is handed on says no less of the caller's definition.
use Rattle.std.proofs.Common.{◌≡◌, sym, subst}
use Rattle.org_fault.specs.declared.fault.Fault.{Fault}
use Rattle.org_fault.specs.declared.fault.Fault.TheVariants.{OutOfMemory, Refused}
use Rattle.org_fault.specs.Faults.{IfRefusal}

pub refused_as : {E : Type 0} (fault : Fault E) (P Q : E → Type 0) → ((why : E) → P why → Q why) → IfRefusal fault P → IfRefusal fault Q
refused_as OutOfMemory P Q weaker holds = tt
refused_as (Refused why) P Q weaker holds = weaker why holds

pub no_memory : {E : Type 0} (fault : Fault E) (P : E → Type 0) → fault ≡ OutOfMemory → IfRefusal fault P
no_memory fault P is = subst (λ f. IfRefusal f P) (sym is) tt
