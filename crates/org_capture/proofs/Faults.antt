-- What is answered where memory ran out, or a path names no heading.
use Rattle.std.proofs.Common.{◌≡◌, List, ℕ, Option, Some, None, Result, Err, subst}
use Rattle.org_fault.specs.declared.fault.Fault.{Fault}
use Rattle.org_fault.specs.declared.fault.Fault.TheVariants.{OutOfMemory, Refused}
use Rattle.org_fault.specs.declared.refusal.Refusal.{Refusal}
use Rattle.org_splice.specs.declared.edit.Edit.{Edit}
use Rattle.org_outline.specs.declared.paths.PathFault.{PathFault}
use Rattle.org_outline.specs.Paths.{refusal_of}
use Rattle.org_outline.specs.Tree.{Document}
use Rattle.org_capture.specs.Answers.{AnswersEdit}

-- what is asked of a node, of one that is there and of none
pub for_some : (P : ℕ → Type 0) (i : ℕ) → P i → (n : ℕ) → Some i ≡ Some n → P n
for_some P i here n is = let same : i ≡ n = cc in subst P same here

abbrev nobody : Option ℕ
nobody = None

pub for_none : (P : ℕ → Type 0) (n : ℕ) → nobody ≡ Some n → P n
for_none P n is = absurd cc

pub no_memory : (said : Result Document Refusal) (text : List ℕ) (r : Result Edit (Fault Refusal)) (fault : Fault Refusal) → r ≡ Err fault → fault ≡ OutOfMemory → AnswersEdit said text r
no_memory said text r fault is out = rw (is, out) tt

pub no_heading : (said : Result Document Refusal) (text : List ℕ) (r : Result Edit (Fault Refusal)) (fault : Fault Refusal) (cause : PathFault) → r ≡ Err fault → fault ≡ Refused (refusal_of cause) → said ≡ Err (refusal_of cause) → AnswersEdit said text r
no_heading said text r fault cause is same says = rw (is, same) says
