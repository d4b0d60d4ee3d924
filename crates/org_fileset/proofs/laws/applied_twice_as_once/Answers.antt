use Rattle.org_fileset.proofs.Kept.{patched_twice, patched_partly}
use Rattle.org_fileset.proofs.Made.{made_twice}
use Rattle.org_fileset.proofs.laws.applied_twice_as_once.Goals as goal

pub returns : goal.returns
returns c = record { twice = patched_twice; partly = patched_partly; entry = λ entry text formed fit. made_twice entry formed text fit }
