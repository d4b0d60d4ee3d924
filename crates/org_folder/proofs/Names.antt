-- The names of Org files.
use Rattle.std.proofs.Common.{arith, ℕ, List, IsTrue}
use Rattle.std.proofs.lemmas.Grind.{common_steps}
use Rattle.org_disk.specs.Names.{IsOrgFile}
use Rattle.org_folder.specs.OrgFiles.{is_org_file}

pub org_file_is : (name : List ℕ) → IsTrue (is_org_file name) → IsOrgFile name
org_file_is name e = grind (arith, common_steps)
