use Rattle.org_disk.specs.Disk.{HasRisen}
use Rattle.org_journal.specs.Recovered.{contents}
use Rattle.org_store.proofs.Reopening.{counted_faults, held_opens, left_opens, any_order}
use Rattle.org_store.proofs.laws.every_image_opens.Goals as goal

pub returns : goal.returns
returns g c = record {
  faults = λ given disk now fault all honest.
      counted_faults given (g.D.Disk.honest now) (HasRisen (g.D.Disk.failures disk) (g.D.Disk.failures now)) (contents (g.D.Disk.files disk)) (contents (g.D.Disk.files now)) fault all honest;
  held = held_opens;
  left = left_opens;
  names = any_order;
}
