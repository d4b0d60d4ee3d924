use Rattle.org_fileset.proofs.Crashed.{found_image, found_at_rest, found_commit, found_left, found_opening, opened_anew, opened_whole}
use Rattle.org_fileset.proofs.laws.crashed_disk_opens_again.Goals as goal

pub returns : goal.returns
returns c = record { image = found_image; rest = found_at_rest; commit = found_commit; opening = found_opening; again = opened_anew; opened = opened_whole; left = found_left }
