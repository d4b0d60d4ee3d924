use Rattle.org_capture.proofs.OneHeading.{behind_terminated, first_line, no_first_line}
use Rattle.org_capture.proofs.entries.first_line.Goals as goal

pub returns-in_err-memchr-clause-lines : goal.returns-in_err-memchr-clause-lines
returns-in_err-memchr-clause-lines c = rw c.from_residual.ensures (no_first_line _ _ c.requires c.memchr.ensures c.in_err-memchr.was)

pub returns-clause-lines : goal.returns-clause-lines
returns-clause-lines c = first_line _ _ _ _ _ _ c.memchr.ensures c.in_ok-memchr.was c.split_at.ensures.front c.split_at.ensures.back c.split_at-2.ensures.back

pub returns-clause-terminated : goal.returns-clause-terminated
returns-clause-terminated c = behind_terminated _ _ _ _ c.requires c.split_at.ensures.back c.split_at-2.ensures.back
