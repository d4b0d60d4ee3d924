use Rattle.org_meta.proofs.FirstLine.{first_cut, none_found, rest_terminated}
use Rattle.org_meta.proofs.lines.Lines.first.Goals as goal

pub returns-in_err-memchr-clause-none : goal.returns-in_err-memchr-clause-none
returns-in_err-memchr-clause-none c = rw c.from_residual.ensures (none_found _ _ c.args.self.whole c.memchr.ensures c.in_err-memchr.was)

pub returns-clause-some : goal.returns-clause-some
returns-clause-some c = first_cut _ _ _ _ _ _ c.memchr.ensures c.in_ok-memchr.was c.split_at.ensures.front c.split_at.ensures.back c.split_at-2.ensures.back

pub invariant_of-result : goal.invariant_of-result
invariant_of-result c =
    let cut = first_cut _ _ _ _ _ _ c.memchr.ensures c.in_ok-memchr.was c.split_at.ensures.front c.split_at.ensures.back c.split_at-2.ensures.back in
    record { whole = rest_terminated c.args.self.bytes.now _ _ c.args.self.whole cut }
