use Rattle.std.proofs.Common.{refl, arith}
use Rattle.org_serve.proofs.History.{run_leaves, since_prefix}
use Rattle.org_serve.proofs.Settled.{run_settles}
use Rattle.org_serve.proofs.laws.crashes_leave_a_prefix.Goals as goal

pub returns : goal.returns
returns g c = record {
  opened = λ states names texts. record { size = refl; order = omega arith; files = λ sound. refl; settled = λ sound. refl };
  served = let d = g.D.Disk in run_leaves d g.met.D.Disk.only_now;
  prefix = since_prefix;
  whole = let d = g.D.Disk in run_settles d g.met.D.Disk.only_now;
}
