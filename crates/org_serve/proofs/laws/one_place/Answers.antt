use Rattle.org_serve.proofs.Listed.{run_nodes, run_same}
use Rattle.org_serve.proofs.laws.one_place.Goals as goal

pub returns : goal.returns
returns g c = record {
  any_moment = λ given first last end io others image least of lists small honest run.
      let d = g.D.Disk in run_nodes d given first last run of lists small honest others image least;
  refiles = λ given first last end io others image least of lists small honest run.
      let d = g.D.Disk in run_same d given first last run of lists small honest others image least;
}
