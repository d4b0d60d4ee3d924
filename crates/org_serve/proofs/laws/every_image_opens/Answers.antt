use Rattle.org_serve.proofs.Listed.{run_opens, served_opens}
use Rattle.org_serve.proofs.laws.every_image_opens.Goals as goal

pub returns : goal.returns
returns g c = record {
  served = λ given first last end io others image least few of lists small honest run.
      let d = g.D.Disk in run_opens d given first last run of lists small honest others image least few;
  whole = λ setup disk now end io served here least image way honestly. served_opens served here least image way honestly;
}
