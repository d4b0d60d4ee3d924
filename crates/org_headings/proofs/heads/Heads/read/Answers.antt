use Rattle.std.proofs.Common.{◌∙◌, ◌++◌, true, ap}
use Rattle.org_headings.specs.Headings.{heads_from}
use Rattle.org_headings.proofs.HeadsFrom.{heads_from-text}
use Rattle.org_headings.proofs.heads.Heads.read.Goals as goal

pub returns : goal.returns
returns c = c.in_ok-scan.ensures.ok ∙ ap (λ hs. hs ++ heads_from 0 true c.args.text.now) c.new-headings.ensures.items ∙ heads_from-text _ c.requires
