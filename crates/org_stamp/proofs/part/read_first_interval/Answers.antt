use Rattle.std.proofs.Common.{◌+◌, ap, ◌∙◌}
use Rattle.std.proofs.lemmas.List.{take_rest}
use Rattle.org_stamp.specs.Parts.{interval_of, intervals_cut}
use Rattle.org_stamp.proofs.Parts.{two_intervals}
use Rattle.org_stamp.proofs.part.read_first_interval.Goals as goal

pub returns-in-None : goal.returns-in-None
returns-in-None c = c.read_interval.ensures ∙ ap (λ o. intervals_cut c.args.text.now o) c.in-None.ensures

pub returns-in-Some : goal.returns-in-Some
returns-in-Some c =
    c.and.ensures ∙ two_intervals c.args.text.now c.in-Some.at _ _ c.in-Some.ensures c.read_interval-in-Some-2.ensures (c.read_interval-in-Some.ensures ∙ ap (λ l. interval_of l) (take_rest c.args.text.now (c.in-Some.at + 1)))
