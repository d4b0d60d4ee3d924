use Rattle.std.proofs.Common.{◌<◌, sym, rules}
use Rattle.org_stamp.specs.Calendar.{IsDay}
use Rattle.org_stamp.proofs.Computed.{repeats_computed}
use Rattle.org_stamp.proofs.stamp.Stamp.repeat.Goals as goal

pub returns-clause-value : goal.returns-clause-value
returns-clause-value c =
    let today : IsDay c.args.now.day = search rules in
    let minute : c.args.now.minute < 1440 = search rules in
    sym (repeats_computed c.args.self.now c.args.now c.next.result c.next.ensures.valid today minute c.next.ensures.value)
