use Rattle.std.proofs.Common.{◌-◌, length, drop, arith}
use Rattle.std.proofs.lemmas.List.{length-drop, length-take}
use Rattle.org_fileset.proofs.Contexts.{after_is}
use Rattle.org_fileset.proofs.entries.after.Goals as goal

pub returns : goal.returns
returns c =
    let text = c.args.text.now in
    let place = c.args.place in
    after_is text place c.min.result (omega (arith, c.min.ensures, length-take (length text - place) (drop place text), length-drop place text))
