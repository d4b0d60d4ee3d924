use Rattle.std.proofs.Common.{sym, ◌∙◌, Some, None, arith}
use Rattle.std.proofs.lemmas.Str.Pattern.{rfind_char}
use Rattle.org_disk.proofs.Folders.{part_alone, part_after}
use Rattle.org_disk.proofs.name.last_part_of.Goals as goal

pub returns-in-Some : goal.returns-in-Some
returns-in-Some c =
    let path = c.args.path.now in
    let found = rfind_char 47 path (Some c.in-Some.at) c.in-Some.ensures.cases (omega arith) in
    c.range_from.ensures.value ∙ sym (part_after path c.in-Some.at found.0 found.1 found.2)

pub returns-in-None : goal.returns-in-None
returns-in-None c = sym (part_alone c.args.path.now (rfind_char 47 c.args.path.now None c.in-None.ensures.cases (omega arith)))
