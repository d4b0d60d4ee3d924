use Rattle.memchr.specs.Find.{is_byte}
use Rattle.org_stamp.proofs.Firsts.{first_byte}
use Rattle.org_stamp.proofs.part.find.Goals as goal

pub returns : goal.returns
returns c = first_byte (is_byte c.args.byte) c.args.text.now _ c.memchr.ensures
