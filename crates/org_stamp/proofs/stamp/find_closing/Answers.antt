use Rattle.memchr.specs.Find.{is_byte2}
use Rattle.org_stamp.proofs.Firsts.{first_byte}
use Rattle.org_stamp.proofs.stamp.find_closing.Goals as goal

pub returns-clause-first : goal.returns-clause-first
returns-clause-first c = first_byte (is_byte2 93 62) c.args.text.now _ c.memchr2.ensures
