use Rattle.org_account.proofs.Merging.{written_by}
use Rattle.org_account.proofs.rules.is_merged.Goals as goal

pub returns : goal.returns
returns c = λ yes. record {
  place = c.is_placed.ensures c.if-not-is_placed.false;
  step = c.is_stepped.ensures c.if-not-is_stepped.false;
  line = c.is_headed.ensures c.if-not-is_headed.false;
  text = written_by c.args.told.now c.args.base.now c.args.ours.now c.args.theirs.now _ _ c.section-section.ensures (c.in_ok-is_written.ensures yes);
}
