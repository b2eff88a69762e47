use Rattle.if1_read.proofs.Reading.{ended_no}
use Rattle.if1_read.proofs.literals.ended_item.Goals as goal

pub returns-else-text-last-eq39 : goal.returns-else-text-last-eq39
returns-else-text-last-eq39 c = ended_no c.args.text.now c.requires c.if-text-last-eq39.false
