use Rattle.mark_check.proofs.Early.{rank-there}
use Rattle.mark_check.proofs.late.rank_or.Goals as goal

pub returns-in-Some : goal.returns-in-Some
returns-in-Some c = rank-there c.args.labels.now c.requires.rising c.args.ranks.now c.in-Some.place c.args.label c.in-Some.ensures
