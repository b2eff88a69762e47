use Rattle.mark_check.proofs.Early.{early-there}
use Rattle.mark_check.proofs.late.is_early.Goals as goal

pub returns-in-Some : goal.returns-in-Some
returns-in-Some c = early-there c.args.labels.now c.requires.rising c.args.ranks.now c.args.weights.now c.args.taker c.in-Some.place c.args.user c.in-Some.ensures c.is_below.result c.is_below.ensures
