use Rattle.take_marks.proofs.Stretches.{are-weights}
use Rattle.take_marks.proofs.orders.weigh.Goals as goal

pub returns-clause-are : goal.returns-clause-are
returns-clause-are c = λ lists ranked fit.
    are-weights c.args.ranks.now c.args.first c.args.end c.args.taker c.args.users.now c.args.places.now c.args.weights.now c.clear.new.weights c.weigh_users.new.weights c.set.new.self c.as_slice.result.now
    c.as_slice.ensures c.clear.ensures c.weigh_users.ensures c.set.ensures c.requires.taker c.requires.others lists ranked fit
