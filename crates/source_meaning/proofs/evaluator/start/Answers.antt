use Rattle.source_meaning.proofs.Laws.{moves_on, passes_back}
use Rattle.source_meaning.proofs.evaluator.start.Goals as goal

pub returns-in_ok-going-in-On-clause-moves : goal.returns-in_ok-going-in-On-clause-moves
returns-in_ok-going-in-On-clause-moves c = λ g. moves_on _ _ _ (c.in_ok-enter.ensures.moves c.in-On.is) (c.in_ok-going-in-On.ensures.moves g)

pub returns-in_ok-going-in-On-clause-limit : goal.returns-in_ok-going-in-On-clause-limit
returns-in_ok-going-in-On-clause-limit c = λ g. passes_back c.args.limit _ _ (c.in_ok-enter.ensures.moves c.in-On.is) (c.in_ok-going-in-On.ensures.limit g)

pub returns-in-Limit-clause-limit : goal.returns-in-Limit-clause-limit
returns-in-Limit-clause-limit c = λ g. c.in_ok-enter.ensures.limit c.in-Limit.is
