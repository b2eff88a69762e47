use Rattle.if1_read.proofs.part.canonical.Goals as goal

pub returns-clause-right : goal.returns-clause-right
returns-clause-right c = λ clean sound is up. c.in_ok-from.ensures.right clean sound is up c.args.edge.takes c.args.edge.name

pub returns-clause-found : goal.returns-clause-found
returns-clause-found c = λ sound is up. c.in_ok-from.ensures.found sound is up c.args.edge.takes c.args.edge.name
