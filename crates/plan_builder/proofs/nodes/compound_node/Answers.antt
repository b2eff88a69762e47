use Rattle.plan_builder.proofs.Made.{compound-stands}
use Rattle.plan_builder.proofs.nodes.compound_node.Goals as goal

pub returns-clause-stands : goal.returns-clause-stands
returns-clause-stands c D P S g v copies kind wide picked none fed handled = compound-stands D P S g v c.args.work c.args.width c.args.ins copies c.requires kind wide picked none fed handled
