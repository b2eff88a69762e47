use Rattle.std.proofs.Common.{sym, subst}
use Rattle.plan_data.specs.declared.plan.Work.TheVariants as work
use Rattle.plan_data.specs.Stands.{IsNode}
use Rattle.plan_builder.specs.Nodes.{made_node}
use Rattle.plan_builder.proofs.Made.{simple-stands}
use Rattle.plan_builder.proofs.nodes.simple_node.Goals as goal

pub returns-clause-stands : goal.returns-clause-stands
returns-clause-stands c D P S g v kind wide fed handled =
    subst (λ w. IsNode D P S g (made_node (work.Plain c.args.row c.args.shape c.args.written c.args.counted) w c.args.ins) v) (sym c.plain_width.ensures)
    (simple-stands D P S g v c.args.row c.args.shape c.args.written c.args.counted c.args.ins kind wide fed handled)
