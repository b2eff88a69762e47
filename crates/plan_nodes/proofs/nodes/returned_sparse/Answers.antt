use Rattle.std.proofs.Common.{◌≡◌, ◌++◌, List, Some, IfOk, OnOk, length, sym, subst}
use Rattle.plan_data.specs.declared.plan.PlanNode.{PlanNode}
use Rattle.port_feeds.specs.declared.filled.Filled.{Filled}
use Rattle.plan_nodes.specs.Nodes.{plain_collects, plain_node}
use Rattle.plan_nodes.proofs.nodes.returned_sparse.Goals as goal

pub returns-in-None-clause-node : goal.returns-in-None-clause-node
returns-in-None-clause-node c =
    let a = c.args in
    subst (λ (fs : List Filled). IfOk c.returned_kept.result (λ (node : PlanNode). node ≡ plain_node fs a.joined a.marks (Some a.plain) (length a.collects.now) a.row a.shape)) (sym c.kept-own.ensures) c.returned_kept.ensures.node

pub returns-in-None-clause-collects : goal.returns-in-None-clause-collects
returns-in-None-clause-collects c =
    let a = c.args in
    subst (λ (fs : List Filled). OnOk c.returned_kept.result (c.returned_kept.new.collects ≡ a.collects.now ++ plain_collects (Some a.plain) a.row fs)) (sym c.kept-own.ensures) c.returned_kept.ensures.collects
