use Rattle.std.proofs.Common.{◌≡◌, ◌∙◌, get_or, List, ap, subst}
use Rattle.if1_graph.specs.declared.graph.Graph.TheViews.{out-Graph}
use Rattle.if1_graph.specs.declared.graph.Node.{Node}
use Rattle.graph_meaning.specs.Networks.{kind_of}
use Rattle.unit_plan.specs.Plans.{outputs_in}
use Rattle.node_works.specs.Tasks.{task_kind}
use Rattle.node_works.proofs.Above.{graph-above, graph-calls}
use Rattle.node_works.proofs.Noted.{label-at}
use Rattle.node_works.proofs.Ordered.{graph-ordered, node-same, node-there, parts-ordered}
use Rattle.node_works.proofs.works.task_of.Goals as goal

pub node_task-requires-clause-order : goal.node_task-requires-clause-order
node_task-requires-clause-order c = graph-ordered c.args.unit.now c.unit.ensures.ready c.unit.ensures.normal c.args.graph.now c.requires.here

pub node_task-requires-clause-inside : goal.node_task-requires-clause-inside
node_task-requires-clause-inside c =
    let ns = (out-Graph c.args.graph.now).nodes in
    let k = c.args.place in
    let n = c.index-as_slice-place.result in
    let is = c.index-as_slice-place.is ∙ ap (λ (ns : List Node). get_or ns k n) c.as_slice.ensures in
    parts-ordered c.args.unit.now c.unit.ensures.ready c.unit.ensures.normal c.args.graph.now c.requires.here n (node-there ns k n c.requires.inside is)

pub returns-clause-kind : goal.returns-clause-kind
returns-clause-kind c m e =
    let u = c.args.unit.now in
    let g = c.args.graph.now in
    let ns = (out-Graph g).nodes in
    let k = c.args.place in
    let n = c.index-as_slice-place.result in
    let is = c.index-as_slice-place.is ∙ ap (λ (ns : List Node). get_or ns k n) c.as_slice.ensures in
    subst (λ m. kind_of u g m ≡ task_kind c.in_ok-task.task (outputs_in u (kind_of u g m))) (node-same ns k n m c.requires.inside is e)
    (c.in_ok-task.ensures.kind u c.requires.tables (label-at g ns c.args.outputs.now k n c.requires.outputs c.requires.inside is))

pub returns-clause-above : goal.returns-clause-above
returns-clause-above c =
    let u = c.args.unit.now in
    let g = c.args.graph.now in
    let ns = (out-Graph g).nodes in
    let k = c.args.place in
    let n = c.index-as_slice-place.result in
    let is = c.index-as_slice-place.is ∙ ap (λ (ns : List Node). get_or ns k n) c.as_slice.ensures in
    graph-above u c.unit.ensures.ready g c.requires.here n (node-there ns k n c.requires.inside is) (outputs_in u (kind_of u g n)) c.in_ok-task.task
    (c.in_ok-task.ensures.kind u c.requires.tables (label-at g ns c.args.outputs.now k n c.requires.outputs c.requires.inside is))

pub returns-clause-calls : goal.returns-clause-calls
returns-clause-calls c =
    let u = c.args.unit.now in
    let g = c.args.graph.now in
    let ns = (out-Graph g).nodes in
    let k = c.args.place in
    let n = c.index-as_slice-place.result in
    let is = c.index-as_slice-place.is ∙ ap (λ (ns : List Node). get_or ns k n) c.as_slice.ensures in
    graph-calls u c.unit.ensures.ready g c.requires.here n (node-there ns k n c.requires.inside is) (outputs_in u (kind_of u g n)) c.in_ok-task.task
    (c.in_ok-task.ensures.kind u c.requires.tables (label-at g ns c.args.outputs.now k n c.requires.outputs c.requires.inside is))
