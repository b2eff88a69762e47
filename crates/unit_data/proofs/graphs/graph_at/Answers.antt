use Rattle.std.proofs.Common.{◌≡◌, ◌∙◌, ◌-◌, ◌<◌, length, Some, sym, ap, subst, arith}
use Rattle.if1_graph.specs.declared.graph.Graph.{Graph}
use Rattle.if1_graph.specs.Units.{number_of}
use Rattle.output_marks.specs.FiringOrderOrders.{IsFiringOrder}
use Rattle.plan_nodes.specs.Plans.{place_of}
use Rattle.plan_data.specs.declared.plan.PlanGraph.{PlanGraph}
use Rattle.unit_data.proofs.Places.{empty-there, graph-there-at, none-first, plain-is}
use Rattle.unit_data.specs.Graphs.{IsGraphAt}
use Rattle.unit_data.proofs.graphs.graph_at.Goals as goal

pub returns-then-number-eq0-clause-made : goal.returns-then-number-eq0-clause-made
returns-then-number-eq0-clause-made c = λ D os t on begun ordered.
    let u = c.args.unit.now in
    let zero : c.args.number ≡ 0 = c.if-number-eq0.true in
    subst (λ (x : PlanGraph). IsGraphAt D u os t c.args.number (Some x)) (sym c.no_graph.ensures) (empty-there D u os t c.args.number (ap (place_of u) zero ∙ none-first u c.unit-whole.ensures.ready) zero)

pub graph_of-requires-clause-here : goal.graph_of-requires-clause-here
graph_of-requires-clause-here c =
    let inside = c.requires.inside in
    let low : c.args.number - 1 < length c.args.graphs.now = omega (arith, inside, c.if-number-eq0.false) in
    let x = graph-there-at c.args.unit.now c.unit-whole.ensures.ready c.unit-whole.ensures.normal c.args.graphs.now c.requires.graphs (c.args.number - 1) c.index-graphs-number.result low c.index-graphs-number.is in
    (x.0, x.2, x.3)

pub graph_of-requires-clause-order : goal.graph_of-requires-clause-order
graph_of-requires-clause-order c =
    let inside = c.requires.inside in
    let low : c.args.number - 1 < length c.args.graphs.now = omega (arith, inside, c.if-number-eq0.false) in
    let x = graph-there-at c.args.unit.now c.unit-whole.ensures.ready c.unit-whole.ensures.normal c.args.graphs.now c.requires.graphs (c.args.number - 1) c.index-graphs-number.result low c.index-graphs-number.is in
    let number : number_of x.0 ≡ c.args.number = omega (arith, x.4, c.if-number-eq0.false) in
    subst (λ (g : Graph). IsFiringOrder g c.args.order) x.3 (c.requires.order x.0 x.2 number)

pub returns-clause-made : goal.returns-clause-made
returns-clause-made c = λ D os t on begun ordered.
    let u = c.args.unit.now in
    let ready = c.unit-whole.ensures.ready in
    let normal = c.unit-whole.ensures.normal in
    let inside = c.requires.inside in
    let low : c.args.number - 1 < length c.args.graphs.now = omega (arith, inside, c.if-number-eq0.false) in
    let x = graph-there-at u ready normal c.args.graphs.now c.requires.graphs (c.args.number - 1) c.index-graphs-number.result low c.index-graphs-number.is in
    let number : number_of x.0 ≡ c.args.number = omega (arith, x.4, c.if-number-eq0.false) in
    let plainly = plain-is u ready normal c.as_slice.result.now (c.as_slice.ensures ∙ c.requires.facts.inputs) (c.args.number - 1) x.0 x.1 x.2 ∙ sym c.plain_at-plain.ensures in
    subst (λ n. IsGraphAt D u os t n (Some c.in_ok-made.made)) number (c.in_ok-made.ensures.made D os t x.0 on begun x.2 x.3 plainly (ordered ∙ ap os (sym number)))
