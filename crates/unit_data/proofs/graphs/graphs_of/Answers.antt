use Rattle.std.proofs.Common.{◌≡◌, ◌∙◌, ◌++◌, List, [], ◌∷◌, Bor, length, slice_index_or, Some, refl, sym, ap, subst, arith}
use Rattle.std.proofs.lemmas.Iterator.Adapters.{YieldsList-from_vec}
use Rattle.std.proofs.lemmas.Iterator.Consumers.{YieldsList-end, YieldsList-turn}
use Rattle.std.proofs.lemmas.List.{get_or_default, length-map, length_push}
use Rattle.if1_graph.specs.declared.graph.Graph.{Graph}
use Rattle.if1_graph.specs.Units.{Place, number_of, places}
use Rattle.output_marks.specs.FiringOrderOrders.{IsFiringOrder}
use Rattle.step_code.specs.Cell.{Cell}
use Rattle.step_code.specs.Cell.TheVariants as cell
use Rattle.unit_data.proofs.EachGraph.{AreGraphsDone, goes-on, graph-done, none-done}
use Rattle.unit_data.specs.Graphs.{IsGraphAt}
use Rattle.unit_data.proofs.graphs.graphs_of.Goals as goal

pub loop-order-init : goal.loop-order-init
loop-order-init c =
    none-done c.args.unit.now c.args.orders.items c.add.new.self c.new-2.result 0 c.in_ok-with_room.field-0 (c.in_ok-add.ensures.ok ∙ ap (λ (cs : List Cell). cs ++ cell.Unfilled ∷ []) c.new.ensures) refl c.in_ok-with_room.ensures

pub graph_at-requires-clause-inside : goal.graph_at-requires-clause-inside
graph_at-requires-clause-inside c =
    let begun = c.into_iter-order-iterator.ensures.into_iter_gives in
    let t = YieldsList-turn (YieldsList-from_vec c.args.orders.items begun.0 (begun.1 ∙ c.args.orders.ok.0)) c.loop-order.yielded c.loop-order.order-iterator c.loop-order.yielded_by c.next.result c.next.new.self c.in-Some.order c.in-Some.is c.next.ensures.steps in
    let long = sym (length-map c.args.graphs.now (λ (g : Bor Graph). g.now)) ∙ (ap length c.requires.graphs ∙ length-map (places c.args.unit.now) (λ (p : Place). p.graph)) in
    omega (arith, t.0, long, c.len-number.ensures, c.loop-order.invariant.long, c.requires.fit)

pub graph_at-requires-clause-order : goal.graph_at-requires-clause-order
graph_at-requires-clause-order c = λ p place number.
    let begun = c.into_iter-order-iterator.ensures.into_iter_gives in
    let os = c.args.orders.items in
    let order = c.in-Some.order in
    let t = YieldsList-turn (YieldsList-from_vec os begun.0 (begun.1 ∙ c.args.orders.ok.0)) c.loop-order.yielded c.loop-order.order-iterator c.loop-order.yielded_by c.next.result c.next.new.self order c.in-Some.is c.next.ensures.steps in
    let at : number_of p ≡ length c.loop-order.yielded = number ∙ (c.len-number.ensures ∙ c.loop-order.invariant.long) in
    let same : slice_index_or os (number_of p) [] ≡ order = ap (λ k. slice_index_or os k []) at ∙ (get_or_default os (length c.loop-order.yielded) [] order t.0 ∙ sym t.1) in
    subst (IsFiringOrder p.graph) same (c.requires.orders p place)

pub loop-order-preserved : goal.loop-order-preserved
loop-order-preserved c =
    let begun = c.into_iter-order-iterator.ensures.into_iter_gives in
    let u = c.args.unit.now in
    let os = c.args.orders.items in
    let order = c.in-Some.order in
    let xs = c.loop-order.made.graphs in
    let x = c.in_ok-graph.graph in
    let was = c.loop-order.invariant in
    let t = YieldsList-turn (YieldsList-from_vec os begun.0 (begun.1 ∙ c.args.orders.ok.0)) c.loop-order.yielded c.loop-order.order-iterator c.loop-order.yielded_by c.next.result c.next.new.self order c.in-Some.is c.next.ensures.steps in
    let is : order ≡ slice_index_or os (length xs) [] = t.1 ∙ (get_or_default os (length c.loop-order.yielded) order [] t.0 ∙ ap (λ k. slice_index_or os k []) (sym was.long)) in
    subst (λ n. AreGraphsDone u os n c.add-in-loop-order.new.self c.graph_at.new.literals c.graph_at.new.marks) (sym (length_push c.loop-order.yielded order))
    (graph-done u os (length c.loop-order.yielded) xs c.loop-order.made.literals c.graph_at.new.literals c.loop-order.made.marks c.graph_at.new.marks order x c.add-in-loop-order.new.self was
    c.in_ok-graph.ensures.kept is
    (λ D os t on begun ordered. subst (λ k. IsGraphAt D u os t k (Some x)) c.len-number.ensures (c.in_ok-graph.ensures.made D os t on begun (ordered ∙ ap os (sym c.len-number.ensures)))) c.in_ok-add-2.ensures.ok)

pub returns-clause-long : goal.returns-clause-long
returns-clause-long c =
    let begun = c.into_iter-order-iterator.ensures.into_iter_gives in
    let t = YieldsList-end (YieldsList-from_vec c.args.orders.items begun.0 (begun.1 ∙ c.args.orders.ok.0)) c.loop-order.yielded c.loop-order.order-iterator c.loop-order.yielded_by c.next.result c.next.new.self c.in-None.is c.next.ensures.steps in
    c.loop-order.invariant.long ∙ (t.1 ∙ c.requires.fit)

pub returns-clause-made : goal.returns-clause-made
returns-clause-made c = λ D t e f. c.loop-order.invariant.made D t (goes-on D c.loop-order.made.literals c.loop-order.made.marks e f)

pub returns-clause-begun : goal.returns-clause-begun
returns-clause-begun c = λ D e f. c.loop-order.invariant.begun D (goes-on D c.loop-order.made.literals c.loop-order.made.marks e f)

pub returns-clause-some : goal.returns-clause-some
returns-clause-some c = c.loop-order.invariant.some
