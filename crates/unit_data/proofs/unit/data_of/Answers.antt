use Rattle.std.proofs.Common.{◌∙◌, ◌∷◌, [], ◌<◌, List, length, map, slice_index_or, sym, ap, subst}
use Rattle.if1_graph.specs.declared.graph.Graph.{Graph}
use Rattle.if1_graph.specs.declared.graph.Graph.TheViews.{out-Graph}
use Rattle.graph_meaning.specs.Entered.{IsIn}
use Rattle.graph_inputs.specs.declared.inputs.Inputs.{Inputs}
use Rattle.output_marks.specs.Graphs.{lent, unit_graphs}
use Rattle.unit_data.proofs.Whole.{functions-inside, params-long, parts-of-unit, unit-data}
use Rattle.unit_data.proofs.unit.data_of.Goals as goal

pub graphs_of-requires-clause-graphs : goal.graphs_of-requires-clause-graphs
graphs_of-requires-clause-graphs c = ap lent c.as_slice.ensures.value ∙ (c.in_ok-graphs.ensures ∙ ap unit_graphs c.unit-whole.ensures.unit)

pub data_with-requires-clause-above : goal.data_with-requires-clause-above
data_with-requires-clause-above c =
    let u = c.args.unit.now in
    let w = c.unit-whole.ensures in
    let m = c.in_ok-made.made in
    parts-of-unit u w.ready w.normal w.sound (λ g. slice_index_or c.in_ok-orders.orders.items g []) c.in_ok-orders.ensures.in_order m.graphs m.literals m.marks c.in_ok-made.ensures.long c.in_ok-made.ensures.made

pub data_with-requires-clause-inside : goal.data_with-requires-clause-inside
data_with-requires-clause-inside c = λ f h.
    let u = c.args.unit.now in
    let w = c.unit-whole.ensures in
    let fs = c.in_ok-functions.ensures ∙ ap (map (λ (g : Graph). (out-Graph g).number)) (c.as_slice-2.ensures ∙ ap (λ u. u.graphs) w.unit) in
    subst (λ n. f < n) (sym c.in_ok-made.ensures.long) (functions-inside u w.ready w.normal f (subst (IsIn f) (c.as_slice-4.ensures ∙ fs) h))

pub data_with-requires-clause-long : goal.data_with-requires-clause-long
data_with-requires-clause-long c =
    let u = c.args.unit.now in
    let w = c.unit-whole.ensures in
    let inputs = c.in_ok-params.ensures ∙ ap (λ (xs : List Inputs). 0 ∷ map (λ x. x.all) xs) (c.as_slice-3.ensures ∙ c.in_ok-facts.ensures.inputs) in
    ap length inputs ∙ (params-long u w.ready w.normal ∙ sym c.in_ok-made.ensures.long)

pub returns : goal.returns
returns c =
    let u = c.args.unit.now in
    let w = c.unit-whole.ensures in
    let m = c.in_ok-made.made in
    let d = c.in_ok-data.ensures in
    let fs = c.as_slice-4.ensures ∙ (c.in_ok-functions.ensures ∙ ap (map (λ (g : Graph). (out-Graph g).number)) (c.as_slice-2.ensures ∙ ap (λ u. u.graphs) w.unit)) in
    let inputs = c.in_ok-params.ensures ∙ ap (λ (xs : List Inputs). 0 ∷ map (λ x. x.all) xs) (c.as_slice-3.ensures ∙ c.in_ok-facts.ensures.inputs) in (
      (λ g. slice_index_or c.in_ok-orders.orders.items g []),
      unit-data u w.ready w.normal w.sound (λ g. slice_index_or c.in_ok-orders.orders.items g []) c.in_ok-orders.ensures.in_order m.graphs m.literals m.marks c.in_ok-made.ensures.long c.in_ok-made.ensures.made
          c.in_ok-made.ensures.begun c.in_ok-made.ensures.some c.in_ok-data.data c.as_slice-4.result.now c.in_ok-params.params d.graphs d.literals d.marks d.params fs inputs d.tabled,
    )
