use Rattle.std.proofs.Common.{◌≤◌, ◌∙◌, ◌++◌, List, All, map, sym, ap, subst}
use Rattle.if1_graph.specs.declared.graph.Graph.{Graph}
use Rattle.if1_graph.specs.Units.{levels, most_levels}
use Rattle.if1_ports.proofs.EachPlace.{all_in_order}
use Rattle.if1_ports.specs.Inside.{AreInOrder}
use Rattle.graph_inputs.specs.Inputs.{inputs_of}
use Rattle.graph_inputs.specs.Walks.{function_places}
use Rattle.graph_inputs.proofs.walk.unit_inputs.Goals as goal

pub add_functions-requires : goal.add_functions-requires
add_functions-requires c =
    subst (λ (gs : List Graph). AreInOrder gs) (sym (c.as_slice.ensures ∙ ap (λ u. u.graphs) c.unit-whole.ensures.unit)) (all_in_order c.args.unit.now c.unit-whole.ensures.ready.formed c.unit-whole.ensures.normal)

pub returns : goal.returns
returns c =
    let u = c.args.unit.now in
    let gs = c.as_slice.ensures ∙ ap (λ u. u.graphs) c.unit-whole.ensures.unit in
    c.in_ok-add_functions.ensures u c.requires (subst (All (λ g. levels g ≤ most_levels)) (sym gs) c.unit-whole.ensures.ready.formed.nesting)
    ∙ (ap (λ xs. xs ++ map (inputs_of u) (function_places 0 c.as_slice.result.now)) c.new-all.ensures ∙ ap (λ gs. map (inputs_of u) (function_places 0 gs)) gs)
