use Rattle.std.proofs.Common.{◌∙◌, ◌<◌, ◌++◌, IsTrue, List, get_or, length, map, sym, ap, subst}
use Rattle.if1_graph.specs.declared.graph.Graph.{Graph}
use Rattle.if1_graph.specs.Units.{Function, most_levels, places_of}
use Rattle.if1_order.specs.Within.{whole}
use Rattle.may_take.specs.Looked.{does_ask, flags_by}
use Rattle.may_take.proofs.Laid.{all-laid}
use Rattle.may_take.proofs.Steps.{here, functions-more}
use Rattle.may_take.proofs.units.flags_in.Goals as goal

pub functions_of-requires-clause-laid : goal.functions_of-requires-clause-laid
functions_of-requires-clause-laid c = all-laid c.args.unit.now c.requires.formed c.requires.normal

pub look-requires-clause-laid : goal.look-requires-clause-laid
look-requires-clause-laid c =
    let u = c.args.unit.now in
    let g = c.graph-item.result in
    all-laid u c.requires.formed c.requires.normal g
    (here c.as_slice-graph-items.result.now u.graphs c.loop-graph.graph-index g c.as_slice-graph-items.ensures c.loop-graph-test.true c.graph-item.is)

pub add_function-requires-clause-laid : goal.add_function-requires-clause-laid
add_function-requires-clause-laid c =
    let u = c.args.unit.now in
    let g = c.graph-item.result in
    all-laid u c.requires.formed c.requires.normal g
    (here c.as_slice-graph-items.result.now u.graphs c.loop-graph.graph-index g c.as_slice-graph-items.ensures c.loop-graph-test.true c.graph-item.is) g whole

pub add_function-requires-clause-asks : goal.add_function-requires-clause-asks
add_function-requires-clause-asks c = subst (λ a. IsTrue (does_ask a)) (sym c.in_ok-functions.ensures.asked) c.requires.asks

pub loop-graph-preserved : goal.loop-graph-preserved
loop-graph-preserved c =
    let u = c.args.unit.now in
    let i = c.loop-graph.graph-index in
    let g = c.graph-item.result in
    functions-more (flags_by c.args.asked u) u.graphs i g
    (subst (λ gs. i < length gs) c.as_slice-graph-items.ensures c.loop-graph-test.true)
    (c.graph-item.is ∙ ap (λ (gs : List Graph). get_or gs i g) c.as_slice-graph-items.ensures)
    c.loop-graph.flags.items c.add_function.new.flags.items c.loop-graph.invariant
    (λ k. c.in_ok-add_function.ensures k ∙ ap (λ a. c.loop-graph.flags.items ++ map (flags_by a u) (places_of most_levels (Function k) g)) c.in_ok-functions.ensures.asked)
