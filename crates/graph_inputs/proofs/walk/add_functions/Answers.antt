use Rattle.std.proofs.Common.{◌≤◌, Contains, sym}
use Rattle.std.proofs.lemmas.List.Elements.{All-contains}
use Rattle.if1_graph.specs.Units.{Function, levels, most_levels, places_of}
use Rattle.graph_inputs.proofs.Listed.{each-more, each-all}
use Rattle.graph_inputs.proofs.walk.add_functions.Goals as goal

pub add_graph-requires : goal.add_graph-requires
add_graph-requires c = let g = c.graph-item.result in c.requires g (c.loop-graph.graph-index, c.loop-graph-test.true, sym c.graph-item.is)

pub loop-graph-preserved : goal.loop-graph-preserved
loop-graph-preserved c = λ u known flat.
    let g = c.graph-item.result in
    let k = c.loop-graph.graph-index in
    let gs = c.args.graphs.now in
    let there : Contains gs g = (k, c.loop-graph-test.true, sym c.graph-item.is) in
    each-more u (λ k g. places_of most_levels (Function k) g) gs k g c.loop-graph-test.true c.graph-item.is c.args.all.now c.loop-graph.all c.add_graph.new.all (c.loop-graph.invariant u known flat)
    (c.in_ok-add_graph.ensures u (Function k) most_levels (c.function_inputs-own.ensures u k known) (All-contains (λ g. levels g ≤ most_levels) gs g flat there))

pub returns : goal.returns
returns c = λ u known flat.
    each-all u (λ k g. places_of most_levels (Function k) g) c.args.graphs.now c.loop-graph.graph-index c.loop-graph-test.false c.args.all.now c.loop-graph.all (c.loop-graph.invariant u known flat)
