use Rattle.std.proofs.Common.{ℕ, Option, MatchOption, sym, subst}
use Rattle.std.proofs.lemmas.List.{take_all}
use Rattle.std.proofs.lemmas.List.Elements.{All-more}
use Rattle.if1_graph.specs.declared.graph.Graph.{Graph}
use Rattle.if1_order.specs.Within.{whole}
use Rattle.if1_ports.specs.declared.around.Bounds.{Bounds}
use Rattle.if1_ports.specs.Outlines.{types_in}
use Rattle.if1_ports.specs.Names.{callees_in}
use Rattle.if1_ports.specs.Inside.{function_bounds, AllRight, SomeWrong, FunctionsRight}
use Rattle.if1_ports.proofs.units.wrong_functions.Goals as goal

pub function_bounds-bounds-requires : goal.function_bounds-bounds-requires
function_bounds-bounds-requires c =
    let g = c.graph-item.result in
    (c.requires g (c.loop-graph.graph-index, c.loop-graph-test.true, sym c.graph-item.is) g whole).edges

pub loop-graph-preserved : goal.loop-graph-preserved
loop-graph-preserved c =
    let o = types_in c.args.types.now in
    let d = callees_in c.args.names.now in
    let g = c.graph-item.result in
    let b = c.function_bounds-bounds.result in
    let right : AllRight o d b g = subst (λ (m : Option (ℕ × ℕ)). MatchOption m (AllRight o d b g) (SomeWrong o d b g)) c.in_default.is c.in_ok-at.ensures in
    All-more (λ g. AllRight o d (function_bounds o g) g) c.args.graphs.now c.loop-graph.graph-index g c.loop-graph-test.true c.loop-graph.invariant
    (subst (λ (g : Graph). AllRight o d (function_bounds o g) g) c.graph-item.is (subst (λ (b : Bounds). AllRight o d b g) c.function_bounds-bounds.ensures right))

pub returns : goal.returns
returns c =
    subst (FunctionsRight (types_in c.args.types.now) (callees_in c.args.names.now)) (take_all c.loop-graph.graph-index c.args.graphs.now c.loop-graph-test.false) c.loop-graph.invariant
