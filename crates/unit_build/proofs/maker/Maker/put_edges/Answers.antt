use Rattle.std.proofs.Common.{◌+◌, ap, subst, arith}
use Rattle.std.specs.Prelude.{All}
use Rattle.std.specs.Vec.Iter.{into_iter_items}
use Rattle.std.proofs.lemmas.List.Elements.{All-head, All-tail}
use Rattle.lowering.specs.Types.{label_of}
use Rattle.lowered_units.specs.Units.{origin_of, edge_if, edges_into}
use Rattle.unit_build.specs.Readiness.{IsReadyWire}
use Rattle.unit_build.proofs.Blocks.{block-more, one-less}
use Rattle.unit_build.proofs.maker.Maker.put_edges.Goals as goal

pub put_edge-requires : goal.put_edge-requires
put_edge-requires c =
    let p = c.args.self.now.program.now in
    All-head (IsReadyWire p) c.in-Some.wire (into_iter_items c.next.new.self) (subst (All (IsReadyWire p)) c.in-Some.ensures.items c.loop-wire.invariant.ready)

pub loop-wire-preserved : goal.loop-wire-preserved
loop-wire-preserved c =
    let p = c.args.self.now.program.now in
    let w = c.in-Some.wire in
    let left = into_iter_items c.loop-wire.left in
    let rest = into_iter_items c.next.new.self in
    let port = c.args.first + c.loop-wire.before in
    let less = one-less left rest w c.in-Some.ensures.items in
    record {
      edges = block-more c.loop-wire.to c.put_edge.new.to (edge_if c.args.node port (label_of p w.ty) (origin_of w.feed)) (edges_into p c.args.node port left) _ _ _
          c.loop-wire.invariant.edges (ap (edges_into p c.args.node port) c.in-Some.ensures.items) c.in_ok-put_edge.ensures (ap (λ k. edges_into p c.args.node k rest) (omega arith));
      few = omega (arith, c.loop-wire.invariant.few, less);
      ready = All-tail (IsReadyWire p) w rest (subst (All (IsReadyWire p)) c.in-Some.ensures.items c.loop-wire.invariant.ready);
    }
