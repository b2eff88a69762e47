-- The law of the least port's error speaks of every simple node of a ready unit.
use Rattle.std.proofs.Common.{subst}
use Rattle.if1_graph.specs.Units.{label_of}
use Rattle.graph_meaning.specs.Demand.{Kind}
use Rattle.graph_meaning.specs.Networks.{shape_of, ins_of, vertex_of}
use Rattle.graph_meaning.proofs.LeastPort.{least-port}
use Rattle.unit_laws.specs.Laws.{AreOperandsFit}
use Rattle.unit_laws.proofs.TypedFits.{node-fits}
use Rattle.unit_laws.proofs.TypedNodePlans.{operands, simple-kind-is}
use Rattle.unit_laws.proofs.TypedPlans.{AllGive, net-found}
use Rattle.unit_laws.proofs.TypedRuns.{all-right}
use Rattle.if1_graph.specs.Units.{number_of}

pub operands-fit : AreOperandsFit
operands-fit u ready p place n ins h m inside o is none ne ks a =
    let give = (all-right u ready n (number_of p) ins (vertex_of u p.graph m).ins ks a p place (net-found u ready p place) h).holds in
    let plain = subst (λ (k : Kind). AllGive u ready p place (ins_of u p.graph (label_of m) k) ks) (simple-kind-is u ready p place m inside ks o ne is none) give in
    let fit = node-fits u ready p place m inside o is none ne ks (operands u ready p place m inside ks o is none plain) in
    record { fit = fit; least = λ c e. least-port o (shape_of u p.graph (label_of m) o) ks c fit e }
