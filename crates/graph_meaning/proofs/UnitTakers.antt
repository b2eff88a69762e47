-- In a ready unit with sound marks every other user of a taken port has finished when its taker may be claimed.
use Rattle.std.proofs.Common.{All, sym, subst}
use Rattle.std.proofs.lemmas.List.Elements.{All-contains}
use Rattle.if1_graph.specs.Formed.{IsGraph}
use Rattle.if1_graph.specs.Ports.{ArePortsRight}
use Rattle.if1_graph.specs.Units.{places, number_of, ends}
use Rattle.if1_marks.proofs.Taken.{taker-last, sound-in-order}
use Rattle.graph_meaning.specs.Demand.{Net, WaitsFor}
use Rattle.graph_meaning.specs.Networks.{network}
use Rattle.graph_meaning.specs.Laws.{AreTakersLast}
use Rattle.graph_meaning.proofs.Numbers.{found-by-number}
use Rattle.graph_meaning.proofs.Takers.{users-finished}
use Rattle.graph_meaning.proofs.Units.{units-orderly}
use Rattle.graph_meaning.proofs.UnitWaits.{waits}

pub takers-last : AreTakersLast
takers-last cut u p ins limit h is_cut ready sound there legal e f a b takes same other ne claimable n j last =
    let before = (taker-last u p e f sound there a b takes same other ne).0 in
    let waits-for = waits u p (All-contains (IsGraph u) (places u) p ready.formed.graphs there)
    (All-contains (λ p. All (ArePortsRight u p) (ends p.graph)) (places u) p ready.ports there) before in
    users-finished cut (network u) (number_of p) ins limit h is_cut (units-orderly u ready (sound-in-order u sound)) legal e.node f.node claimable
    (subst (λ (net : Net). WaitsFor net.nodes e.node f.node) (sym (found-by-number u ready.formed p there)) waits-for) n j last
