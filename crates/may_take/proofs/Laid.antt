-- The graphs of a unit in normal order, one inside another.
use Rattle.std.proofs.Common.{All, AllPairs, Contains, List, subst, get_or}
use Rattle.std.proofs.lemmas.List.Elements.{All-contains, Contains-get_or}
use Rattle.if1_graph.specs.declared.graph.Graph.{Graph}
use Rattle.if1_graph.specs.declared.graph.Graph.TheViews.{out-Graph}
use Rattle.if1_graph.specs.declared.graph.Node.{Node, out-Node}
use Rattle.if1_graph.specs.declared.graph.Unit1.{Unit1}
use Rattle.if1_graph.specs.Formed.{IsFormed}
use Rattle.if1_graph.specs.Normal.{IsNormal, IsNormalGraph, Precedes}
use Rattle.if1_graph.specs.Units.{Place, Function, places}
use Rattle.if1_order.specs.Within.{whole, deeper}
use Rattle.if1_order.proofs.Members.{got_contained}
use Rattle.if1_order.proofs.Within.{within_from_part, unit_from_within}
use Rattle.may_take.specs.Looked.{IsLaid, IsLaidInside, AreLaid}

place-laid : (u : Unit1) → IsNormal u → (p : Place) → Contains (places u) p → IsLaid p.graph
place-laid u normal p c = let n = All-contains (IsNormalGraph u) (places u) p normal c in record { labels = n.nodes; edges = n.edges }

pub all-laid : (u : Unit1) → IsFormed u → IsNormal u → AreLaid u.graphs
all-laid u formed normal g c h w =
    let at = got_contained u.graphs g c in
    let r = within_from_part w (Function at.0) in
    subst IsLaid r.2 (place-laid u normal r.0 (unit_from_within u at.0 g r.0 formed.nesting at.1 r.1))

pub laid-parts : (g : Graph) → IsLaidInside g → (n : Node) → Contains (out-Graph g).nodes n → AreLaid (out-Node n).subs
laid-parts g laid n c s d h w = laid h (deeper n c d w)

pub edges-laid : (gs : List Graph) → AreLaid gs → All (λ g. AllPairs Precedes (out-Graph g).edges) gs
edges-laid gs laid = λ k d h. (laid (get_or gs k d) (Contains-get_or gs k d h) (get_or gs k d) whole).edges
