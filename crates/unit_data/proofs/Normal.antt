-- A graph of a unit in normal order.
use Rattle.std.proofs.Common.{map, AllPairs, subst}
use Rattle.std.proofs.lemmas.List.Elements.{All-contains}
use Rattle.std.specs.List.Sorted.{IsStrictlyIncreasing}
use Rattle.if1_graph.specs.declared.graph.Graph.{Graph}
use Rattle.if1_graph.specs.declared.graph.Graph.TheViews.{out-Graph}
use Rattle.if1_graph.specs.declared.graph.Unit1.{Unit1}
use Rattle.if1_graph.specs.Normal.{IsNormal, IsNormalGraph, Precedes}
use Rattle.if1_graph.specs.Units.{label_of, places}
use Rattle.plan_nodes.specs.Tables.{IsGraphOf}

module _ (u : Unit1) (normal : IsNormal u) (g : Graph) (here : IsGraphOf u g) where
  pub labels-rise : IsStrictlyIncreasing (map label_of (out-Graph g).nodes)
  labels-rise = subst (λ (g : Graph). IsStrictlyIncreasing (map label_of (out-Graph g).nodes)) here.2 (All-contains (IsNormalGraph u) (places u) here.0 normal here.1).nodes

  pub edges-follow : AllPairs Precedes (out-Graph g).edges
  edges-follow = subst (λ (g : Graph). AllPairs Precedes (out-Graph g).edges) here.2 (All-contains (IsNormalGraph u) (places u) here.0 normal here.1).edges
