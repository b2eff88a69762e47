-- The graphs of a ready unit in normal order.
use Rattle.std.proofs.Common.{◌≡◌, ◌<◌, ℕ, map, get_or, slice_get, length, All, AllPairs, Contains, List, Some, sym, ap, ◌∙◌, subst}
use Rattle.std.proofs.lemmas.List.Elements.{All-contains, Contains-get_or}
use Rattle.std.proofs.lemmas.Option.{slice_get-get_or}
use Rattle.std.specs.List.Sorted.{IsStrictlyIncreasing}
use Rattle.if1_graph.specs.declared.graph.Graph.{Graph}
use Rattle.if1_graph.specs.declared.graph.Graph.TheViews.{out-Graph}
use Rattle.if1_graph.specs.declared.graph.Node.{Node, out-Node}
use Rattle.if1_graph.specs.declared.graph.Unit1.{Unit1}
use Rattle.if1_graph.specs.Normal.{IsNormal, IsNormalGraph, Precedes}
use Rattle.if1_graph.specs.Ready.{IsReady}
use Rattle.if1_graph.specs.Units.{Function, Inside, Place, label_of, places}
use Rattle.unit_laws.proofs.TypedPlans.{function-place}
use Rattle.unit_plan.proofs.Found.{part-in}
use Rattle.node_works.specs.Tables.{IsGraphOf}

abbrev pub IsOrdered : Graph → Type 0
IsOrdered g = AllPairs Precedes (out-Graph g).edges

place-ordered : (u : Unit1) → IsNormal u → (p : Place) → Contains (places u) p → IsOrdered p.graph
place-ordered u normal p h = (All-contains (IsNormalGraph u) (places u) p normal h).edges

pub functions-ordered : (u : Unit1) → IsReady u → IsNormal u → All IsOrdered u.graphs
functions-ordered u ready normal k d lt =
    place-ordered u normal (record { graph = get_or u.graphs k d; home = Function k }) (function-place u ready k (get_or u.graphs k d) (slice_get-get_or u.graphs k d lt))

module _ (u : Unit1) (ready : IsReady u) (normal : IsNormal u) (g : Graph) (here : IsGraphOf u g) where
  pub graph-ordered : IsOrdered g
  graph-ordered = subst IsOrdered here.2 (place-ordered u normal here.0 here.1)

  pub labels-rise : IsStrictlyIncreasing (map label_of (out-Graph g).nodes)
  labels-rise = subst (λ g. IsStrictlyIncreasing (map label_of (out-Graph g).nodes)) here.2 (All-contains (IsNormalGraph u) (places u) here.0 normal here.1).nodes

  of-place : (n : Node) → Contains (out-Graph here.0.graph).nodes n → All IsOrdered (out-Node n).subs
  of-place n there k d lt =
      let s = get_or (out-Node n).subs k d in
      place-ordered u normal (record { graph = s; home = Inside here.0.graph n k }) (part-in u ready here.0 here.1 n there k s (slice_get-get_or (out-Node n).subs k d lt))

  pub parts-ordered : (n : Node) → Contains (out-Graph g).nodes n → All IsOrdered (out-Node n).subs
  parts-ordered n there = of-place n (subst (λ g. Contains (out-Graph g).nodes n) (sym here.2) there)

  pub all-ordered : All (λ n. All IsOrdered (out-Node n).subs) (out-Graph g).nodes
  all-ordered k d lt = parts-ordered (get_or (out-Graph g).nodes k d) (Contains-get_or (out-Graph g).nodes k d lt)

-- the node at a place
pub node-there : (ns : List Node) (k : ℕ) (n : Node) → k < length ns → n ≡ get_or ns k n → Contains ns n
node-there ns k n lt is = subst (λ m. Contains ns m) (sym is) (Contains-get_or ns k n lt)

pub node-same : (ns : List Node) (k : ℕ) (n m : Node) → k < length ns → n ≡ get_or ns k n → slice_get ns k ≡ Some m → n ≡ m
node-same ns k n m lt is e =
    let a : Some n ≡ Some m = ap Some is ∙ sym (slice_get-get_or ns k n lt) ∙ e in
    cc
