-- The labels of what a graph carries stand for its sorts, wire by wire.
use Rattle.std.proofs.Common.{◌≡◌, ℕ, zero, suc, List, [], ◌∷◌, ◌++◌, Some, sym, ap, ◌∙◌}
use Rattle.std.specs.Prelude.{All}
use Rattle.std.proofs.lemmas.List.Elements.{All-head, All-tail}
use Rattle.if1_graph.specs.declared.graph.Unit1.{Unit1}
use Rattle.typed_tree.specs.declared.program.Program.{Program}
use Rattle.lowering.specs.declared.feed.Feed.{Feed}
use Rattle.lowering.specs.declared.feed.Feed.TheVariants.{Literal, Named, Absent, Port}
use Rattle.lowering.specs.declared.feed.Carried.TheVariants.{Callee}
use Rattle.lowering.specs.declared.feed.Wire.{Wire}
use Rattle.lowering.specs.Feeds.{one_carried, carried}
use Rattle.lowering.specs.declared.graph.Action.{Action}
use Rattle.lowering.specs.declared.graph.Action.TheVariants.{Row, Call, Whole}
use Rattle.lowering.specs.declared.graph.LoweredNode.{LoweredNode}
use Rattle.lowering.specs.declared.graph.LoweredGraph.{LoweredGraph}
use Rattle.lowering.specs.Graphs.{callee}
use Rattle.lowering.specs.Programs.{graphs, graph_at}
use Rattle.lowered_ready.specs.SortLaws.{HasSort, HasHeaderSort, IsNodeSorted, IsGraphSorted, IsReadBack}
use Rattle.lowered_ready.specs.Sorts.{sort_of, callee_sort}
use Rattle.lowered_ready.proofs.Reading.{IsSorted, AreSorted, IsCalleeSorted, AreNodesSorted}
use Rattle.lowered_ready.proofs.Reading as reads
use Rattle.lowered_ready.proofs.Knowing.{AreHeadersSorted}
use Rattle.lowered_ready.proofs.Lists.{all-at}

module _ (p : Program) (u : Unit1) (read : IsReadBack p u) where
  wires-sorted : (ws : List Wire) → All (HasSort p u) (carried ws) → AreSorted p u (sort_of p) ws
  wires-sorted [] h = tt
  wires-sorted (w ∷ ws) h = by w.feed h (λ k. wires-sorted ws k)
    where
      by : (f : Feed) → All (HasSort p u) (one_carried f w.ty ++ carried ws) → (All (HasSort p u) (carried ws) → AreSorted p u (sort_of p) ws) → IsSorted p u (sort_of p) f w.ty × AreSorted p u (sort_of p) ws
      by Absent h r = (tt, r h)
      by (Literal c) h r = (All-head (HasSort p u) w.ty (carried ws) h, r (All-tail (HasSort p u) w.ty (carried ws) h))
      by (Named s) h r = (All-head (HasSort p u) w.ty (carried ws) h, r (All-tail (HasSort p u) w.ty (carried ws) h))
      by (Port up n q) h r = (All-head (HasSort p u) w.ty (carried ws) h, r (All-tail (HasSort p u) w.ty (carried ws) h))

  node-sorted : (a : Action) (ws : List Wire) → All (HasSort p u) (callee a ++ carried ws) → IsCalleeSorted p u (sort_of p) a × AreSorted p u (sort_of p) ws
  node-sorted (Row op) ws h = (tt, wires-sorted ws h)
  node-sorted (Call f) ws h = (All-head (HasSort p u) (Callee f) (carried ws) h, wires-sorted ws (All-tail (HasSort p u) (Callee f) (carried ws) h))
  node-sorted (Whole c gs arms given outs) ws h = (tt, wires-sorted ws h)

  nodes-sorted : (vs : List LoweredNode) → All (IsNodeSorted p u) vs → AreNodesSorted p u (sort_of p) vs
  nodes-sorted [] h = tt
  nodes-sorted (v ∷ vs) h = (node-sorted v.action v.ins (All-head (IsNodeSorted p u) v vs h), nodes-sorted vs (All-tail (IsNodeSorted p u) v vs h))

  graph-sorted : (d : LoweredGraph) → IsGraphSorted p u d → reads.IsGraphSorted p u (sort_of p) d
  graph-sorted d h = (nodes-sorted d.nodes h.nodes, wires-sorted d.results h.results)

  pub graphs-sorted : (q : ℕ) (d : LoweredGraph) → graph_at p q ≡ Some d → reads.IsGraphSorted p u (sort_of p) d
  graphs-sorted zero d e = absurd cc
  graphs-sorted (suc q) d e = graph-sorted d (all-at (IsGraphSorted p u) (graphs p) read.graphs q d e)

  pub headers-sorted : AreHeadersSorted p u (sort_of p)
  headers-sorted k f e = all-at (HasHeaderSort p u) p.functions read.headers k f e ∙ ap (λ o. Some (callee_sort p o)) (sym e)
