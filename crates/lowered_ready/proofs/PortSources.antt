-- What the source of each edge of a graph gives, by the rules on its lowered graph.
use Rattle.std.proofs.Common.{◌≡◌, ℕ, zero, suc, List, [], ◌∷◌, slice_get, Option, Some, refl}
use Rattle.std.specs.Prelude.{All}
use Rattle.std.proofs.lemmas.List.Elements.{All-nil, All-cons, All-append}
use Rattle.if1_graph.specs.declared.graph.Edge.{Edge}
use Rattle.if1_graph.specs.declared.graph.Origin.{Origin}
use Rattle.if1_graph.specs.declared.graph.Origin.TheVariants as origin
use Rattle.if1_graph.specs.declared.graph.Unit1.{Unit1}
use Rattle.if1_graph.specs.declared.op.Compound.{Compound}
use Rattle.if1_graph.specs.declared.op.Part.{Part}
use Rattle.if1_graph.specs.Types.{Sort}
use Rattle.typed_tree.specs.declared.program.Program.{Program}
use Rattle.lowering.specs.declared.feed.Feed.{Feed}
use Rattle.lowering.specs.declared.feed.Feed.TheVariants.{Literal, Named, Absent, Port}
use Rattle.lowering.specs.declared.feed.Carried.{Carried}
use Rattle.lowering.specs.declared.feed.Carried.TheVariants.{Callee}
use Rattle.lowering.specs.declared.feed.Wire.{Wire}
use Rattle.lowering.specs.declared.graph.Action.{Action}
use Rattle.lowering.specs.declared.graph.Action.TheVariants.{Row, Call, Whole}
use Rattle.lowering.specs.declared.graph.LoweredNode.{LoweredNode}
use Rattle.lowering.specs.declared.graph.LoweredGraph.{LoweredGraph}
use Rattle.lowering.specs.Types.{label_of}
use Rattle.lowered_units.specs.Units.{origin_of, edge_if, edges_into, node_edges, edges_of}
use Rattle.lowered_ready.specs.Ports.{Outs, type_at}
use Rattle.lowered_ready.specs.Rules.{IsFrom, AreFrom, AreNodes}
use Rattle.lowered_ready.proofs.Reading.{HasSort, IsSorted, AreSorted, IsCalleeSorted, AreNodesSorted}

module _ (p : Program) (u : Unit1) (sort : Carried → Sort) (at : ℕ → Option LoweredGraph) (In : ℕ → Sort → Type 0) (outs : List Outs) where
  -- a port gives what is carried
  abbrev pub Gives : Origin → Carried → Type 0
  Gives (origin.Lit text) c = Unit {0}
  Gives (origin.Port zero q) c = In q (sort c)
  Gives (origin.Port (suc n) q) c = (o : Outs) × (slice_get outs n ≡ Some o) × (type_at o q ≡ Some c)

  pub record IsSourced (e : Edge) : Type 0 where
    pub carried : Carried
    pub ty : e.ty ≡ label_of p carried
    pub sort_is : HasSort p u sort carried
    pub gives : Gives e.from carried

  one-sourced : (node port : ℕ) (f : Feed) (c : Carried) → IsSorted p u sort f c → IsFrom sort at In outs f c → All IsSourced (edge_if node port (label_of p c) (origin_of f))
  one-sourced node port (Literal x) c s h = All-cons IsSourced _ [] (record { carried = c; ty = refl; sort_is = s; gives = tt }) (All-nil IsSourced)
  one-sourced node port (Named x) c s h = All-cons IsSourced _ [] (record { carried = c; ty = refl; sort_is = s; gives = tt }) (All-nil IsSourced)
  one-sourced node port Absent c s h = All-nil IsSourced
  one-sourced node port (Port zero zero q) c s h = All-cons IsSourced _ [] (record { carried = c; ty = refl; sort_is = s; gives = h }) (All-nil IsSourced)
  one-sourced node port (Port zero (suc n) q) c s h = All-cons IsSourced _ [] (record { carried = c; ty = refl; sort_is = s; gives = h }) (All-nil IsSourced)
  one-sourced node port (Port (suc up) n q) c s h = absurd h

  block-sourced : (node port : ℕ) (ws : List Wire) → AreSorted p u sort ws → AreFrom sort at In outs ws → All IsSourced (edges_into p node port ws)
  block-sourced node port [] s h = All-nil IsSourced
  block-sourced node port (w ∷ ws) s h =
      All-append IsSourced (edge_if node port (label_of p w.ty) (origin_of w.feed)) (edges_into p node (suc port) ws) (one-sourced node port w.feed w.ty s.0 h.0) (block-sourced node (suc port) ws s.1 h.1)

  node-sourced : (label : ℕ) (a : Action) (ws : List Wire) → IsCalleeSorted p u sort a → AreSorted p u sort ws → AreFrom sort at In outs ws → All IsSourced (node_edges p label a ws)
  node-sourced label (Row op) ws c s h = block-sourced label 1 ws s h
  node-sourced label (Call f) ws c s h = All-cons IsSourced _ (edges_into p label 2 ws) (record { carried = Callee f; ty = refl; sort_is = c; gives = tt }) (block-sourced label 2 ws s h)
  node-sourced label (Whole x gs arms given outs) ws c s h = block-sourced label 1 ws s h

  -- each edge of a graph
  pub all-sourced : (part : Option (Compound × Part)) (label : ℕ) (vs : List LoweredNode) (os : List Outs) (results : List Wire) → AreNodes sort at part In outs vs os → AreFrom sort at In outs results
      → AreNodesSorted p u sort vs → AreSorted p u sort results → All IsSourced (edges_of p label vs results)
  all-sourced part label [] [] results h r s k = block-sourced 0 1 results k r
  all-sourced part label [] (o ∷ os) results h r s k = absurd h
  all-sourced part label (v ∷ vs) [] results h r s k = absurd h
  all-sourced part label (v ∷ vs) (o ∷ os) results h r s k =
      All-append IsSourced (node_edges p label v.action v.ins) (edges_of p (suc label) vs results) (node-sourced label v.action v.ins s.0.0 s.0.1 h.0.1) (all-sourced part (suc label) vs os results h.1 r s.1 k)
