-- What the types on the edges of nodes tell.
use Rattle.std.proofs.Common.{◌≡◌, ℕ, zero, suc, ◌+◌, List, [], ◌∷◌, ◌++◌, length, slice_get, Some, subst, arith}
use Rattle.if1_graph.specs.declared.op.Simple.{Simple}
use Rattle.if1_graph.specs.declared.op.Simple.TheVariants as simple
use Rattle.if1_graph.specs.declared.op.Compound.TheVariants as compound
use Rattle.graph_meaning.specs.NodeValues.{Shape}
use Rattle.lowering.specs.declared.feed.Feed.TheVariants.{Port}
use Rattle.lowering.specs.declared.feed.Carried.{Carried}
use Rattle.lowering.specs.declared.feed.Wire.{Wire}
use Rattle.lowering.specs.declared.graph.Action.{Action}
use Rattle.lowering.specs.declared.graph.Action.TheVariants.{Row, Whole}
use Rattle.lowering.specs.declared.graph.LoweredNode.{LoweredNode}
use Rattle.lowered_units.proofs.Heads.{In}
use Rattle.lowering.specs.Graphs.{closed_wire, closed_wires, closed_nodes}
use Rattle.lowering_meaning.proofs.Wires as wires

-- what a type is, as far as the shapes of rows tell
pub data Showing : Type 0 where
  AStream : Showing
  AUnion : Showing
  Another : Showing

-- The shape of a row, by its graph and label; that of RElements, by what its operand is, where lines of the text carry this; what fills
-- the ports of a graph, and what an edge shows.
pub record Telling : Type 0 where
  pub row : ℕ → ℕ → Simple → Shape
  pub elements : Carried → Shape
  pub lines : List Carried
  pub used : ℕ → List Wire
  pub shows : Carried → Showing

module _ (shape : Telling) where
  abbrev IsElements : ℕ → ℕ → List Wire → Type 0
  IsElements g l (w ∷ []) = (shape.row g l simple.RElements ≡ shape.elements w.ty) × In w.ty shape.lines
  IsElements g l _ = Unit {0}

  -- graphs inside of a node show of its inputs, which stand behind so many others, what the node shows
  abbrev pub AreInner : ℕ → List ℕ → List Wire → Type 0
  AreInner before gs ks =
      (i q j : ℕ) (y x : Wire) → slice_get gs i ≡ Some q → wires.In y (shape.used q) → y.feed ≡ Port 0 0 (suc (before + j)) → slice_get ks j ≡ Some x → shape.shows x.ty ≡ shape.shows y.ty

  -- a node at a label of a graph has the shape of its wires, and its graphs show what it shows
  abbrev pub IsTold : ℕ → ℕ → Action → List Wire → Type 0
  IsTold g l (Row simple.RElements) ws = IsElements g l ws
  IsTold g l (Whole compound.TagCase gs arms given outs) [] = Unit {0}
  IsTold g l (Whole compound.TagCase gs arms given outs) (w ∷ ws) = AreInner 1 gs ws
  IsTold g l (Whole compound.Select gs arms given outs) ws = AreInner 0 gs ws
  IsTold g l (Whole compound.ForAll gs arms given outs) ws = AreInner 0 gs ws
  IsTold g l (Whole compound.LoopA gs arms given outs) ws = AreInner 0 gs ws
  IsTold g l (Whole compound.LoopB gs arms given outs) ws = AreInner 0 gs ws
  IsTold g l _ ws = Unit {0}

  -- the nodes behind so many
  abbrev pub AreTold : ℕ → ℕ → List LoweredNode → Type 0
  AreTold g n [] = Unit {0}
  AreTold g n (v ∷ vs) = IsTold g (suc n) v.action v.ins × AreTold g (suc n) vs

  closed-at : (ks : List Wire) (first own : ℕ) (ws : List Wire) (j : ℕ) (x : Wire) → slice_get ws j ≡ Some x → slice_get (closed_wires ks first own ws) j ≡ Some (closed_wire ks first own x)
  closed-at ks first own [] j x e = absurd cc
  closed-at ks first own (w ∷ ws) zero x e = go e
    where
      go : Some w ≡ Some x → Some (closed_wire ks first own w) ≡ Some (closed_wire ks first own x)
      go e = cc
  closed-at ks first own (w ∷ ws) (suc j) x e = closed-at ks first own ws j x e

  inner-open : (ks : List Wire) (first own before : ℕ) (gs : List ℕ) (ws : List Wire) → AreInner before gs (closed_wires ks first own ws) → AreInner before gs ws
  inner-open ks first own before gs ws h i q j y x g n f s = h i q j y (closed_wire ks first own x) g n f (closed-at ks first own ws j x s)

  told-open : (g l : ℕ) (a : Action) (ks : List Wire) (first own : ℕ) (ws : List Wire) → IsTold g l a (closed_wires ks first own ws) → IsTold g l a ws
  told-open g l (Row simple.RElements) ks first own [] h = tt
  told-open g l (Row simple.RElements) ks first own (w ∷ []) h = h
  told-open g l (Row simple.RElements) ks first own (w ∷ v ∷ ws) h = tt
  told-open g l (Whole compound.TagCase gs arms given outs) ks first own [] h = tt
  told-open g l (Whole compound.TagCase gs arms given outs) ks first own (w ∷ ws) h = inner-open ks first own 1 gs ws h
  told-open g l (Whole compound.Select gs arms given outs) ks first own ws h = inner-open ks first own 0 gs ws h
  told-open g l (Whole compound.ForAll gs arms given outs) ks first own ws h = inner-open ks first own 0 gs ws h
  told-open g l (Whole compound.LoopA gs arms given outs) ks first own ws h = inner-open ks first own 0 gs ws h
  told-open g l (Whole compound.LoopB gs arms given outs) ks first own ws h = inner-open ks first own 0 gs ws h
  told-open g l a ks first own ws h = tt

  pub told-left : (g n : ℕ) (vs ws : List LoweredNode) → AreTold g n (vs ++ ws) → AreTold g n vs
  told-left g n [] ws h = tt
  told-left g n (v ∷ vs) ws h = (h.0, told-left g (suc n) vs ws h.1)

  pub told-right : (g n : ℕ) (vs ws : List LoweredNode) → AreTold g n (vs ++ ws) → AreTold g (n + length vs) ws
  told-right g n [] ws h = subst (λ k. AreTold g k ws) (omega arith) h
  told-right g n (v ∷ vs) ws h = subst (λ k. AreTold g k ws) (omega arith) (told-right g (suc n) vs ws h.1)

  -- nodes of a closed graph have the wires of the open one, of the same types
  pub opened : (g n : ℕ) (ks : List Wire) (first own : ℕ) (vs : List LoweredNode) → AreTold g n (closed_nodes ks first own vs) → AreTold g n vs
  opened g n ks first own [] h = tt
  opened g n ks first own (v ∷ vs) h = (told-open g (suc n) v.action ks first own v.ins h.0, opened g (suc n) ks first own vs h.1)
