-- The rules of ports and types on the lowered graphs of a program, before there are labels and text (IF1 manual M-170).
use Rattle.std.specs.Prelude.{◌≡◌, ℕ, zero, suc, List, [], ◌∷◌, map, length, Option, Some, None, slice_get, All}
use Rattle.flow_value.specs.declared.ty.Ty.{Ty}
use Rattle.if1_graph.specs.declared.op.Compound.{Compound}
use Rattle.if1_graph.specs.declared.op.Part.{Part}
use Rattle.if1_graph.specs.declared.op.Simple.TheVariants as simple
use Rattle.if1_graph.specs.Types.{Sort, Function}
use Rattle.if1_graph.specs.Parts.{part_at}
use Rattle.if1_graph.specs.Ports.{arguments_of, results_of}
use Rattle.if1_graph.specs.Typing.{IsListed}
use Rattle.typed_tree.specs.declared.program.Function.{Function as TypedFunction}
use Rattle.typed_tree.specs.declared.program.Program.{Program}
use Rattle.lowering.specs.declared.feed.Feed.{Feed}
use Rattle.lowering.specs.declared.feed.Feed.TheVariants.{Port}
use Rattle.lowering.specs.declared.feed.Carried.{Carried}
use Rattle.lowering.specs.declared.feed.Carried.TheVariants.{Callee}
use Rattle.lowering.specs.declared.feed.Wire.{Wire}
use Rattle.lowering.specs.declared.graph.Action.{Action}
use Rattle.lowering.specs.declared.graph.Action.TheVariants.{Row, Call, Whole}
use Rattle.lowering.specs.declared.graph.LoweredNode.{LoweredNode}
use Rattle.lowering.specs.declared.graph.LoweredGraph.{LoweredGraph}
use Rattle.lowering.specs.Programs.{graph_at, number_of}
use Rattle.lowered_ready.specs.Ports.{Outs, type_at, IsSimple}
use Rattle.lowered_ready.specs.Parts.{IsShown, IsCompound, IsPartInput, AreResults, part_results}

-- by what each wire carries, and the graph of each number
module _ (sort : Carried → Sort) (at : ℕ → Option LoweredGraph) where
  -- ---- where wires come from

  -- a port gives what the wire carries: an input of the graph, or an output of one of its nodes
  abbrev pub IsFrom : (ℕ → Sort → Type 0) → List Outs → Feed → Carried → Type 0
  IsFrom In outs (Port zero zero q) c = In q (sort c)
  IsFrom In outs (Port zero (suc n) q) c = (o : Outs) × (slice_get outs n ≡ Some o) × (type_at o q ≡ Some c)
  IsFrom In outs (Port (suc up) n q) c = ⊥
  IsFrom In outs f c = Unit {0}

  abbrev pub AreFrom : (ℕ → Sort → Type 0) → List Outs → List Wire → Type 0
  AreFrom In outs [] = Unit {0}
  AreFrom In outs (w ∷ ws) = IsFrom In outs w.feed w.ty × AreFrom In outs ws

  -- ---- nodes

  -- a node that gives these types at its outputs
  abbrev pub IsNode : Option (Compound × Part) → Action → List Wire → Outs → Type 0
  IsNode p (Row op) ws o = IsSimple sort p (Row op) op ws o
  IsNode p (Call f) ws o = IsSimple sort p (Call f) simple.Call ws o
  IsNode p (Whole c numbers arms given outs) ws o = (gs : List LoweredGraph) × (map at numbers ≡ map Some gs) × IsCompound sort c ws arms gs o

  abbrev pub AreNodes : Option (Compound × Part) → (ℕ → Sort → Type 0) → List Outs → List LoweredNode → List Outs → Type 0
  AreNodes p In outs [] [] = Unit {0}
  AreNodes p In outs (v ∷ vs) (o ∷ os) = (IsNode p v.action v.ins o × AreFrom In outs v.ins) × AreNodes p In outs vs os
  AreNodes p In outs _ _ = ⊥

  -- ---- graphs

  -- a graph that is this part of a node, or a function, with these inputs
  pub record IsGraph (p : Option (Compound × Part)) (In : ℕ → Sort → Type 0) (d : LoweredGraph) : Type 0 where
    -- what each node gives
    pub outs : List Outs
    pub nodes : AreNodes p In outs d.nodes outs
    pub results : AreFrom In outs d.results

  -- the graph at a place of a compound node
  pub record IsPartGraph (c : Compound) (part : Part) (k : ℕ) (ws : List Wire) (arms : List ℕ) (gs : List LoweredGraph) (d : LoweredGraph) : Type 0 where
    pub graph : IsGraph (Some (c, part)) (IsPartInput sort c part ws arms gs k) d
    pub results : AreResults sort c part gs 1 d.results
    pub count : length d.results ≡ part_results c part gs (length d.results)

  abbrev pub ArePartsRight : Action → List Wire → Type 0
  ArePartsRight (Whole c numbers arms given outs) ws =
      (gs : List LoweredGraph) × (map at numbers ≡ map Some gs)
      × ((k : ℕ) (part : Part) (d : LoweredGraph) → part_at c k ≡ Some part → slice_get gs k ≡ Some d → IsPartGraph c part k ws arms gs d)
  ArePartsRight a ws = Unit {0}

  abbrev pub HasPartsRight : LoweredNode → Type 0
  HasPartsRight v = ArePartsRight v.action v.ins

  -- ---- functions

  -- the results of a function, from a port on
  abbrev pub AreListed : Option Sort → ℕ → List Wire → Type 0
  AreListed f port [] = Unit {0}
  AreListed f port (w ∷ ws) = (IsShown w.feed × IsListed (results_of f) port (sort w.ty)) × AreListed f (suc port) ws

  -- the graph of the function of a place
  pub record IsFunctionGraph (place : ℕ) (d : LoweredGraph) : Type 0 where
    pub graph : IsGraph None (IsListed (arguments_of (Some (sort (Callee place))))) d
    pub results : AreListed (Some (sort (Callee place))) 1 d.results
    -- the header is a type of arguments and results, and these are as many
    pub arguments : List Ty
    pub given : List Ty
    pub header : sort (Callee place) ≡ Function arguments given
    pub count : length d.results ≡ length given

-- the graphs of a program
pub record AreRight (sort : Carried → Sort) (p : Program) : Type 0 where
  pub functions : (place : ℕ) (f : TypedFunction) (d : LoweredGraph) → slice_get p.functions place ≡ Some f → graph_at p (number_of p place) ≡ Some d → IsFunctionGraph sort (graph_at p) place d
  pub parts : (q : ℕ) (d : LoweredGraph) → graph_at p q ≡ Some d → All (HasPartsRight sort (graph_at p)) d.nodes
