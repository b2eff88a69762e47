-- Lowered graphs as they run (IF1 manual M-170, nodes).
use Rattle.std.specs.Prelude.{ℕ, suc, true, false, pos, List, [], ◌∷◌, map, drop, get_or, find, ◌==◌, Option, Some, None}
use Rattle.flow_value.specs.Aggregates.{array_val}
use Rattle.flow_value.specs.declared.value.Val.{Val}
use Rattle.flow_value.specs.declared.value.Val.TheVariants as val
use Rattle.sisal_tree.specs.declared.expr.Constant.{Constant}
use Rattle.sisal_tree.specs.declared.expr.Constant.TheVariants as constant
use Rattle.if1_graph.specs.declared.graph.Unit1.{Unit1}
use Rattle.if1_graph.specs.declared.op.Simple.{Simple}
use Rattle.if1_graph.specs.declared.op.Compound.{Compound}
use Rattle.if1_graph.specs.declared.op.Compound.TheVariants as compound
use Rattle.if1_graph.specs.Units.{Place, places, number_of}
use Rattle.graph_meaning.specs.Carried.{Value, Name, Unfilled}
use Rattle.graph_meaning.specs.NodeValues.{Shape}
use Rattle.graph_meaning.specs.NodeValues as shape
use Rattle.graph_meaning.specs.Forms.{Form}
use Rattle.graph_meaning.specs.Forms as form
use Rattle.graph_meaning.specs.Demand.{Source, Fixed, Kind, Plain, Vertex, Net}
use Rattle.graph_meaning.specs.Demand as demand
use Rattle.graph_meaning.specs.Networks.{shape_of}
use Rattle.lowering.specs.declared.feed.Feed.{Feed}
use Rattle.lowering.specs.declared.feed.Feed.TheVariants.{Literal, Named, Absent, Port}
use Rattle.lowering.specs.declared.feed.Wire.{Wire}
use Rattle.lowering.specs.declared.graph.Action.{Action}
use Rattle.lowering.specs.declared.graph.Action.TheVariants.{Row, Call, Whole}
use Rattle.lowering.specs.declared.graph.LoweredNode.{LoweredNode}
use Rattle.lowering.specs.declared.graph.LoweredGraph.{LoweredGraph}

-- the value of a constant; a text is the array of its characters from 1
abbrev pub constant_value : Constant → Val
constant_value (constant.Integer n) = val.Int n
constant_value (constant.Letter c) = val.Char c
constant_value (constant.Quoted s) = array_val (pos 1) (map val.Char s)
constant_value constant.True = val.Bool true
constant_value constant.False = val.Bool false
constant_value constant.Nil = val.Null

-- what fills a port of a graph that is closed
abbrev pub source_of : Feed → Source
source_of (Literal c) = Fixed (Value (constant_value c))
source_of (Named text) = Fixed (Name text)
source_of Absent = Fixed Unfilled
source_of (Port up n p) = demand.Port n p

abbrev pub sources_of : List Wire → List Source
sources_of ws = map (λ w. source_of w.feed) ws

abbrev pub nth : List ℕ → ℕ → ℕ
nth gs k = get_or gs k 0

abbrev pub form_of : Compound → List ℕ → List ℕ → ℕ → ℕ → Form
form_of compound.Select gs arms given outs = form.Select (nth gs 0) (drop 1 gs) outs
form_of compound.TagCase gs arms given outs = form.TagCase (map (nth gs) arms) outs
form_of compound.LoopA gs arms given outs = form.LoopA (nth gs 0) (nth gs 1) (nth gs 2) (nth gs 3) outs
form_of compound.LoopB gs arms given outs = form.LoopB (nth gs 0) (nth gs 1) (nth gs 2) (nth gs 3) outs
form_of compound.ForAll gs arms given outs = form.ForAll (nth gs 0) (nth gs 1) (nth gs 2) given outs

-- by the shape of each row, which the types on the edges tell, and the number of the graph of each function
module _ (shapes : ℕ → Simple → Shape) (number : ℕ → ℕ) where
  abbrev pub kind_of : ℕ → Action → Kind
  kind_of label (Row op) = Plain op (shapes label op)
  kind_of label (Call f) = demand.Whole (form.Call (number f))
  kind_of label (Whole c gs arms given outs) = demand.Whole (form_of c gs arms given outs)

  abbrev pub vertex : ℕ → LoweredNode → Vertex
  vertex label v = record { label = label; kind = kind_of label v.action; ins = sources_of v.ins; before = [] }

  -- nodes from a label on
  abbrev pub vertices : ℕ → List LoweredNode → List Vertex
  vertices label [] = []
  vertices label (v ∷ vs) = vertex label v ∷ vertices (suc label) vs

  abbrev pub net_of : LoweredGraph → Net
  net_of d = record { nodes = vertices 1 d.nodes; results = sources_of d.results }

-- the shape of a row at a label of the graph of a number in a unit
abbrev pub shape_in : Unit1 → Option Place → ℕ → Simple → Shape
shape_in u None label op = shape.Plain
shape_in u (Some p) label op = shape_of u p.graph label op

abbrev pub shapes : Unit1 → ℕ → ℕ → Simple → Shape
shapes u q = shape_in u (find (λ p. number_of p == q) (places u))
