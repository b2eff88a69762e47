-- Which inputs of the graphs of a unit may be literals.
use Rattle.std.specs.Prelude.{ℕ, ◌&&◌, not, leb, Bool, true, List, Option, Some, None}
use Rattle.std.specs.List.{list_any}
use Rattle.if1_graph.specs.declared.graph.Graph.TheViews.{out-Graph}
use Rattle.if1_graph.specs.declared.graph.Unit1.{Unit1}
use Rattle.if1_graph.specs.Ports.{leaves}
use Rattle.if1_graph.specs.Ready.{IsReady}
use Rattle.if1_marks.specs.Aggregates.{is_aggregate}
use Rattle.graph_meaning.specs.Demand.{EachNode, Vertex}
use Rattle.graph_meaning.specs.Networks.{network}
use Rattle.graph_meaning.specs.StorageUnits.{in_graph}
use Rattle.ordered_meaning.specs.Orders.{AreInOrder}
use Rattle.ordered_meaning.specs.Taking.{first_port}
use Rattle.unit_plan.specs.Plans.{Tables, plain_of, plan_of}
use Rattle.unit_plan.specs.Shares.{shares_of}
use Rattle.unit_runs.specs.Literals.{AreSourcesBare, IsGraphBare, IsKindPassed, IsKindPicked}

module _ (u : Unit1) where
  -- an edge leaves this input that carries an aggregate
  abbrev pub reads_aggregate : (graph input : ℕ) → Bool
  reads_aggregate g i = in_graph u g (λ h. list_any (λ e. leaves 0 i e.from && is_aggregate u.types e.ty) (out-Graph h).edges)

  -- it is no collection of a returns
  abbrev pub is_plain_by : Option ℕ → (input : ℕ) → Bool
  is_plain_by None i = true
  is_plain_by (Some plain) i = leb i plain

  abbrev pub may_be_literal : (graph input : ℕ) → Bool
  may_be_literal g i = not (reads_aggregate g i) && is_plain_by (plain_of u g) i

-- No port of a node copies a literal that has leaves, or an input that may be one.
abbrev pub IsNodeBare : (u : Unit1) (order : (graph : ℕ) → List Vertex) (t : Tables) (graph : ℕ) → Vertex → Type 0
IsNodeBare u order t g v =
    AreSourcesBare (plan_of u order t) (shares_of u order) (may_be_literal u) ((shares_of u order).copies g v.label) g (first_port v.kind) v.ins
    × IsKindPicked (plan_of u order t) (shares_of u order) (may_be_literal u) g v v.kind

-- So it is at each node of the graphs of a ready unit, and at their results.
abbrev pub AreUnitPortsBare : Type 0
AreUnitPortsBare = (u : Unit1) (order : (graph : ℕ) → List Vertex) (t : Tables) → IsReady u → (g : ℕ)
    → EachNode (IsNodeBare u order t g) (network u g).nodes × AreSourcesBare (plan_of u order t) (shares_of u order) (may_be_literal u) ((shares_of u order).copies g 0) g 1 (network u g).results

-- And what is passed to the parts of its nodes by a literal, or by an input that may be one, is an input that may be one.
abbrev pub AreUnitPartsPassed : Type 0
AreUnitPartsPassed = (u : Unit1) (order : (graph : ℕ) → List Vertex) (t : Tables) → IsReady u → (g : ℕ) → EachNode (λ v. IsKindPassed (plan_of u order t) (shares_of u order) (may_be_literal u) g v v.kind) (network u g).nodes

-- So no port of the plan copies a literal that has leaves, in any order of its nodes.
abbrev pub AreUnitGraphsBare : Type 0
AreUnitGraphsBare = (u : Unit1) (order : (graph : ℕ) → List Vertex) (t : Tables) → IsReady u → AreInOrder (network u) order → (g : ℕ) → IsGraphBare (plan_of u order t) (shares_of u order) (may_be_literal u) g
