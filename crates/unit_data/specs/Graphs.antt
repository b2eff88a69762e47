-- The graphs of the data of a unit, one after another.
use Rattle.std.specs.Prelude.{◌≡◌, ◌≤◌, ◌+◌, ◌-◌, ◌^◌, ◌++◌, ℕ, Bool, List, [], ◌∷◌, length, map, slice_get, Option, Some}
use Rattle.if1_graph.specs.declared.graph.Unit1.{Unit1}
use Rattle.graph_meaning.specs.Carried.{Unfilled}
use Rattle.graph_meaning.specs.Entered.{IsIn}
use Rattle.plan_data.specs.Settings.{result_modes}
use Rattle.output_marks.specs.FiringOrderOrders.{order_by}
use Rattle.plan_nodes.specs.Plans.{Tables, plan_of}
use Rattle.plan_nodes.specs.Shares.{shares_of}
use Rattle.step_code.specs.Cell.{Cell}
use Rattle.plan_data.specs.declared.plan.PlanData.{PlanData}
use Rattle.plan_data.specs.declared.plan.PlanGraph.{PlanGraph}
use Rattle.plan_data.specs.declared.plan.PlanNode.{PlanNode}
use Rattle.plan_data.specs.Parts.{AreBelow, arms_steps, collects_of, extent_in, graph_nodes, literal_in, mode_of, nodes_cells, nodes_of, nodes_steps, refolded_of, results_of, size_in, table_of}
use Rattle.plan_data.specs.Stands.{AreFed}
use Rattle.plan_builder.specs.Feeds.{HasLiterals}
use Rattle.plan_nodes.specs.Made.{AreMade}
use Rattle.plan_tables.specs.Above.{entry_at}

-- these marks, and behind them others, are those of the data
abbrev pub HasMarks : List Bool → PlanData → Type 0
HasMarks ms D = (more : List Bool) × (D.marks ≡ ms ++ more)

-- the data has these literals and marks, and more
pub record GoesOn (cs : List Cell) (ms : List Bool) (D : PlanData) : Type 0 where
  pub literals : HasLiterals cs D
  pub marks : HasMarks ms D

-- its first literal is what an unfilled port has
abbrev pub IsBegun : PlanData → Type 0
IsBegun D = literal_in D 0 ≡ Unfilled

-- outputs that fill the ports of these nodes stand below so many cells
abbrev pub AreAllBelow : (cells : ℕ) → List PlanNode → Type 0
AreAllBelow cells [] = Unit {0}
AreAllBelow cells (n ∷ ns) = AreBelow cells n.ins × AreAllBelow cells ns

-- What stands at a number is the graph of this number, with the nodes at these places in their order: its nodes and what is collected for
-- them, its results, and the cells in which all outputs stand.
pub record IsGraphAt (D : PlanData) (u : Unit1) (os : (graph : ℕ) → List ℕ) (t : Tables) (g : ℕ) (x : Option PlanGraph) : Type 0 where
  pub nodes : AreMade D u (order_by u os) t g (order_by u os g) (nodes_of x) (collects_of x)
  pub results : AreFed D (plan_of u (order_by u os) t) (shares_of u (order_by u os)) g (results_of x) ((plan_of u (order_by u os) t).results g)
  pub modes : result_modes (plan_of u (order_by u os) t) (shares_of u (order_by u os)) g ≡ map mode_of (results_of x)
  pub refolded : refolded_of g x ≡ g
  pub cells : ℕ
  pub within : cells ≤ nodes_cells D (nodes_of x)
  pub below : AreAllBelow cells (nodes_of x)
  pub ends : AreBelow cells (results_of x)

-- the first graphs are those of their numbers
abbrev pub AreGraphsAt : PlanData → (u : Unit1) (os : (graph : ℕ) → List ℕ) → Tables → List PlanGraph → Type 0
AreGraphsAt D u os t xs = (g : ℕ) (x : PlanGraph) → slice_get xs g ≡ Some x → IsGraphAt D u os t g (Some x)

-- The tables of steps, cells and entries are right for the graphs, and what they count fits.
pub record AreTabled (functions : List ℕ) (D : PlanData) : Type 0 where
  pub sizes : (g : ℕ) → size_in D g ≡ nodes_steps D (graph_nodes D g)
  pub extents : (g : ℕ) → extent_in D g ≡ nodes_cells D (graph_nodes D g)
  pub entries : (f : ℕ) → IsIn f functions → table_of D.entries f ≡ entry_at D functions 0 f
  pub rooms : (f : ℕ) → table_of D.params f + extent_in D f ≤ 2 ^ 32 - 1
  pub marks : length D.marks ≤ 2 ^ 32 - 1
  pub steps : arms_steps D functions ≤ 2 ^ 32 - 1
