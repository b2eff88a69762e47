-- What the code of a unit is.
use Rattle.std.specs.Prelude.{◌≡◌, ℕ, List}
use Rattle.if1_graph.specs.declared.graph.Unit1.{Unit1}
use Rattle.graph_meaning.specs.Demand.{Vertex}
use Rattle.graph_meaning.specs.Entered.{IsIn}
use Rattle.graph_meaning.specs.Networks.{network}
use Rattle.ordered_meaning.specs.Orders.{AreInOrder}
use Rattle.unit_whole.specs.Plans.{AreTables, Tables, functions_of}
use Rattle.unit_whole.specs.Parts.{table_of}
use Rattle.unit_whole.specs.Totals.{CanEnter}
use Rattle.unit_counts.specs.Runs.{CountsCopies, IsUnitCode}
use Rattle.unit_counts.specs.Writes.{CountsWrites}
use Rattle.unit_code.specs.declared.code.UnitCode.{UnitCode}

-- For an order of the nodes of each graph along its edges and ordering lists, and for right tables, the code is made of the unit's plan,
-- and the steps of simple nodes count the copies that the plan counts, and write as much. Each function begins where its table says.
pub record IsMadeOf (u : Unit1) (c : UnitCode) : Type 0 where
  pub order : (graph : ℕ) → List Vertex
  pub tables : Tables
  pub in_order : AreInOrder (network u) order
  pub sized : AreTables u order tables
  pub made : IsUnitCode u order tables c.code
  pub counts : CountsCopies u order tables c.code
  pub writes : CountsWrites u order tables c.code
  pub entries : (f : ℕ) → tables.entry f ≡ table_of c.entries f

-- and each function can be entered in a block with as many cells as the other table says
pub record IsCodeOfUnit (u : Unit1) (c : UnitCode) : Type 0 where
  pub code : IsMadeOf u c
  pub enters : (f : ℕ) → IsIn f (functions_of u) → CanEnter c.code (table_of c.entries f) (table_of c.rooms f)
