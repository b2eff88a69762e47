-- Tables of the data are those of the plans that stand in it.
use Rattle.std.specs.Prelude.{◌≡◌, ℕ, List}
use Rattle.graph_meaning.specs.Entered.{IsIn}
use Rattle.run_code.specs.Made.{IsSized, Plan, entry_from, nodes_size}
use Rattle.made_store.specs.Settings.{Shares}
use Rattle.made_store.specs.UnitWeights.{ArePicksForParts}
use Rattle.plan_data.specs.declared.plan.PlanData.{PlanData}
use Rattle.plan_data.specs.Parts.{IsFormed, extent_in, graph_nodes, nodes_cells, table_of}
use Rattle.plan_data.specs.Stands.{Stands}
use Rattle.plan_tables.specs.Above.{entry_at}

abbrev pub AreTablesOfPlans : Type 0
AreTablesOfPlans = (D : PlanData) (P : Plan) (S : Shares) (functions : List ℕ) → IsFormed D → Stands D P S
    → ((f : ℕ) → IsIn f functions → table_of D.entries f ≡ entry_at D functions 0 f)
    → ((g : ℕ) → P.size g ≡ nodes_size P (P.nodes g)) × ((f : ℕ) → IsIn f functions → P.entry f ≡ entry_from P functions 0 f)

-- so are those of cells, where a plan copies for the parts of compound nodes alone
abbrev pub AreSizedByTables : Type 0
AreSizedByTables = (D : PlanData) (P : Plan) (S : Shares) → IsFormed D → Stands D P S → ArePicksForParts P
    → ((g : ℕ) → extent_in D g ≡ nodes_cells D (graph_nodes D g))
    → (g : ℕ) → IsSized P g
