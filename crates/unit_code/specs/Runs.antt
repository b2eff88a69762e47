-- What a run of a function of a unit gives.
use Rattle.std.specs.Prelude.{◌≡◌, ℕ, ◌<◌, ◌≤◌, List, length, map, Some}
use Rattle.flow_value.specs.declared.ty.Ty.{Ty}
use Rattle.flow_value.specs.declared.value.Val.{Val}
use Rattle.if1_graph.specs.declared.graph.Unit1.{Unit1}
use Rattle.if1_valid.specs.Params.{params_of}
use Rattle.graph_meaning.specs.Carried.{Carried, val_of}
use Rattle.run_store.specs.Whole.{IsOfUnit}
use Rattle.graph_meaning.specs.Networks.{network}
use Rattle.graph_meaning.specs.Plain.{Costs}
use Rattle.graph_meaning.specs.Storage.{capped}
use Rattle.graph_meaning.specs.StorageUnits.{UnitWrites}
use Rattle.unit_whole.specs.Agrees.{owned_all}
use Rattle.unit_whole.specs.RunFault.{RunFault}
use Rattle.unit_whole.specs.RunFault.TheVariants as fault
use Rattle.unit_whole.specs.Totalled.{Totalled}
use Rattle.unit_code.specs.declared.runs.Totals.{Totals}

-- what a run has left in cells, as values
pub record AreLeft (run : Totalled) (t : Totals) : Type 0 where
  pub results : t.results ≡ map val_of (owned_all run.results.items)
  pub fires : t.fires ≡ run.fires
  pub copies : t.copies ≡ run.copies
  pub writes : t.writes ≡ run.writes

module _ (u : Unit1) (function : ℕ) where
  -- they are as many as the function of this number has
  abbrev pub AreArguments : List Val → Type 0
  AreArguments args = (types : List Ty) × (params_of u function ≡ Some types) × (length args ≡ length types)

  -- on these inputs the function has these results and this cost, within the limit, and copies and writes so much, by the definition of record
  pub record AreTotalsOf (limit : ℕ) (ins : List Carried) (t : Totals) : Type 0 where
    pub results : List Carried
    pub copied : ℕ
    pub of_record : IsOfUnit u function ins results t.fires copied
    pub values : t.results ≡ map val_of results
    pub copies : t.copies ≡ capped copied
    pub within : t.fires ≤ limit
    pub writes : UnitWrites u function ins t.writes

  -- where the limit is told, every cost is above it
  abbrev pub IsFaultOf : (limit : ℕ) → List Carried → RunFault → Type 0
  IsFaultOf limit ins fault.TurnLimit = (d c : ℕ) → Costs (network u) d function ins c → limit < c
  IsFaultOf limit ins fault.NoMemory = Unit {0}
