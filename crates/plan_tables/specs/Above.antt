-- Plans in which the graphs inside a graph have greater numbers.
use Rattle.std.specs.Prelude.{ℕ, suc, ◌+◌, ◌<◌, eqb, if◌then◌else◌, List, [], ◌∷◌, slice_get}
use Rattle.plan_data.specs.declared.plan.PlanData.{PlanData}
use Rattle.plan_data.specs.declared.plan.PlanGraph.{PlanGraph}
use Rattle.plan_data.specs.declared.plan.PlanNode.{PlanNode}
use Rattle.plan_data.specs.declared.plan.Work.{Work}
use Rattle.plan_data.specs.declared.plan.Work.TheVariants as work
use Rattle.plan_data.specs.Parts.{nodes_of, refolded_of, size_in}

-- these graphs with a table of steps, or of cells
abbrev pub tabled : List PlanGraph → (sizes : List ℕ) → PlanData
tabled graphs sizes = record { graphs = graphs; sizes = sizes; extents = []; entries = []; params = []; literals = []; marks = [] }

abbrev pub roomed : List PlanGraph → (extents : List ℕ) → PlanData
roomed graphs extents = record { graphs = graphs; sizes = []; extents = extents; entries = []; params = []; literals = []; marks = [] }

-- where a function begins, where the first of these begins at a place, with one more step behind each
abbrev pub entry_at : PlanData → List ℕ → (place function : ℕ) → ℕ
entry_at D [] a f = a
entry_at D (h ∷ hs) a f = if eqb h f then a else entry_at D hs (a + suc (size_in D h)) f

abbrev pub AllAbove : ℕ → List ℕ → Type 0
AllAbove k [] = Unit {0}
AllAbove k (g ∷ gs) = (k < g) × AllAbove k gs

module _ (graphs : List PlanGraph) where
  abbrev pub IsPartAbove : ℕ → Work → Type 0
  IsPartAbove k (work.Plain row shape writes copies) = Unit {0}
  IsPartAbove k (work.Call f) = Unit {0}
  IsPartAbove k (work.Select s gs) = (k < s) × AllAbove k gs
  IsPartAbove k (work.TagCase gs) = AllAbove k gs
  IsPartAbove k (work.LoopA p) = (k < p.init) × (k < p.test) × (k < p.body) × (k < refolded_of p.returns (slice_get graphs p.returns))
  IsPartAbove k (work.LoopB p) = (k < p.init) × (k < p.test) × (k < p.body) × (k < refolded_of p.returns (slice_get graphs p.returns))
  IsPartAbove k (work.ForAll g b r m) = (k < g) × (k < b) × (k < refolded_of r (slice_get graphs r))

  abbrev pub AreAbove : ℕ → List PlanNode → Type 0
  AreAbove k [] = Unit {0}
  AreAbove k (n ∷ ns) = IsPartAbove k n.work × AreAbove k ns

  -- and those that do returns on what was collected
  abbrev pub ArePartsAbove : Type 0
  ArePartsAbove = (g : ℕ) → AreAbove g (nodes_of (slice_get graphs g))
