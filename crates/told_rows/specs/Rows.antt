-- What data tells of the nodes of a unit by their rows.
--
-- A node that does a returns on what is collected is told of as the node of its label in the unit.
use Rattle.std.specs.Prelude.{◌≡◌, ℕ, Bool, List, length, map}
use Rattle.if1_graph.specs.declared.graph.Unit1.{Unit1}
use Rattle.graph_meaning.specs.Carried.{Carried}
use Rattle.graph_meaning.specs.Demand.{Kind, Plain, Vertex, Whole}
use Rattle.graph_meaning.specs.Networks.{network}
use Rattle.graph_meaning.specs.StorageUnits.{storage_of}
use Rattle.code_weights.specs.Counted.{Counted}
use Rattle.code_weights.specs.Written.{Written}
use Rattle.row_counts.specs.Counts.{IsFiredSo, IsTold, counted_by_row, written_by_row}
use Rattle.code_weights.specs.PlanData.{PlanData}
use Rattle.code_weights.specs.PlanNode.{PlanNode}
use Rattle.code_weights.specs.Work.{Work}
use Rattle.code_weights.specs.Work.TheVariants as work
use Rattle.code_weights.specs.Parts.{graph_nodes, mode_of}
use Rattle.unit_plan.specs.Plans.{Tables, plan_of}
use Rattle.unit_plan.specs.Shares.{kind_there, weighing, writing_of}
use Rattle.code_weights.specs.Grows.{IsPair}
use Rattle.code_weights.specs.Weights.{AreCopiesTold, AreWritesTold}

module _ (D : PlanData) (u : Unit1) where
  -- what is told to be written goes by the row, and by whether the result is joined to others
  abbrev pub IsWrittenOf : (graph label : ℕ) → Written → Kind → Type 0
  IsWrittenOf g l writes (Plain row shape) = writes ≡ written_by_row row ((storage_of u).is_joined g l)
  IsWrittenOf g l writes (Whole form) = ⊥

  abbrev pub IsWrittenByRow : (graph : ℕ) → Vertex → Work → Type 0
  IsWrittenByRow g v (work.Plain row shape writes copies) = IsWrittenOf g v.label writes (kind_there (network u g) v)
  IsWrittenByRow g v _ = Unit {0}

  -- and what is told to be copied by the row and by what is told of the node's edges, by the marks of the data
  abbrev pub IsCountedOf : (graph label : ℕ) → PlanNode → Counted → Kind → Type 0
  IsCountedOf g l n copies (Plain row shape) =
      (told : Bool) × (first : ℕ) × (copies ≡ counted_by_row row told first) × IsTold (storage_of u) g l D.marks n.width told first row
  IsCountedOf g l n copies (Whole form) = ⊥

  abbrev pub IsCountedByRow : (graph : ℕ) → Vertex → PlanNode → Work → Type 0
  IsCountedByRow g v n (work.Plain row shape writes copies) = IsCountedOf g v.label n copies (kind_there (network u g) v)
  IsCountedByRow g v n _ = Unit {0}

  -- it is fired so where it gives as many outputs as it is wide, with its ports handled as the data says
  abbrev pub IsFiredOf : (graph label : ℕ) → PlanNode → Kind → Type 0
  IsFiredOf g l n (Plain row shape) = (ks rs : List Carried) → length rs ≡ n.width → IsFiredSo (storage_of u) g l (map mode_of n.ins) n.width ks rs row
  IsFiredOf g l n (Whole form) = Unit {0}

  abbrev pub IsFiredByRow : (graph : ℕ) → Vertex → PlanNode → Work → Type 0
  IsFiredByRow g v n (work.Plain row shape writes copies) = IsFiredOf g v.label n (kind_there (network u g) v)
  IsFiredByRow g v n _ = Unit {0}

-- so the data tells what the unit's plan weighs
abbrev pub AreUnitWritesTold : Type 0
AreUnitWritesTold = (D : PlanData) (u : Unit1) (order : (graph : ℕ) → List Vertex) (t : Tables)
    → ((g : ℕ) (n : PlanNode) (v : Vertex) → IsPair (graph_nodes D g) ((plan_of u order t).nodes g) n v → IsWrittenByRow D u g v n.work)
    → AreWritesTold D (plan_of u order t) (writing_of u)

-- and so it is with copies, where its nodes are fired so
abbrev pub AreUnitCopiesTold : Type 0
AreUnitCopiesTold = (D : PlanData) (u : Unit1) (order : (graph : ℕ) → List Vertex) (t : Tables)
    → ((g : ℕ) (n : PlanNode) (v : Vertex) → IsPair (graph_nodes D g) ((plan_of u order t).nodes g) n v → IsCountedByRow D u g v n n.work)
    → ((g : ℕ) (n : PlanNode) (v : Vertex) → IsPair (graph_nodes D g) ((plan_of u order t).nodes g) n v → IsFiredByRow D u g v n n.work)
    → AreCopiesTold D (plan_of u order t) (weighing u order t)
